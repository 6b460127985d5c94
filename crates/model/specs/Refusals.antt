-- What is wrong with a log that Load refuses with 3, 35, 10 or 34, and where the first body stands that is refused; and with times that it refuses with 37 or
-- 38. `proofs/Demands` has the theorems: each of these numbers is given exactly there. Assumes nothing.
use Rattle.std.specs.Prelude.{ℕ, ◌+◌, ◌≤◌, ◌<◌, ◌≡◌, ◌⊎◌, ◌≢◌, List, length, get_or}
use Rattle.model.specs.History.{start}
use Rattle.model.specs.Log.{transactions_in, operations_in, cabinet_at, count_at, start_at, kind_at, key_at, argument_at, back_at, body_number, length_said, load_number, LaidOut}
use Rattle.model.specs.Times.{Times}

-- ---- the length

-- neither 1 nor 2: the counts are there, and none is too high
pub record Counted (b : List ℕ) : Type 0 where
  pub header : 4 ≤ length b
  pub few : transactions_in b ≤ 32
  pub many : operations_in b ≤ 256

-- 3: shorter than the counts, T and N, say
abbrev pub Shorter : List ℕ → Type 0
Shorter b = Counted b × (length b < length_said b)

-- 35: longer
abbrev pub Longer : List ℕ → Type 0
Longer b = Counted b × (length_said b < length b)

-- ---- a body

-- body m of transaction t is the first that is refused: it has a number, all bodies before it have 0, and header, length, entries and sum are good
pub record FirstRefused (b : List ℕ) (t m : ℕ) : Type 0 where
  pub counted : Counted b
  pub laid : LaidOut b
  pub cabinets : (s : ℕ) → s < transactions_in b → cabinet_at b s ≤ 15
  pub transaction : t < transactions_in b
  pub body : m < count_at b t
  pub earlier : (s : ℕ) → s < t → (l : ℕ) → l < count_at b s → body_number b s (start_at b s) l ≡ 0
  pub before : (l : ℕ) → l < m → body_number b t (start_at b t) l ≡ 0
  pub refused : body_number b t (start_at b t) m ≢ 0

-- 10: body m of the transaction whose first body is given reads a key that an earlier one has read on the same side of the write: both are read-backs, or
-- neither is, which is so too where the key isn't written there. It names a transaction of the log or the start: else it has 9.
pub record SecondRead (b : List ℕ) (first m : ℕ) : Type 0 where
  pub reads : kind_at b (first + m) ≡ 0
  pub key : key_at b (first + m) ≤ 31
  pub names : (argument_at b (first + m) < transactions_in b) ⊎ (argument_at b (first + m) ≡ start)
  pub one : ℕ
  pub earlier : one < m
  pub reads_too : kind_at b (first + one) ≡ 0
  pub same_key : key_at b (first + one) ≡ key_at b (first + m)
  pub same_side : back_at b first one ≡ back_at b first m

-- 34: body m writes a key that an earlier one has written, whatever stands between
pub record SecondWrite (b : List ℕ) (first m : ℕ) : Type 0 where
  pub writes : kind_at b (first + m) ≡ 1
  pub key : key_at b (first + m) ≤ 31
  pub one : ℕ
  pub earlier : one < m
  pub writes_too : kind_at b (first + one) ≡ 1
  pub same_key : key_at b (first + one) ≡ key_at b (first + m)

-- ---- times, beside a log that is taken

-- two lists that are both empty, or both of n entries
abbrev pub Matching : ℕ → Times → Type 0
Matching n ts = ((length ts.begins ≡ 0) × (length ts.ends ≡ 0)) ⊎ ((length ts.begins ≡ n) × (length ts.ends ≡ n))

-- times that are taken beside a log of n transactions
pub record GoodTimes (n : ℕ) (ts : Times) : Type 0 where
  pub lengths : Matching n ts
  pub ordered : (t : ℕ) → t < length ts.begins → get_or ts.begins t 0 ≤ get_or ts.ends t 0
  pub short : ts.drift ≤ 3600

-- 37: they are neither
pub record Mismatched (b : List ℕ) (ts : Times) : Type 0 where
  pub taken : load_number b ≡ 0
  pub neither : Matching (transactions_in b) ts → ⊥

-- some transaction that has times begins after its end
abbrev pub Backward : Times → Type 0
Backward ts = (t : ℕ) × (t < length ts.begins) × (get_or ts.ends t 0 < get_or ts.begins t 0)

-- 38: such a one, or a drift over 3,600
pub record Untimely (b : List ℕ) (ts : Times) : Type 0 where
  pub taken : load_number b ≡ 0
  pub lists : Matching (transactions_in b) ts
  pub why : Backward ts ⊎ (3600 < ts.drift)
