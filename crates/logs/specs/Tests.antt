-- The tests of entries as the code makes them, from the sum so far, and what the loops over bodies rely on and give; the tests of a body are in `rules`. Laws in
-- proofs/ say that both are the model's. Assumes nothing.
use Rattle.std.specs.Prelude.{ℕ, zero, suc, ◌+◌, ◌*◌, ◌≤◌, ◌<◌, ◌≡◌, length, get_or, cond, List, eqb, ltb}
use Rattle.rules.specs.Tests.{keep_word}
use Rattle.model.specs.Log.{transactions_in, operations_in, count_at, start_at, counts_before, first_number, entry_number, bodies_number}
use Rattle.logs.specs.declared.view.Entry.{Entry}

-- an entry, where the counts before it sum to `sum`
unfoldable pub entry_by : Entry → ℕ → ℕ
entry_by e sum = cond (ltb 15 e.cabinet) 4 (cond (eqb e.start sum) 0 5)

-- what the bodies' test relies on: the entries are good, and the log has as many bodies as they count
pub record GoodEntries (b : List ℕ) (n : ℕ) : Type 0 where
  pub few : n ≤ 32
  pub many : operations_in b ≤ 256
  pub count : n ≡ transactions_in b
  pub long : length b ≡ 4 + 4 * n + 4 * operations_in b
  pub entries : first_number (entry_number b) n ≡ 0
  pub sum : counts_before b n ≡ operations_in b

-- each transaction that has only bodies of the first r is good
abbrev pub GoodTo : List ℕ → ℕ → ℕ → Type 0
GoodTo b n r = (t : ℕ) → t < n → start_at b t + count_at b t ≤ r → bodies_number b t ≡ 0

-- how many of the first n transactions start at body i
unfoldable pub starts_at : List ℕ → ℕ → ℕ → ℕ
starts_at b zero i = 0
starts_at b (suc t) i = starts_at b t i + cond (eqb (start_at b t) i) 1 0

-- where none starts, for all bodies, as a table of words; it has one place more: an empty transaction may start behind the last body
pub record Begun (b : List ℕ) (n : ℕ) (w : List ℕ) : Type 0 where
  pub size : length w ≡ 257
  pub each : (i : ℕ) → i < 257 → get_or w i 0 ≡ keep_word (eqb (starts_at b n i) 0)
