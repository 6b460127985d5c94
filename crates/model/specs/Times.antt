-- The times of a window, card 7: a begin and an end for each transaction, in seconds on an office clock that knows no summer time, and a drift; the history
-- that has them, and Load's number of them. Assumes nothing.
use Rattle.std.specs.Prelude.{ℕ, ◌+◌, ◌≡◌, Bool, cond, ◌&&◌, ◌||◌, List, [], ◌∷◌, map, eqb, ltb, leb, length, get_or, drop}
use Rattle.model.specs.Lists.{implies, all, up_to}
use Rattle.model.specs.History.{Transaction, History, before}
use Rattle.model.specs.Log.{transactions_in, load_number, or_else, history_of}

-- Two empty lists mean a window without times.
pub record Times : Type 0 where
  pub begins : List ℕ
  pub ends : List ℕ
  pub drift : ℕ

abbrev pub times : List ℕ → List ℕ → ℕ → Times
times begins ends drift = record { begins = begins; ends = ends; drift = drift }

-- what Judge loads
abbrev pub no_times : Times
no_times = times [] [] 0

-- the ends with the drift added
unfoldable pub untils : Times → List ℕ
untils ts = map (λ end. end + ts.drift) ts.ends

-- by these lists u, with the drift added to its end, ended before v began; where a list has no entry, 0 stands, with no drift added
unfoldable pub ended_before : Times → ℕ → ℕ → Bool
ended_before ts u v = ltb (get_or (untils ts) u 0) (get_or ts.begins v 0)

-- an order of n numbers has u before v wherever they say so
abbrev pub keeps_clock : Times → ℕ → List ℕ → Bool
keeps_clock ts n o = all (λ u. all (λ v. implies (ended_before ts u v) (before o u v)) (up_to n)) (up_to n)

-- ---- a history with times

-- these begins and these ends with the drift added, transaction by transaction; 0 where a list has none
unfoldable pub with_times : List ℕ → List ℕ → History → History
with_times begins untils [] = []
with_times begins untils (x ∷ h) =
    record { cabinet = x.cabinet; operations = x.operations; begin = get_or begins 0 0; until = get_or untils 0 0 } ∷ with_times (drop 1 begins) (drop 1 untils) h

-- the same history with these times
unfoldable pub timed : Times → History → History
timed ts h = with_times ts.begins (untils ts) h

-- a transaction without times
abbrev pub Bare : Transaction → Type 0
Bare x = (x.begin ≡ 0) × (x.until ≡ 0)

-- the same history without any
abbrev pub without_times : History → History
without_times h = timed no_times h

-- the history of a log with times beside it
abbrev pub timed_history : List ℕ → Times → History
timed_history b ts = timed ts (history_of b)

-- ---- the number that Load gives

-- both lists have n entries
abbrev pub both_of : ℕ → Times → Bool
both_of n ts = eqb (length ts.begins) n && eqb (length ts.ends) n

-- no begin is after its end
abbrev pub in_turn : Times → Bool
in_turn ts = all (λ t. leb (get_or ts.begins t 0) (get_or ts.ends t 0)) (up_to (length ts.begins))

-- of n transactions: 37 lists that are neither both empty nor both of n entries; then 38 a begin after its end, or a drift over 3,600
unfoldable pub times_number : ℕ → Times → ℕ
times_number n ts = cond (both_of 0 ts || both_of n ts) (cond (in_turn ts && leb ts.drift 3600) 0 38) 37

-- of a log with times beside it: what `load_number` tests, then these
unfoldable pub timed_number : List ℕ → Times → ℕ
timed_number b ts = or_else (load_number b) (times_number (transactions_in b) ts)
