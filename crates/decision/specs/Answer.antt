-- What the decision is asked, and what it answers: the first legal order, or that there is none. Assumes nothing.
use Rattle.std.specs.Prelude.{◌≡◌, Bool, true, false, List, ℕ, ◌<◌}
use Rattle.std.proofs.Math.Option.{none, some}
use Rattle.std.proofs.Math.Option as model
use Rattle.std.specs.Prelude.{Option, None, Some}
use Rattle.model.specs.History.{History}
use Rattle.model.specs.Polygraph.{reach, polygraph}
use Rattle.model.specs.Search.{first_legal}
use Rattle.model.specs.Times.{Times, timed_history}
use Rattle.listing.specs.Candidates.{items_by}
use Rattle.model.specs.Lent.{order_numbers}

-- in one of the six settings the first n numbers are the constraints of a history's polygraph, and the row words are closed ones of its known edges
pub record SettledIn (h : History) (t ks : List ℕ) (n : ℕ) (closed : List ℕ) : Type 0 where
  pub encoding : ℕ
  pub pruning : ℕ
  pub low : encoding < 3
  pub once : pruning < 2
  pub items_are : items_by t ks n ≡ (polygraph h encoding pruning).choices
  pub rows_are : closed ≡ reach (polygraph h encoding pruning).known

-- whether there is an order
unfoldable pub is_some : model.Option (List ℕ) → Bool
is_some none = false
is_some (some o) = true

-- an order, if there is one, as 32 numbers
unfoldable pub answer_of : model.Option (List ℕ) → Option (List ℕ)
answer_of none = None
answer_of (some o) = Some (order_numbers (some o))

-- the first legal order of a history, if there is one: its numbers, 0 from place T on
unfoldable pub first_answer : History → Option (List ℕ)
first_answer h = answer_of (first_legal h)

-- so for a log with some times beside it
abbrev pub Settled : List ℕ → List ℕ → List ℕ → ℕ → List ℕ → Type 0
Settled b t ks n closed = (ts : Times) × SettledIn (timed_history b ts) t ks n closed

-- r is the first legal order of the log, with whatever times these constraints and words are those of
abbrev pub First : List ℕ → List ℕ → List ℕ → ℕ → List ℕ → Option (List ℕ) → Type 0
First b t ks n closed r = (ts : Times) → SettledIn (timed_history b ts) t ks n closed → r ≡ first_answer (timed_history b ts)
