-- The case with what Decide found, and the answer. Assumes nothing.
use Rattle.std.specs.Prelude.{ℕ, List, replicate, Option, None, Some, Ok}
use Rattle.answers.specs.declared.Stage.TheVariants.{Ordered, NoOrder}
use Rattle.answers.specs.declared.Verdict.TheVariants.{Order, NoOrder as NoOrderSaid}
use Rattle.checker.specs.declared.Case.{Case}
use Rattle.checker.specs.declared.Decision.{Decision}
use Rattle.checker.specs.Cases.{answered_case}

-- the case with an order of 32 numbers, or without one
abbrev pub storing : Case → Option (List ℕ) → Case
storing c None = answered_case c NoOrder (replicate 32 0)
storing c (Some o) = answered_case c Ordered o

-- the answer beside a case
abbrev pub answering : Case → Option (List ℕ) → ℕ → Decision
answering c None left = record { case = c; verdict = Ok NoOrderSaid; order = replicate 32 0; left = left }
answering c (Some o) left = record { case = c; verdict = Ok Order; order = o; left = left }
