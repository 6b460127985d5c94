-- Constraints as words, four a constraint. Assumes nothing.
use Rattle.std.specs.Prelude.{ℕ, ◌≡◌, List, length}
use Rattle.model.specs.declared.Constraint.{Constraint}
use Rattle.search.specs.Constraints.{list_of}

-- m words begin with the constraints of the list, n of them
pub record WordsOf (cs : List Constraint) (n m : ℕ) (w : List ℕ) : Type 0 where
  pub count : n ≡ length cs
  pub long : length w ≡ m
  pub list : list_of w n ≡ cs
