-- A list of constraints as words, four a constraint, in the first places of a list of words. Assumes nothing.
--     packed n ys out      out with the first n constraints of ys
use Rattle.std.specs.Prelude.{ℕ, zero, suc, List, get_or}
use Rattle.model.specs.declared.Constraint.{Constraint}
use Rattle.model.specs.Lent.{no_constraint}
use Rattle.search.specs.Constraints.{with_words}

unfoldable pub packed : ℕ → List Constraint → List ℕ → List ℕ
packed zero ys out = out
packed (suc n) ys out = with_words (packed n ys out) n (get_or ys n no_constraint)
