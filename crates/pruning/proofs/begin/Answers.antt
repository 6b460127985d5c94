use borrow.Author.Tests.{eq-eqb, ne_eqb}
use Rattle.pruning.specs.Passes.{first_place}
use Rattle.pruning.proofs.begin.Goals as goal

pub returns-then-pruning-eq1 : goal.returns-then-pruning-eq1
unfolding first_place
returns-then-pruning-eq1 c = simp (eq-eqb _ _ c.if-pruning-eq1.true)

pub returns-else-pruning-eq1 : goal.returns-else-pruning-eq1
unfolding first_place
returns-else-pruning-eq1 c = simp (ne_eqb _ _ c.if-pruning-eq1.false)
