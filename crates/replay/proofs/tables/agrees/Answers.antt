use Rattle.replay.specs.Steps.{agrees_by}
use Rattle.std.proofs.Common.{eqb, ap}
use borrow.Author.Tests.{eq-eqb, ne_eqb}
use Rattle.replay.proofs.tables.agrees.Goals as goal

pub returns-then-o-ne0 : goal.returns-then-o-ne0
unfolding agrees_by
returns-then-o-ne0 c = simp (ne_eqb _ _ c.if-o-ne0.true)

pub returns-else-o-ne0 : goal.returns-else-o-ne0
unfolding agrees_by
returns-else-o-ne0 c = simp (eq-eqb _ _ c.if-o-ne0.false) (ap (λ x. eqb x c.args.o.argument) c.from.ensures)
