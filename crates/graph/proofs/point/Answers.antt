use Rattle.std.proofs.Common.{sym, ◌∙◌}
use Rattle.graph.specs.Bodies.{pointed}
use Rattle.graph.proofs.point.Goals as goal

pub returns-then-has : goal.returns-then-has
unfolding pointed
returns-then-has c = simp (c.with.ensures, sym c.has.ensures ∙ c.if-has.true)

pub returns-else-has : goal.returns-else-has
unfolding pointed
returns-else-has c = simp (sym c.has.ensures ∙ c.if-has.false)
