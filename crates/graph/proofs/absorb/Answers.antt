use Rattle.std.proofs.Common.{sym, ◌∙◌}
use Rattle.graph.specs.Bodies.{absorbed}
use Rattle.graph.proofs.absorb.Goals as goal

pub returns-then-has : goal.returns-then-has
unfolding absorbed
returns-then-has c = simp (sym c.has.ensures ∙ c.if-has.true)

pub returns-else-has : goal.returns-else-has
unfolding absorbed
returns-else-has c = simp (sym c.has.ensures ∙ c.if-has.false)
