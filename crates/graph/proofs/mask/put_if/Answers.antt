use Rattle.graph.specs.Masks.{put_if}
use Rattle.graph.proofs.mask.put_if.Goals as goal

pub returns-then-put : goal.returns-then-put
unfolding put_if
returns-then-put c = simp c.if-put.true c.with.ensures

pub returns-else-put : goal.returns-else-put
unfolding put_if
returns-else-put c = simp c.if-put.false
