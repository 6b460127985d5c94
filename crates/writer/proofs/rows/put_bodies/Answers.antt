use Rattle.std.proofs.Common.{ap, sym, ◌∙◌}
use Rattle.writer.specs.Rows.{over}
use Rattle.writer.proofs.Laying.{over_none, bodies_none, body_laid}
use Rattle.writer.proofs.rows.put_bodies.Goals as goal

pub loop-i-init : goal.loop-i-init
loop-i-init c = sym (ap (over _ 0) (bodies_none _ _ _) ∙ over_none _ 0)

pub loop-i-preserved : goal.loop-i-preserved
loop-i-preserved c =
    let n = c.args.notes.now in
    body_laid _ _ _ n.kinds n.keys n.arguments c.loop-i.i c.loop-i.invariant c.put_row.ensures
