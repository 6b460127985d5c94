use Rattle.search.proofs.Leads.{under_none, under_next}
use Rattle.search.proofs.order.below.Goals as goal

pub loop-u-init : goal.loop-u-init
loop-u-init c = under_none _ _

pub loop-u-preserved : goal.loop-u-preserved
loop-u-preserved c =
    let l = c.loop-u in under_next c.args.rows _ l.u l.out _ l.invariant c.gather-out.ensures
