use Rattle.codes.proofs.Filling.{filled_none, filled_next}
use Rattle.codes.specs.Images.{bill_in}
use mathlib.Core.Path.{ap, ◌∙◌}
use Rattle.images.proofs.put_bills.Goals as goal

pub loop-i-init : goal.loop-i-init
loop-i-init c = filled_none _ _

pub loop-i-preserved : goal.loop-i-preserved
loop-i-preserved c =
    let l = c.loop-i in
    c.put_bill.ensures ∙ ap (bill_in c.args.bills l.i) l.invariant ∙ filled_next (bill_in c.args.bills) l.i c.args.out.now
