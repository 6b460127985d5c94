use Rattle.codes.specs.Images.{filled, bill_in}
use mathlib.Core.Path.{◌≡◌}
use Rattle.images.proofs.put_bills.Given as goal

abbrev pub invariant-loop-i : goal.invariant-loop-i
invariant-loop-i l = l.out ≡ filled (bill_in l.fn.bills) l.i l.initial.out
