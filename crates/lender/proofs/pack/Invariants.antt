-- The words once i constraints are packed.
use Rattle.std.proofs.Common.{◌≡◌}
use Rattle.lender.specs.Packing.{packed}
use Rattle.lender.proofs.pack.Given as goal

abbrev pub invariant-loop-i : goal.invariant-loop-i
invariant-loop-i l = l.out ≡ packed l.i l.fn.list l.initial.out
