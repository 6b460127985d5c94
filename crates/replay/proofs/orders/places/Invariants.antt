use Rattle.replay.proofs.Placing.{Upto}
use lib.ListN.{length}
use mathlib.Core.Path.{◌≡◌}
use Rattle.replay.proofs.orders.places.Given as goal

abbrev pub invariant-loop-i : goal.invariant-loop-i
invariant-loop-i l = Upto l.order l.out l.i × (length l.out ≡ 32)
