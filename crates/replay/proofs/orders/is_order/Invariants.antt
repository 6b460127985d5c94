use Rattle.replay.proofs.Ordering.{Upto}
use Rattle.replay.proofs.orders.is_order.Given as goal

abbrev pub invariant-loop-x : goal.invariant-loop-x
invariant-loop-x l = Upto l.n l.list l.x-index l.mask
