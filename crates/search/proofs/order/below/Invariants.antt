use Rattle.search.specs.Orders.{Under}
use Rattle.search.proofs.order.below.Given as goal

abbrev pub invariant-loop-u : goal.invariant-loop-u
invariant-loop-u l = Under l.fn.rows l.set l.u l.out
