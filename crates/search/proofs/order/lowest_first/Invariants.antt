use Rattle.search.proofs.Lowest.{Lowest}
use Rattle.search.proofs.order.lowest_first.Given as goal

abbrev pub invariant-loop-i : goal.invariant-loop-i
invariant-loop-i l = Lowest l.t l.rows l.i l.set l.out
