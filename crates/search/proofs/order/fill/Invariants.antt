use Rattle.search.proofs.Fills.{Filling}
use Rattle.search.proofs.order.fill.Given as goal

abbrev pub invariant-loop-k : goal.invariant-loop-k
invariant-loop-k l = Filling l.t l.words l.n l.initial.c l.k l.c l.l l.s l.set l.out
