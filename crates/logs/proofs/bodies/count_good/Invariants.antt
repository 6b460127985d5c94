use Rattle.logs.proofs.Flat.{Flat}
use Rattle.logs.proofs.bodies.count_good.Given as goal

abbrev pub invariant-loop-i : goal.invariant-loop-i
invariant-loop-i l = Flat l.log l.n l.i l.i l.reads l.writes
