use Rattle.model.specs.Log.{start_at}
use Rattle.logs.proofs.Numbers.{Sofar}
use Rattle.logs.proofs.bodies.of_transaction.Given as goal

abbrev pub invariant-loop-m : goal.invariant-loop-m
invariant-loop-m l = Sofar l.log l.t (start_at l.log l.t) l.m l.seen
