use Rattle.logs.specs.Tests.{Begun}
use Rattle.logs.proofs.bodies.begins.Given as goal

abbrev pub invariant-loop-t : goal.invariant-loop-t
invariant-loop-t l = Begun l.log l.t l.out
