use Rattle.std.proofs.Common.{◌≡◌}
use Rattle.model.proofs.Reach.{rounds}
use Rattle.graph.proofs.closure.Given as goal

abbrev pub invariant-loop-k : goal.invariant-loop-k
invariant-loop-k l = l.out ≡ rounds l.initial.out l.k
