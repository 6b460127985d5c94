use Rattle.graph.specs.Leaving.{LeavesBelow}
use Rattle.graph.proofs.top.Given as goal

abbrev pub invariant-loop-u : goal.invariant-loop-u
invariant-loop-u l = LeavesBelow l.rows l.u
