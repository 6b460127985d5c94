use Rattle.search.proofs.Opens.{Pruning}
use Rattle.search.specs.Constraints.{open_count}
use Prim.Native.Nat.{◌+◌, ◌*◌, ◌-◌}
use Rattle.search.proofs.prune.Given as goal

abbrev pub invariant-loop-stop : goal.invariant-loop-stop
invariant-loop-stop l = Pruning l.words l.n l.initial.rows l.initial.left l.rows l.left l.i l.stop l.again

abbrev pub decreases-loop-stop : goal.decreases-loop-stop
decreases-loop-stop l = open_count l.left l.n * 20000 + (l.stop - l.i) + 2 * l.again
