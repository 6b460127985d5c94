use Rattle.graph.proofs.WordLaws.{Filled}
use Rattle.model.specs.Log.{pair_at}
use Prim.Native.Nat.{◌*◌}
use Rattle.images.proofs.values.Given as goal

abbrev pub invariant-loop-i : goal.invariant-loop-i
invariant-loop-i l = Filled 32 (λ j. pair_at l.bytes (2 * j)) l.i l.out
