use Rattle.graph.proofs.WordLaws.{Filled}
use Rattle.codes.specs.Images.{word_at}
use Prim.Native.Nat.{◌*◌}
use Rattle.images.proofs.seconds.Given as goal

abbrev pub invariant-loop-i : goal.invariant-loop-i
invariant-loop-i l = Filled 32 (λ j. word_at l.bytes (4 * j)) l.i l.out
