use Rattle.model.specs.Lists.{word_of}
use Prim.Native.Nat.{ℕ}
use lib.Dec.{ltb}
use lib.ListN.{get_or}
use mathlib.Core.Path.{◌≡◌}
use Rattle.polygraph.proofs.clock.after.Given as goal

abbrev pub invariant-loop-v : goal.invariant-loop-v
invariant-loop-v l = l.mask ≡ word_of l.v (λ (i : ℕ). ltb l.moment (get_or l.begin i 0))
