use Rattle.search.specs.Constraints.{is_open}
use lib.Dec.{T}
use Prim.Native.Nat.{ℕ, ◌≤◌, ◌<◌, ◌-◌}
use Rattle.search.proofs.next_open.Given as goal

abbrev pub invariant-loop-i : goal.invariant-loop-i
invariant-loop-i l = (l.from ≤ l.i) × (l.i ≤ 4096) × ((j : ℕ) → l.from ≤ j → j < l.i → T (is_open l.left j) → ⊥)

abbrev pub decreases-loop-i : goal.decreases-loop-i
decreases-loop-i l = 4096 - l.i
