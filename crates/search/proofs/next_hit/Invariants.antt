use Rattle.search.specs.Constraints.{is_open, con_at}
use Rattle.search.specs.Steps.{shut}
use lib.Dec.{T}
use mathlib.Core.Bool.{not}
use Prim.Native.Nat.{ℕ, ◌≤◌, ◌<◌, ◌-◌}
use Rattle.search.proofs.next_hit.Given as goal

abbrev pub invariant-loop-i : goal.invariant-loop-i
invariant-loop-i l = (l.from ≤ l.i) × (l.i ≤ 4096) × ((j : ℕ) → l.from ≤ j → j < l.stop → j < l.i → T (is_open l.left j) → T (not (shut l.rows (con_at l.words j))))

abbrev pub decreases-loop-i : goal.decreases-loop-i
decreases-loop-i l = 4096 - l.i
