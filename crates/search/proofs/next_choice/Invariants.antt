use Rattle.search.specs.Constraints.{is_open, con_at}
use Rattle.model.specs.RowWords.{held}
use lib.Dec.{T}
use Prim.Native.Nat.{ℕ, ◌≤◌, ◌<◌, ◌-◌}
use Rattle.search.proofs.next_choice.Given as goal

abbrev pub invariant-loop-n : goal.invariant-loop-n
invariant-loop-n l = (l.i ≤ l.n) × ((k : ℕ) → k < l.i → T (is_open l.left k) → T (held l.rows (con_at l.words k)))

abbrev pub decreases-loop-n : goal.decreases-loop-n
decreases-loop-n l = l.n - l.i
