use Prim.Native.Nat.{◌≤◌, ◌-◌}
use Rattle.search.specs.Orders.{Lighter}
use Rattle.search.proofs.order.lighter.Given as goal

abbrev pub invariant-loop-n : goal.invariant-loop-n
invariant-loop-n l = (l.i ≤ l.n) × Lighter l.words l.initial.left l.left

abbrev pub decreases-loop-n : goal.decreases-loop-n
decreases-loop-n l = l.n - l.i
