use Rattle.search.proofs.Opens.{Opening}
use Prim.Native.Nat.{◌+◌, ◌/◌, ◌≤◌}
use mathlib.Core.Path.{◌≡◌}
use Rattle.search.proofs.order.all_open.Given as goal

abbrev pub invariant-loop-w : goal.invariant-loop-w
invariant-loop-w l = (l.w-end ≡ (l.n + 31) / 32) × Opening l.n l.w l.out × (l.w ≤ l.w-end)
