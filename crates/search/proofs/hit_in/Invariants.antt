use Rattle.graph.proofs.MemberLaws.{Looped}
use Rattle.search.specs.Steps.{shut}
use Rattle.search.specs.Constraints.{con_at}
use Prim.Native.Nat.{ℕ, ◌+◌}
use mathlib.Core.Bool.{not}
use lib.Dec.{T}
use Rattle.search.proofs.hit_in.Given as goal

abbrev pub invariant-loop-b : goal.invariant-loop-b
invariant-loop-b l = Looped (λ (b : ℕ). T (not (shut l.rows (con_at l.words (l.base + b))))) l.set l.b-iterator.left
