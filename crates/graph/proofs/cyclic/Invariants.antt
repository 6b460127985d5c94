use Rattle.std.proofs.Common.{◌≡◌, ℕ, ◌<◌, false, get_or}
use Rattle.model.specs.Lists.{bit}
use Rattle.graph.proofs.cyclic.Given as goal

abbrev pub invariant-loop-u : goal.invariant-loop-u
invariant-loop-u l = (v : ℕ) → v < l.u → bit (get_or l.row-items v 0) v ≡ false
