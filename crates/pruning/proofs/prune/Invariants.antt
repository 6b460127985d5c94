-- The rows so far are 32 words, with their closure, and the passes stand at a place.
use Rattle.std.proofs.Common.{◌≡◌, length}
use Rattle.graph.proofs.Rows.{Small}
use Rattle.model.specs.Polygraph.{reach}
use Rattle.pruning.proofs.Turns.{Stands, todo}
use Rattle.pruning.proofs.prune.Given as goal

abbrev pub invariant-loop-p : goal.invariant-loop-p
invariant-loop-p l = (length l.known ≡ 32) × Small l.known × (l.closed ≡ reach l.known) × Stands l.fn.rows l.initial.list l.n l.fn.pruning l.known l.list l.p

abbrev pub decreases-loop-p : goal.decreases-loop-p
decreases-loop-p l = todo l.p
