use Rattle.std.proofs.Common.{◌≡◌}
use Rattle.writer.specs.Again.{again_notes}
use Rattle.writer.proofs.Notes.again.Given as goal

abbrev pub invariant-loop-t : goal.invariant-loop-t
invariant-loop-t l = l.notes ≡ again_notes l.log.bytes.now l.t
