use Rattle.std.proofs.Common.{◌≡◌}
use Rattle.writer.specs.Again.{begun_notes, again_notes}
use Rattle.writer.proofs.again.note_transaction.Given as goal

abbrev pub invariant-loop-m : goal.invariant-loop-m
invariant-loop-m l = l.notes ≡ begun_notes l.log.bytes.now (again_notes l.log.bytes.now l.t) l.t l.m
