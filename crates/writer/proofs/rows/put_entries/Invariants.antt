use Rattle.std.proofs.Common.{◌≡◌}
use Rattle.model.specs.Writing.{sum_of}
use Rattle.writer.specs.Rows.{at, over, entry_rows}
use Rattle.writer.proofs.rows.put_entries.Given as goal

abbrev pub invariant-loop-t : goal.invariant-loop-t
invariant-loop-t l =
    record { start_is : l.start ≡ sum_of (at l.notes.counts) l.t; laid : l.out ≡ over l.initial.out 4 (entry_rows l.notes.cabinets l.notes.counts l.t) }
