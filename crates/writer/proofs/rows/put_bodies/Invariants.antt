use Rattle.std.proofs.Common.{◌≡◌}
use Rattle.writer.specs.Rows.{over, body_rows}
use Rattle.writer.proofs.rows.put_bodies.Given as goal

abbrev pub invariant-loop-i : goal.invariant-loop-i
invariant-loop-i l = l.out ≡ over l.initial.out 0 (body_rows l.notes.kinds l.notes.keys l.notes.arguments l.i)
