use Rattle.std.proofs.Common.{arith}
use Rattle.writer.proofs.Holding.{room_out, held_length}
use Rattle.writer.proofs.Laying.{contents_laid, pair_bytes}
use Rattle.writer.proofs.rows.put_contents.Goals as goal

pub overflow_cast-notes : goal.overflow_cast-notes
overflow_cast-notes c =
    let n = c.args.notes.now in
    let r = room_out n c.requires.within in
    omega (arith, r.few)

pub noted-requires : goal.noted-requires
noted-requires c =
    let n = c.args.notes.now in
    let r = room_out n c.requires.within in
    omega (arith, r.few)

pub overflow_cast-noted : goal.overflow_cast-noted
overflow_cast-noted c =
    let n = c.args.notes.now in
    let r = room_out n c.requires.within in
    omega (arith, r.many, c.noted.ensures)

pub put_row-requires : goal.put_row-requires
put_row-requires c = omega (arith, c.requires.long, held_length c.args.notes.now)

pub returns : goal.returns
returns c =
    let n = c.args.notes.now in
    let r = room_out n c.requires.within in
    let two = pair_bytes n.transactions _ (omega (arith, r.few)) c.to_le_bytes.ensures in
    contents_laid _ _ _ _ _ _ _ _ _ two.0 two.1 (rw c.noted.ensures at c.put_row.ensures) c.put_entries.ensures
