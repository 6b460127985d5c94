use Rattle.std.proofs.Common.{arith, refl, ap, sym, ◌∙◌}
use Rattle.model.proofs.Writing.{sum_none}
use Rattle.writer.specs.Rows.{over}
use Rattle.writer.proofs.Laying.{over_none, entries_none, entry_laid, entries_room, narrow_out, narrow_sum}
use Rattle.writer.proofs.Counting.{total_next}
use Rattle.writer.proofs.Holding.{room_out, held_length}
use Rattle.writer.proofs.rows.put_entries.Goals as goal

pub loop-t-init : goal.loop-t-init
loop-t-init c = record { start_is = sym (sum_none _); laid = sym (ap (over _ 4) (entries_none _ _) ∙ over_none _ 4) }

pub offset_bounds-notes-t : goal.offset_bounds-notes-t
offset_bounds-notes-t c =
    let n = c.args.notes.now in
    let r = room_out n c.requires.within in
    omega (arith, r.few)

pub bounds-notes-t : goal.bounds-notes-t
bounds-notes-t c =
    let n = c.args.notes.now in
    let r = room_out n c.requires.within in
    omega (arith, r.few)

pub overflow_mul-t : goal.overflow_mul-t
overflow_mul-t c =
    let n = c.args.notes.now in
    let r = room_out n c.requires.within in
    omega (arith, r.few)

pub overflow_add-t : goal.overflow_add-t
overflow_add-t c =
    let n = c.args.notes.now in
    let r = room_out n c.requires.within in
    omega (arith, r.few)

pub bounds-notes-t-in-loop-t : goal.bounds-notes-t-in-loop-t
bounds-notes-t-in-loop-t c =
    let n = c.args.notes.now in
    let r = room_out n c.requires.within in
    omega (arith, r.few)

pub overflow_cast-count : goal.overflow_cast-count
overflow_cast-count c =
    let n = c.args.notes.now in
    let r = room_out n c.requires.within in
    omega (arith, narrow_out n.cabinets n.counts n.transactions r.bytes c.loop-t.t (omega arith))

pub put_row-requires : goal.put_row-requires
put_row-requires c =
    let n = c.args.notes.now in
    let r = room_out n c.requires.within in
    let l = c.loop-t in
    omega (arith, c.requires.long, held_length n, entries_room _ _ _ _ l.t n.transactions (omega arith) (omega (arith, c.requires.long, held_length n)) l.invariant.laid)

pub overflow_add-start : goal.overflow_add-start
overflow_add-start c =
    let n = c.args.notes.now in
    let r = room_out n c.requires.within in
    let l = c.loop-t in
    omega (arith, r.few, narrow_sum n.cabinets n.counts n.transactions r.bytes l.t (omega arith), narrow_out n.cabinets n.counts n.transactions r.bytes l.t (omega arith))

pub loop-t-preserved : goal.loop-t-preserved
loop-t-preserved c =
    let n = c.args.notes.now in
    let l = c.loop-t in
    record {
      start_is = total_next n.counts l.t l.start _ l.invariant.start_is refl;
      laid = entry_laid _ _ _ n.cabinets n.counts l.t l.start (omega (arith, c.requires.long, held_length n)) l.invariant.laid l.invariant.start_is c.put_row.ensures;
    }
