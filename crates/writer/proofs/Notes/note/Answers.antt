use Rattle.std.proofs.lemmas.Result.{err_from_is_err_and}
use Rattle.refusals.proofs.Numbering.{code_some}
use Rattle.std.proofs.Common.{refl, sym, arith}
use Rattle.writer.specs.Calls.{noting, noted_at}
use Rattle.writer.proofs.Answering.{refused}
use Rattle.writer.proofs.Holding.{note_room, note_taken}
use Rattle.writer.proofs.Notes.note.Goals as goal

pub returns-in_err-test_note : goal.returns-in_err-test_note
unfolding noting
returns-in_err-test_note c =
    let p = err_from_is_err_and c.from_residual.result c.from_residual.ensures.1 in
    rw (p.1, p.2)
    (refused _ _ _ _ c.in_err-test_note.ensures (code_some _))

pub overflow_sub-t : goal.overflow_sub-t
overflow_sub-t c =
    let r = note_room _ (sym c.in_ok-test_note.ensures) in
    omega (arith, r.some, r.few)

pub noted-i-requires : goal.noted-i-requires
noted-i-requires c =
    let r = note_room _ (sym c.in_ok-test_note.ensures) in
    omega (arith, r.some, r.few)

pub offset_bounds-self-t : goal.offset_bounds-self-t
offset_bounds-self-t c =
    let r = note_room _ (sym c.in_ok-test_note.ensures) in
    omega (arith, r.some, r.few, r.many, r.count, c.noted-i.ensures)

pub bounds-self-t : goal.bounds-self-t
bounds-self-t c =
    let r = note_room _ (sym c.in_ok-test_note.ensures) in
    omega (arith, r.some, r.few, r.many, r.count, c.noted-i.ensures)

pub overflow_add-self : goal.overflow_add-self
overflow_add-self c =
    let r = note_room _ (sym c.in_ok-test_note.ensures) in
    omega (arith, r.some, r.few, r.many, r.count, c.noted-i.ensures)

pub bounds-self-t-2 : goal.bounds-self-t-2
bounds-self-t-2 c =
    let r = note_room _ (sym c.in_ok-test_note.ensures) in
    omega (arith, r.some, r.few, r.many, r.count, c.noted-i.ensures)

pub bounds-self-i : goal.bounds-self-i
bounds-self-i c =
    let r = note_room _ (sym c.in_ok-test_note.ensures) in
    omega (arith, r.some, r.few, r.many, r.count, c.noted-i.ensures)

pub bounds-self-i-2 : goal.bounds-self-i-2
bounds-self-i-2 c =
    let r = note_room _ (sym c.in_ok-test_note.ensures) in
    omega (arith, r.some, r.few, r.many, r.count, c.noted-i.ensures)

pub offset_bounds-self-i : goal.offset_bounds-self-i
offset_bounds-self-i c =
    let r = note_room _ (sym c.in_ok-test_note.ensures) in
    omega (arith, r.some, r.few, r.many, r.count, c.noted-i.ensures)

pub bounds-self-i-3 : goal.bounds-self-i-3
bounds-self-i-3 c =
    let r = note_room _ (sym c.in_ok-test_note.ensures) in
    omega (arith, r.some, r.few, r.many, r.count, c.noted-i.ensures)

pub returns : goal.returns
unfolding noted_at
returns c = note_taken _ _ _ _ _ _ 0 c.in_ok-test_note.ensures refl c.noted-i.ensures refl
