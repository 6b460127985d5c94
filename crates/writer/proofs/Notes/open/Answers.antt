use Rattle.std.proofs.lemmas.Result.{err_from_is_err_and}
use Rattle.refusals.proofs.Numbering.{code_some}
use Rattle.std.proofs.Common.{refl, sym, arith}
use Rattle.writer.specs.Calls.{opening, opened_notes}
use Rattle.writer.proofs.Answering.{refused, taken}
use Rattle.writer.proofs.Holding.{open_room}
use Rattle.writer.proofs.Notes.open.Goals as goal

pub returns-in_err-test_open : goal.returns-in_err-test_open
unfolding opening
returns-in_err-test_open c =
    let p = err_from_is_err_and c.from_residual.result c.from_residual.ensures.1 in
    rw (p.1, p.2)
    (refused _ _ _ _ c.in_err-test_open.ensures (code_some _))

pub overflow_add-self : goal.overflow_add-self
overflow_add-self c = omega (arith, open_room _ (sym c.in_ok-test_open.ensures))

pub bounds-self-t : goal.bounds-self-t
bounds-self-t c = omega (arith, open_room _ (sym c.in_ok-test_open.ensures))

pub offset_bounds-self-t : goal.offset_bounds-self-t
offset_bounds-self-t c = omega (arith, open_room _ (sym c.in_ok-test_open.ensures))

pub bounds-self-t-2 : goal.bounds-self-t-2
bounds-self-t-2 c = omega (arith, open_room _ (sym c.in_ok-test_open.ensures))

pub returns : goal.returns
unfolding opening opened_notes
returns c = taken _ _ _ _ c.in_ok-test_open.ensures refl
