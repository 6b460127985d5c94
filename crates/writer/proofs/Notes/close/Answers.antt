use Rattle.std.proofs.lemmas.Result.{err_from_is_err_and}
use Rattle.refusals.proofs.Numbering.{code_some}
use Rattle.std.proofs.Common.{refl}
use Rattle.writer.specs.Calls.{closing, closed_notes}
use Rattle.writer.proofs.Answering.{refused, taken}
use Rattle.writer.proofs.Notes.close.Goals as goal

pub returns-in_err-test_close : goal.returns-in_err-test_close
unfolding closing
returns-in_err-test_close c =
    let p = err_from_is_err_and c.from_residual.result c.from_residual.ensures.1 in
    rw (p.1, p.2)
    (refused _ _ _ _ c.in_err-test_close.ensures (code_some _))

pub returns : goal.returns
unfolding closing closed_notes
returns c = taken _ _ _ _ c.in_ok-test_close.ensures refl
