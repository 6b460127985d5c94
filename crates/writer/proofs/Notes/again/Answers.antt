use Rattle.std.proofs.Common.{arith, refl, sym, ap, ◌∙◌}
use Rattle.std.proofs.lemmas.Result.{err_from_is_err_and}
use Rattle.refusals.proofs.Numbering.{code_some}
use Rattle.writer.specs.Again.{noting_again}
use Rattle.writer.proofs.Renoting.{again_none, again_refused, again_done}
use Rattle.writer.proofs.Notes.again.Goals as goal

pub returns-in_err-log : goal.returns-in_err-log
returns-in_err-log c =
    let p = err_from_is_err_and c.from_residual.result c.from_residual.ensures.1 in
    rw (p.1, p.2)
    (again_refused _ _ _ refl c.in_err-log.ensures.number (code_some _))

pub loop-t-init : goal.loop-t-init
loop-t-init c = again_none _ _ c.fresh-notes.ensures

pub returns : goal.returns
returns c =
    again_done _ _ c.loop-t.t 0 c.loop-t.invariant (omega (arith, c.transactions-t-end.ensures.0)) (sym c.in_ok-log.log.taken) refl
    ∙ ap noting_again c.in_ok-log.ensures.log
