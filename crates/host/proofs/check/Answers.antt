use mathlib.Core.Path.{refl, sym, ap, ◌∙◌}
use Rattle.std.specs.Prelude.{Ok}
use Rattle.std.proofs.lemmas.Result.{err_from_is_err_and}
use Rattle.refusals.proofs.Numbering.{code_some}
use Rattle.model.specs.Times.{times}
use Rattle.model.specs.Window.{window, zeros}
use Rattle.model.proofs.Windows.{number_of_log}
use Rattle.answers.specs.declared.Judgement.{Judgement}
use Rattle.codes.specs.Codes.{judgement_code, check_window}
use Rattle.codes.proofs.Taking.{refused_number}
use Rattle.host.proofs.Windows.{checked}
use Rattle.host.proofs.check.Goals as goal

pub returns-in_err-window : goal.returns-in_err-window
unfolding check_window
returns-in_err-window c =
    let a = c.args in
    let w = window a.log.now zeros (times a.clock.begin.now a.clock.end.now a.clock.drift) in
    let p = err_from_is_err_and c.from_residual.result c.from_residual.ensures.1 in
    rw (p.1, p.2) (refused_number w _ _ c.in_err-window.ensures.number (sym (number_of_log w refl)) _ (λ z. code_some _ z))

pub returns-in_err-judged : goal.returns-in_err-judged
returns-in_err-judged c =
    let a = c.args in
    let r = c.from_residual-in_err-judged in
    let p = err_from_is_err_and r.result r.ensures.1 in
    rw (p.1, p.2) (ap judgement_code c.in_err-judged.ensures ∙ checked c.in_ok-window.window a.log.now a.clock c.in_ok-window.ensures.log a.order.now)

pub returns-in-Legal : goal.returns-in-Legal
returns-in-Legal c =
    let a = c.args in
    ap (λ (j : Judgement). judgement_code (Ok j)) (sym c.in-Legal.is) ∙ ap judgement_code c.in_ok-judged.ensures
    ∙ checked c.in_ok-window.window a.log.now a.clock c.in_ok-window.ensures.log a.order.now

pub returns-in-Illegal : goal.returns-in-Illegal
returns-in-Illegal c =
    let a = c.args in
    ap (λ (j : Judgement). judgement_code (Ok j)) (sym c.in-Illegal.is) ∙ ap judgement_code c.in_ok-judged.ensures
    ∙ checked c.in_ok-window.window a.log.now a.clock c.in_ok-window.ensures.log a.order.now
