use Rattle.checker.proofs.Encodes.{plans_fresh, plans_setting, plans_places, plans_ready}
use Rattle.answers.specs.Settings.{setting_refusal}
use Rattle.std.proofs.lemmas.Result.{err_from_is_err_and}
use mathlib.Core.Path.{sym, ap, ◌∙◌}
use Rattle.checker.proofs.polygraphs.planned.Goals as goal

pub returns-in_err-w : goal.returns-in_err-w
returns-in_err-w c =
    let p = err_from_is_err_and c.from_residual.result c.from_residual.ensures.1 in
    rw (p.1, p.2) (plans_fresh c.args.c.now _ _ _ _ _ _ _ c.in_err-w.ensures.0 c.in_err-w.ensures.1)

pub returns-in_err-setting : goal.returns-in_err-setting
returns-in_err-setting c =
    let r = c.from_residual-in_err-setting in
    let p = err_from_is_err_and r.result r.ensures.1 in
    rw (p.1, p.2) (plans_setting c.args.c.now _ _ _ _ _ _ _ c.in_ok-w.ensures.counts c.in_err-setting.ensures.number)

pub returns-in_err-test_places : goal.returns-in_err-test_places
returns-in_err-test_places c =
    let is = c.in_ok-setting.ensures.setting.0 in
    let zero = ap (λ e. setting_refusal e c.args.pruning) is ∙ sym c.in_ok-setting.ensures.number in
    let r = c.from_residual-in_err-test_places in
    let p = err_from_is_err_and r.result r.ensures.1 in
    rw (p.1, p.2, ← is) (plans_places c.args.c.now _ _ _ _ _ _ _ c.in_ok-w.ensures _ zero c.prepare-known.ensures _ c.in_err-test_places.ensures)

pub returns : goal.returns
returns c =
    let is = c.in_ok-setting.ensures.setting.0 in
    let zero = ap (λ e. setting_refusal e c.args.pruning) is ∙ sym c.in_ok-setting.ensures.number in
    rw (← is) (plans_ready c.args.c.now _ _ _ _ _ _ _ c.in_ok-w.ensures _ zero c.prepare-known.ensures (sym c.in_ok-test_places.ensures))
