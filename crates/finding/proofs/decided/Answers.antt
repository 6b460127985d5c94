use Rattle.answers.specs.Settings.{setting_refusal}
use Rattle.finding.proofs.Finding.{setting_finds, places_finds, settled_in, answer_finds, rows_tidy}
use Rattle.model.specs.Times.{times}
use Rattle.std.proofs.lemmas.Result.{err_from_is_err_and}
use mathlib.Core.Path.{sym, ap₂, ◌∙◌}
use Rattle.finding.proofs.decided.Goals as goal

pub returns-in_err-setting : goal.returns-in_err-setting
returns-in_err-setting c =
    let p = err_from_is_err_and c.from_residual.result c.from_residual.ensures.1 in
    rw (p.1, p.2) (setting_finds _ _ _ _ _ _ _ _ c.in_err-setting.ensures.number)

pub returns-in_err-test_places : goal.returns-in_err-test_places
returns-in_err-test_places c =
    let is = c.in_ok-setting.ensures.setting in
    let r = c.from_residual-in_err-test_places in
    let p = err_from_is_err_and r.result r.ensures.1 in
    let z = ap₂ setting_refusal is.0 is.1 ∙ sym c.in_ok-setting.ensures.number in
    rw (p.1, p.2, ← is.0, ← is.1) (places_finds _ _ _ _ _ _ _ _ _ z c.prepare-known.ensures.chosen_are.count_is c.in_err-test_places.ensures)

pub first_settled-order-requires : goal.first_settled-order-requires
first_settled-order-requires c =
    let w = c.args.window in
    let is = c.in_ok-setting.ensures.setting in
    let z = ap₂ setting_refusal is.0 is.1 ∙ sym c.in_ok-setting.ensures.number in
    let p = c.prepare-known.ensures in
    let room = sym c.in_ok-test_places.ensures in
    let k = c.settle-left.ensures in
    let kept = k.1 _ c.closure-closed.ensures (rows_tidy w.log.bytes.now _ w.taken _ _ p.rows_are) in
    let same = c.pruning_needed-used.ensures in
    (times w.clock.begin.now w.clock.end.now w.clock.drift, settled_in _ _ _ c.args.places _ _ same _ _ _ _ _ _ _ p z room k.0 kept)

pub returns : goal.returns
returns c =
    let w = c.args.window in
    let is = c.in_ok-setting.ensures.setting in
    let z = ap₂ setting_refusal is.0 is.1 ∙ sym c.in_ok-setting.ensures.number in
    let p = c.prepare-known.ensures in
    let room = sym c.in_ok-test_places.ensures in
    let k = c.settle-left.ensures in
    let kept = k.1 _ c.closure-closed.ensures (rows_tidy w.log.bytes.now _ w.taken _ _ p.rows_are) in
    let same = c.pruning_needed-used.ensures in
    rw (← is.0, ← is.1)
    (answer_finds _ _ _ c.args.places _ _ same _ _ _ _ _ _ _ p z room k.0 kept _ (c.first_settled-order.ensures (times w.clock.begin.now w.clock.end.now w.clock.drift) (settled_in _ _ _ c.args.places _ _ same _ _ _ _ _ _ _ p z room k.0 kept)))
