use mathlib.Core.Path.{refl, sym, ap, ◌∙◌}
use Prim.Native.Nat.{ℕ}
use lib.ListN.{length}
use Rattle.std.proofs.lemmas.Result.{err_from_is_err_and}
use Rattle.refusals.proofs.Numbering.{code_some}
use Rattle.model.specs.Times.{times}
use Rattle.model.specs.Window.{window, window_history, zeros}
use Rattle.model.proofs.Windows.{number_of_log}
use Rattle.codes.specs.Codes.{sent_code, sent_after}
use Rattle.host.proofs.Windows.{window_of, encode_refused, encode_unset, encode_sent}
use Rattle.host.proofs.encode.Goals as goal

pub returns-in_err-held : goal.returns-in_err-held
returns-in_err-held c =
    let a = c.args in
    let w = window a.log.now zeros (times a.clock.begin.now a.clock.end.now a.clock.drift) in
    let p = err_from_is_err_and c.from_residual.result c.from_residual.ensures.1 in
    let all = encode_refused w a.encoding a.pruning a.out.now _ (c.in_err-held.ensures.number ∙ sym (number_of_log w refl)) (λ z. code_some _ z) in
    record {
      result = rw (p.1, p.2) all.0;
      list = all.1;
    }

pub returns-in_err-setting : goal.returns-in_err-setting
returns-in_err-setting c =
    let a = c.args in
    let r = c.from_residual-in_err-setting in
    let p = err_from_is_err_and r.result r.ensures.1 in
    let all = encode_unset c.in_ok-held.held a.log.now a.clock c.in_ok-held.ensures.log a.encoding a.pruning a.out.now _ c.in_err-setting.ensures.number in
    record {
      result = rw (p.1, p.2) all.0;
      list = all.1;
    }

pub returns : goal.returns
returns c =
    let a = c.args in
    let is = c.in_ok-setting.ensures.setting in
    let h = window_history (window_of c.in_ok-held.held zeros) in
    let gave = c.send.ensures in
    let plan = c.prepare-plan.ensures in
    let all = encode_sent c.in_ok-held.held a.log.now a.clock c.in_ok-held.ensures.log a.encoding a.pruning a.out.now (sym c.in_ok-setting.ensures.number) _ _
    (gave.result _ _ plan ∙ ap (λ (e : ℕ). sent_code h e a.pruning (length a.out.now)) is.0)
    (gave.list _ _ plan ∙ ap (λ (e : ℕ). sent_after h e a.pruning a.out.now) is.0) in
    record {
      result = all.0;
      list = all.1;
    }
