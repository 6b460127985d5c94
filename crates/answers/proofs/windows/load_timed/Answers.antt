use Rattle.model.specs.Log.{transactions_in}
use Rattle.model.specs.Times.{times, times_number}
use Rattle.model.proofs.Windows.{number_by_log, number_by_times}
use Rattle.refusals.proofs.Numbering.{code_some}
use Rattle.std.proofs.lemmas.Result.{err_from_is_err_and}
use mathlib.Core.Path.{sym, ap, ◌∙◌}
use Rattle.answers.proofs.windows.load_timed.Goals as goal

pub returns-in_err-log-clause-number : goal.returns-in_err-log-clause-number
returns-in_err-log-clause-number c =
    let a = c.args in
    let is = c.in_err-log.ensures.number in
    let p = err_from_is_err_and c.from_residual.result c.from_residual.ensures.1 in
    rw (p.1, p.2) (is ∙ sym (number_by_log a.bytes.now (times a.clock.begin.now a.clock.end.now a.clock.drift) (λ z. code_some _ (is ∙ z))))

pub returns-in_err-test_times-clause-number : goal.returns-in_err-test_times-clause-number
returns-in_err-test_times-clause-number c =
    let a = c.args in
    let ts = times a.clock.begin.now a.clock.end.now a.clock.drift in
    let p = err_from_is_err_and c.from_residual-in_err-test_times.result c.from_residual-in_err-test_times.ensures.1 in
    rw (p.1, p.2)
    (c.in_err-test_times.ensures ∙ ap (λ n. times_number n ts) (c.transactions.ensures.0 ∙ ap transactions_in c.in_ok-log.ensures.log) ∙ sym (number_by_times a.bytes.now ts (sym c.in_ok-log.ensures.number)))

pub invariant_of-result : goal.invariant_of-result
invariant_of-result c =
    let a = c.args in
    let ts = times a.clock.begin.now a.clock.end.now a.clock.drift in
    record { taken = number_by_times _ ts c.in_ok-log.log.taken ∙ sym (ap (λ n. times_number n ts) c.transactions.ensures.0) ∙ sym c.in_ok-test_times.ensures }
