use mathlib.Core.Path.{◌≡◌, sym, ◌∙◌}
use lib.ListN.{length}
use borrow.Author.Rules.{rules}
use Rattle.std.proofs.lemmas.Result.{err_from_is_err_and}
use Rattle.refusals.proofs.Numbering.{code_some}
use Rattle.model.specs.Times.{times}
use Rattle.model.specs.Window.{window}
use Rattle.model.proofs.Windows.{number_of_log}
use Rattle.codes.proofs.Deciding.{not_taken}
use Rattle.host.proofs.Windows.{orders, found_refused, found_none, found_some}
use Rattle.host.proofs.decide.Goals as goal

pub returns-in_err-held : goal.returns-in_err-held
returns-in_err-held c =
    let a = c.args in
    let w = window a.log.now a.starting (times a.clock.begin.now a.clock.end.now a.clock.drift) in
    let long : length a.starting ≡ 32 = search rules in
    let p = err_from_is_err_and c.from_residual.result c.from_residual.ensures.1 in
    let all = not_taken w a.encoding a.pruning a.order.now a.table.now _ (c.in_err-held.ensures.number ∙ sym (number_of_log w long)) (λ z. code_some _ z) in
    record {
      result = rw (p.1, p.2) all.0;
      order = all.1.0;
      table = all.1.1;
    }

pub returns-in_err-found : goal.returns-in_err-found
returns-in_err-found c =
    let a = c.args in
    let long : length a.starting ≡ 32 = search rules in
    let r = c.from_residual-in_err-found in
    let p = err_from_is_err_and r.result r.ensures.1 in
    let all = found_refused c.in_ok-held.held a.starting long a.encoding a.pruning a.order.now a.table.now _ _ _ a.log.now a.clock c.in_ok-held.ensures.log _ c.in_err-found.ensures in
    record {
      result = rw (p.1, p.2) all.0;
      order = all.1.0;
      table = all.1.1;
    }

pub returns-in-None : goal.returns-in-None
returns-in-None c =
    let a = c.args in
    let long : length a.starting ≡ 32 = search rules in
    let all = found_none c.in_ok-held.held a.starting long a.encoding a.pruning a.order.now a.table.now _ _ _ a.log.now a.clock c.in_ok-held.ensures.log _ c.in_ok-found.ensures c.in-None.is in
    record {
      result = all.0;
      order = all.1.0;
      table = all.1.1;
    }

pub write-requires : goal.write-requires
write-requires c =
    let a = c.args in
    let long : length a.starting ≡ 32 = search rules in
    orders c.in_ok-held.held a.starting long a.encoding a.pruning a.order.now a.table.now _ _ _ _ c.in_ok-found.ensures _ c.in-Some.is

pub returns-in_err-write-in-Some : goal.returns-in_err-write-in-Some
returns-in_err-write-in-Some c =
    let a = c.args in
    let long : length a.starting ≡ 32 = search rules in
    let r = c.from_residual-in_err-write-in-Some in
    let p = err_from_is_err_and r.result r.ensures.1 in
    let wrote = c.in_err-write-in-Some.ensures in
    let all = found_some c.in_ok-held.held a.starting long a.encoding a.pruning a.order.now a.table.now _ _ _ a.log.now a.clock c.in_ok-held.ensures.log _ c.in_ok-found.ensures
    _ c.in-Some.is _ _ _ (wrote.result, (wrote.order, wrote.table)) in
    record {
      result = rw (p.1, p.2) all.0;
      order = all.1.0;
      table = all.1.1;
    }

pub returns-in_ok-write-in-Some : goal.returns-in_ok-write-in-Some
returns-in_ok-write-in-Some c =
    let a = c.args in
    let long : length a.starting ≡ 32 = search rules in
    let wrote = c.in_ok-write-in-Some.ensures in
    let all = found_some c.in_ok-held.held a.starting long a.encoding a.pruning a.order.now a.table.now _ _ _ a.log.now a.clock c.in_ok-held.ensures.log _ c.in_ok-found.ensures
    _ c.in-Some.is _ _ _ (wrote.result, (wrote.order, wrote.table)) in
    record {
      result = all.0;
      order = all.1.0;
      table = all.1.1;
    }
