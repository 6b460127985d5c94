use Rattle.checker.proofs.Writing.{bills_stage, bills_room, bills_number, bills_are, bills_as_was, bills_left_lem, order_held}
use Rattle.answers.specs.Stages.{is_fresh}
use Rattle.model.specs.Log.{transactions_in, history_of}
use Rattle.wear.specs.Wear.{moves}
use Rattle.wear.specs.Bills.{bills_of}
use Rattle.refusals.proofs.Numbering.{code_some}
use Rattle.std.proofs.lemmas.Result.{err_from_is_err_and}
use Rattle.std.proofs.lemmas.List.{take_all}
use Rattle.wear.specs.declared.Bill.{Bill}
use native.Mathlib.Omega.{arith}
use lib.ListN.{length, take, drop}
use mathlib.Core.List.{List, ◌++◌}
use mathlib.Core.Path.{◌≡◌, sym, ap, ◌∙◌}
use borrow.Author.Rules.{rules}
use Rattle.checker.proofs.results.write_bills.Goals as goal

pub returns-in_err-test_stage-clause-number : goal.returns-in_err-test_stage-clause-number
returns-in_err-test_stage-clause-number c =
    let p = err_from_is_err_and c.from_residual.result c.from_residual.ensures.1 in
    rw (p.1, p.2) (bills_number c.args.c.now _ _ _ c.stage_of.ensures c.in_err-test_stage.ensures)

pub returns-in_err-test_stage-clause-list : goal.returns-in_err-test_stage-clause-list
returns-in_err-test_stage-clause-list c =
    bills_as_was c.args.c.now c.args.list.now (λ z. code_some _ (bills_number c.args.c.now _ _ _ c.stage_of.ensures c.in_err-test_stage.ensures ∙ z))

pub window-requires : goal.window-requires
window-requires c = ap is_fresh (bills_stage c.args.c.now _ (sym (bills_number c.args.c.now _ _ _ c.stage_of.ensures c.in_ok-test_stage.ensures)))

pub bills-bills-requires : goal.bills-bills-requires
bills-bills-requires c =
    order_held c.args.c.now _ c.window.ensures _ c.transactions-n.ensures.0 (bills_stage c.args.c.now _ (sym (bills_number c.args.c.now _ _ _ c.stage_of.ensures c.in_ok-test_stage.ensures)))

pub put-requires : goal.put-requires
put-requires c = (omega arith, bills_room c.args.c.now _ (sym (bills_number c.args.c.now _ _ _ c.stage_of.ensures c.in_ok-test_stage.ensures)))

pub returns-clause-number : goal.returns-clause-number
returns-clause-number c = bills_number c.args.c.now _ _ _ c.stage_of.ensures c.in_ok-test_stage.ensures

pub returns-clause-list : goal.returns-clause-list
returns-clause-list c =
    let a = c.args.c.now in
    let log = c.window.ensures.log_is in
    let long : length c.bills-bills.result ≡ 16 = search rules in
    c.put.ensures
    ∙ ap (λ (l : List Bill). l ++ drop 16 c.args.list.now) (take_all 16 c.bills-bills.result (omega (arith, long)))
    ∙ bills_left_lem a c.args.list.now _ (sym (bills_number a _ _ _ c.stage_of.ensures c.in_ok-test_stage.ensures))
    (bills_are a _ _ (c.transactions-n.ensures.0 ∙ ap transactions_in log) (c.bills-bills.ensures ∙ ap (λ b. bills_of (moves (history_of b) a.starting (take c.transactions-n.result a.order))) log))
