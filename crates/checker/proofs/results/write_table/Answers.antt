use Rattle.checker.proofs.Writing.{table_stage, table_room, table_number, table_as_was, table_written, table_left_lem, order_held}
use Rattle.answers.specs.Stages.{is_fresh}
use Rattle.model.specs.Log.{transactions_in, history_of}
use Rattle.model.specs.Lent.{written_table}
use Rattle.refusals.proofs.Numbering.{code_some}
use Rattle.std.proofs.lemmas.Result.{err_from_is_err_and}
use lib.ListN.{take}
use mathlib.Core.Path.{sym, ap, ◌∙◌}
use Rattle.checker.proofs.results.write_table.Goals as goal

pub returns-in_err-test_stage-clause-number : goal.returns-in_err-test_stage-clause-number
returns-in_err-test_stage-clause-number c =
    let p = err_from_is_err_and c.from_residual.result c.from_residual.ensures.1 in
    rw (p.1, p.2) (table_number c.args.c.now _ _ _ c.stage_of.ensures c.in_err-test_stage.ensures)

pub returns-in_err-test_stage-clause-list : goal.returns-in_err-test_stage-clause-list
returns-in_err-test_stage-clause-list c =
    table_as_was c.args.c.now c.args.out.now (λ z. code_some _ (table_number c.args.c.now _ _ _ c.stage_of.ensures c.in_err-test_stage.ensures ∙ z))

pub window-requires : goal.window-requires
window-requires c = ap is_fresh (table_stage c.args.c.now _ (sym (table_number c.args.c.now _ _ _ c.stage_of.ensures c.in_ok-test_stage.ensures)))

pub write_table-requires : goal.write_table-requires
write_table-requires c =
    let none = sym (table_number c.args.c.now _ _ _ c.stage_of.ensures c.in_ok-test_stage.ensures) in
    let held = c.window.ensures in (
      order_held c.args.c.now _ held _ c.transactions-n.ensures.0 (table_stage c.args.c.now _ none),
      table_room c.args.c.now _ none,
    )

pub returns-clause-number : goal.returns-clause-number
returns-clause-number c = table_number c.args.c.now _ _ _ c.stage_of.ensures c.in_ok-test_stage.ensures

pub returns-clause-list : goal.returns-clause-list
returns-clause-list c =
    let a = c.args.c.now in
    let log = c.window.ensures.log_is in
    table_left_lem a c.args.out.now _ (sym (table_number a _ _ _ c.stage_of.ensures c.in_ok-test_stage.ensures))
    (table_written a c.args.out.now _ _ (c.transactions-n.ensures.0 ∙ ap transactions_in log)
    (c.write_table.ensures ∙ ap (λ b. written_table (history_of b) a.starting (take c.transactions-n.result a.order) c.args.out.now) log))
