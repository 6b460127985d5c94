use Rattle.checker.proofs.Writing.{order_stage, order_room, order_as_was, order_written, order_left_lem}
use Rattle.answers.specs.Stages.{is_fresh}
use Rattle.model.specs.Log.{transactions_in}
use Rattle.refusals.proofs.Numbering.{code_some}
use lib.Seq.{length-take-le}
use lib.ListN.{length, drop}
use mathlib.Core.List.{◌++◌}
use mathlib.Core.Path.{◌≡◌, sym, ap, ◌∙◌}
use native.Mathlib.Omega.{arith}
use borrow.Author.Rules.{rules}
use Rattle.checker.proofs.results.write_order.Goals as goal

pub returns-in_err-test_order-clause-list : goal.returns-in_err-test_order-clause-list
returns-in_err-test_order-clause-list c = order_as_was c.args.c.now c.args.out.now (λ z. code_some _ (c.in_err-test_order.ensures ∙ z))

pub window-requires : goal.window-requires
window-requires c = ap is_fresh (order_stage c.args.c.now _ (sym c.in_ok-test_order.ensures))

pub slice_bounds-copy_from_slice-end : goal.slice_bounds-copy_from_slice-end
slice_bounds-copy_from_slice-end c =
    omega (arith, c.transactions-n.ensures.0, ap transactions_in c.window.ensures.log_is, order_room c.args.c.now _ (sym c.in_ok-test_order.ensures))

pub slice_bounds-copy_from_slice-end-2 : goal.slice_bounds-copy_from_slice-end-2
slice_bounds-copy_from_slice-end-2 c =
    sym (length-take-le _ c.args.out.now (omega (arith, c.transactions-n.ensures.0, ap transactions_in c.window.ensures.log_is, order_room c.args.c.now _ (sym c.in_ok-test_order.ensures))))

pub copy_from_slice-requires : goal.copy_from_slice-requires
copy_from_slice-requires c =
    let told = c.transactions-n.ensures in
    let long : length c.args.c.now.order ≡ 32 = search rules in
    length-take-le _ c.args.out.now (omega (arith, told.0, ap transactions_in c.window.ensures.log_is, order_room c.args.c.now _ (sym c.in_ok-test_order.ensures)))
    ∙ sym (length-take-le _ c.args.c.now.order (omega (arith, told.1, long)))

pub returns-clause-list : goal.returns-clause-list
returns-clause-list c =
    order_left_lem c.args.c.now c.args.out.now _ (sym c.in_ok-test_order.ensures)
    (order_written c.args.c.now c.args.out.now _ _ (c.transactions-n.ensures.0 ∙ ap transactions_in c.window.ensures.log_is)
    (ap (λ l. l ++ drop c.transactions-n.result c.args.out.now) c.copy_from_slice.ensures.after))
