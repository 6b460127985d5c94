use Rattle.checker.proofs.Writing.{order_fresh, order_number}
use Rattle.checker.specs.Cases.{stage_of}
use Rattle.answers.specs.Stages.{is_fresh}
use Rattle.model.specs.Log.{transactions_in}
use mathlib.Core.Bool.{true}
use mathlib.Core.Path.{◌≡◌, ap, ◌∙◌}
use borrow.Author.Rules.{rules}
use Rattle.checker.proofs.results.test_order.Goals as goal

pub returns-then-eq : goal.returns-then-eq
returns-then-eq c =
    let fresh : is_fresh (stage_of c.args.c.now) ≡ true = search rules in
    order_fresh c.args.c.now c.args.places fresh

pub returns : goal.returns
returns c =
    order_number c.args.c.now c.args.places _ _ _ c.stage_of-stage.ensures (c.transactions-n.ensures.0 ∙ ap transactions_in c.window.ensures.log_is) c.test_stage.ensures
