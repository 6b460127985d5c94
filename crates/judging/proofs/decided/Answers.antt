use Rattle.std.specs.Prelude.{Ok}
use Rattle.answers.specs.declared.Verdict.TheVariants.{Order, NoOrder}
use Rattle.judging.proofs.Outcomes.{text_decided, said}
use Rattle.report.proofs.Texts.{wrote_as}
use mathlib.Core.Path.{◌≡◌, sym, subst}
use Rattle.answers.specs.declared.Verdict.{Verdict}
use Rattle.judging.proofs.decided.Goals as goal

pub ordered-requires : goal.ordered-requires
ordered-requires c =
    let here : c.in-Ok-Order.field-0 ≡ Order = rw c.in-Ok-Order.is at c.in-Ok-Order.field-0-is in
    let is : c.args.d.verdict ≡ Ok Order = subst (λ (v : Verdict). c.args.d.verdict ≡ Ok v) here c.in-Ok-Order.is in
    (said _ c.args.log.taken _ c.requires.0 (Ok Order) is, c.requires.1)

pub returns-in-Ok-Order : goal.returns-in-Ok-Order
returns-in-Ok-Order c = wrote_as (sym (text_decided _ c.args.log.taken)) c.ordered.ensures

pub returns-in-Ok-NoOrder : goal.returns-in-Ok-NoOrder
returns-in-Ok-NoOrder c =
    let here : c.in-Ok-NoOrder.field-0 ≡ NoOrder = rw c.in-Ok-NoOrder.is at c.in-Ok-NoOrder.field-0-is in
    let is : c.args.d.verdict ≡ Ok NoOrder = subst (λ (v : Verdict). c.args.d.verdict ≡ Ok v) here c.in-Ok-NoOrder.is in
    wrote_as (sym (said _ c.args.log.taken _ c.requires.0 (Ok NoOrder) is)) c.none_text.ensures

-- Decide never refuses here
pub unreachable-requires : goal.unreachable-requires
unreachable-requires c = said _ c.args.log.taken _ c.requires.0 _ c.in-Err.is
