use Rattle.answers.proofs.Answering.{judged_none, judged_some}
use Rattle.model.specs.History.{is_order}
use Prim.Native.Nat.{ℕ}
use mathlib.Core.Bool.{true, false}
use mathlib.Core.Path.{sym, ap, ◌∙◌}
use Rattle.answers.proofs.judging.judged.Goals as goal

pub returns-then-not-is_order : goal.returns-then-not-is_order
returns-then-not-is_order c =
    let a = c.args in
    judged_none _ _ _ (sym (ap (λ (n : ℕ). is_order n a.proposed.now) c.transactions-n.ensures.0) ∙ sym c.is_order.ensures ∙ c.if-not-is_order.true)

pub returns-then-is_legal : goal.returns-then-is_legal
returns-then-is_legal c =
    let a = c.args in
    judged_some _ _ _ true (sym (ap (λ (n : ℕ). is_order n a.proposed.now) c.transactions-n.ensures.0) ∙ sym c.is_order.ensures ∙ c.if-not-is_order.false)
    (sym c.is_legal.ensures ∙ c.if-is_legal.true)

pub returns-else-is_legal : goal.returns-else-is_legal
returns-else-is_legal c =
    let a = c.args in
    judged_some _ _ _ false (sym (ap (λ (n : ℕ). is_order n a.proposed.now) c.transactions-n.ensures.0) ∙ sym c.is_order.ensures ∙ c.if-not-is_order.false)
    (sym c.is_legal.ensures ∙ c.if-is_legal.false)
