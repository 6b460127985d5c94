use mathlib.Core.Path.{◌≡◌, sym, ap, ◌∙◌}
use mathlib.Core.Bool.{Bool, not, ◌&&◌}
use Prim.Native.Nat.{◌^◌}
use lib.Dec.{eqb}
use borrow.Author.Tests.{eq-eqb, ne_eqb}
use Rattle.graph.proofs.Rows.{one_shl}
use Rattle.search.specs.Orders.{opposed}
use Rattle.search.proofs.order.opposite.Goals as goal
use Rattle.search.proofs.order.opposite.Goals.{then-k, else-k}

pub returns-then-k-2 : goal.returns-then-k-2
unfolding opposed
returns-then-k-2 c =
    let k = c.args.k in
    let both : c.if-k.value ≡ (eqb k.fromA (2 ^ k.toB) && eqb k.fromB (2 ^ k.toA)) =
    elim c.if-k.branch [
      | then-k w ↦ w.value-is ∙ ap (eqb k.fromB) (one_shl k.toA c.requires.0) ∙ sym (ap {B = Bool} (λ x. x && eqb k.fromB (2 ^ k.toA)) (eq-eqb k.fromA (2 ^ k.toB) (w.if-k.true ∙ one_shl k.toB c.requires.1)))
      | else-k w ↦ w.value-is ∙ ne_eqb _ _ w.if-k.false ∙ sym (ap {B = Bool} (λ x. x && eqb k.fromB (2 ^ k.toA)) (ne_eqb k.fromA (2 ^ k.toB) (λ e. w.if-k.false (e ∙ sym (one_shl k.toB c.requires.1)))))
    ]
    in
    sym (ap {B = Bool} (λ x. x && not (eqb k.toA k.toB)) (sym both ∙ c.if-k-2.true))

pub returns-else-k-2 : goal.returns-else-k-2
unfolding opposed
returns-else-k-2 c =
    let k = c.args.k in
    let both : c.if-k.value ≡ (eqb k.fromA (2 ^ k.toB) && eqb k.fromB (2 ^ k.toA)) =
    elim c.if-k.branch [
      | then-k w ↦ w.value-is ∙ ap (eqb k.fromB) (one_shl k.toA c.requires.0) ∙ sym (ap {B = Bool} (λ x. x && eqb k.fromB (2 ^ k.toA)) (eq-eqb k.fromA (2 ^ k.toB) (w.if-k.true ∙ one_shl k.toB c.requires.1)))
      | else-k w ↦ w.value-is ∙ ne_eqb _ _ w.if-k.false ∙ sym (ap {B = Bool} (λ x. x && eqb k.fromB (2 ^ k.toA)) (ne_eqb k.fromA (2 ^ k.toB) (λ e. w.if-k.false (e ∙ sym (one_shl k.toB c.requires.1)))))
    ]
    in
    c.if-k-2.false ∙ sym (ap {B = Bool} (λ x. x && not (eqb k.toA k.toB)) (sym both ∙ c.if-k-2.false))
