-- The order search goes on without constraints that are an edge against the same edge turned round. Assumes nothing.
--     lighter_none     at the start.        lighter_next     once one more is looked at
use Prim.Native.Nat.{ℕ}
use mathlib.Core.Path.{◌≡◌, sym, ap, subst, ◌∙◌}
use mathlib.Core.Logic.{◌≢◌, ⊎_elim}
use mathlib.Core.Bool.{Bool, true}
use mathlib.Core.List.{List}
use lib.Dec.{T}
use Rattle.model.specs.declared.Constraint.{Constraint}
use Rattle.model.proofs.Basics.{clash, decide, same?}
use Rattle.search.specs.Constraints.{con_at, is_open, Dropped}
use Rattle.search.specs.Orders.{opposed, Lighter}
use Rattle.search.proofs.Opens.{drop_fewer, drop_stays}

pub lighter_none : (w l : List ℕ) → Lighter w l l
lighter_none w l = record { fewer = λ i x. x; gone = λ i x y. absurd (clash (is_open l i) x y) }

pub lighter_next : (w l m m' : List ℕ) (j : ℕ) (k : Constraint) → Lighter w l m → true ≡ opposed k → k ≡ con_at w j → Dropped m j m' → Lighter w l m'
lighter_next w l m m' j k x e f drop = record {
  fewer = λ i y. x.fewer i (drop_fewer m m' j drop i y);
  gone = λ i y z.
      ⊎_elim
      (λ (o : T (is_open m i)).
      ⊎_elim (λ (q : i ≡ j). subst (λ (b : Bool). T b) (e ∙ ap opposed (f ∙ ap (con_at w) (sym q))) tt)
      (λ (q : i ≢ j). absurd (clash (is_open m' i) (drop_stays m m' j drop i o q) z)) (same? i j))
      (λ o. x.gone i y o) (decide (is_open m i));
}
