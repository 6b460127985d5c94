-- A body of which no fault bit is set has the number 0, whatever was read back: it is no read-back itself. Assumes nothing.
use Prim.Native.Nat.{ℕ, ◌^◌, ◌/◌, ◌%◌, ◌<◌}
use native.Mathlib.Omega.{arith}
use mathlib.Core.Path.{◌≡◌, refl, sym, ap, ap₂, subst, ◌∙◌}
use mathlib.Core.Logic.{⊎_elim}
use mathlib.Core.Bool.{Bool, true, false, not, cond, ◌&&◌, ◌||◌}
use lib.Dec.{T, eqb}
use lib.Bits.{bit_and, bit_or, or_add_and, and_le_l, and_le_r}
use Rattle.model.specs.Lists.{bit}
use Rattle.model.proofs.Basics.{true_eq, false_eq, decide}
use Rattle.model.proofs.Masks.{bit_or_lem, bit_and_lem, bit_none, bit_one}
use borrow.Author.Tests.{eq-eqb, le-ltb}
use Rattle.rules.specs.Tests.{named, back_by, read_by, write_by, body_by, faults_by, mark_by}
use Rattle.rules.specs.declared.Body.{Body}

-- no bit is set in a union where none is in either part
pub or_none : (a b : ℕ) → bit_or a b ≡ 0 → (a ≡ 0) × (b ≡ 0)
or_none a b e = (omega (arith, e, or_add_and a b, and_le_r a b), omega (arith, e, or_add_and a b, and_le_l a b))

-- the bit of a key
one_bit : (k : ℕ) → bit (bit_or 0 (2 ^ k)) k ≡ true
one_bit k = bit_or_lem 0 (2 ^ k) k ∙ ap₂ (λ x y. x || y) (bit_none k) (bit_one k k ∙ eq-eqb k k refl)

and_none : (x k : ℕ) → bit_and x (bit_or 0 (2 ^ k)) ≡ 0 → T (not (bit x k))
and_none x k e = go (bit x k) (ap (λ y. bit x k && y) (sym (one_bit k)) ∙ sym (bit_and_lem x (bit_or 0 (2 ^ k)) k) ∙ ap (λ y. bit y k) e ∙ bit_none k)
  where
    go : (y : Bool) → (y && true) ≡ false → T (not y)
    go true p = subst (λ z. T (not z)) (sym p) tt
    go false p = tt

pub faults_kind : (o : Body) (n reads writes : ℕ) → faults_by o n reads writes ≡ 0 → o.kind < 2
unfolding faults_by
faults_kind o n reads writes s =
    let low = (or_none (o.kind / 2) (o.key / 32) (or_none (bit_or (o.kind / 2) (o.key / 32)) _ (or_none _ _ s).0).0).0 in omega (arith, low)

pub faults_good : (o : Body) (n t reads writes backs : ℕ) → faults_by o n reads writes ≡ 0 → (o.key < 32) × (body_by o n t reads writes backs ≡ 0)
unfolding faults_by body_by read_by back_by write_by mark_by
faults_good o n t reads writes backs s =
    let one = or_none (bit_or (bit_or (o.kind / 2) (o.key / 32)) (bit_or (bit_and reads read) (bit_and writes (bit_or 0 (2 ^ key))))) (cond (named n o.argument) 0 read) s in
    let two = or_none (bit_or (o.kind / 2) (o.key / 32)) (bit_or (bit_and reads read) (bit_and writes (bit_or 0 (2 ^ key)))) one.0 in
    let low : (o.kind / 2 ≡ 0) × (o.key / 32 ≡ 0) = or_none (o.kind / 2) (o.key / 32) two.0 in
    let seen = or_none (bit_and reads read) (bit_and writes (bit_or 0 (2 ^ key))) two.1 in
    let same : key ≡ o.key = omega (arith, low.1) in (
      omega (arith, low.1),
      ap₂ {C = ℕ} (λ (x y : Bool). cond x 7 (cond y 8 body)) (le-ltb 1 o.kind (omega (arith, low.0))) (le-ltb 31 o.key (omega (arith, low.1)))
          ∙ go (eqb o.kind 0) (named n o.argument) (bit reads o.key) (bit writes o.key) back
          (λ z. (name (true_eq (eqb o.kind 0) z) one.1, subst (λ k. T (not (bit reads k))) same (and_none reads key (ap (bit_and reads) (sym (bit_is (true_eq (eqb o.kind 0) z))) ∙ seen.0))))
          (subst (λ k. T (not (bit writes k))) same (and_none writes key seen.1)),
    )
  where
    key : ℕ
    key = o.key % 32

    read : ℕ
    read = cond (eqb o.kind 0) (bit_or 0 (2 ^ key)) 0

    back : ℕ
    back = cond (bit backs o.key) 10 (cond (eqb o.argument t) 0 11)

    body : ℕ
    body =
        cond (eqb o.kind 0) (cond (named n o.argument) (cond (bit writes o.key) back (cond (bit reads o.key) 10 0)) 9)
        (cond (bit writes o.key) 34 0)

    bit_is : eqb o.kind 0 ≡ true → read ≡ bit_or 0 (2 ^ key)
    bit_is e = ap (λ (x : Bool). cond x (bit_or 0 (2 ^ key)) 0) e

    -- a read's bit is set, so that its argument names something
    name : eqb o.kind 0 ≡ true → cond (named n o.argument) 0 read ≡ 0 → T (named n o.argument)
    name e q =
        ⊎_elim (λ y. y) (λ y. absurd (subst T (sym (one_bit key) ∙ ap (λ x. bit x key) (sym (bit_is e) ∙ sym (ap (λ (x : Bool). cond x 0 read) (false_eq (named n o.argument) y)) ∙ q) ∙ bit_none key) tt)) (decide (named n o.argument))

    go : (z m r w : Bool) (k : ℕ) → (T z → T m × T (not r)) → T (not w) → ◌≡◌ {A = ℕ} (cond z (cond m (cond w k (cond r 10 0)) 9) (cond w 34 0)) 0
    go z m r true k f e = absurd e
    go false m r false k f e = refl
    go true false r false k f e = absurd (f tt).0
    go true true true false k f e = absurd (f tt).1
    go true true false false k f e = refl
