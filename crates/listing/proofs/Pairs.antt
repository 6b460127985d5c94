-- Each two of an ascending list. Assumes nothing.
--     pairs_map, pairs_on        a function of each.        pairs_each      of each one with those above it: how the model lists them
--     two_not_few      two members are not few.        pairs_idle      a list without two has no pairs
use Prim.Native.Nat.{ℕ, ◌≤◌, ◌<◌}
use native.Mathlib.Omega.{arith}
use mathlib.Core.Path.{◌≡◌, refl, sym, ap, ap₂, ◌∙◌}
use mathlib.Core.Bool.{Bool, true, false, cond, ◌&&◌, ◌||◌}
use mathlib.Core.List.{List, [], ◌∷◌, ◌++◌, map}
use lib.Dec.{T, eqb, ltb, eqb→eq, lt→ltb}
use lib.ListN.{length}
use borrow.Author.Tests.{le-ltb}
use Rattle.model.specs.Lists.{any, keep, each, bit, All}
use Rattle.model.proofs.Basics.{eq-T, and_in, eq-eqb, All-imp, any_up_to_in}
use Rattle.graph.specs.Members.{members}
use Rattle.graph.proofs.MemberLaws.{Ascending, In, members_any}
use Rattle.listing.specs.Choosing.{in_row}
use Rattle.listing.specs.Runs.{pairs_of, pairs_in, is_few}
use Rattle.listing.proofs.Sequences.{map_app, map_all, each_all, keep_every}

pub pairs_map : {B C : Type 0} (g : B → C) (f : ℕ → List ℕ → List B) (xs : List ℕ) → map g (pairs_of f xs) ≡ pairs_of (λ i js. map g (f i js)) xs
unfolding pairs_of
pairs_map g f [] = refl
pairs_map g f (i ∷ js) = map_app g (f i js) (pairs_of f js) ∙ ap (λ l. map g (f i js) ++ l) (pairs_map g f js)

pub pairs_on : {B : Type 0} (f g : ℕ → ℕ → B) (P : ℕ → Type 0) (xs : List ℕ) → Ascending xs → All P xs → ((i j : ℕ) → P i → P j → i < j → f i j ≡ g i j)
    → pairs_of (λ i js. map (f i) js) xs ≡ pairs_of (λ i js. map (g i) js) xs
unfolding pairs_of
pairs_on f g P [] s a e = refl
pairs_on f g P (i ∷ js) s a e = ap₂ (λ x y. x ++ y) (map_all (f i) (g i) js (above js s.0 a.1)) (pairs_on f g P js s.1 a.1 e)
  where
    above : (ks : List ℕ) → All (λ y. i < y) ks → All P ks → All (λ j. f i j ≡ g i j) ks
    above [] l b = tt
    above (k ∷ ks) l b = (e i k a.0 b.0 l.0, above ks l.1 b.1)

pub pairs_each : {B : Type 0} (f : ℕ → List ℕ → List B) (xs : List ℕ) → Ascending xs → pairs_of f xs ≡ each (λ i. f i (keep (ltb i) xs)) xs
unfolding pairs_of
pairs_each f [] s = refl
pairs_each f (i ∷ js) s =
    ap₂ (λ x y. x ++ y)
    (ap (f i) (sym (ap (λ b. cond b (i ∷ keep (ltb i) js) (keep (ltb i) js)) (le-ltb i i (omega arith)) ∙ keep_every (ltb i) js (All-imp (λ y. i < y) (λ y. T (ltb i y)) (λ y l. lt→ltb i y l) js s.0))))
    (pairs_each f js s.1
    ∙ each_all (λ k. f k (keep (ltb k) js)) (λ k. f k (cond (ltb k i) (i ∷ keep (ltb k) js) (keep (ltb k) js))) js
    (All-imp (λ y. i < y) (λ k. f k (keep (ltb k) js) ≡ f k (cond (ltb k i) (i ∷ keep (ltb k) js) (keep (ltb k) js)))
    (λ k l. ap (f k) (sym (ap (λ b. cond b (i ∷ keep (ltb k) js) (keep (ltb k) js)) (le-ltb k i (omega arith))))) js s.0))

-- ---- fewer than two

pub two_not_few : (w i j : ℕ) → In w i → In w j → i < j → is_few w ≡ false
unfolding is_few
two_not_few w i j p q l = le-ltb (length (members w)) 2 (go (members w) (found i p) (found j q))
  where
    found : (x : ℕ) → In w x → T (any (eqb x) (members w))
    found x p = eq-T (sym (members_any w (eqb x))) (any_up_to_in (λ u. bit w u && eqb x u) 32 x p.low (and_in (bit w x) (eqb x x) p.is (eq-eqb {m = x} {n = x} refl)))

    go : (xs : List ℕ) → T (any (eqb i) xs) → T (any (eqb j) xs) → 2 ≤ length xs
    go [] a b = absurd a
    go (x ∷ []) a b = absurd (omega (arith, same i a, same j b))
      where
        same : (y : ℕ) → T (eqb y x || false) → y ≡ x
        same y c = eqb→eq y x (only (eqb y x) c)
          where
            only : (b : Bool) → T (b || false) → T b
            only true c = tt
            only false c = c
    go (x ∷ (y ∷ xs)) a b = omega arith

pub pairs_idle : (k w : ℕ) (xs : List ℕ) → Ascending xs → All (In w) xs → ((i j : ℕ) → In w i → In w j → i < j → ⊥) → pairs_in k xs ≡ []
unfolding pairs_in pairs_of in_row
pairs_idle k w [] s a f = refl
pairs_idle k w (x ∷ []) s a f = refl
pairs_idle k w (x ∷ (y ∷ xs)) s a f = absurd (f x y a.0 a.1.0 s.0.0)
