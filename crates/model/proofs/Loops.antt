-- The definitions as loops meet them: one round more, and masks as code tests them. Assumes nothing.
use Prim.Native.Nat.{ℕ, zero, suc, ◌+◌, ◌^◌, ◌≤◌, ◌<◌}
use native.Mathlib.Omega.{arith}
use native.Mathlib.Nat.{not-suc-le-zero}
use mathlib.Core.Path.{◌≡◌, refl, sym, ap, ap₂, subst, ◌∙◌}
use mathlib.Core.Logic.{⊎_elim, ◌≢◌}
use mathlib.Core.Bool.{Bool, true, false, not, cond, ◌&&◌, ◌||◌, or_comm}
use mathlib.Core.List.{List, [], ◌∷◌, ◌++◌, map, append-nil, append_assoc}
use lib.Dec.{T, eqb}
use lib.Bits.{bit_and, bit_or, and_le_l}
use lib.ListN.{length, get_or, take}
use Rattle.model.specs.Lists.{any, keep, each, fold, up_to, count, up_to_element, bit, word_of}
use Rattle.model.specs.History.{History, writes, last_writer}
use Rattle.model.specs.Polygraph.{Constraint, Polygraph, row, has, with_side, reach, closed_off, pass}
use Rattle.model.proofs.Basics.{decide, clash, not_intro, true_eq, false_eq, eq-eqb, ne_eqb, same?, any_up_to_out, any_up_to_in}
use Rattle.model.proofs.Places.{Once, once_tail, count_here, count_there}
use Rattle.model.proofs.Masks.{bit_and_lem, bit_or_lem, bit_one, bit_none, word_bits}

-- ---- one element more

module _ {A B : Type 0} where
  pub each_snoc : (f : A → List B) (xs : List A) (y : A) → each f (xs ++ (y ∷ [])) ≡ each f xs ++ f y
  each_snoc f [] y = append-nil (f y)
  each_snoc f (x ∷ xs) y = ap (λ l. f x ++ l) (each_snoc f xs y) ∙ sym (append_assoc (f x) (each f xs) (f y))

  pub map_snoc : (f : A → B) (xs : List A) (y : A) → map f (xs ++ (y ∷ [])) ≡ map f xs ++ (f y ∷ [])
  map_snoc f [] y = refl
  map_snoc f (x ∷ xs) y = ap (λ l. f x ∷ l) (map_snoc f xs y)

  pub fold_snoc : (f : B → A → B) (s : B) (xs : List A) (y : A) → fold f s (xs ++ (y ∷ [])) ≡ f (fold f s xs) y
  fold_snoc f s [] y = refl
  fold_snoc f s (x ∷ xs) y = fold_snoc f (f s x) xs y

module _ {A : Type 0} (p : A → Bool) where
  pub keep_snoc : (xs : List A) (y : A) → keep p (xs ++ (y ∷ [])) ≡ keep p xs ++ cond (p y) (y ∷ []) []
  keep_snoc [] y = refl
  keep_snoc (x ∷ xs) y = go (p x) (keep_snoc xs y)
    where
      go : (b : Bool) → keep p (xs ++ (y ∷ [])) ≡ keep p xs ++ cond (p y) (y ∷ []) []
          → cond b (x ∷ keep p (xs ++ (y ∷ []))) (keep p (xs ++ (y ∷ []))) ≡ cond b (x ∷ keep p xs) (keep p xs) ++ cond (p y) (y ∷ []) []
      go true e = ap (λ l. x ∷ l) e
      go false e = e

  pub any_snoc : (xs : List A) (y : A) → any p (xs ++ (y ∷ [])) ≡ (any p xs || p y)
  any_snoc [] y = or_comm (p y) false
  any_snoc (x ∷ xs) y = go (p x) (any_snoc xs y)
    where
      go : (b : Bool) → any p (xs ++ (y ∷ [])) ≡ (any p xs || p y) → (b || any p (xs ++ (y ∷ []))) ≡ (b || any p xs || p y)
      go true e = refl
      go false e = e

-- ---- replay, transaction by transaction

pub last_writer_snoc : (h : History) (k d : ℕ) (xs : List ℕ) (x : ℕ) → last_writer h k d (xs ++ (x ∷ [])) ≡ cond (writes h x k) x (last_writer h k d xs)
unfolding last_writer
last_writer_snoc h k d [] x = refl
last_writer_snoc h k d (y ∷ xs) x = last_writer_snoc h k (cond (writes h y k) y d) xs x

-- what stands before the element at place i is the first i elements
pub before_take : (o : List ℕ) → Once o → (i : ℕ) → i < length o → up_to_element (get_or o i 0) o ≡ take i o
before_take [] once i l = absurd (not-suc-le-zero l)
before_take (x ∷ o) once zero l = ap (λ b. cond b [] (x ∷ up_to_element x o)) (true_eq (eqb x x) (lib.Dec.eqb_refl x))
before_take (x ∷ o) once (suc i) l =
    ap (λ b. cond b [] (x ∷ up_to_element (get_or o i 0) o)) (false_eq (eqb x (get_or o i 0)) (ne_eqb differs))
    ∙ ap (λ l. x ∷ l) (before_take o (once_tail x o once) i (omega arith))
  where
    found : (o : List ℕ) (i : ℕ) → i < length o → 1 ≤ count (get_or o i 0) o
    found [] i l = absurd (not-suc-le-zero l)
    found (y ∷ o) zero l = omega (arith, count_here y y o refl)
    found (y ∷ o) (suc i) l =
        ⊎_elim (λ (e : y ≡ get_or o i 0). omega (arith, count_here y (get_or o i 0) o e))
        (λ (e : y ≢ get_or o i 0). omega (arith, count_there y (get_or o i 0) o e, found o i (omega arith))) (same? y (get_or o i 0))

    differs : x ≢ get_or o i 0
    differs e = omega (arith, once (get_or o i 0), count_here x (get_or o i 0) o e, found o i (omega arith))

-- ---- masks

-- a word is not 0 if and only if it has a bit
pub any_bit : (n w : ℕ) → w < 2 ^ n → any (bit w) (up_to n) ≡ not (eqb w 0)
any_bit n w l =
    ⊎_elim
    (λ (t : T (any (bit w) (up_to n))).
    let z = any_up_to_out (bit w) n t in
    true_eq (any (bit w) (up_to n)) t
    ∙ sym (ap not (false_eq (eqb w 0) (ne_eqb (λ (e : w ≡ 0). none z.0 (subst (λ x. T (bit x z.0)) e z.1))))))
    (λ t.
    let e : w ≡ 0 = sym (word_bits n w l) ∙ zeros n (bit w) (λ i k. not_intro (bit w i) (λ b. clash (any (bit w) (up_to n)) (any_up_to_in (bit w) n i k b) t)) in
    false_eq (any (bit w) (up_to n)) t ∙ sym (ap not (true_eq (eqb w 0) (eq-eqb e))))
    (decide (any (bit w) (up_to n)))
  where
    none : (s : ℕ) → T (bit 0 s) → ⊥
    none s t = subst T (bit_none s) t

    zeros : (n : ℕ) (p : ℕ → Bool) → ((i : ℕ) → i < n → T (not (p i))) → word_of n p ≡ 0
    zeros zero p f = refl
    zeros (suc n) p f =
        ap (λ b. cond b (word_of n p + 2 ^ n) (word_of n p)) (false_eq (p n) (f n (omega arith))) ∙ zeros n p (λ i k. f i (omega arith))

any_same : {A : Type 0} (p q : A → Bool) (xs : List A) → ((x : A) → p x ≡ q x) → any p xs ≡ any q xs
any_same p q [] f = refl
any_same p q (x ∷ xs) f = ap₂ (λ a b. a || b) (f x) (any_same p q xs f)

-- closed off, as code tests it: from & (reached[to] | 1 << to) != 0
pub closed_mask : (g : List ℕ) (from to : ℕ) → from < 2 ^ 32 → closed_off g from to ≡ not (eqb (bit_and from (bit_or (row (reach g) to) (2 ^ to))) 0)
unfolding closed_off
closed_mask g from to l =
    let w = bit_or (row (reach g) to) (2 ^ to) in
    any_same (λ s. bit from s && (eqb s to || has (reach g) to s)) (bit (bit_and from w)) (up_to 32)
    (λ s.
    ap (λ x. bit from s && x) (or_comm (eqb s to) (has (reach g) to s) ∙ ap (λ x. has (reach g) to s || x) (sym (bit_one to s)) ∙ sym (bit_or_lem (row (reach g) to) (2 ^ to) s))
    ∙ sym (bit_and_lem from w s))
    ∙ any_bit 32 (bit_and from w) (omega (arith, and_le_l from w))

-- ---- a pass, constraint by constraint

-- closed off at A: A is dropped and B's edges are added
module _ (g : List ℕ) (c : Constraint) (cs : List Constraint) where
  abbrev held : Polygraph
  held = record { known = (pass g cs).known; choices = c ∷ (pass g cs).choices }

  abbrev pick : Bool → Bool → Polygraph
  pick a b = cond a (pass (with_side g c.fromB c.toB) cs) (cond b (pass (with_side g c.fromA c.toA) cs) held)

  pass_cons : pass g (c ∷ cs) ≡ pick (closed_off g c.fromA c.toA) (closed_off g c.fromB c.toB)
  unfolding pass
  pass_cons = refl

  pub pass-A : T (closed_off g c.fromA c.toA) → pass g (c ∷ cs) ≡ pass (with_side g c.fromB c.toB) cs
  pass-A t = pass_cons ∙ ap (λ a. pick a (closed_off g c.fromB c.toB)) (true_eq (closed_off g c.fromA c.toA) t)

  pub pass-B : T (not (closed_off g c.fromA c.toA)) → T (closed_off g c.fromB c.toB) → pass g (c ∷ cs) ≡ pass (with_side g c.fromA c.toA) cs
  pass-B s t =
      pass_cons ∙ ap₂ pick (false_eq (closed_off g c.fromA c.toA) s) (true_eq (closed_off g c.fromB c.toB) t)

  pub pass_holds : T (not (closed_off g c.fromA c.toA)) → T (not (closed_off g c.fromB c.toB)) → pass g (c ∷ cs) ≡ held
  pass_holds s t =
      pass_cons ∙ ap₂ pick (false_eq (closed_off g c.fromA c.toA) s) (false_eq (closed_off g c.fromB c.toB) t)
