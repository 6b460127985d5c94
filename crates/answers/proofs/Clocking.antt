-- The number of a window's times, test by test as the code makes them, and begins before ends as the code compares them, pair by pair. Assumes nothing.
--     apart, other     37: two lengths, or one that is neither 0 nor T.        far, late       38: the drift, a begin after its end.       good        0
use Prim.Native.Nat.{ℕ, zero, suc, ◌≤◌, ◌<◌}
use native.Mathlib.Omega.{arith}
use mathlib.Core.Path.{◌≡◌, sym, subst, ◌∙◌}
use mathlib.Core.Logic.{inl, inr, ⊎_elim, ◌≢◌}
use mathlib.Core.Bool.{Bool, true, false, not, ◌&&◌}
use mathlib.Core.List.{List, [], ◌∷◌}
use lib.Dec.{T, eqb, leb, leb→le, nleb→lt}
use lib.ListN.{length, get_or}
use Rattle.std.specs.List.{list_all, zip}
use Rattle.model.specs.Lists.{all, up_to}
use Rattle.model.specs.Times.{Times, in_turn, times_number}
use Rattle.model.specs.Refusals.{Matching}
use Rattle.model.proofs.Basics.{eq-T, eqb_ne, ne_eqb, and_l, and_r, and_in, same?, iff_eq, all_up_to_in, all_up_to_out, not_all_up_to_out}
use Rattle.model.proofs.Times.{times_37, times_38, times_good}

-- ---- no begin after its end, pair by pair

abbrev pairwise : ℕ × ℕ → Bool
pairwise p = leb p.0 p.1

abbrev turn : List ℕ → List ℕ → ℕ → Bool
turn begins ends t = leb (get_or begins t 0) (get_or ends t 0)

zipped_in : (bs es : List ℕ) → length bs ≡ length es → ((i : ℕ) → i < length bs → T (turn bs es i)) → T (list_all pairwise (zip bs es))
zipped_in [] es l f = tt
zipped_in (b ∷ bs) [] l f = absurd (omega (arith, l))
zipped_in (b ∷ bs) (e ∷ es) l f =
    and_in (leb b e) (list_all pairwise (zip bs es)) (f 0 (omega arith)) (zipped_in bs es (omega (arith, l)) (λ i h. f (suc i) (omega arith)))

zipped_out : (bs es : List ℕ) → length bs ≡ length es → T (list_all pairwise (zip bs es)) → (i : ℕ) → i < length bs → T (turn bs es i)
zipped_out [] es l t i h = absurd (omega arith)
zipped_out (b ∷ bs) [] l t i h = absurd (omega (arith, l))
zipped_out (b ∷ bs) (e ∷ es) l t zero h = and_l (leb b e) (list_all pairwise (zip bs es)) t
zipped_out (b ∷ bs) (e ∷ es) l t (suc i) h = zipped_out bs es (omega (arith, l)) (and_r (leb b e) (list_all pairwise (zip bs es)) t) i (omega arith)

turn_by_turn : (bs es : List ℕ) → length bs ≡ length es → list_all pairwise (zip bs es) ≡ all (λ t. leb (get_or bs t 0) (get_or es t 0)) (up_to (length bs))
turn_by_turn bs es l =
    iff_eq (list_all pairwise (zip bs es)) (all (turn bs es) (up_to (length bs)))
    (λ t. all_up_to_in (turn bs es) (length bs) (zipped_out bs es l t))
    (λ t. zipped_in bs es l (all_up_to_out (turn bs es) (length bs) t))

-- so what the code finds of two lists as long is what the model says of them
pub turned : (bs es : List ℕ) (x y : Bool) → length bs ≡ length es → x ≡ list_all pairwise (zip bs es) → x ≡ y → all (λ t. leb (get_or bs t 0) (get_or es t 0)) (up_to (length bs)) ≡ y
turned bs es x y l is e = sym (turn_by_turn bs es l) ∙ sym is ∙ e

-- ---- the number

module _ (n : ℕ) (ts : Times) where
  abbrev k : ℕ
  k = length ts.begins

  pub apart : k ≢ length ts.ends → times_number n ts ≡ 37
  apart f = times_37 n ts (⊎_elim (λ l. f (l.0 ∙ sym l.1)) (λ l. f (l.0 ∙ sym l.1)))

  module _ (same : k ≡ length ts.ends) where
    pub other : (not (eqb k 0) && not (eqb k n)) ≡ true → times_number n ts ≡ 37
    other e =
        let t = eq-T (sym e) tt in
        let a = eqb_ne {m = k} {n = 0} (and_l (not (eqb k 0)) (not (eqb k n)) t) in
        let b = eqb_ne {m = k} {n = n} (and_r (not (eqb k 0)) (not (eqb k n)) t) in
        times_37 n ts (⊎_elim (λ l. a l.0) (λ l. b l.0))

    module _ (lists : (not (eqb k 0) && not (eqb k n)) ≡ false) where
      matching : Matching n ts
      matching =
          ⊎_elim (λ (z : k ≡ 0). inl (z, sym same ∙ z))
          (λ (f : k ≢ 0).
          ⊎_elim (λ (z : k ≡ n). inr (z, sym same ∙ z))
          (λ (g : k ≢ n). absurd (eq-T lists (and_in (not (eqb k 0)) (not (eqb k n)) (ne_eqb f) (ne_eqb g))))
          (same? k n))
          (same? k 0)

      pub far : 3600 < ts.drift → times_number n ts ≡ 38
      far l = times_38 n ts matching (inr l)

      module _ (low : ts.drift ≤ 3600) where
        pub late : in_turn ts ≡ false → times_number n ts ≡ 38
        late e =
            let x = not_all_up_to_out (λ t. leb (get_or ts.begins t 0) (get_or ts.ends t 0)) k (not_T e) in
            times_38 n ts matching (inl (x.0, x.2, nleb→lt (get_or ts.begins x.0 0) (get_or ts.ends x.0 0) x.1))
          where
            not_T : {b : Bool} → b ≡ false → T (not b)
            not_T e = subst (λ x. T (not x)) (sym e) tt

        pub good : in_turn ts ≡ true → times_number n ts ≡ 0
        good e =
            times_good n ts
            (record {
              lengths = matching;
              ordered = λ t l.
                  leb→le (get_or ts.begins t 0) (get_or ts.ends t 0) (all_up_to_out (λ t. leb (get_or ts.begins t 0) (get_or ts.ends t 0)) k (eq-T (sym e) tt) t l);
              short = low;
            })
