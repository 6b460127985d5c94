-- The constraints of candidates' numbers, put as words one after another. Assumes nothing.
use Prim.Native.Nat.{ℕ, suc, ◌+◌, ◌*◌, ◌<◌}
use native.Mathlib.Omega.{arith}
use native.Mathlib.Numerals.{add-one}
use mathlib.Core.Path.{◌≡◌, refl, sym, ap, ap₂, ◌∙◌}
use mathlib.Core.List.{List, [], ◌∷◌, ◌++◌}
use lib.ListN.{length, get_or}
use Rattle.model.specs.Lists.{up_to}
use Rattle.model.specs.declared.Constraint.{Constraint}
use Rattle.model.proofs.Basics.{up_to_in}
use Rattle.model.proofs.Loops.{map_snoc}
use Rattle.listing.specs.Candidates.{item_by, items_by}
use Rattle.listing.proofs.Lists.{items_next, items_length}
use Rattle.listing.proofs.Sequences.{map_all}
use Rattle.search.specs.Constraints.{con_at, list_of, with_words}
use Rattle.search.proofs.Puts.{put_long, put_new, put_same}
use Rattle.decision.specs.Words.{WordsOf}

module _ (w : List ℕ) (n : ℕ) (c : Constraint) where
  put_list : 4 * n + 3 < length w → list_of (with_words w n c) (suc n) ≡ list_of w n ++ (c ∷ [])
  unfolding list_of
  put_list l =
      map_snoc (con_at (with_words w n c)) (up_to n) n
      ∙ ap₂ (λ (x : List Constraint) (y : Constraint). x ++ (y ∷ []))
      (map_all (con_at (with_words w n c)) (con_at w) (up_to n) (up_to_in (λ i. con_at (with_words w n c) i ≡ con_at w i) n (put_same w n c))) (put_new w n c l)

-- ---- the loop

pub record Sofar (t ks : List ℕ) (m i : ℕ) (w : List ℕ) : Type 0 where
  pub long : length w ≡ m
  pub list : list_of w i ≡ items_by t ks i

module _ (t ks : List ℕ) (m : ℕ) where
  pub sofar_none : (w : List ℕ) → length w ≡ m → Sofar t ks m 0 w
  unfolding items_by list_of
  sofar_none w l = record { long = l; list = refl }

  pub sofar_next : (i : ℕ) (w : List ℕ) (c : Constraint) (v : List ℕ) → 4 * i + 3 < m → Sofar t ks m i w → c ≡ item_by t (get_or ks i 0) → v ≡ with_words w i c → Sofar t ks m (i + 1) v
  sofar_next i w c v l s e p = record {
    long = ap length p ∙ put_long w i c ∙ s.long;
    list = ap₂ list_of p (add-one i) ∙ put_list w i c (omega (arith, s.long)) ∙ ap₂ (λ (x : List Constraint) (y : Constraint). x ++ (y ∷ [])) s.list e
        ∙ sym (items_next t ks i) ∙ ap (items_by t ks) (sym (add-one i));
  }

  pub sofar_all : (i n : ℕ) (w : List ℕ) → i ≡ n → Sofar t ks m i w → WordsOf (items_by t ks n) n m w
  sofar_all i n w e s = record { count = sym (items_length t ks n); long = s.long; list = ap (list_of w) (sym e) ∙ s.list ∙ ap (items_by t ks) e }
