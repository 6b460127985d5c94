-- The list of the first n numbers' constraints, one after another. Assumes nothing.
--     items_none, items_next, items_length      of no number, of one more; how many.        items_take      of numbers that are known.        items_aimed
--     upto_none, upto_next, upto_all      a loop that writes them
use mathlib.Core.Path.{◌≡◌, refl, sym, ◌∙◌, ap, subst}
use mathlib.Core.Bool.{Bool, true, false}
use lib.Dec.{eqb}
use Prim.Native.Nat.{ℕ, zero, suc, ◌+◌, ◌<◌, ◌≤◌}
use native.Mathlib.Numerals.{add-one}
use native.Mathlib.Omega.{arith}
use mathlib.Core.List.{List, [], ◌∷◌, ◌++◌, map, append_assoc, append-nil}
use lib.ListN.{length, set, get_or, take, drop, drop_of_length-le}
use lib.Seq.{drop-cons, set_at, take-suc}
use Rattle.model.specs.Lists.{up_to}
use Rattle.model.specs.declared.Constraint.{Constraint}
use Rattle.model.specs.Lent.{no_constraint}
use Rattle.model.proofs.Loops.{map_snoc}
use Rattle.model.proofs.Words.{length_up_to, get_or_up_to}
use Rattle.listing.specs.Candidates.{chain_item, plain_item, pair_item, choose, item_by, items_by}

-- the targets of a constraint are transactions
pub item_aimed : (t : List ℕ) (c : ℕ) → ((item_by t c).toA < 32) × ((item_by t c).toB < 32)
unfolding item_by chain_item plain_item pair_item
item_aimed t c = go (eqb (get_or t 1024 0) 2) (eqb (get_or t 1024 0) 0)
  where
    go : (a b : Bool) → ((choose a (chain_item t c) (choose b (plain_item t c) (pair_item t c))).toA < 32) × ((choose a (chain_item t c) (choose b (plain_item t c) (pair_item t c))).toB < 32)
    go true b = (omega arith, omega arith)
    go false true = (omega arith, omega arith)
    go false false = (omega arith, omega arith)

module _ (t ks : List ℕ) where
  items_none : items_by t ks 0 ≡ []
  unfolding items_by
  items_none = refl

  pub items_next : (n : ℕ) → items_by t ks (suc n) ≡ items_by t ks n ++ (item_by t (get_or ks n 0) ∷ [])
  unfolding items_by
  items_next n = map_snoc (λ i. item_by t (get_or ks i 0)) (up_to n) n

  pub items_length : (n : ℕ) → length (items_by t ks n) ≡ n
  unfolding items_by
  items_length n = length_up_to (λ i. item_by t (get_or ks i 0)) n

  pub items_take : (n : ℕ) → n ≤ length ks → items_by t ks n ≡ map (item_by t) (take n ks)
  items_take zero l = items_none
  items_take (suc n) l =
      items_next n ∙ ap (λ x. x ++ (item_by t (get_or ks n 0) ∷ [])) (items_take n (omega arith)) ∙ sym (map_snoc (item_by t) (take n ks) (get_or ks n 0))
      ∙ ap (map (item_by t)) (sym (take-suc ks n 0 (omega arith)))

  -- their targets are transactions
  pub items_aimed : (n k : ℕ) → k < n → ((get_or (items_by t ks n) k no_constraint).toA < 32) × ((get_or (items_by t ks n) k no_constraint).toB < 32)
  unfolding items_by
  items_aimed n k l =
      subst (λ (x : Constraint). (x.toA < 32) × (x.toB < 32)) (sym (get_or_up_to (λ i. item_by t (get_or ks i 0)) no_constraint n k l)) (item_aimed t (get_or ks k 0))

  -- ---- written to places ys, one after another

  module _ (ys : List Constraint) where
    pub upto_none : ys ≡ items_by t ks 0 ++ ys
    upto_none = sym (ap (λ x. x ++ ys) items_none)

    pub upto_next : (i : ℕ) (l : List Constraint) (v : Constraint) → i < length ys → l ≡ items_by t ks i ++ drop i ys → v ≡ item_by t (get_or ks i 0)
        → set l i v ≡ items_by t ks (i + 1) ++ drop (i + 1) ys
    upto_next i l v h u e =
        ap (λ (k : List Constraint). set k i v) (u ∙ ap (λ (k : List Constraint). items_by t ks i ++ k) (drop-cons ys i no_constraint h))
        ∙ set_at (items_by t ks i) (get_or ys i no_constraint) (drop (suc i) ys) v i (items_length i) ∙ ap (λ (w : Constraint). items_by t ks i ++ (w ∷ drop (suc i) ys)) e
        ∙ sym (append_assoc (items_by t ks i) (item_by t (get_or ks i 0) ∷ []) (drop (suc i) ys)) ∙ ap (λ x. x ++ drop (suc i) ys) (sym (items_next i))
        ∙ ap (λ n. items_by t ks n ++ drop n ys) (sym (add-one i))

    -- n places have the first n constraints
    pub upto_all : (i n : ℕ) (l : List Constraint) → i ≡ n → length ys ≡ n → l ≡ items_by t ks i ++ drop i ys → l ≡ items_by t ks n
    upto_all i n l e h u =
        u ∙ ap (λ k. items_by t ks k ++ drop k ys) e ∙ ap (λ x. items_by t ks n ++ x) (drop_of_length-le ys {i = n} (omega arith)) ∙ append-nil (items_by t ks n)
