-- A finite acyclic relation has an order: sort by how many nodes reach a node. Assumes nothing.
use Prim.Native.Nat.{ℕ, zero, suc, ◌+◌, ◌≤◌, ◌<◌}
use native.Mathlib.Omega.{arith}
use native.Mathlib.Nat.{not-suc-le-zero}
use mathlib.Core.Path.{◌≡◌, refl, sym, ap, subst, ◌∙◌}
use mathlib.Core.Logic.{⊎_elim, ◌≢◌}
use mathlib.Core.Bool.{Bool, true, false, not, cond}
use mathlib.Core.List.{List, [], ◌∷◌, ◌++◌}
use lib.Dec.{T, eqb, ltb, lt→ltb}
use lib.ListN.{length}
use Rattle.model.specs.Lists.{All, all, keep, each, up_to, count, place}
use Rattle.model.specs.History.{is_order}
use Rattle.model.specs.Polygraph.{has, reach, Acyclic, RespectsKnown}
use Rattle.model.specs.RowWords.{Within}
use Rattle.model.proofs.Basics.{decide, clash, true_eq, false_eq, ne_eqb, eq-eqb, same?, and_in, All-imp, All-every, All-each-in, All-keep-in, up_to_in, all_in, all_up_to_in}
use Rattle.model.proofs.Places.{place_here, place_there, count_here, count_there, count_place, sum, sum_digits}
use Rattle.model.proofs.Words.{digit}
use Rattle.model.proofs.Loops.{each_snoc}
use Rattle.model.proofs.Reach.{reach_old, reach_trans, reach_way}

-- ---- lists put together

pub count_append : (t : ℕ) (xs ys : List ℕ) → count t (xs ++ ys) ≡ count t xs + count t ys
count_append t [] ys = omega arith
count_append t (x ∷ xs) ys =
    ⊎_elim (λ (e : x ≡ t). omega (arith, count_here x t xs e, count_here x t (xs ++ ys) e, count_append t xs ys))
    (λ (e : x ≢ t). omega (arith, count_there x t xs e, count_there x t (xs ++ ys) e, count_append t xs ys)) (same? x t)

pub place_in : (t : ℕ) (xs ys : List ℕ) → 1 ≤ count t xs → place t (xs ++ ys) ≡ place t xs
place_in t [] ys l = absurd (not-suc-le-zero l)
place_in t (x ∷ xs) ys l =
    ⊎_elim (λ (e : x ≡ t). place_here x t (xs ++ ys) e ∙ sym (place_here x t xs e))
    (λ (e : x ≢ t). place_there x t (xs ++ ys) e ∙ ap suc (place_in t xs ys (omega (arith, count_there x t xs e))) ∙ sym (place_there x t xs e)) (same? x t)

pub place_out : (t : ℕ) (xs ys : List ℕ) → count t xs ≡ 0 → length xs ≤ place t (xs ++ ys)
place_out t [] ys l = omega arith
place_out t (x ∷ xs) ys l =
    ⊎_elim (λ (e : x ≡ t). absurd (omega (arith, count_here x t xs e)))
    (λ (e : x ≢ t). omega (arith, place_there x t (xs ++ ys) e, place_out t xs ys (omega (arith, count_there x t xs e)))) (same? x t)

pub keep_cons : (p : ℕ → Bool) (x : ℕ) (xs : List ℕ) → T (p x) → keep p (x ∷ xs) ≡ x ∷ keep p xs
keep_cons p x xs t = ap (λ b. cond b (x ∷ keep p xs) (keep p xs)) (true_eq (p x) t)

keep_skip : (p : ℕ → Bool) (x : ℕ) (xs : List ℕ) → T (not (p x)) → keep p (x ∷ xs) ≡ keep p xs
keep_skip p x xs t = ap (λ b. cond b (x ∷ keep p xs) (keep p xs)) (false_eq (p x) t)

pub count_keep : (p : ℕ → Bool) (t : ℕ) (xs : List ℕ) → T (p t) → count t (keep p xs) ≡ count t xs
count_keep p t [] w = refl
count_keep p t (x ∷ xs) w =
    let ih = count_keep p t xs w in
    ⊎_elim
    (λ (e : x ≡ t).
    ap (count t) (keep_cons p x xs (subst (λ y. T (p y)) (sym e) w)) ∙ count_here x t (keep p xs) e ∙ ap suc ih ∙ sym (count_here x t xs e))
    (λ (e : x ≢ t).
    ⊎_elim (λ q. ap (count t) (keep_cons p x xs q) ∙ count_there x t (keep p xs) e ∙ ih ∙ sym (count_there x t xs e))
    (λ q. ap (count t) (keep_skip p x xs q) ∙ ih ∙ sym (count_there x t xs e)) (decide (p x)))
    (same? x t)

pub count_drop : (p : ℕ → Bool) (t : ℕ) (xs : List ℕ) → T (not (p t)) → count t (keep p xs) ≡ 0
count_drop p t [] w = refl
count_drop p t (x ∷ xs) w =
    let ih = count_drop p t xs w in
    ⊎_elim
    (λ q.
    ap (count t) (keep_cons p x xs q) ∙ count_there x t (keep p xs) (λ e. clash (p t) (subst (λ y. T (p y)) e q) w) ∙ ih)
    (λ q. ap (count t) (keep_skip p x xs q) ∙ ih)
    (decide (p x))

count_later : (t n : ℕ) → n ≤ t → count t (up_to n) ≡ 0
count_later t zero l = refl
count_later t (suc n) l =
    omega (arith, count_append t (up_to n) (n ∷ []), count_later t n (omega arith), count_there n t [] (λ (e : n ≡ t). omega arith))

pub count_up_to : (t n : ℕ) → t < n → count t (up_to n) ≡ 1
count_up_to t zero l = absurd (not-suc-le-zero l)
count_up_to t (suc n) l =
    ⊎_elim (λ (e : n ≡ t). omega (arith, count_append t (up_to n) (n ∷ []), count_here n t [] e, count_later t n (omega arith)))
    (λ (e : n ≢ t). omega (arith, count_append t (up_to n) (n ∷ []), count_there n t [] e, count_up_to t n (omega arith))) (same? n t)

-- ---- the numbers below n, by rank

module _ (n : ℕ) (rank : ℕ → ℕ) where
  abbrev layer : ℕ → List ℕ
  layer r = keep (λ t. eqb (rank t) r) (up_to n)

  abbrev sorted : ℕ → List ℕ
  sorted m = each layer (up_to m)

  sorted_suc : (m : ℕ) → sorted (suc m) ≡ sorted m ++ layer m
  sorted_suc m = each_snoc layer (up_to m) m

  sorted_small : (m : ℕ) → All (λ x. x < n) (sorted m)
  sorted_small m =
      All-each-in (λ x. x < n) layer (up_to m)
      (All-every (λ r. All (λ x. x < n) (layer r))
      (λ r. All-keep-in (λ x. x < n) (λ t. eqb (rank t) r) (up_to n) (up_to_in (λ x. T (eqb (rank x) r) → x < n) n (λ i l t. l))) (up_to m))

  count_suc : (m t : ℕ) → count t (sorted (suc m)) ≡ count t (sorted m) + count t (layer m)
  count_suc m t = ap (count t) (sorted_suc m) ∙ count_append t (sorted m) (layer m)

  sorted_none : (m t : ℕ) → m ≤ rank t → count t (sorted m) ≡ 0
  sorted_none zero t l = refl
  sorted_none (suc m) t l =
      omega (
        arith,
        count_suc m t,
        sorted_none m t (omega arith),
        count_drop (λ t. eqb (rank t) m) t (up_to n) (ne_eqb (λ (e : rank t ≡ m). omega arith)),
      )

  sorted_once : (m t : ℕ) → t < n → rank t < m → count t (sorted m) ≡ 1
  sorted_once zero t h l = absurd (not-suc-le-zero l)
  sorted_once (suc m) t h l =
      ⊎_elim
      (λ (e : rank t ≡ m).
      omega (arith, count_suc m t, sorted_none m t (omega arith), count_keep (λ t. eqb (rank t) m) t (up_to n) (eq-eqb e), count_up_to t n h))
      (λ (e : rank t ≢ m).
      omega (arith, count_suc m t, sorted_once m t h (omega arith), count_drop (λ t. eqb (rank t) m) t (up_to n) (ne_eqb e)))
      (same? (rank t) m)

  sorted_place : (m u v : ℕ) → u < n → v < n → rank u < rank v → rank v < m → place u (sorted m) < place v (sorted m)
  sorted_place zero u v hu hv l b = absurd (not-suc-le-zero b)
  sorted_place (suc m) u v hu hv l b =
      let cu = sorted_once m u hu (omega arith) in
      let pu = ap (place u) (sorted_suc m) ∙ place_in u (sorted m) (layer m) (omega (arith, cu)) in
      let q = ap (place v) (sorted_suc m) in
      ⊎_elim
      (λ (e : rank v ≡ m).
      omega (arith, pu, q, count_place u (sorted m) (omega (arith, cu)), place_out v (sorted m) (layer m) (sorted_none m v (omega arith))))
      (λ (e : rank v ≢ m).
      let cv = sorted_once m v hv (omega arith) in
      omega (arith, pu, q, place_in v (sorted m) (layer m) (omega (arith, cv)), sorted_place m u v hu hv l (omega arith)))
      (same? (rank v) m)

  sorted_order : (m : ℕ) → ((t : ℕ) → t < n → rank t < m) → T (is_order n (sorted m))
  unfolding is_order
  sorted_order m f =
      and_in (all (λ x. ltb x n) (sorted m)) (all (λ t. eqb (count t (sorted m)) 1) (up_to n))
      (all_in (λ x. ltb x n) (sorted m) (All-imp (λ x. x < n) (λ x. T (ltb x n)) (λ x l. lt→ltb x n l) (sorted m) (sorted_small m)))
      (all_up_to_in (λ t. eqb (count t (sorted m)) 1) n (λ t l. eq-eqb (sorted_once m t l (f t l))))

-- ---- the rank: how many nodes reach a node

digit_le : (b : Bool) → digit b ≤ 1
digit_le true = omega arith
digit_le false = omega arith

digit_mono : (a b : Bool) → (T a → T b) → digit a ≤ digit b
digit_mono true true f = omega arith
digit_mono true false f = absurd (f tt)
digit_mono false b f = omega arith

digit_less : (a b : Bool) → (T a → ⊥) → T b → digit a < digit b
digit_less true b f t = absurd (f tt)
digit_less false true f t = omega arith
digit_less false false f t = absurd t

sum_le : (f g : ℕ → ℕ) (n : ℕ) → ((i : ℕ) → i < n → f i ≤ g i) → sum f n ≤ sum g n
sum_le f g zero h = omega arith
sum_le f g (suc n) h = omega (arith, sum_le f g n (λ i l. h i (omega arith)), h n (omega arith))

sum_less : (f g : ℕ → ℕ) (n x : ℕ) → x < n → ((i : ℕ) → i < n → f i ≤ g i) → f x < g x → sum f n < sum g n
sum_less f g zero x l h s = absurd (not-suc-le-zero l)
sum_less f g (suc n) x l h s =
    ⊎_elim (λ (e : x ≡ n). omega (arith, sum_le f g n (λ i l. h i (omega arith)), subst (λ y. f y < g y) e s))
    (λ (e : x ≢ n). omega (arith, sum_less f g n x (omega arith) (λ i l. h i (omega arith)) s, h n (omega arith))) (same? x n)

module _ (g : List ℕ) (n : ℕ) where
  abbrev rank : ℕ → ℕ
  rank v = sum (λ w. digit (has (reach g) w v)) 32

  module _ (few : n ≤ 32) (inside : Within g n) (acyclic : Acyclic g) where
    rank_less : (u v : ℕ) → T (has g u v) → rank u < rank v
    rank_less u v t =
        let s = inside u v t in
        let hu : u < 32 = omega arith in
        let hv : v < 32 = omega arith in
        let r = reach_old g u v hu hv t in
        sum_less (λ w. digit (has (reach g) w u)) (λ w. digit (has (reach g) w v)) 32 u hu
        (λ w hw. digit_mono (has (reach g) w u) (has (reach g) w v) (λ a. reach_trans g u w v hu hw hv a r))
        (digit_less (has (reach g) u u) (has (reach g) u v) (λ a. acyclic u (reach_way g u u a)) r)

    pub topological : (o : List ℕ) × T (is_order n o) × RespectsKnown o g
    topological =
        let below : (t : ℕ) → rank t < 33 = λ t. omega (arith, sum_digits (λ w. digit (has (reach g) w t)) 32 (λ i. digit_le (has (reach g) i t))) in (
          sorted n rank 33,
          sorted_order n rank 33 (λ t l. below t),
          λ u v hu hv t. let s = inside u v t in sorted_place n rank 33 u v s.0 s.1 (rank_less u v t) (below v),
        )
