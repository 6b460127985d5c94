-- The first i numbers of a list that is tested as an order: each below n, none twice, and the mask has just these. Assumes nothing.
use Prim.Native.Nat.{ℕ, zero, suc, ◌+◌, ◌^◌, ◌≤◌, ◌<◌}
use native.Mathlib.Omega.{arith}
use native.Mathlib.Nat.{not-suc-le-zero}
use native.Mathlib.Numerals.{add-one}
use mathlib.Core.Path.{◌≡◌, refl, sym, ap, subst, ◌∙◌}
use mathlib.Core.Logic.{◌⊎◌, inl, inr, ⊎_elim, ◌≢◌}
use mathlib.Core.Bool.{true, false, not, ◌&&◌}
use mathlib.Core.List.{List, [], ◌∷◌, ◌++◌}
use lib.Bits.{bit_or}
use lib.Dec.{T, ltb, eqb→eq, ltb→lt, lt→ltb, nltb→le}
use lib.ListN.{length, get_or, take}
use lib.Seq.{take-suc, take_all}
use Rattle.model.specs.Lists.{All, count, bit}
use Rattle.model.specs.History.{is_order}
use Rattle.model.proofs.Basics.{decide, clash, not_intro, and_l, and_r, and_in, or_out, or_l, or_r, true_eq, false_eq, eq-eqb, same?, All-app, All-right}
use Rattle.model.proofs.Masks.{bit_or_lem, bit_one, bit_none}
use Rattle.model.proofs.Places.{Once, Order, order_in_lem, order_out, order_once, order_length, count_here, count_there}
use Rattle.model.proofs.Topology.{count_append}
use Rattle.replay.specs.Orders.{is_new}

-- ---- one number more

pub count_snoc : (t : ℕ) (xs : List ℕ) (x : ℕ) → count t (xs ++ (x ∷ [])) ≡ count t xs + count t (x ∷ [])
count_snoc t xs x = count_append t xs (x ∷ [])

one : (t x : ℕ) → (x ≡ t) ⊎ (x ≢ t) → (count t (x ∷ []) ≡ 1) ⊎ (count t (x ∷ []) ≡ 0)
one t x (inl e) = inl (count_here x t [] e)
one t x (inr e) = inr (count_there x t [] e)

-- ---- the loop

pub record Upto (n : ℕ) (o : List ℕ) (i mask : ℕ) : Type 0 where
  pub small : All (λ x. x < n) (take i o)
  pub once : Once (take i o)
  pub marks : (x : ℕ) → T (bit mask x) → 1 ≤ count x (take i o)
  pub marked : (x : ℕ) → 1 ≤ count x (take i o) → T (bit mask x)

pub upto_none : (n : ℕ) (o : List ℕ) → Upto n o 0 0
upto_none n o = record {
  small = tt;
  once = λ x. omega arith;
  marks = λ x t. absurd (subst T (bit_none x) t);
  marked = λ x l. absurd (omega arith);
}

module _ (n : ℕ) (o : List ℕ) (i mask : ℕ) (long : length o ≡ n) (inside : i < length o) (u : Upto n o i mask) where
  abbrev x : ℕ
  x = get_or o i 0

  next : take (i + 1) o ≡ take i o ++ (x ∷ [])
  next = ap (λ k. take k o) (add-one i) ∙ take-suc o i 0 inside

  more : (t : ℕ) → count t (take (i + 1) o) ≡ count t (take i o) + count t (x ∷ [])
  more t = ap (count t) next ∙ count_snoc t (take i o) x

  pub upto_next : T (is_new n mask x) → Upto n o (i + 1) (bit_or mask (2 ^ x))
  unfolding is_new
  upto_next new = record {
    small = subst (All (λ y. y < n)) (sym next) (All-app (λ y. y < n) (take i o) (x ∷ []) u.small (ltb→lt x n (and_l (ltb x n) (not (bit mask x)) new), tt));
    once = λ t.
        ⊎_elim (λ (e : x ≡ t). omega (arith, more t, count_here x t [] e, unseen t e))
        (λ (e : x ≢ t). omega (arith, more t, count_there x t [] e, u.once t)) (same? x t);
    marks = λ t b.
        ⊎_elim (λ c. omega (arith, more t, u.marks t c)) (λ c. omega (arith, more t, count_here x t [] (sym (eqb→eq t x (subst T (bit_one x t) c)))))
        (or_out (bit mask t) (bit (2 ^ x) t) (subst T (bit_or_lem mask (2 ^ x) t) b));
    marked = λ t c.
        subst T (sym (bit_or_lem mask (2 ^ x) t))
        (⊎_elim (λ (e : x ≡ t). or_r (bit mask t) (bit (2 ^ x) t) (subst T (sym (bit_one x t)) (eq-eqb (sym e))))
        (λ (e : x ≢ t). or_l (bit mask t) (bit (2 ^ x) t) (u.marked t (omega (arith, more t, count_there x t [] e)))) (same? x t));
  }
    where
      unseen : (t : ℕ) → x ≡ t → count t (take i o) < 1
      unseen t e =
          ⊎_elim (λ (c : T (ltb 0 (count t (take i o)))). absurd (clash (bit mask x) (subst (λ y. T (bit mask y)) (sym e) (u.marked t (ltb→lt 0 (count t (take i o)) c))) (and_r (ltb x n) (not (bit mask x)) new)))
          (λ c. omega (arith, nltb→le 0 (count t (take i o)) c)) (decide (ltb 0 (count t (take i o))))

  -- a number that is not new is not the next of an order
  pub upto_stop : T (not (is_new n mask x)) → false ≡ is_order n o
  unfolding is_new
  upto_stop old = sym (false_eq (is_order n o) (not_intro (is_order n o) (λ t. refuted (order_out n o t))))
    where
      whole : o ≡ take i o ++ (x ∷ lib.ListN.drop (suc i) o)
      whole = lib.Seq.split_at o i 0 inside

      refuted : Order n o → ⊥
      refuted r =
          clash (ltb x n && not (bit mask x))
          (and_in (ltb x n) (not (bit mask x))
          (lt→ltb x n (All-right (λ y. y < n) (take i o) (x ∷ lib.ListN.drop (suc i) o) (subst (All (λ y. y < n)) whole r.small)).0)
          (not_intro (bit mask x) (λ b. omega (arith, u.marks x b, order_once r x, ap (count x) whole, count_append x (take i o) (x ∷ lib.ListN.drop (suc i) o), count_here x x (lib.ListN.drop (suc i) o) refl))))
          old

pub upto_end : (n : ℕ) (o : List ℕ) (i mask : ℕ) → length o ≡ n → i ≡ length o → Upto n o i mask → true ≡ is_order n o
upto_end n o i mask long end u =
    let all : take i o ≡ o = take_all i o (omega arith) in
    sym (true_eq (is_order n o) (order_in_lem n o long (subst (All (λ x. x < n)) all u.small) (subst Once all u.once)))

-- an order has n numbers
pub order_long : (n : ℕ) (o : List ℕ) → length o ≢ n → false ≡ is_order n o
order_long n o f = sym (false_eq (is_order n o) (not_intro (is_order n o) (λ t. f (order_length (order_out n o t)))))

-- ---- what the test of a number says, as the code has it

pub new_low : (n mask x : ℕ) → T (is_new n mask x) → x < n
unfolding is_new
new_low n mask x t = ltb→lt x n (and_l (ltb x n) (not (bit mask x)) t)

-- an order's numbers are below n
pub small_at : (n : ℕ) (o : List ℕ) → All (λ x. x < n) o → (i : ℕ) → i < length o → get_or o i 0 < n
small_at n [] a i l = absurd (not-suc-le-zero l)
small_at n (x ∷ o) a zero l = a.0
small_at n (x ∷ o) a (suc i) l = small_at n o a.1 i (omega arith)
