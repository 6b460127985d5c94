-- Tests of all numbers below n, as a loop makes them that stops at the first which fails, or as `all` does over a range or over numbered elements. Assumes nothing.
use Prim.Native.Nat.{ℕ, zero, suc, ◌+◌, ◌-◌, ◌≤◌, ◌<◌}
use native.Mathlib.Nat.{not-suc-le-zero}
use native.Mathlib.Omega.{arith}
use native.Mathlib.Numerals.{add-one}
use mathlib.Core.Path.{◌≡◌, refl, sym, ap, ap₂, subst, ◌∙◌}
use mathlib.Core.Logic.{⊎_elim, ◌≢◌}
use mathlib.Core.Bool.{Bool, true, false, not, ◌&&◌, ◌||◌}
use mathlib.Core.List.{List, [], ◌∷◌}
use lib.Dec.{T, ltb, ltb→lt, nltb→le}
use lib.ListN.{length, get_or}
use Rattle.model.specs.Lists.{all, All, up_to}
use Rattle.std.specs.List.{list_all, range_with_len, enumerate_from}
use Rattle.model.proofs.Basics.{decide, same?, true_eq, false_eq, iff_eq, and_l, and_r, and_in, clash, not_intro, all_up_to_out, all_up_to_in, up_to_in}

module _ (p : ℕ → Bool) where
  -- one number more
  pub all_next : (i : ℕ) → T (all p (up_to i)) → T (p i) → T (all p (up_to (i + 1)))
  all_next i a t = subst (λ n. T (all p (up_to n))) (sym (add-one i)) (all_up_to_in p (suc i) (λ j l. go j l))
    where
      go : (j : ℕ) → j < suc i → T (p j)
      go j l = ⊎_elim (λ (e : j ≡ i). subst (λ k. T (p k)) (sym e) t) (λ (f : j ≢ i). all_up_to_out p i a j (omega arith)) (same? j i)

  -- one that fails
  pub all_stop : (i n : ℕ) → i < n → T (not (p i)) → false ≡ all p (up_to n)
  all_stop i n l t = sym (false_eq (all p (up_to n)) (not_intro (all p (up_to n)) (λ a. clash (p i) (all_up_to_out p n a i l) t)))

  -- the last
  pub all_end : (i n : ℕ) → i ≡ n → T (all p (up_to i)) → true ≡ all p (up_to n)
  all_end i n e a = sym (true_eq (all p (up_to n)) (subst (λ k. T (all p (up_to k))) e a))

-- what the answer of a test says, where the code stops on no
pub held : (a b : Bool) → a ≡ b → a ≡ true → T b
held a b e f = subst T (sym f ∙ e) tt

pub failed : (a b : Bool) → a ≡ b → a ≡ false → T (not b)
failed a b e f = subst (λ x. T (not x)) (sym f ∙ e) tt

-- what `||` answers, where its left side is true, and where it is not
pub or_then : (x y a b : Bool) → x ≡ y → y ≡ true → y ≡ a → x ≡ (a || b)
or_then x y a b e f g = e ∙ f ∙ ap (λ z. z || b) (sym f ∙ g)

pub or_else : (x y z a b : Bool) → x ≡ z → y ≡ false → y ≡ a → z ≡ b → x ≡ (a || b)
or_else x y z a b e f g h = e ∙ h ∙ ap (λ z. z || b) (sym f ∙ g)

-- two tests that agree
module _ {A : Type 0} (p q : A → Bool) where
  pub all_same : (xs : List A) → All (λ x. p x ≡ q x) xs → all p xs ≡ all q xs
  all_same [] a = refl
  all_same (x ∷ xs) a = ap₂ (λ b c. b && c) a.0 (all_same xs a.1)

pub all_up_to_same : (p q : ℕ → Bool) (n : ℕ) → ((i : ℕ) → i < n → p i ≡ q i) → all p (up_to n) ≡ all q (up_to n)
all_up_to_same p q n f = all_same p q (up_to n) (up_to_in (λ i. p i ≡ q i) n f)

-- ---- a range: m numbers, from a on

module _ (p : ℕ → Bool) where
  range_in : (a m : ℕ) → ((i : ℕ) → a ≤ i → i < a + m → T (p i)) → T (list_all p (range_with_len a m))
  range_in a zero f = tt
  range_in a (suc m) f = and_in (p a) (list_all p (range_with_len (a + 1) m)) (f a (omega arith) (omega arith)) (range_in (a + 1) m (λ i l h. f i (omega arith) (omega arith)))

  range_out : (a m : ℕ) → T (list_all p (range_with_len a m)) → (i : ℕ) → a ≤ i → i < a + m → T (p i)
  range_out a zero t i l h = absurd (omega arith)
  range_out a (suc m) t i l h =
      ⊎_elim (λ (e : i ≡ a). subst (λ k. T (p k)) (sym e) (and_l (p a) (list_all p (range_with_len (a + 1) m)) t))
      (λ (f : i ≢ a). range_out (a + 1) m (and_r (p a) (list_all p (range_with_len (a + 1) m)) t) i (omega arith) (omega arith)) (same? i a)

  -- from a on, where those before a pass
  pub range_all : (a n : ℕ) → ((i : ℕ) → i < a → T (p i)) → list_all p (range_with_len a (n - a)) ≡ all p (up_to n)
  range_all a n before =
      iff_eq (list_all p (range_with_len a (n - a))) (all p (up_to n))
      (λ t. all_up_to_in p n
      (λ i l. ⊎_elim (λ (b : T (ltb i a)). before i (ltb→lt i a b)) (λ b. let h : a ≤ i = nltb→le i a b in range_out a (n - a) t i h (omega arith)) (decide (ltb i a))))
      (λ t. range_in a (n - a) (λ i l h. all_up_to_out p n t i (omega arith)))

-- ---- the elements of a list, each with its number

module _ (q : ℕ × ℕ → Bool) where
  numbered_in : (a : ℕ) (xs : List ℕ) → ((i j : ℕ) → i < length xs → j ≡ a + i → T (q (j, get_or xs i 0))) → T (list_all q (enumerate_from a xs))
  numbered_in a [] f = tt
  numbered_in a (x ∷ xs) f =
      and_in (q (a, x)) (list_all q (enumerate_from (a + 1) xs)) (f 0 a (omega arith) (omega arith)) (numbered_in (a + 1) xs (λ i j l e. f (suc i) j (omega arith) (omega arith)))

  numbered_out : (a : ℕ) (xs : List ℕ) → T (list_all q (enumerate_from a xs)) → (i j : ℕ) → i < length xs → j ≡ a + i → T (q (j, get_or xs i 0))
  numbered_out a [] t i j l e = absurd (not-suc-le-zero l)
  numbered_out a (x ∷ xs) t zero j l e =
      let same : j ≡ a = omega arith in
      subst (λ k. T (q (k, x))) (sym same) (and_l (q (a, x)) (list_all q (enumerate_from (a + 1) xs)) t)
  numbered_out a (x ∷ xs) t (suc i) j l e =
      numbered_out (a + 1) xs (and_r (q (a, x)) (list_all q (enumerate_from (a + 1) xs)) t) i j (omega arith) (omega arith)

  pub numbered_all : (xs : List ℕ) → list_all q (enumerate_from 0 xs) ≡ all (λ i. q (i, get_or xs i 0)) (up_to (length xs))
  numbered_all xs =
      iff_eq (list_all q (enumerate_from 0 xs)) (all (λ i. q (i, get_or xs i 0)) (up_to (length xs)))
      (λ t. all_up_to_in (λ i. q (i, get_or xs i 0)) (length xs) (λ i l. numbered_out 0 xs t i i l (omega arith)))
      (λ t. numbered_in 0 xs
      (λ i j l e. let same : i ≡ j = omega arith in subst (λ k. T (q (k, get_or xs i 0))) same (all_up_to_out (λ i. q (i, get_or xs i 0)) (length xs) t i l)))
