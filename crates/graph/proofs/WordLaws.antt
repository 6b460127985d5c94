-- Words as the code makes them: without a bit, the lowest bit, words in one, and tables filled place by place. Assumes nothing.
use Rattle.std.proofs.Common.{◌≡◌, ℕ, zero, suc, ◌+◌, ◌-◌, ◌*◌, ◌/◌, ◌%◌, ◌^◌, ◌<◌, ◌≤◌, min, Bool, true, false, cond, not, ◌&&◌, ◌||◌, eqb, ◌≢◌, List, [], ◌∷◌, ◌++◌, map, length, get_or, set, sym, refl, ap, ◌∙◌, ap₂, ⊎_elim, not-suc-le-zero, mod-lt, zero-lt-suc, add-one, arith, length-set, get_or-set_other, get_or-set_same, ext_get_or, pow_pos}
use lib.Dec.{eqb-suc-suc, eqb-suc-zero}
use lib.Bits.{bit_and, bit_or, bit_xor, differ, xor_step, and_step, and_self, or_lt, xor_lt, and_le_l}
use lib.Count.{count_trailing_zeros, under}
use Rattle.model.specs.Lists.{any, first_or, up_to, bit}
use Rattle.model.proofs.Basics.{same?}
use Rattle.model.proofs.Words.{length_up_to, get_or_up_to}
use Rattle.model.proofs.Masks.{bit_low, bit_half, bit_and_lem, bit_or_lem, bit_one, bit_none}
use Rattle.model.proofs.Loops.{any_snoc}
use Rattle.graph.specs.Masks.{without, or_over}

-- ---- without a bit

digit_xor : (x y : ℕ) → x < 2 → y < 2 → eqb (differ x y) 1 ≡ cond (eqb y 1) (not (eqb x 1)) (eqb x 1)
digit_xor zero zero h k = refl
digit_xor zero (suc zero) h k = refl
digit_xor (suc zero) zero h k = refl
digit_xor (suc zero) (suc zero) h k = refl
digit_xor (suc (suc x)) y h k = absurd (omega arith)
digit_xor zero (suc (suc y)) h k = absurd (omega arith)
digit_xor (suc zero) (suc (suc y)) h k = absurd (omega arith)

digit_differ : (x y : ℕ) → x < 2 → y < 2 → differ x y < 2
digit_differ zero y h k = k
digit_differ (suc zero) zero h k = omega arith
digit_differ (suc zero) (suc zero) h k = omega arith
digit_differ (suc (suc x)) y h k = absurd (omega arith)
digit_differ (suc zero) (suc (suc y)) h k = absurd (omega arith)

bit_xor_lem : (a b s : ℕ) → bit (bit_xor a b) s ≡ cond (bit b s) (not (bit a s)) (bit a s)
bit_xor_lem a b zero =
    let d = digit_differ (a % 2) (b % 2) (mod-lt a (zero-lt-suc 1)) (mod-lt b (zero-lt-suc 1)) in
    let x : bit_xor a b % 2 ≡ differ (a % 2) (b % 2) = omega (arith, xor_step a b) in
    bit_low (bit_xor a b) ∙ ap (λ y. eqb y 1) x ∙ digit_xor (a % 2) (b % 2) (mod-lt a (zero-lt-suc 1)) (mod-lt b (zero-lt-suc 1))
    ∙ ap₂ (λ x y. cond y (not x) x) (sym (bit_low a)) (sym (bit_low b))
bit_xor_lem a b (suc s) =
    let d = digit_differ (a % 2) (b % 2) (mod-lt a (zero-lt-suc 1)) (mod-lt b (zero-lt-suc 1)) in
    let x : bit_xor a b / 2 ≡ bit_xor (a / 2) (b / 2) = omega (arith, xor_step a b) in
    bit_half (bit_xor a b) s ∙ ap (λ y. bit y s) x ∙ bit_xor_lem (a / 2) (b / 2) s ∙ ap₂ (λ x y. cond y (not x) x) (sym (bit_half a s)) (sym (bit_half b s))

pub bit_without : (m v s : ℕ) → bit (without m v) s ≡ (bit m s && not (eqb s v))
unfolding without
bit_without m v s =
    bit_xor_lem m (bit_and m (2 ^ v)) s ∙ ap (λ x. cond x (not (bit m s)) (bit m s)) (bit_and_lem m (2 ^ v) s ∙ ap (λ x. bit m s && x) (bit_one v s)) ∙ go (bit m s) (eqb s v)
  where
    go : (a b : Bool) → cond (a && b) (not a) a ≡ (a && not b)
    go true true = refl
    go true false = refl
    go false b = refl

-- the mask without those of another
pub bit_minus : (m w s : ℕ) → bit (bit_xor m (bit_and m w)) s ≡ (bit m s && not (bit w s))
bit_minus m w s = bit_xor_lem m (bit_and m w) s ∙ ap (λ x. cond x (not (bit m s)) (bit m s)) (bit_and_lem m w s) ∙ go (bit m s) (bit w s)
  where
    go : (a b : Bool) → cond (a && b) (not a) a ≡ (a && not b)
    go true true = refl
    go true false = refl
    go false b = refl

pub without_lt : (m v : ℕ) → m < 2 ^ 32 → without m v < 2 ^ 32
unfolding without
without_lt m v l = xor_lt 32 m (bit_and m (2 ^ v)) l (omega (arith, and_le_l m (2 ^ v)))

-- ---- words in one

module _ (f : ℕ → ℕ) where
  pub or_none : 0 ≡ or_over f 0
  unfolding or_over
  or_none = refl

  pub or_next : (i x y : ℕ) → x ≡ or_over f i → y ≡ f i → bit_or x y ≡ or_over f (i + 1)
  unfolding or_over
  or_next i x y p q = ap₂ bit_or p q ∙ ap (or_over f) (sym (add-one i))

  pub or_bit : (n v : ℕ) → bit (or_over f n) v ≡ any (λ i. bit (f i) v) (up_to n)
  unfolding or_over
  or_bit zero v = bit_none v
  or_bit (suc n) v =
      bit_or_lem (or_over f n) (f n) v ∙ ap (λ x. x || bit (f n) v) (or_bit n v) ∙ sym (any_snoc (λ i. bit (f i) v) (up_to n) n)

  pub or_small : (n : ℕ) → ((i : ℕ) → i < n → f i < 2 ^ 32) → or_over f n < 2 ^ 32
  unfolding or_over
  or_small zero g = pow_pos 32
  or_small (suc n) g = or_lt 32 (or_over f n) (f n) (or_small n (λ i l. g i (omega arith))) (g n (omega arith))

-- ---- the lowest bit

-- z is the lowest bit of w
pub record Lowest (k w z : ℕ) : Type 0 where
  pub below : z < k
  pub is_set : bit w z ≡ true
  pub clear : (i : ℕ) → i < z → bit w i ≡ false

low_step : (k w d t : ℕ) → w % 2 ≡ d → (d ≡ 0 → Lowest k (w / 2) t) → Lowest (suc k) w (under d t)
low_step k w zero t e ih =
    let r = ih refl in
    record {
      below = omega (arith, r.below);
      is_set = bit_half w t ∙ r.is_set;
      clear = λ i l. go i l r.clear;
    }
  where
    go : (i : ℕ) → i < suc t → ((j : ℕ) → j < t → bit (w / 2) j ≡ false) → bit w i ≡ false
    go zero l f = bit_low w ∙ ap (λ x. eqb x 1) e
    go (suc i) l f = bit_half w i ∙ f i (omega arith)
low_step k w (suc d) t e ih =
    let one : w % 2 ≡ 1 = omega arith in
    record { below = omega arith; is_set = bit_low w ∙ ap (λ x. eqb x 1) one; clear = λ i l. absurd (not-suc-le-zero l) }

pub lowest : (k w : ℕ) → w < 2 ^ k → w ≢ 0 → Lowest k w (count_trailing_zeros k w)
unfolding count_trailing_zeros
lowest zero w l f = absurd (f (omega arith))
lowest (suc k) w l f =
    low_step k w (w % 2) (count_trailing_zeros k (w / 2)) refl (λ z. lowest k (w / 2) (omega arith) (λ y. f (omega arith)))

pub positive : (m : ℕ) → m ≢ 0 → 0 < m
positive zero f = absurd (f refl)
positive (suc m) f = omega arith

pub and_not : (a : Bool) → a ≡ (a && not false)
and_not true = refl
and_not false = refl

pub and_none : (a : Bool) → false ≡ (a && not true)
and_none true = refl
and_none false = refl

-- it is taken away
pub low_cleared : (k m s : ℕ) → m ≢ 0 → m < 2 ^ k → bit (bit_and m (m - 1)) s ≡ (bit m s && not (eqb s (count_trailing_zeros k m)))
unfolding count_trailing_zeros
low_cleared zero m s h l = absurd (h (omega arith))
low_cleared (suc k) m s h l = go (m % 2) refl s (λ q s. low_cleared k (m / 2) s (λ e. h (omega arith)) (omega arith))
  where
    even : m % 2 ≡ 0 → bit_and m (m - 1) ≡ bit_and (m / 2) (m / 2 - 1) * 2
    even e =
        let a : (m - 1) / 2 ≡ m / 2 - 1 = omega (arith, positive m h) in
        let b : (m - 1) % 2 ≡ 1 = omega (arith, positive m h) in
        and_step m (m - 1) ∙ ap₂ (λ (x y : ℕ). bit_and (m / 2) x * 2 + min (m % 2) y) a b ∙ omega arith

    odd : m % 2 ≡ 1 → bit_and m (m - 1) ≡ m / 2 * 2
    odd e =
        let a : (m - 1) / 2 ≡ m / 2 = omega arith in
        let b : (m - 1) % 2 ≡ 0 = omega arith in
        and_step m (m - 1) ∙ ap₂ (λ (x y : ℕ). bit_and (m / 2) x * 2 + min (m % 2) y) a b ∙ ap (λ (x : ℕ). x * 2 + min (m % 2) 0) (and_self (m / 2)) ∙ omega arith

    -- bits of twice a number
    first : (x : ℕ) → bit (x * 2) 0 ≡ false
    first x = let e : x * 2 % 2 ≡ 0 = omega arith in bit_low (x * 2) ∙ ap (λ (y : ℕ). eqb y 1) e

    later : (x s : ℕ) → bit (x * 2) (suc s) ≡ bit x s
    later x s = let e : x * 2 / 2 ≡ x = omega arith in bit_half (x * 2) s ∙ ap (λ (y : ℕ). bit y s) e

    no_first : m % 2 ≡ 0 → (b : Bool) → false ≡ (bit m 0 && not b)
    no_first e b = sym (ap (λ (x : Bool). x && not b) (bit_low m ∙ ap (λ (y : ℕ). eqb y 1) e))

    go : (r : ℕ) → m % 2 ≡ r → (s : ℕ) → (m % 2 ≡ 0 → (s : ℕ) → bit (bit_and (m / 2) (m / 2 - 1)) s ≡ (bit (m / 2) s && not (eqb s (count_trailing_zeros k (m / 2)))))
        → bit (bit_and m (m - 1)) s ≡ (bit m s && not (eqb s (under r (count_trailing_zeros k (m / 2)))))
    go zero e zero f = ap (λ (x : ℕ). bit x 0) (even e) ∙ first (bit_and (m / 2) (m / 2 - 1)) ∙ no_first e (eqb 0 (suc (count_trailing_zeros k (m / 2))))
    go zero e (suc s) f =
        ap (λ (x : ℕ). bit x (suc s)) (even e) ∙ later (bit_and (m / 2) (m / 2 - 1)) s ∙ f e s
        ∙ ap₂ (λ (x y : Bool). x && not y) (sym (bit_half m s)) (sym (eqb-suc-suc s (count_trailing_zeros k (m / 2))))
    go (suc r) e zero f =
        let o : m % 2 ≡ 1 = omega arith in
        ap (λ (x : ℕ). bit x 0) (odd o) ∙ first (m / 2) ∙ and_none (bit m 0)
    go (suc r) e (suc s) f =
        let o : m % 2 ≡ 1 = omega arith in
        ap (λ (x : ℕ). bit x (suc s)) (odd o) ∙ later (m / 2) s ∙ sym (bit_half m s) ∙ and_not (bit m (suc s))
        ∙ ap (λ (x : Bool). bit m (suc s) && not x) (sym (eqb-suc-zero s))

-- it is taken alone
pub low_alone : (m x s : ℕ) → m < 2 ^ 32 → x < 2 ^ 32 → (x + 1) % 2 ^ 32 ≡ m
    → bit (bit_xor m (bit_and m x)) s ≡ (bit m s && eqb s (count_trailing_zeros 32 m))
low_alone m x s l k e = ⊎_elim none some (same? m 0)
  where
    none : m ≡ 0 → bit (bit_xor m (bit_and m x)) s ≡ (bit m s && eqb s (count_trailing_zeros 32 m))
    none z =
        let o : bit m s ≡ false = ap (λ (y : ℕ). bit y s) z ∙ bit_none s in
        bit_minus m x s ∙ ap (λ (y : Bool). y && not (bit x s)) o ∙ sym (ap (λ (y : Bool). y && eqb s (count_trailing_zeros 32 m)) o)

    twice : (a b c : Bool) → c ≡ (a && not b) → (a && not c) ≡ (a && b)
    twice true true c q = ap not q
    twice true false c q = ap not q
    twice false b c q = refl

    some : m ≢ 0 → bit (bit_xor m (bit_and m x)) s ≡ (bit m s && eqb s (count_trailing_zeros 32 m))
    some h =
        let w : x ≡ m - 1 = omega (arith, positive m h) in
        let c : bit (bit_and m x) s ≡ (bit m s && not (eqb s (count_trailing_zeros 32 m))) = ap (λ (y : ℕ). bit (bit_and m y) s) w ∙ low_cleared 32 m s h l in
        let d : bit (bit_xor m (bit_and m x)) s ≡ (bit m s && not (bit (bit_and m x) s)) =
        bit_minus m x s ∙ own (bit m s) (bit x s) ∙ ap (λ (y : Bool). bit m s && not y) (sym (bit_and_lem m x s)) in
        d ∙ twice (bit m s) (eqb s (count_trailing_zeros 32 m)) (bit (bit_and m x) s) c
      where
        own : (a b : Bool) → (a && not b) ≡ (a && not (a && b))
        own true b = refl
        own false b = refl

-- the first that passes, of 0, 1, ... n - 1
first_more : {A : Type 0} (d : A) (p : A → Bool) (xs ys : List A) → first_or d p (xs ++ ys) ≡ first_or (first_or d p ys) p xs
first_more d p [] ys = refl
first_more d p (x ∷ xs) ys = ap (λ r. cond (p x) x r) (first_more d p xs ys)

pub first_none : (p : ℕ → Bool) (n d : ℕ) → ((i : ℕ) → i < n → p i ≡ false) → first_or d p (up_to n) ≡ d
first_none p zero d f = refl
first_none p (suc n) d f =
    first_more d p (up_to n) (n ∷ []) ∙ first_none p n (cond (p n) n d) (λ i l. f i (omega arith)) ∙ ap (λ b. cond b n d) (f n (omega arith))

pub first_is : (p : ℕ → Bool) (n d z : ℕ) → z < n → p z ≡ true → ((i : ℕ) → i < z → p i ≡ false) → first_or d p (up_to n) ≡ z
first_is p zero d z l t f = absurd (not-suc-le-zero l)
first_is p (suc n) d z l t f =
    first_more d p (up_to n) (n ∷ [])
    ∙ ⊎_elim
    (λ (e : z ≡ n).
    first_none p n (cond (p n) n d) (λ i k. f i (omega arith)) ∙ ap (λ b. cond b n d) (ap p (sym e) ∙ t) ∙ sym e)
    (λ (e : z ≢ n). first_is p n (cond (p n) n d) z (omega arith) t f)
    (same? z n)

-- ---- a table filled place by place

pub record Filled (n : ℕ) (f : ℕ → ℕ) (i : ℕ) (w : List ℕ) : Type 0 where
  pub long : length w ≡ n
  pub at : (j : ℕ) → j < i → get_or w j 0 ≡ f j

pub filled_start : (n : ℕ) (f : ℕ → ℕ) (w : List ℕ) → length w ≡ n → Filled n f 0 w
filled_start n f w e = record { long = e; at = λ j l. absurd (not-suc-le-zero l) }

pub filled_next : (n : ℕ) (f : ℕ → ℕ) (i v : ℕ) (w : List ℕ) → i < n → Filled n f i w → v ≡ f i → Filled n f (i + 1) (set w i v)
filled_next n f i v w l x e =
    record {
      long = length-set w i v ∙ x.long;
      at = λ j k.
          ⊎_elim
          (λ (p : j ≡ i). ap (λ z. get_or (set w i v) z 0) p ∙ get_or-set_same w i v 0 (omega (arith, x.long)) ∙ e ∙ ap f (sym p))
          (λ (p : j ≢ i). get_or-set_other w i j v 0 p ∙ x.at j (omega arith))
          (same? j i);
    }

pub filled_end : (n : ℕ) (f : ℕ → ℕ) (i : ℕ) (w : List ℕ) → n ≤ i → Filled n f i w → w ≡ map f (up_to n)
filled_end n f i w l x =
    ext_get_or 0 w (map f (up_to n)) (x.long ∙ sym (length_up_to f n))
    (λ j k. let m : j < n = omega (arith, x.long) in x.at j (omega arith) ∙ sym (get_or_up_to f 0 n j m))
