-- Tables of sets: words into which a loop puts sets, and what the bits are in the end. Assumes nothing.
use Prim.Native.Nat.{ℕ, zero, suc, ◌+◌, ◌*◌, ◌%◌, ◌^◌, ◌≤◌, ◌<◌}
use native.Mathlib.Omega.{arith}
use native.Mathlib.Nat.{zero-mul}
use native.Mathlib.Numerals.{add-one}
use mathlib.Core.Path.{◌≡◌, sym, ap, ap₂, subst, ◌∙◌}
use mathlib.Core.Logic.{⊎_elim, ◌≢◌}
use mathlib.Core.Bool.{Bool, true, false, not, ◌&&◌, ◌||◌, or-false, or_assoc}
use mathlib.Core.List.{List, [], ◌∷◌, map}
use lib.Dec.{T, eqb, ltb, ltb→lt, nltb→le}
use lib.Bits.{bit_or, or_lt, or_zero_l}
use lib.Pow.{pow-lt, pow_pos}
use lib.ListN.{length, get_or, set, take, length-set, get_or-eq_default}
use lib.Seq.{get_or-set_same, get_or-set_other, take-suc, ext_get_or}
use Rattle.model.specs.Lists.{any, fold, up_to, bit, word_of, All}
use Rattle.model.proofs.Basics.{same?, decide, not_intro, true_eq, false_eq, eq-eqb, ne_eqb}
use Rattle.model.proofs.Words.{bit_word, word_lt, word_small, length_up_to, get_or_up_to}
use Rattle.model.proofs.Loops.{map_snoc, fold_snoc}
use Rattle.model.proofs.Masks.{bit_or_lem, bit_one, bit_none, same_bits}
use Rattle.graph.specs.Masks.{put_if}
use Rattle.graph.proofs.Rows.{one_shl}
use Rattle.polygraph.specs.Tables.{put_at}

-- ---- one set alone

pub single_bit : (t s : ℕ) (b : Bool) → bit (put_if 0 t b) s ≡ (b && eqb s t)
unfolding put_if
single_bit t s true = bit_or_lem 0 (2 ^ t) s ∙ ap₂ (λ x y. x || y) (bit_none s) (bit_one t s)
single_bit t s false = bit_none s

pub single_small : (t : ℕ) (b : Bool) → t < 32 → put_if 0 t b < 2 ^ 32
unfolding put_if
single_small t true l = or_lt 32 0 (2 ^ t) (pow_pos 32) (pow-lt l)
single_small t false l = pow_pos 32

-- the same where the kind of an operation is the set's bit
pub mark_is : (t kind : ℕ) → t < 32 → kind < 2 → (kind * 2 ^ t) % 2 ^ 32 ≡ put_if 0 t (eqb kind 1)
unfolding put_if
mark_is t zero l k = ap (λ x. x % 2 ^ 32) (zero-mul (2 ^ t))
mark_is t (suc zero) l k = one_shl t l ∙ sym (or_zero_l (2 ^ t))
mark_is t (suc (suc n)) l k = absurd (omega arith)

-- a store of a word with a set in it
pub put_is : (w : List ℕ) (i j x v : ℕ) → i ≡ j → v ≡ bit_or (get_or w i 0) x → set w i v ≡ put_at w j x
unfolding put_at
put_is w i j x v p q = ap (set w i) q ∙ ap (λ k. set w k (bit_or (get_or w k 0) x)) p

-- ---- a table of n words of 32 bits, with the bits that f says

pub record Sets (n : ℕ) (f : ℕ → ℕ → Bool) (w : List ℕ) : Type 0 where
  pub long : length w ≡ n
  pub small : (i : ℕ) → get_or w i 0 < 2 ^ 32
  pub bits : (i s : ℕ) → i < n → bit (get_or w i 0) s ≡ f i s

module _ (n : ℕ) where
  pub sets_on : (f g : ℕ → ℕ → Bool) (w : List ℕ) → ((i s : ℕ) → i < n → f i s ≡ g i s) → Sets n f w → Sets n g w
  sets_on f g w e x = record { long = x.long; small = x.small; bits = λ i s l. x.bits i s l ∙ e i s l }

  pub sets_none : (w : List ℕ) → length w ≡ n → ((i : ℕ) → get_or w i 0 ≡ 0) → Sets n (λ i s. false) w
  sets_none w e z =
      record {
        long = e;
        small = λ i. subst (λ x. x < 2 ^ 32) (sym (z i)) (pow_pos 32);
        bits = λ i s l. ap (λ x. bit x s) (z i) ∙ bit_none s;
      }

  pub sets_put : (f : ℕ → ℕ → Bool) (w : List ℕ) (i x : ℕ) → i < n → x < 2 ^ 32 → Sets n f w → Sets n (λ j s. f j s || (eqb j i && bit x s)) (put_at w i x)
  unfolding put_at
  sets_put f w i x l k y =
      record {
        long = length-set w i (bit_or (get_or w i 0) x) ∙ y.long;
        small = λ j.
            ⊎_elim (λ (e : j ≡ i). subst (λ z. z < 2 ^ 32) (sym (here j e)) (or_lt 32 (get_or w i 0) x (y.small i) k))
            (λ (e : j ≢ i). subst (λ z. z < 2 ^ 32) (sym (there j e)) (y.small j)) (same? j i);
        bits = λ j s m.
            ⊎_elim
            (λ (e : j ≡ i).
            ap (λ z. bit z s) (here j e) ∙ bit_or_lem (get_or w i 0) x s
            ∙ ap₂ (λ a b. a || b) (ap (λ z. bit (get_or w z 0) s) (sym e) ∙ y.bits j s m) (sym (ap (λ b. b && bit x s) (true_eq (eqb j i) (eq-eqb e)))))
            (λ (e : j ≢ i).
            ap (λ z. bit z s) (there j e) ∙ y.bits j s m ∙ sym (ap (λ b. f j s || (b && bit x s)) (false_eq (eqb j i) (ne_eqb e)) ∙ or-false (f j s)))
            (same? j i);
      }
    where
      here : (j : ℕ) → j ≡ i → get_or (set w i (bit_or (get_or w i 0) x)) j 0 ≡ bit_or (get_or w i 0) x
      here j e = ap (λ z. get_or (set w i (bit_or (get_or w i 0) x)) z 0) e ∙ get_or-set_same w i (bit_or (get_or w i 0) x) 0 (omega (arith, y.long))

      there : (j : ℕ) → j ≢ i → get_or (set w i (bit_or (get_or w i 0) x)) j 0 ≡ get_or w j 0
      there j e = get_or-set_other w i j (bit_or (get_or w i 0) x) 0 e

  -- the table is the one that has these bits
  pub sets_end : (f g : ℕ → ℕ → Bool) (w : List ℕ) → Sets n f w → ((i s : ℕ) → i < n → s < 32 → f i s ≡ g i s) → w ≡ map (λ i. word_of 32 (g i)) (up_to n)
  sets_end f g w x e =
      ext_get_or 0 w (map (λ i. word_of 32 (g i)) (up_to n)) (x.long ∙ sym (length_up_to (λ i. word_of 32 (g i)) n))
      (λ i l.
      let k : i < n = omega (arith, x.long) in
      same_bits 32 (get_or w i 0) (g i) (x.small i) (λ s m. x.bits i s k ∙ e i s k m) ∙ sym (get_or_up_to (λ i. word_of 32 (g i)) 0 n i k))

  -- such a table, as the definitions have it
  pub sets_of : (g : ℕ → ℕ → Bool) → ((i s : ℕ) → 32 ≤ s → g i s ≡ false) → Sets n g (map (λ i. word_of 32 (g i)) (up_to n))
  sets_of g past =
      record {
        long = length_up_to (λ i. word_of 32 (g i)) n;
        small = λ i.
            ⊎_elim (λ (l : T (ltb i n)). subst (λ x. x < 2 ^ 32) (sym (at i (ltb→lt i n l))) (word_lt 32 (g i)))
            (λ (l : T (not (ltb i n))).
            subst (λ x. x < 2 ^ 32) (sym (get_or-eq_default (map (λ i. word_of 32 (g i)) (up_to n)) 0 {n = i} (omega (arith, nltb→le i n l, length_up_to (λ i. word_of 32 (g i)) n)))) (pow_pos 32))
            (decide (ltb i n));
        bits = λ i s l.
            ap (λ x. bit x s) (at i l)
            ∙ ⊎_elim (λ (k : T (ltb s 32)). bit_word 32 (g i) s (ltb→lt s 32 k))
            (λ (k : T (not (ltb s 32))).
            let far = nltb→le s 32 k in
            false_eq (bit (word_of 32 (g i)) s) (not_intro (bit (word_of 32 (g i)) s) (λ t. omega (arith, word_small 32 (g i) s t))) ∙ sym (past i s far))
            (decide (ltb s 32));
      }
    where
      at : (i : ℕ) → i < n → get_or (map (λ i. word_of 32 (g i)) (up_to n)) i 0 ≡ word_of 32 (g i)
      at i l = get_or_up_to (λ i. word_of 32 (g i)) 0 n i l

  -- ---- a loop over a list, each step of which puts what p says

  module _ {A : Type 0} (step : List ℕ → A → List ℕ) (p : A → ℕ → ℕ → Bool) where
    abbrev pub Puts : A → Type 0
    Puts x = (f : ℕ → ℕ → Bool) (w : List ℕ) → Sets n f w → Sets n (λ i s. f i s || p x i s) (step w x)

    pub sets_fold : (f : ℕ → ℕ → Bool) (w : List ℕ) (xs : List A) → All Puts xs → Sets n f w → Sets n (λ i s. f i s || any (λ x. p x i s) xs) (fold step w xs)
    sets_fold f w [] a y = sets_on f (λ i s. f i s || false) w (λ i s l. sym (or-false (f i s))) y
    sets_fold f w (x ∷ xs) a y =
        sets_on (λ i s. (f i s || p x i s) || any (λ x. p x i s) xs) (λ i s. f i s || (p x i s || any (λ x. p x i s) xs)) (fold step (step w x) xs)
        (λ i s l. or_assoc (f i s) (p x i s) (any (λ x. p x i s) xs)) (sets_fold (λ i s. f i s || p x i s) (step w x) xs a.1 (a.0 f w y))

-- one round more of a loop that is a fold
pub fold_next : {A : Type 0} (step : List ℕ → A → List ℕ) (f : ℕ → A) (w out r : List ℕ) (m : ℕ) → out ≡ fold step w (map f (up_to m))
    → r ≡ step out (f m) → r ≡ fold step w (map f (up_to (m + 1)))
fold_next step f w out r m e p =
    p ∙ ap (λ x. step x (f m)) e ∙ sym (fold_snoc step w (map f (up_to m)) (f m)) ∙ ap (fold step w) (sym (map_snoc f (up_to m) m))
    ∙ ap (λ n. fold step w (map f (up_to n))) (sym (add-one m))

pub fold_take : {S : Type 0} (step : S → ℕ → S) (s out r : S) (xs : List ℕ) (i : ℕ) → i < length xs → out ≡ fold step s (take i xs) → r ≡ step out (get_or xs i 0)
    → r ≡ fold step s (take (i + 1) xs)
fold_take step s out r xs i l e p =
    p ∙ ap (λ x. step x (get_or xs i 0)) e ∙ sym (fold_snoc step s (take i xs) (get_or xs i 0)) ∙ ap (fold step s) (sym (take-suc xs i 0 l)) ∙ ap (λ n. fold step s (take n xs)) (sym (add-one i))
