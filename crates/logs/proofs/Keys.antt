-- The keys that the first bodies of a transaction read, write and read back, as masks. Assumes nothing.
use Prim.Native.Nat.{ℕ, suc, ◌+◌, ◌^◌, ◌<◌}
use mathlib.Core.Path.{◌≡◌, refl, sym, ap, ap₂, ◌∙◌}
use mathlib.Core.Bool.{Bool, true, false, cond, ◌&&◌, ◌||◌, or-false}
use mathlib.Core.List.{List}
use lib.Dec.{eqb}
use lib.Bits.{bit_or, or_lt}
use lib.Pow.{pow-lt}
use Rattle.model.specs.Lists.{bit, word_of, up_to}
use Rattle.model.specs.Log.{kind_at, key_at, seen, back_at, seen_back}
use Rattle.model.proofs.Words.{bit_word, word_lt}
use Rattle.model.proofs.Masks.{bit_or_lem, bit_one, same_bits}
use Rattle.model.proofs.Loops.{any_snoc}
use Rattle.model.proofs.Basics.{eqb_comm}
use Rattle.rules.specs.Tests.{mark_by, mark_back}

-- a mask of keys, with one key more where it is marked
mask_more : (p q : ℕ → Bool) (a : Bool) (key : ℕ) → key < 32 → ((k : ℕ) → q k ≡ (p k || (a && eqb key k)))
    → cond a (bit_or (word_of 32 p) (2 ^ key)) (word_of 32 p) ≡ word_of 32 q
mask_more p q true key l f =
    same_bits 32 (bit_or (word_of 32 p) (2 ^ key)) q (or_lt 32 (word_of 32 p) (2 ^ key) (word_lt 32 p) (pow-lt l))
    (λ i k. bit_or_lem (word_of 32 p) (2 ^ key) i ∙ ap₂ (λ x y. x || y) (bit_word 32 p i k) (bit_one key i ∙ eqb_comm i key) ∙ sym (f i))
mask_more p q false key l f =
    same_bits 32 (word_of 32 p) q (word_lt 32 p) (λ i k. bit_word 32 p i k ∙ sym (or-false (p i)) ∙ sym (f i))

both : (x y : ℕ) (w r : Bool) → cond w (cond r x y) y ≡ cond (r && w) x y
both x y true true = refl
both x y true false = refl
both x y false true = refl
both x y false false = refl

module _ (b : List ℕ) (first : ℕ) where
  seen_suc : (m x k : ℕ) → seen b first (suc m) x k ≡ (seen b first m x k || (eqb (kind_at b (first + m)) x && eqb (key_at b (first + m)) k))
  unfolding seen
  seen_suc m x k = any_snoc (λ j. eqb (kind_at b (first + j)) x && eqb (key_at b (first + j)) k) (up_to m) m

  back_suc : (m k : ℕ) → seen_back b first (suc m) k ≡ (seen_back b first m k || (back_at b first m && eqb (key_at b (first + m)) k))
  unfolding seen_back
  back_suc m k = any_snoc (λ j. back_at b first j && eqb (key_at b (first + j)) k) (up_to m) m

  -- the mask of the keys of this kind in the first m bodies
  unfoldable pub mask_at : ℕ → ℕ → ℕ
  mask_at m x = word_of 32 (seen b first m x)

  -- the mask of the keys read back in the first m bodies
  unfoldable pub backs_at : ℕ → ℕ
  backs_at m = word_of 32 (seen_back b first m)

  pub masks_start : (x : ℕ) → 0 ≡ mask_at 0 x
  unfolding seen mask_at
  masks_start x = refl

  pub backs_start : 0 ≡ backs_at 0
  unfolding seen_back backs_at
  backs_start = refl

  pub mask_bit : (m x k : ℕ) → k < 32 → bit (mask_at m x) k ≡ seen b first m x k
  unfolding mask_at
  mask_bit m x k l = bit_word 32 (seen b first m x) k l

  pub backs_bit : (m k : ℕ) → k < 32 → bit (backs_at m) k ≡ seen_back b first m k
  unfolding backs_at
  backs_bit m k l = bit_word 32 (seen_back b first m) k l

  pub mask_next : (m x : ℕ) → key_at b (first + m) < 32 → mark_by (mask_at m x) (kind_at b (first + m)) x (key_at b (first + m)) ≡ mask_at (suc m) x
  unfolding mark_by mask_at
  mask_next m x l =
      mask_more (seen b first m x) (seen b first (suc m) x) (eqb (kind_at b (first + m)) x) (key_at b (first + m)) l (seen_suc m x)

  pub backs_next : (m : ℕ) → key_at b (first + m) < 32
      → mark_back (backs_at m) (mask_at m 1) (kind_at b (first + m)) (key_at b (first + m)) ≡ backs_at (suc m)
  unfolding mark_back mark_by backs_at back_at
  backs_next m l =
      ap (λ w. cond w (cond (eqb kind 0) (bit_or (backs_at m) (2 ^ key)) (backs_at m)) (backs_at m)) (mask_bit m 1 key l)
      ∙ both (bit_or (backs_at m) (2 ^ key)) (backs_at m) (seen b first m 1 key) (eqb kind 0)
      ∙ mask_more (seen_back b first m) (seen_back b first (suc m)) (eqb kind 0 && seen b first m 1 key) key l (back_suc m)
    where
      kind : ℕ
      kind = kind_at b (first + m)

      key : ℕ
      key = key_at b (first + m)
