-- What stands in the tables of runs: the encoding and, for each two runs of a key, their words. Assumes nothing.
use Prim.Native.Nat.{ℕ, zero, suc, ◌+◌, ◌*◌, ◌/◌, ◌≤◌, ◌<◌}
use native.Mathlib.Omega.{arith}
use native.Mathlib.Nat.{not-suc-le-zero}
use mathlib.Core.Path.{◌≡◌, refl, sym, ap, subst, ◌∙◌}
use mathlib.Core.Logic.{⊎_elim, ◌≢◌}
use mathlib.Core.Bool.{Bool, true, false, not, cond, ◌&&◌}
use mathlib.Core.List.{List, [], ◌∷◌}
use lib.Dec.{T, eqb, eqb→eq}
use lib.Bits.{bit_and, bit_xor}
use lib.ListN.{length, get_or, set, length-set}
use lib.Seq.{get_or-set_same, get_or-set_other}
use Rattle.model.specs.Lists.{any, fold, up_to, bit, All}
use Rattle.model.proofs.Basics.{same?, eq-T, and_l, and_in, or_out, eq-eqb, any_up_to_in}
use Rattle.model.proofs.Loops.{fold_snoc}
use Rattle.graph.specs.Members.{members}
use Rattle.graph.proofs.WordLaws.{bit_minus}
use Rattle.graph.proofs.MemberLaws.{In, members_all, members_any, members_ascend}
use Rattle.listing.specs.Runs.{nexts_of, head_by, first_by, word_by, words_by, pairs_in, is_idle, key_words, key_numbers, run_words}
use Rattle.listing.proofs.Keys.{idle_is}
use Rattle.listing.proofs.Pairs.{two_not_few, pairs_idle}

module _ (e n : ℕ) (writers marks : List ℕ) where
  -- those that stand for a run of key k, and the word of one
  abbrev F : ℕ → ℕ
  F k = first_by e writers marks k

  abbrev own : ℕ → ℕ → ℕ
  own k g = word_by e n writers marks k g

  -- ---- the words of a key

  module _ (k : ℕ) where
    abbrev put : List ℕ → List ℕ → List ℕ
    put w gs = words_by e n writers marks k w gs

    put_length : (w gs : List ℕ) → length (put w gs) ≡ length w
    unfolding words_by
    put_length w [] = refl
    put_length w (g ∷ gs) = put_length (set w (k * 32 + g) (own k g)) gs ∙ length-set w (k * 32 + g) (own k g)

    -- words of other keys stay
    put_out : (w gs : List ℕ) (j : ℕ) → All (In (F k)) gs → j / 32 ≢ k → get_or (put w gs) j 0 ≡ get_or w j 0
    unfolding words_by
    put_out w [] j a ne = refl
    put_out w (g ∷ gs) j a ne =
        put_out (set w (k * 32 + g) (own k g)) gs j a.1 ne ∙ get_or-set_other w (k * 32 + g) j (own k g) 0 (λ z. let l = a.0.low in ne (omega arith))

    -- a word that is there already stays
    put_stays : (w gs : List ℕ) (g : ℕ) → k * 32 + g < length w → get_or w (k * 32 + g) 0 ≡ own k g → get_or (put w gs) (k * 32 + g) 0 ≡ own k g
    unfolding words_by
    put_stays w [] g l p = p
    put_stays w (x ∷ gs) g l p =
        put_stays (set w (k * 32 + x) (own k x)) gs g (omega (arith, length-set w (k * 32 + x) (own k x)))
        (⊎_elim (λ (z : g ≡ x). ap (λ y. get_or (set w (k * 32 + x) (own k x)) (k * 32 + y) 0) z ∙ get_or-set_same w (k * 32 + x) (own k x) 0 (omega arith) ∙ ap (own k) (sym z))
        (λ (z : g ≢ x). get_or-set_other w (k * 32 + x) (k * 32 + g) (own k x) 0 (λ y. z (omega arith)) ∙ p) (same? g x))

    put_in : (w gs : List ℕ) (g : ℕ) → k * 32 + g < length w → T (any (eqb g) gs) → get_or (put w gs) (k * 32 + g) 0 ≡ own k g
    unfolding words_by
    put_in w [] g l t = absurd t
    put_in w (x ∷ gs) g l t =
        ⊎_elim
        (λ s.
        let z : g ≡ x = eqb→eq g x s in
        put_stays (set w (k * 32 + x) (own k x)) gs g (omega (arith, length-set w (k * 32 + x) (own k x)))
        (ap (λ y. get_or (set w (k * 32 + x) (own k x)) (k * 32 + y) 0) z ∙ get_or-set_same w (k * 32 + x) (own k x) 0 (omega arith) ∙ ap (own k) (sym z)))
        (λ s. put_in (set w (k * 32 + x) (own k x)) gs g (omega (arith, length-set w (k * 32 + x) (own k x))) s)
        (or_out (eqb g x) (any (eqb g) gs) t)

    -- ---- a key

    own_word : (w : List ℕ) (g : ℕ) → k * 32 + g < length w → is_idle e writers marks k ≡ false → In (F k) g → get_or (key_words e n writers marks w k) (k * 32 + g) 0 ≡ own k g
    unfolding key_words
    own_word w g l busy p =
        ap (λ b. get_or (cond b w (put w (members (F k)))) (k * 32 + g) 0) busy
        ∙ put_in w (members (F k)) g l (eq-T (sym (members_any (F k) (eqb g))) (any_up_to_in (λ u. bit (F k) u && eqb g u) 32 g p.low (and_in (bit (F k) g) (eqb g g) p.is (eq-eqb {m = g} {n = g} refl))))

    other_word : (w : List ℕ) (j : ℕ) → j / 32 ≢ k → get_or (key_words e n writers marks w k) j 0 ≡ get_or w j 0
    unfolding key_words
    other_word w j ne = go (is_idle e writers marks k)
      where
        go : (b : Bool) → get_or (cond b w (put w (members (F k)))) j 0 ≡ get_or w j 0
        go true = refl
        go false = put_out w (members (F k)) j (members_all (F k)) ne

    key_length : (w : List ℕ) → length (key_words e n writers marks w k) ≡ length w
    unfolding key_words
    key_length w = go (is_idle e writers marks k)
      where
        go : (b : Bool) → length (cond b w (put w (members (F k)))) ≡ length w
        go true = refl
        go false = put_length w (members (F k))

    -- ---- two runs

    writer_of : (i : ℕ) → T (bit (F k) i) → T (bit (get_or writers k 0) i)
    unfolding first_by head_by
    writer_of i = go (eqb e 2)
      where
        W : ℕ
        W = get_or writers k 0

        go : (b : Bool) → T (bit (cond b (bit_xor W (bit_and W (nexts_of W marks k 0 (members W)))) W) i) → T (bit W i)
        go true t = and_l (bit W i) (not (bit (nexts_of W marks k 0 (members W)) i)) (eq-T (bit_minus W (nexts_of W marks k 0 (members W)) i) t)
        go false t = t

    busy : (i j : ℕ) → In (F k) i → In (F k) j → i < j → is_idle e writers marks k ≡ false
    busy i j p q l =
        idle_is e writers marks k false
        (two_not_few (get_or writers k 0) i j (record { low = p.low; is = writer_of i p.is }) (record { low = q.low; is = writer_of j q.is }) l)
        (two_not_few (F k) i j p q l)

    -- a key without two runs has no candidates
    pub numbers_are : key_numbers e writers marks k ≡ pairs_in k (members (first_by e writers marks k))
    unfolding key_numbers
    numbers_are = go (is_idle e writers marks k) refl
      where
        go : (b : Bool) → is_idle e writers marks k ≡ b → cond b [] (pairs_in k (members (F k))) ≡ pairs_in k (members (F k))
        go true z =
            sym (pairs_idle k (F k) (members (F k)) (members_ascend (F k)) (members_all (F k))
            (λ i j p q l. clash (sym z ∙ busy i j p q l)))
          where
            clash : true ≡ false → ⊥
            clash x = eq-T x tt
        go false z = refl

  -- ---- all keys

  module _ (w : List ℕ) (long : length w ≡ 1025) where
    abbrev upto : ℕ → List ℕ
    upto K = fold (key_words e n writers marks) w (up_to K)

    upto_next : (K : ℕ) → upto (suc K) ≡ key_words e n writers marks (upto K) K
    upto_next K = fold_snoc (key_words e n writers marks) w (up_to K) K

    upto_length : (K : ℕ) → length (upto K) ≡ 1025
    upto_length zero = long
    upto_length (suc K) = ap length (upto_next K) ∙ key_length K (upto K) ∙ upto_length K

    upto_word : (K k g : ℕ) → k < K → K ≤ 32 → is_idle e writers marks k ≡ false → In (F k) g → get_or (upto K) (k * 32 + g) 0 ≡ own k g
    upto_word zero k g l m b p = absurd (not-suc-le-zero l)
    upto_word (suc K) k g l m b p =
        let low = p.low in
        ap (λ x. get_or x (k * 32 + g) 0) (upto_next K)
        ∙ ⊎_elim
        (λ (z : k ≡ K).
        subst (λ x. get_or (key_words e n writers marks (upto K) x) (k * 32 + g) 0 ≡ own k g) z (own_word k (upto K) g (omega (arith, upto_length K)) b p))
        (λ (z : k ≢ K). other_word K (upto K) (k * 32 + g) (λ y. z (omega arith)) ∙ upto_word K k g (omega arith) (omega arith) b p)
        (same? k K)

    abbrev all : List ℕ
    all = run_words e n writers marks w

    pub encoding_at : get_or (run_words e n writers marks w) 1024 0 ≡ e
    unfolding run_words
    encoding_at = get_or-set_same (upto 32) 1024 e 0 (omega (arith, upto_length 32))

    word_at : (k g : ℕ) → k < 32 → is_idle e writers marks k ≡ false → In (F k) g → get_or (run_words e n writers marks w) (k * 32 + g) 0 ≡ word_by e n writers marks k g
    unfolding run_words
    word_at k g l b p =
        let low = p.low in
        get_or-set_other (upto 32) 1024 (k * 32 + g) e 0 (λ z. omega arith) ∙ upto_word 32 k g l (omega arith) b p

    -- the words of two runs of a key
    pub words_at : (k i j : ℕ) → k < 32 → In (first_by e writers marks k) i → In (first_by e writers marks k) j → i < j
        → (get_or (run_words e n writers marks w) (k * 32 + i) 0 ≡ word_by e n writers marks k i) × (get_or (run_words e n writers marks w) (k * 32 + j) 0 ≡ word_by e n writers marks k j)
    words_at k i j l p q m = let b = busy k i j p q m in (word_at k i l b p, word_at k j l b q)
