-- The tables read back, and the successors. Assumes nothing.
use Prim.Native.Nat.{ℕ, ◌+◌, ◌-◌, ◌*◌, ◌/◌, ◌%◌, ◌^◌, ◌≤◌, ◌<◌}
use native.Mathlib.Omega.{arith}
use mathlib.Core.Path.{◌≡◌, refl, sym, ap, ap₂, subst, ◌∙◌}
use mathlib.Core.Logic.{⊎_elim, ◌≢◌}
use mathlib.Core.Bool.{Bool, true, false, not, cond, ◌&&◌}
use mathlib.Core.List.{List, map}
use lib.Dec.{eqb, ltb, eqb→eq, ltb→lt, lt→ltb}
use lib.Bits.{bit_and, and_le_l}
use lib.Count.{count_trailing_zeros}
use lib.ListN.{get_or}
use lib.Seq.{ext_get_or}
use borrow.Author.Tests.{lt-ltb, le-ltb}
use Rattle.model.specs.Lists.{up_to, bit, word_of}
use Rattle.model.specs.History.{History, start, size, writes, reads}
use Rattle.model.specs.Polygraph.{good_read, bad_read, successor}
use Rattle.model.proofs.Basics.{same?, not_intro, true_eq, false_eq, iff_eq, eq-T, eq-eqb, ne_eqb, eqb_comm, and_l, and_r, and_in}
use Rattle.model.proofs.Words.{bit_word, word_lt, length_up_to, get_or_up_to, bit_rows}
use Rattle.model.proofs.Masks.{bit_and_lem, bit_none}
use Rattle.model.proofs.Legal.{writes_small}
use Rattle.polygraph.specs.Tables.{writers_of, read_mark, read_marks_of}
use Rattle.polygraph.specs.Edges.{next_by, successors_of, successors_by}
use Rattle.graph.proofs.WordLaws.{lowest, first_none, first_is}

pub map_on : {A : Type 0} (d : A) (f g : ℕ → A) (n : ℕ) → ((i : ℕ) → i < n → f i ≡ g i) → map f (up_to n) ≡ map g (up_to n)
map_on d f g n e =
    ext_get_or d (map f (up_to n)) (map g (up_to n)) (length_up_to f n ∙ sym (length_up_to g n))
    (λ i l. let k : i < n = omega (arith, length_up_to f n) in get_or_up_to f d n i k ∙ e i k ∙ sym (get_or_up_to g d n i k))

module _ (h : History) (few : size h ≤ 32) where
  -- ---- the tables, read back

  pub writer_bit : (k s : ℕ) → k < 32 → s < 32 → bit (get_or (writers_of h) k 0) s ≡ writes h s k
  unfolding writers_of
  writer_bit k s l m = bit_rows (λ k s. writes h s k) k s l m

  pub writers_small : (k : ℕ) → k < 32 → get_or (writers_of h) k 0 < 2 ^ 32
  unfolding writers_of
  writers_small k l = subst (λ x. x < 2 ^ 32) (sym (get_or_up_to (λ k. word_of 32 (λ t. writes h t k)) 0 32 k l)) (word_lt 32 (λ t. writes h t k))

  mark_is : (i : ℕ) → i < 1057 → get_or (read_marks_of h) i 0 ≡ word_of 32 (read_mark h i)
  unfolding read_marks_of
  mark_is i l = get_or_up_to (λ i. word_of 32 (read_mark h i)) 0 1057 i l

  pub marks_small : (i : ℕ) → i < 1057 → get_or (read_marks_of h) i 0 < 2 ^ 32
  marks_small i l = subst (λ x. x < 2 ^ 32) (sym (mark_is i l)) (word_lt 32 (read_mark h i))

  pub mark_bit : (i s : ℕ) → i < 1057 → s < 32 → bit (get_or (read_marks_of h) i 0) s ≡ read_mark h i s
  mark_bit i s l m = ap (λ w. bit w s) (mark_is i l) ∙ bit_word 32 (read_mark h i) s m

  pub mark_good : (k u s : ℕ) → k < 32 → u < 32 → read_mark h (k * 32 + u) s ≡ good_read h k s u
  unfolding read_mark
  mark_good k u s l m =
      let i = k * 32 + u in
      let p : (k * 32 + u) / 32 ≡ k = omega arith in
      let q : (k * 32 + u) % 32 ≡ u = omega arith in
      ap (λ b. cond b (good_read h (i / 32) s (i % 32)) (cond (ltb i 1056) (reads h s (i - 1024) start) (bad_read h s))) (lt-ltb i 1024 (omega arith)) ∙ ap₂ (λ x y. good_read h x s y) p q

  pub mark_start : (k s : ℕ) → k < 32 → read_mark h (1024 + k) s ≡ reads h s k start
  unfolding read_mark
  mark_start k s l =
      let i = 1024 + k in
      let p : 1024 + k - 1024 ≡ k = omega arith in
      ap₂ (λ b c. cond b (good_read h (i / 32) s (i % 32)) (cond c (reads h s (i - 1024) start) (bad_read h s))) (le-ltb i 1024 (omega arith)) (lt-ltb i 1056 (omega arith))
      ∙ ap (λ x. reads h s x start) p

  pub mark_bad : (s : ℕ) → read_mark h 1056 s ≡ bad_read h s
  unfolding read_mark
  mark_bad s = refl

  pub good_key : (k u s : ℕ) → k < 32 → u < 32 → s < 32 → bit (get_or (read_marks_of h) (k * 32 + u) 0) s ≡ good_read h k s u
  good_key k u s l m n = mark_bit (k * 32 + u) s (omega arith) n ∙ mark_good k u s l m

  -- ---- successors

  next_bit : (k u v : ℕ) → k < 32 → u < 32 → v < 32
      → bit (bit_and (get_or (read_marks_of h) (k * 32 + u) 0) (get_or (writers_of h) k 0)) v ≡ (not (eqb v u) && (writes h v k && good_read h k v u))
  unfolding good_read
  next_bit k u v l m n =
      bit_and_lem (get_or (read_marks_of h) (k * 32 + u) 0) (get_or (writers_of h) k 0) v
      ∙ ap₂ (λ x y. x && y) (good_key k u v l m n) (writer_bit k v l n)
      ∙ go (reads h v k u) (writes h u k) (eqb u v) (eqb v u) (writes h v k) (eqb_comm u v)
    where
      go : (a b c d w : Bool) → c ≡ d → ((a && (b && not c)) && w) ≡ (not d && (w && (a && (b && not c))))
      go a b c true w e = ap (λ x. (a && (b && not x)) && w) e ∙ none a b w
        where
          none : (a b w : Bool) → ((a && (b && false)) && w) ≡ false
          none true true w = refl
          none true false w = refl
          none false b w = refl
      go true true c false true e = keep (not c)
        where
          keep : (x : Bool) → (x && true) ≡ x
          keep true = refl
          keep false = refl
      go true true c false false e = swap (not c)
        where
          swap : (x : Bool) → (x && false) ≡ false
          swap true = refl
          swap false = refl
      go true false c false true e = refl
      go true false c false false e = refl
      go false b c false true e = refl
      go false b c false false e = refl

  next_is : (k u : ℕ) → k < 32 → u < 32 → next_by (get_or (read_marks_of h) (k * 32 + u) 0) (get_or (writers_of h) k 0) (size h) ≡ successor h k u
  unfolding next_by successor
  next_is k u l m =
      ⊎_elim
      (λ (z : M ≡ 0).
      ap (λ b. cond b (size h) (count_trailing_zeros 32 M)) (true_eq (eqb M 0) (eq-eqb z))
      ∙ sym (first_none p (size h) (size h) (λ i x. sym (next_bit k u i l m (omega arith)) ∙ ap (λ w. bit w i) z ∙ bit_none i)))
      (λ (z : M ≢ 0).
      let low = lowest 32 M (omega (arith, and_le_l (get_or (read_marks_of h) (k * 32 + u) 0) (get_or (writers_of h) k 0), marks_small (k * 32 + u) (omega arith))) z in
      let e : p (count_trailing_zeros 32 M) ≡ true = sym (next_bit k u (count_trailing_zeros 32 M) l m low.below) ∙ low.is_set in
      ap (λ b. cond b (size h) (count_trailing_zeros 32 M)) (false_eq (eqb M 0) (ne_eqb z))
      ∙ sym (first_is p (size h) (size h) (count_trailing_zeros 32 M)
      (writes_small h (count_trailing_zeros 32 M) k (and_l (writes h (count_trailing_zeros 32 M) k) (good_read h k (count_trailing_zeros 32 M) u)
      (and_r (not (eqb (count_trailing_zeros 32 M) u)) (writes h (count_trailing_zeros 32 M) k && good_read h k (count_trailing_zeros 32 M) u) (eq-T (sym e) tt))))
      e (λ i x. sym (next_bit k u i l m (omega (arith, low.below))) ∙ low.clear i x)))
      (same? M 0)
    where
      M : ℕ
      M = bit_and (get_or (read_marks_of h) (k * 32 + u) 0) (get_or (writers_of h) k 0)

      p : ℕ → Bool
      p v = not (eqb v u) && (writes h v k && good_read h k v u)

  pub successors_are : successors_by (size h) (writers_of h) (read_marks_of h) ≡ successors_of h
  unfolding successors_by successors_of
  successors_are =
      map_on 0 (λ i. next_by (get_or (read_marks_of h) i 0) (get_or (writers_of h) (i / 32) 0) (size h)) (λ i. successor h (i / 32) (i % 32)) 1024
      (λ i l.
      let e : i ≡ i / 32 * 32 + i % 32 = omega arith in
      ap (λ j. next_by (get_or (read_marks_of h) j 0) (get_or (writers_of h) (i / 32) 0) (size h)) e ∙ next_is (i / 32) (i % 32) (omega arith) (omega arith))

  pub next_at : (i : ℕ) → i < 1024 → get_or (successors_of h) i 0 ≡ successor h (i / 32) (i % 32)
  unfolding successors_of
  next_at i l = get_or_up_to (λ i. successor h (i / 32) (i % 32)) 0 1024 i l

  -- where the good readers that write the key are not none, the lowest is the successor
  pub next_low : (k u v : ℕ) → k < 32 → u < 32 → v < 32
      → (bit (bit_and (get_or (read_marks_of h) (k * 32 + u) 0) (get_or (writers_of h) k 0)) v && eqb v (count_trailing_zeros 32 (bit_and (get_or (read_marks_of h) (k * 32 + u) 0) (get_or (writers_of h) k 0))))
      ≡ (ltb v (size h) && eqb (successor h k u) v)
  unfolding next_by
  next_low k u v l m n =
      ⊎_elim
      (λ (z : M ≡ 0).
      let s : successor h k u ≡ size h = sym (next_is k u l m) ∙ ap (λ b. cond b (size h) (count_trailing_zeros 32 M)) (true_eq (eqb M 0) (eq-eqb z)) in
      ap (λ b. b && eqb v (count_trailing_zeros 32 M)) (ap (λ w. bit w v) z ∙ bit_none v)
      ∙ sym (false_eq (ltb v (size h) && eqb (successor h k u) v) (not_intro (ltb v (size h) && eqb (successor h k u) v)
      (λ t. omega (arith, s, ltb→lt v (size h) (and_l (ltb v (size h)) (eqb (successor h k u) v) t), eqb→eq (successor h k u) v (and_r (ltb v (size h)) (eqb (successor h k u) v) t))))))
      (λ (z : M ≢ 0).
      let s : successor h k u ≡ count_trailing_zeros 32 M = sym (next_is k u l m) ∙ ap (λ b. cond b (size h) (count_trailing_zeros 32 M)) (false_eq (eqb M 0) (ne_eqb z)) in
      let low = lowest 32 M (omega (arith, and_le_l (get_or (read_marks_of h) (k * 32 + u) 0) (get_or (writers_of h) k 0), marks_small (k * 32 + u) (omega arith))) z in
      iff_eq (bit M v && eqb v (count_trailing_zeros 32 M)) (ltb v (size h) && eqb (successor h k u) v)
      (λ t.
      let e : v ≡ count_trailing_zeros 32 M = eqb→eq v (count_trailing_zeros 32 M) (and_r (bit M v) (eqb v (count_trailing_zeros 32 M)) t) in
      let w = eq-T (next_bit k u v l m n) (and_l (bit M v) (eqb v (count_trailing_zeros 32 M)) t) in
      and_in (ltb v (size h)) (eqb (successor h k u) v)
      (lt→ltb v (size h) (writes_small h v k (and_l (writes h v k) (good_read h k v u) (and_r (not (eqb v u)) (writes h v k && good_read h k v u) w)))) (eq-eqb (s ∙ sym e)))
      (λ t.
      let e : count_trailing_zeros 32 M ≡ v = sym s ∙ eqb→eq (successor h k u) v (and_r (ltb v (size h)) (eqb (successor h k u) v) t) in
      and_in (bit M v) (eqb v (count_trailing_zeros 32 M)) (eq-T (sym (ap (bit M) (sym e) ∙ low.is_set)) tt) (eq-eqb (sym e))))
      (same? M 0)
    where
      M : ℕ
      M = bit_and (get_or (read_marks_of h) (k * 32 + u) 0) (get_or (writers_of h) k 0)

-- word k * 32 + u of the successors
pub next_word : (n : ℕ) (writers marks : List ℕ) (k u : ℕ) → k < 32 → u < 32
    → next_by (get_or marks (k * 32 + u) 0) (get_or writers k 0) n ≡ get_or (successors_by n writers marks) (k * 32 + u) 0
unfolding successors_by
next_word n writers marks k u l m =
    let e : k ≡ (k * 32 + u) / 32 = omega arith in
    ap (λ x. next_by (get_or marks (k * 32 + u) 0) (get_or writers x 0) n) e
    ∙ sym (get_or_up_to (λ i. next_by (get_or marks i 0) (get_or writers (i / 32) 0) n) 0 1024 (k * 32 + u) (omega arith))
