-- Words of 32 bits: the lowest bit, a word without a bit or without its low bits, and a loop over the bits of a set. Assumes nothing.
use Prim.Native.Nat.{ℕ, zero, suc, ◌+◌, ◌*◌, ◌-◌, ◌/◌, ◌%◌, ◌^◌, ◌≤◌, ◌<◌}
use native.Mathlib.Omega.{arith}
use native.Mathlib.Nat.{div-div-eq-div-mul, pow-succ', mul_left_comm}
use lib.Pow.{pow-add, pow_pos}
use lib.Count.{count_trailing_zeros}
use mathlib.Core.Path.{◌≡◌, refl, sym, ap, ap₂, subst, ◌∙◌}
use mathlib.Core.Logic.{⊎_elim, ◌≢◌}
use mathlib.Core.Bool.{Bool, false, not, ◌&&◌}
use mathlib.Core.List.{List, [], ◌∷◌}
use lib.ListN.{get_or}
use lib.Dec.{T, eqb, eqb→eq, ltb, ltb→lt, lt→ltb, nltb→le}
use Rattle.model.specs.Lists.{all, bit}
use Rattle.model.proofs.Basics.{clash, decide, same?, eq-T, true_eq, false_eq, iff_eq, and_l, and_r, and_in, ne_eqb, not_intro}
use Rattle.model.proofs.Masks.{bit_low, bit_half, bit_none}
use Rattle.graph.specs.Masks.{without}
use Rattle.graph.proofs.WordLaws.{lowest, bit_without, and_not, and_none}

-- ---- the lowest bit

pub low_set : (m : ℕ) → m ≢ 0 → m < 2 ^ 32 → T (bit m (count_trailing_zeros 32 m))
low_set m ne l = eq-T (sym (lowest 32 m l ne).is_set) tt

pub low_small : (m : ℕ) → m ≢ 0 → m < 2 ^ 32 → count_trailing_zeros 32 m < 32
low_small m ne l = (lowest 32 m l ne).below

pub low_none : (m b : ℕ) → m < 2 ^ 32 → b < count_trailing_zeros 32 m → T (not (bit m b))
low_none m b l h =
    subst (λ (x : Bool). T (not x))
    (sym (⊎_elim (λ (e : m ≡ 0). ap (λ (x : ℕ). bit x b) e ∙ bit_none b) (λ (e : m ≢ 0). (lowest 32 m l e).clear b h) (same? m 0))) tt

-- what `without` of graph says, bit by bit
pub one_less : (m v r : ℕ) → r ≡ without m v → (s : ℕ) → bit r s ≡ (bit m s && not (eqb s v))
one_less m v r e s = ap (λ (x : ℕ). bit x s) e ∙ bit_without m v s

-- ---- a word without its low bits

shift_bit : (m s b : ℕ) → bit (m / 2 ^ s) b ≡ bit m (s + b)
unfolding bit
shift_bit m s b = ap (λ (x : ℕ). eqb (x % 2) 1) (div-div-eq-div-mul m (2 ^ s) (2 ^ b) ∙ ap (λ (x : ℕ). m / x) (sym (pow-add 2 s b)))

twice : (y s : ℕ) → y * 2 ^ suc s ≡ 2 * (y * 2 ^ s)
twice y s = ap (λ (x : ℕ). y * x) (pow-succ' 2 s) ∙ mul_left_comm y 2 (2 ^ s)

low_zero : (s y b : ℕ) → b < s → bit (y * 2 ^ s) b ≡ false
low_zero zero y b h = absurd (omega arith)
low_zero (suc s) y zero h =
    let e = twice y s in
    let q : (y * 2 ^ suc s) % 2 ≡ 0 = omega arith in
    bit_low (y * 2 ^ suc s) ∙ ap (λ (x : ℕ). eqb x 1) q
low_zero (suc s) y (suc b) h =
    let e = twice y s in
    let q : (y * 2 ^ suc s) / 2 ≡ y * 2 ^ s = omega arith in
    bit_half (y * 2 ^ suc s) b ∙ ap (λ (x : ℕ). bit x b) q ∙ low_zero s y b (omega arith)

high_same : (s y b : ℕ) → bit (y * 2 ^ s) (s + b) ≡ bit y b
high_same zero y b =
    let e : y * 2 ^ zero ≡ y = omega arith in
    let f : zero + b ≡ b = omega arith in
    ap₂ bit e f
high_same (suc s) y b =
    let e = twice y s in
    let q : (y * 2 ^ suc s) / 2 ≡ y * 2 ^ s = omega arith in
    let f : suc s + b ≡ suc (s + b) = omega arith in
    ap (bit (y * 2 ^ suc s)) f ∙ bit_half (y * 2 ^ suc s) (s + b) ∙ ap (λ (x : ℕ). bit x (s + b)) q ∙ high_same s y b

pub high_bits : (w s b : ℕ) → bit (w / 2 ^ s * 2 ^ s) b ≡ (bit w b && not (ltb b s))
high_bits w s b =
    ⊎_elim
    (λ (l : T (ltb b s)).
    low_zero s (w / 2 ^ s) b (ltb→lt b s l) ∙ and_none (bit w b) ∙ ap (λ (x : Bool). bit w b && not x) (sym (true_eq (ltb b s) l)))
    (λ l.
    let h = nltb→le b s l in
    let e : s + (b - s) ≡ b = omega arith in
    ap (bit (w / 2 ^ s * 2 ^ s)) (sym e) ∙ high_same s (w / 2 ^ s) (b - s) ∙ shift_bit w s (b - s) ∙ ap (bit w) e ∙ and_not (bit w b)
    ∙ ap (λ (x : Bool). bit w b && not x) (sym (false_eq (ltb b s) l)))
    (decide (ltb b s))

-- ---- the numbers below t, as a set

pub ones : (t x : ℕ) → bit (2 ^ t - 1) x ≡ ltb x t
ones zero x = bit_none x ∙ sym (false_eq (ltb x 0) (not_intro (ltb x 0) (λ q. let h = ltb→lt x 0 q in omega arith)))
ones (suc t) zero =
    let e : (2 ^ suc t - 1) % 2 ≡ 1 = omega (arith, pow_pos t) in
    bit_low (2 ^ suc t - 1) ∙ ap (λ (y : ℕ). eqb y 1) e ∙ sym (true_eq (ltb 0 (suc t)) (lt→ltb 0 (suc t) (omega arith)))
ones (suc t) (suc x) =
    let e : (2 ^ suc t - 1) / 2 ≡ 2 ^ t - 1 = omega (arith, pow_pos t) in
    bit_half (2 ^ suc t - 1) x ∙ ap (λ (y : ℕ). bit y x) e ∙ ones t x
    ∙ iff_eq (ltb x t) (ltb (suc x) (suc t)) (λ q. lt→ltb (suc x) (suc t) (let h = ltb→lt x t q in omega arith))
    (λ q. lt→ltb x t (let h = ltb→lt (suc x) (suc t) q in omega arith))

-- of the 32 numbers from p on, those below n: none, all, or as many as are left
pub word_none : (p n b : ℕ) → n ≤ p → bit 0 b ≡ ltb (p + b) n
word_none p n b h = bit_none b ∙ sym (false_eq (ltb (p + b) n) (not_intro (ltb (p + b) n) (λ t. let z = ltb→lt (p + b) n t in omega arith)))

pub word_all : (p n r b : ℕ) → p + 32 ≤ n → ((x : ℕ) → bit r x ≡ ltb x 32) → b < 32 → bit r b ≡ ltb (p + b) n
word_all p n r b h f l = f b ∙ true_eq (ltb b 32) (lt→ltb b 32 l) ∙ sym (true_eq (ltb (p + b) n) (lt→ltb (p + b) n (omega arith)))

pub word_some : (p n r b : ℕ) → p ≤ n → ((x : ℕ) → bit r x ≡ ltb x (n - p)) → bit r b ≡ ltb (p + b) n
word_some p n r b h f =
    f b
    ∙ iff_eq (ltb b (n - p)) (ltb (p + b) n) (λ t. lt→ltb (p + b) n (let z = ltb→lt b (n - p) t in omega arith))
    (λ t. lt→ltb b (n - p) (let z = ltb→lt (p + b) n t in omega arith))

-- ---- a loop over the bits of a set, lowest first: m holds those that are left, and P holds of the others

module _ (P : ℕ → Type 0) (set : ℕ) where
  pub record Scan (m : ℕ) : Type 0 where
    pub small : m < 2 ^ 32
    pub part : (b : ℕ) → T (bit m b) → T (bit set b)
    pub done : (b : ℕ) → T (bit set b) → T (not (bit m b)) → P b

  pub scan_none : set < 2 ^ 32 → Scan set
  scan_none h = record { small = h; part = λ b t. t; done = λ b t n. absurd (clash (bit set b) t n) }

  module _ (m : ℕ) (s : Scan m) where
    pub scan_before : (b : ℕ) → b < count_trailing_zeros 32 m → T (bit set b) → P b
    scan_before b h t = s.done b t (low_none m b s.small h)

    module _ (ne : m ≡ 0 → ⊥) where
      pub scan_low : T (bit m (count_trailing_zeros 32 m))
      scan_low = low_set m ne s.small

      pub scan_next : P (count_trailing_zeros 32 m) → (r : ℕ) → r < m → ((b : ℕ) → bit r b ≡ (bit m b && not (eqb b (count_trailing_zeros 32 m)))) → Scan r
      scan_next p r l f =
          record {
            small = omega (arith, s.small);
            part = λ b t. s.part b (and_l (bit m b) (not (eqb b (count_trailing_zeros 32 m))) (eq-T (f b) t));
            done = λ b t n.
                ⊎_elim (λ (e : b ≡ count_trailing_zeros 32 m). subst P (sym e) p)
                (λ (e : b ≢ count_trailing_zeros 32 m).
                s.done b t (not_intro (bit m b) (λ x. clash (bit r b) (eq-T (sym (f b)) (and_in (bit m b) (not (eqb b (count_trailing_zeros 32 m))) x (ne_eqb {m = b} {n = count_trailing_zeros 32 m} e))) n)))
                (same? b (count_trailing_zeros 32 m));
          }

-- ---- a list of zeros

pub zero_list : (l : List ℕ) → T (all (λ x. eqb x 0) l) → (j : ℕ) → get_or l j 0 ≡ 0
zero_list [] t j = refl
zero_list (x ∷ l) t zero = eqb→eq x 0 (and_l (eqb x 0) (all (λ x. eqb x 0) l) t)
zero_list (x ∷ l) t (suc j) = zero_list l (and_r (eqb x 0) (all (λ x. eqb x 0) l) t) j
