-- The words that the loops make are those of the model's definitions; closed words. Assumes nothing.
use Rattle.std.proofs.Common.{◌≡◌, ℕ, zero, suc, ◌+◌, ◌-◌, ◌*◌, ◌%◌, ◌^◌, ◌<◌, ◌≤◌, Bool, true, false, cond, not, ◌&&◌, ◌||◌, T, eqb, ltb, ◌≢◌, ◌⊎◌, List, map, length, get_or, sym, refl, ap, ◌∙◌, subst, ap₂, inl, inr, ⊎_elim, suc-add, one-mul, zero-add, arith, eqb→eq, ltb→lt, nltb→le, ext_get_or, shl_exact}
use lib.Bits.{bit_and, bit_or, or_lt, and_le_l}
use lib.Pow.{pow-lt}
use lib.ListN.{get_or-eq_default}
use Rattle.model.specs.Lists.{any, up_to, bit, word_of}
use Rattle.model.specs.Polygraph.{row, has, with_side, through, reach, closed_off, Way}
use Rattle.model.proofs.Basics.{eq-T, iff_eq, and_l, and_r, and_in, or_out, or_l, or_r, eq-eqb, decide, clash, true_eq, false_eq, not_intro, any_up_to_out, any_up_to_in, same?}
use Rattle.model.proofs.Words.{word_lt, get_or_up_to, length_up_to, rows_small}
use Rattle.model.proofs.Masks.{bit_or_lem, bit_and_lem, bit_one, bit_none, word_bits, same_bits, side_row, through_row, length_through}
use Rattle.model.specs.RowWords.{Tidy, cyclic}
use Rattle.model.proofs.Reach.{through_out, through_old, rounds, rounds_suc, rounds_all, rounds_way, way_join, way_reach, reach_way, reach_old}
use Rattle.model.proofs.Loops.{any_bit, closed_mask}
use Rattle.model.proofs.Closed.{reach_side}
use Rattle.graph.specs.Bodies.{pointed, absorbed, extended_row}
use Rattle.graph.specs.Leaving.{LeavesBelow}

-- every word has at most 32 bits
abbrev pub Small : List ℕ → Type 0
Small g = (u : ℕ) → get_or g u 0 < 2 ^ 32

pub below : (u : ℕ) → (u < 32) ⊎ (32 ≤ u)
below u = ⊎_elim (λ l. inl (ltb→lt u 32 l)) (λ l. inr (nltb→le u 32 l)) (decide (ltb u 32))

pub one_shl : (v : ℕ) → v < 32 → (1 * 2 ^ v) % 2 ^ 32 ≡ 2 ^ v
one_shl v h = shl_exact 1 v 32 (omega arith) (omega arith) ∙ one-mul (2 ^ v)

pub or_small : (a t : ℕ) → a < 2 ^ 32 → t < 32 → bit_or a (2 ^ t) < 2 ^ 32
or_small a t l h = or_lt 32 a (2 ^ t) l (pow-lt h)

pub bit_below : (w v : ℕ) → w < 2 ^ 32 → T (bit w v) → v < 32
bit_below w v l t = (rows_small (λ u s. bit w s) 0 v (subst (λ x. T (bit x v)) (sym (get_or_up_to (λ u. word_of 32 (bit w)) 0 32 0 (omega arith) ∙ word_bits 32 w l)) t)).1

-- words of 32 bits in a list of 32 have no other edges
pub tidy : (g : List ℕ) → length g ≡ 32 → Small g → Tidy g
tidy g e s u v t = (
  ⊎_elim (λ (l : u < 32). l)
      (λ (l : 32 ≤ u). absurd (subst (λ (w : ℕ). T (bit w v) → ⊥) (sym (get_or-eq_default g 0 {n = u} (omega arith))) (λ x. clash (bit 0 v) x (subst (λ (b : Bool). T (not b)) (sym (bit_none v)) tt)) t))
      (below u),
  bit_below (get_or g u 0) v (s u) t,
)

pub point_is : (g : List ℕ) (from to u : ℕ) → Small g → to < 32 → pointed from to u (row g u) ≡ word_of 32 (λ v. has g u v || (bit from u && eqb v to))
unfolding pointed
point_is g from to u s l = sym (side_row (row g u) to (bit from u) (s u) (or_small (row g u) to (s u) l))

pub absorb_is : (g : List ℕ) (k u : ℕ) → Small g → absorbed (row g k) k (row g u) ≡ word_of 32 (λ v. has g u v || (has g u k && has g k v))
unfolding absorbed
absorb_is g k u s = sym (through_row (row g u) (row g k) (has g u k) (s u) (or_lt 32 (row g u) (row g k) (s u) (s k)))

-- ---- lists of words are the same where their bits are

pub rows_ext : (a b : List ℕ) → length a ≡ 32 → length b ≡ 32 → Small a → Small b → ((u v : ℕ) → u < 32 → v < 32 → has a u v ≡ has b u v) → a ≡ b
rows_ext a b la lb sa sb f =
    ext_get_or 0 a b (la ∙ sym lb)
    (λ u l.
    same_bits 32 (row a u) (bit (row b u)) (sa u) (λ v h. f u v (omega (arith, la)) h) ∙ word_bits 32 (row b u) (sb u))

small_rows : (f : ℕ → ℕ → Bool) (g : List ℕ) → g ≡ map (λ u. word_of 32 (f u)) (up_to 32) → Small g
small_rows f g e u =
    subst (λ (x : List ℕ). get_or x u 0 < 2 ^ 32) (sym e)
    (⊎_elim (λ (l : u < 32). subst (λ (x : ℕ). x < 2 ^ 32) (sym (get_or_up_to (λ u. word_of 32 (f u)) 0 32 u l)) (word_lt 32 (f u)))
    (λ (l : 32 ≤ u). subst (λ (x : ℕ). x < 2 ^ 32) (sym (get_or-eq_default (map (λ u. word_of 32 (f u)) (up_to 32)) 0 {n = u} (omega (arith, length_up_to (λ u. word_of 32 (f u)) 32)))) (omega arith))
    (below u))

through_small : (g : List ℕ) (m : ℕ) → Small (through g m)
unfolding through
through_small g m = small_rows (λ u v. has g u v || (has g u m && has g m v)) (through g m) refl

reach_last : (g : List ℕ) → reach g ≡ through (rounds g 31) 31
reach_last g = sym (rounds_all g 32 refl) ∙ rounds_suc g 31

pub reach_length : (g : List ℕ) → length (reach g) ≡ 32
reach_length g = ap length (reach_last g) ∙ length_through (rounds g 31) 31

pub reach_small : (g : List ℕ) → Small (reach g)
reach_small g = subst Small (sym (reach_last g)) (through_small (rounds g 31) 31)

pub reach_tidy : (g : List ℕ) → Tidy (reach g)
reach_tidy g = tidy (reach g) (reach_length g) (reach_small g)

pub side_tidy : (g : List ℕ) (from to : ℕ) → Tidy (with_side g from to)
unfolding with_side
side_tidy g from to u v t = rows_small (λ u v. has g u v || (bit from u && eqb v to)) u v t

-- ---- rounds through nodes that no edge leaves

through_none : (g : List ℕ) (m : ℕ) → length g ≡ 32 → Small g → ((v : ℕ) → T (has g m v) → ⊥) → through g m ≡ g
through_none g m l s none =
    rows_ext (through g m) g (length_through g m) l (through_small g m) s
    (λ u v hu hv. iff_eq (has (through g m) u v) (has g u v) (λ t. ⊎_elim (λ a. a) (λ a. absurd (none v a.1)) (through_out g m u v hu hv t)) (through_old g m u v hu hv))

way_leaves : (g : List ℕ) (n : ℕ) → LeavesBelow g n → (u v : ℕ) → Way g u v → u < n
way_leaves g n f u v (Way.step t) = f u v t
way_leaves g n f u v (Way.more {v = w} t p) = f u w t

pub leaves_fewer : (g : List ℕ) (n : ℕ) → LeavesBelow g (n + 1) → get_or g n 0 ≡ 0 → LeavesBelow g n
leaves_fewer g n f z u v t =
    ⊎_elim (λ (e : u ≡ n). absurd (clash (bit 0 v) (subst (λ (w : ℕ). T (bit w v)) z (subst (λ (x : ℕ). T (has g x v)) e t)) (subst (λ (b : Bool). T (not b)) (sym (bit_none v)) tt)))
    (λ (e : u ≢ n). let l = f u v t in omega arith)
    (same? u n)

-- where edges leave nodes below n alone, the rounds from n on change nothing
module _ (g : List ℕ) (n : ℕ) (long : length g ≡ 32) (small : Small g) (leaves : LeavesBelow g n) where
  rounds_words : (k : ℕ) → (length (rounds g k) ≡ 32) × Small (rounds g k)
  rounds_words zero = (long, small)
  rounds_words (suc k) = subst (λ (r : List ℕ). (length r ≡ 32) × Small r) (sym (rounds_suc g k)) (length_through (rounds g k) k, through_small (rounds g k) k)

  rounds_still : (d : ℕ) → rounds g (d + n) ≡ rounds g n
  rounds_still zero = ap (rounds g) (zero-add n)
  rounds_still (suc d) =
      let w = rounds_words (d + n) in
      ap (rounds g) (suc-add d n)
      ∙ rounds_suc g (d + n)
      ∙ through_none (rounds g (d + n)) (d + n) w.0 w.1 (λ v t. omega (arith, way_leaves g n leaves (d + n) v (rounds_way g (d + n) (d + n) v t)))
      ∙ rounds_still d

  pub rounds_below : (k : ℕ) → k ≡ n → n ≤ 32 → rounds g k ≡ reach g
  rounds_below k e few = ap (rounds g) e ∙ sym (rounds_still (32 - n)) ∙ rounds_all g (32 - n + n) (omega arith)

-- closed words are closed already
reach_steps : (g : List ℕ) (u v : ℕ) → Way (reach g) u v → Way g u v
reach_steps g u v (Way.step t) = reach_way g u v t
reach_steps g u v (Way.more {v = w} t p) = way_join g u w v (reach_way g u w t) (reach_steps g w v p)

pub reach_idem : (g : List ℕ) → Tidy g → reach (reach g) ≡ reach g
reach_idem g t =
    rows_ext (reach (reach g)) (reach g) (reach_length (reach g)) (reach_length g) (reach_small (reach g)) (reach_small g)
    (λ u v hu hv.
    iff_eq (has (reach (reach g)) u v) (has (reach g) u v) (λ x. way_reach g t u v (reach_steps g u v (reach_way (reach g) u v x)))
    (λ x. reach_old (reach g) u v hu hv x))

-- ---- the closed words after a side

or_swap : (a b : Bool) → (a || b) ≡ (b || a)
or_swap true true = refl
or_swap true false = refl
or_swap false true = refl
or_swap false false = refl

cond_bit : (b : Bool) (x a v : ℕ) → bit (cond b x (bit_or x a)) v ≡ (bit x v || (not b && bit a v))
cond_bit true x a v = go (bit x v)
  where
    go : (b : Bool) → b ≡ (b || false)
    go true = refl
    go false = refl
cond_bit false x a v = bit_or_lem x a v

-- the set meets the row, or has u
meets : (from u w : ℕ) → from < 2 ^ 32 → u < 32 → not (eqb (bit_and from (bit_or w (2 ^ u))) 0) ≡ (bit from u || any (λ s. bit from s && bit w s) (up_to 32))
meets from u w l hu =
    sym (any_bit 32 m (omega (arith, and_le_l from (bit_or w (2 ^ u)))))
    ∙ iff_eq (any (bit m) (up_to 32)) (bit from u || some)
    (λ t.
    let z = any_up_to_out (bit m) 32 t in
    let s = z.0 in
    let a = eq-T (bit_and_lem from (bit_or w (2 ^ u)) s) z.1 in
    let x = and_l (bit from s) (bit (bit_or w (2 ^ u)) s) a in
    ⊎_elim (λ y. or_r (bit from u) some (any_up_to_in (λ s. bit from s && bit w s) 32 s z.2 (and_in (bit from s) (bit w s) x y)))
    (λ y. or_l (bit from u) some (subst (λ k. T (bit from k)) (eqb→eq s u (eq-T (bit_one u s) y)) x))
    (or_out (bit w s) (bit (2 ^ u) s) (eq-T (bit_or_lem w (2 ^ u) s) (and_r (bit from s) (bit (bit_or w (2 ^ u)) s) a))))
    (λ t.
    ⊎_elim
    (λ y. at u hu y (or_r (bit w u) (bit (2 ^ u) u) (eq-T (sym (bit_one u u)) (eq-eqb {m = u} {n = u} refl))))
    (λ y.
    let z = any_up_to_out (λ s. bit from s && bit w s) 32 y in
    at z.0 z.2 (and_l (bit from z.0) (bit w z.0) z.1) (or_l (bit w z.0) (bit (2 ^ u) z.0) (and_r (bit from z.0) (bit w z.0) z.1)))
    (or_out (bit from u) some t))
  where
    m : ℕ
    m = bit_and from (bit_or w (2 ^ u))

    some : Bool
    some = any (λ s. bit from s && bit w s) (up_to 32)

    at : (s : ℕ) → s < 32 → T (bit from s) → T (bit w s || bit (2 ^ u) s) → T (any (bit m) (up_to 32))
    at s h x y =
        any_up_to_in (bit m) 32 s h
        (eq-T (sym (bit_and_lem from (bit_or w (2 ^ u)) s)) (and_in (bit from s) (bit (bit_or w (2 ^ u)) s) x (eq-T (sym (bit_or_lem w (2 ^ u) s)) y)))

module _ (g : List ℕ) (from to : ℕ) (lf : from < 2 ^ 32) (ht : to < 32) (ti : Tidy g) where
  abbrev c : List ℕ
  c = reach g

  abbrev add : ℕ
  add = bit_or (row c to) (2 ^ to)

  abbrev word : ℕ → ℕ
  word u = extended_row from add u (row c u)

  word_small : (u : ℕ) → word u < 2 ^ 32
  unfolding extended_row
  word_small u =
      go (eqb (bit_and from (bit_or (row c u) (2 ^ u))) 0)
    where
      go : (b : Bool) → cond b (row c u) (bit_or (row c u) add) < 2 ^ 32
      go true = reach_small g u
      go false = or_lt 32 (row c u) add (reach_small g u) (or_small (row c to) to (reach_small g to) ht)

  word_bit : (u v : ℕ) → u < 32 → v < 32 → bit (word u) v ≡ has (reach (with_side g from to)) u v
  unfolding extended_row
  word_bit u v hu hv =
      cond_bit (eqb (bit_and from (bit_or (row c u) (2 ^ u))) 0) (row c u) add v
      ∙ ap₂ (λ (x y : Bool). bit (row c u) v || (x && y)) (meets from u (row c u) lf hu)
      (bit_or_lem (row c to) (2 ^ to) v ∙ or_swap (bit (row c to) v) (bit (2 ^ to) v) ∙ ap (λ (x : Bool). x || bit (row c to) v) (bit_one to v))
      ∙ sym (reach_side g from to ti ht (λ s. bit_below from s lf) u v hu hv)

  pub extend_word : (u : ℕ) → u < 32 → word u ≡ row (reach (with_side g from to)) u
  extend_word u hu =
      same_bits 32 (word u) (bit (row (reach (with_side g from to)) u)) (word_small u) (λ v hv. word_bit u v hu hv)
      ∙ word_bits 32 (row (reach (with_side g from to)) u) (reach_small (with_side g from to) u)

-- a list of 32 is the map of its words
pub rows_map : (g : List ℕ) → length g ≡ 32 → map (λ u. row g u) (up_to 32) ≡ g
rows_map g e =
    ext_get_or 0 (map (λ u. row g u) (up_to 32)) g (length_up_to (λ u. row g u) 32 ∙ sym e)
    (λ j l. get_or_up_to (λ u. row g u) 0 32 j (omega (arith, length_up_to (λ u. row g u) 32)))

pub closed_off_is : (c g : List ℕ) (from to : ℕ) → from < 2 ^ 32 → c ≡ reach g → not (eqb (bit_and from (bit_or (row c to) (2 ^ to))) 0) ≡ closed_off g from to
closed_off_is c g from to l e =
    ap (λ (x : List ℕ). not (eqb (bit_and from (bit_or (row x to) (2 ^ to))) 0)) e ∙ sym (closed_mask g from to l)

-- ---- a cycle, from the closed words

pub cyclic_yes : (c g : List ℕ) (u : ℕ) → u < 32 → bit (row c u) u ≡ true → c ≡ reach g → true ≡ cyclic g
unfolding cyclic
cyclic_yes c g u h t e =
    sym (true_eq (cyclic g) (any_up_to_in (λ u. has (reach g) u u) 32 u h (subst (λ (x : List ℕ). T (has x u u)) e (subst (λ (b : Bool). T b) (sym t) tt))))

pub cyclic_no : (c g : List ℕ) → ((u : ℕ) → u < 32 → bit (row c u) u ≡ false) → c ≡ reach g → false ≡ cyclic g
unfolding cyclic
cyclic_no c g f e =
    sym (false_eq (cyclic g)
    (not_intro (cyclic g)
    (λ t.
    let z = any_up_to_out (λ u. has (reach g) u u) 32 t in
    let x = subst (λ (x : List ℕ). T (has x z.0 z.0)) (sym e) z.1 in
    subst (λ (b : Bool). T b) (f z.0 z.2) x)))

pub none_next : (c : List ℕ) (i : ℕ) → ((u : ℕ) → u < i → bit (row c u) u ≡ false) → bit (row c i) i ≡ false → (u : ℕ) → u < i + 1 → bit (row c u) u ≡ false
none_next c i f e u l = ⊎_elim (λ (q : u ≡ i). subst (λ (k : ℕ). bit (row c k) k ≡ false) (sym q) e) (λ (q : u ≢ i). f u (omega arith)) (same? u i)
