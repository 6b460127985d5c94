-- The words of the open constraints, their count, which is a measure, and the loop of pruning. Assumes nothing.
use Prim.Native.Nat.{ℕ, zero, suc, ◌+◌, ◌*◌, ◌/◌, ◌%◌, ◌^◌, ◌≤◌, ◌<◌}
use native.Mathlib.Omega.{arith}
use native.Mathlib.Nat.{not-suc-le-zero}
use mathlib.Core.Path.{◌≡◌, refl, sym, ap, ap₂, subst, ◌∙◌}
use mathlib.Core.Logic.{◌⊎◌, inl, inr, ⊎_elim, ◌≢◌}
use mathlib.Core.Bool.{Bool, true, false, not, ◌&&◌}
use mathlib.Core.List.{List, [], ◌∷◌}
use lib.Dec.{T, eqb, eqb→eq, eqb_refl, ltb, ltb→lt, nltb→le}
use lib.ListN.{length, get_or, set, length-set, length-append, get_or-append, get_or-eq_default}
use lib.Seq.{get_or_at, get_or-set_same, get_or-set_other}
use lib.Count.{count_trailing_zeros}
use Rattle.std.specs.Prelude.{Option, None, Some, IfSome, unwrap_or}
use Rattle.model.specs.Lists.{all, up_to, keep, bit}
use Rattle.model.specs.Polygraph.{reach, closed_off}
use Rattle.model.specs.declared.Constraint.{Constraint}
use Rattle.model.specs.RowWords.{Tidy, held}
use Rattle.model.proofs.Basics.{clash, decide, same?, eq-T, false_eq, iff_eq, and_l, and_r, and_in, ne_eqb, not_intro}
use Rattle.model.proofs.Masks.{bit_none}
use Rattle.model.proofs.Closed.{fewer_at}
use Rattle.search.specs.Constraints.{con_at, is_open, open_count, Fit, Dropped}
use Rattle.search.specs.Steps.{PartialOrder, shut, Last, Taken, Grown, Narrowed, PrunedState, Turning, NextOpen, HitIn, NextHit, NextChoice}
use Rattle.search.proofs.Counts.{turn_first, turn_hit, turn_again}
use Rattle.search.proofs.Exact.{Run, run_none, run_next, run_stuck, run_again, run_end}
use Rattle.graph.proofs.WordLaws.{and_not}
use Rattle.search.proofs.Words.{zero_list, low_set, low_none, low_small}
use Rattle.search.proofs.Steps.{no_true, grown_none, grown_then, held_more, forced, forced_none}

open_at : (l : List ℕ) (w b : ℕ) → b < 32 → is_open l (w * 32 + b) ≡ bit (get_or l w 0) b
unfolding is_open
open_at l w b h =
    let p : (w * 32 + b) / 32 ≡ w = omega arith in
    let q : (w * 32 + b) % 32 ≡ b = omega arith in
    ap₂ (λ (x y : ℕ). bit (get_or l x 0) y) p q

pub open_is : (l : List ℕ) (i : ℕ) → is_open l i ≡ bit (get_or l (i / 32) 0) (i % 32)
unfolding is_open
open_is l i = refl

-- ---- the count

length_up : (n : ℕ) → length (up_to n) ≡ n
length_up zero = refl
length_up (suc n) = length-append (up_to n) (n ∷ []) ∙ omega (arith, length_up n)

get_or_up : (n i : ℕ) → i < n → get_or (up_to n) i 0 ≡ i
get_or_up zero i h = absurd (not-suc-le-zero h)
get_or_up (suc n) i h =
    ⊎_elim (λ (e : i ≡ n). get_or_at (up_to n) n [] 0 i (length_up n ∙ sym e) ∙ sym e)
    (λ (e : i ≢ n). get_or-append (up_to n) (n ∷ []) 0 i (omega (arith, length_up n)) ∙ get_or_up n i (omega arith)) (same? i n)

-- fewer numbers below n pass p than q, where p implies q and i passes only q
pub count_fewer : (p q : ℕ → Bool) → ((i : ℕ) → T (p i) → T (q i)) → (n i : ℕ) → i < n → T (not (p i)) → T (q i) → length (keep p (up_to n)) < length (keep q (up_to n))
count_fewer p q f n i h a b =
    let e = sym (get_or_up n i h) in
    fewer_at p q f (up_to n) i 0 (omega (arith, length_up n)) (subst (λ (x : ℕ). T (not (p x))) e a) (subst (λ (x : ℕ). T (q x)) e b)

module _ (l m : List ℕ) (i : ℕ) (d : Dropped l i m) where
  pub drop_fewer : (j : ℕ) → T (is_open m j) → T (is_open l j)
  drop_fewer j t = and_l (is_open l j) (not (eqb j i)) (eq-T (d j) t)

  drop_gone : T (not (is_open m i))
  drop_gone = not_intro (is_open m i) (λ t. clash (eqb i i) (eqb_refl i) (and_r (is_open l i) (not (eqb i i)) (eq-T (d i) t)))

  pub drop_stays : (j : ℕ) → T (is_open l j) → j ≢ i → T (is_open m j)
  drop_stays j t ne = eq-T (sym (d j)) (and_in (is_open l j) (not (eqb j i)) t (ne_eqb {m = j} {n = i} ne))

  pub drop_falls : (n : ℕ) → i < n → T (is_open l i) → open_count m n < open_count l n
  unfolding open_count
  drop_falls n h o = count_fewer (is_open m) (is_open l) drop_fewer n i h drop_gone o

-- an open constraint has its word
open_inside : (l : List ℕ) (i : ℕ) → T (is_open l i) → i / 32 < length l
open_inside l i t =
    ⊎_elim (λ (h : T (ltb (i / 32) (length l))). ltb→lt (i / 32) (length l) h)
    (λ h.
    let e = open_is l i ∙ ap (λ (x : ℕ). bit x (i % 32)) (get_or-eq_default l 0 {n = i / 32} (nltb→le (i / 32) (length l) h)) ∙ bit_none (i % 32) in
    absurd (eq-T e t))
    (decide (ltb (i / 32) (length l)))

pub dropped : (l : List ℕ) (i x : ℕ) → T (is_open l i) → ((s : ℕ) → bit x s ≡ (bit (get_or l (i / 32) 0) s && not (eqb s (i % 32)))) → Dropped l i (set l (i / 32) x)
dropped l i x o f j =
    ⊎_elim
    (λ (e : j / 32 ≡ i / 32).
    open_is (set l (i / 32) x) j ∙ ap (λ (y : ℕ). bit (get_or (set l (i / 32) x) y 0) (j % 32)) e
    ∙ ap (λ (y : ℕ). bit y (j % 32)) (get_or-set_same l (i / 32) x 0 (open_inside l i o)) ∙ f (j % 32)
    ∙ ap₂ (λ (y z : Bool). y && not z) (ap (λ (y : ℕ). bit (get_or l y 0) (j % 32)) (sym e) ∙ sym (open_is l j))
    (iff_eq (eqb (j % 32) (i % 32)) (eqb j i) (λ t. let q = eqb→eq (j % 32) (i % 32) t in let r : j ≡ i = omega arith in subst (λ (y : ℕ). T (eqb j y)) r (eqb_refl j))
    (λ t. let q = eqb→eq j i t in let r : j % 32 ≡ i % 32 = omega arith in subst (λ (y : ℕ). T (eqb (j % 32) y)) r (eqb_refl (j % 32)))))
    (λ (e : j / 32 ≢ i / 32).
    open_is (set l (i / 32) x) j ∙ ap (λ (y : ℕ). bit y (j % 32)) (get_or-set_other l (i / 32) (j / 32) x 0 e) ∙ sym (open_is l j) ∙ and_not (is_open l j)
    ∙ ap (λ (y : Bool). is_open l j && not y) (sym (false_eq (eqb j i) (ne_eqb {m = j} {n = i} (λ q. e (ap (λ (y : ℕ). y / 32) q))))))
    (same? (j / 32) (i / 32))

-- ---- the first n are open: the words below k are made

pub record Opening (n k : ℕ) (l : List ℕ) : Type 0 where
  pub bound : k ≤ 128
  pub long : length l ≡ 128
  pub done : (i : ℕ) → i < k * 32 → is_open l i ≡ ltb i n
  pub rest : (j : ℕ) → k ≤ j → get_or l j 0 ≡ 0

pub opening_none : (n : ℕ) (l : List ℕ) → length l ≡ 128 → T (all (λ x. eqb x 0) l) → Opening n 0 l
opening_none n l e z = record { bound = omega arith; long = e; done = λ i h. absurd (omega arith); rest = λ j h. zero_list l z j }

pub opening_next : (n k : ℕ) (l : List ℕ) → Opening n k l → k < 128 → (x : ℕ) → ((b : ℕ) → b < 32 → bit x b ≡ ltb (k * 32 + b) n) → Opening n (k + 1) (set l k x)
opening_next n k l g h x f =
    record {
      bound = omega arith;
      long = length-set l k x ∙ g.long;
      done = λ i a.
          ⊎_elim
          (λ (e : i / 32 ≡ k).
          let q : k * 32 + i % 32 ≡ i = omega arith in
          open_is (set l k x) i ∙ ap (λ (y : ℕ). bit (get_or (set l k x) y 0) (i % 32)) e
          ∙ ap (λ (y : ℕ). bit y (i % 32)) (get_or-set_same l k x 0 (omega (arith, g.long))) ∙ f (i % 32) (omega arith) ∙ ap (λ (y : ℕ). ltb y n) q)
          (λ (e : i / 32 ≢ k).
          open_is (set l k x) i ∙ ap (λ (y : ℕ). bit y (i % 32)) (get_or-set_other l k (i / 32) x 0 e) ∙ sym (open_is l i) ∙ g.done i (omega arith))
          (same? (i / 32) k);
      rest = λ j a. get_or-set_other l k j x 0 (omega arith) ∙ g.rest j (omega arith);
    }

pub opening_end : (n k : ℕ) (l : List ℕ) → Opening n k l → n ≤ k * 32 → (i : ℕ) → is_open l i ≡ ltb i n
opening_end n k l g h i =
    ⊎_elim (λ (a : T (ltb i (k * 32))). g.done i (ltb→lt i (k * 32) a))
    (λ a.
    let b = nltb→le i (k * 32) a in
    open_is l i ∙ ap (λ (y : ℕ). bit y (i % 32)) (g.rest (i / 32) (omega arith)) ∙ bit_none (i % 32)
    ∙ sym (false_eq (ltb i n) (not_intro (ltb i n) (λ q. let z = ltb→lt i n q in omega arith))))
    (decide (ltb i (k * 32)))

-- ---- the next open constraint, the next with a side closed off, the next without a side whole

module _ (l : List ℕ) (i set : ℕ) (f : (b : ℕ) → bit set b ≡ (bit (get_or l (i / 32) 0) b && not (ltb b (i % 32)))) where
  -- the set has the open ones of a word from i on
  pub word_out : (b : ℕ) → b < 32 → T (bit set b) → T (is_open l (i / 32 * 32 + b)) × (i ≤ i / 32 * 32 + b)
  word_out b h t =
      let x = eq-T (f b) t in
      let y = nltb→le b (i % 32) (and_r (bit (get_or l (i / 32) 0) b) (not (ltb b (i % 32))) x) in
      (eq-T (sym (open_at l (i / 32) b h)) (and_l (bit (get_or l (i / 32) 0) b) (not (ltb b (i % 32))) x), omega arith)

  word_in : (j : ℕ) → i ≤ j → j < i / 32 * 32 + 32 → T (is_open l j) → T (bit set (j % 32)) × (j ≡ i / 32 * 32 + j % 32)
  word_in j a b o =
      let p : j / 32 ≡ i / 32 = omega arith in (
        eq-T (sym (f (j % 32)))
            (and_in (bit (get_or l (i / 32) 0) (j % 32)) (not (ltb (j % 32) (i % 32))) (subst (λ (y : ℕ). T (bit (get_or l y 0) (j % 32))) p (eq-T (open_is l j) o))
            (not_intro (ltb (j % 32) (i % 32)) (λ t. let z = ltb→lt (j % 32) (i % 32) t in omega arith))),
        omega arith,
      )

  module _ (n from : ℕ) (h : from ≤ i) (g : (j : ℕ) → from ≤ j → j < i → T (is_open l j) → ⊥) where
    pub next_skip : set ≡ 0 → (j : ℕ) → from ≤ j → j < i / 32 * 32 + 32 → T (is_open l j) → ⊥
    next_skip e j a b o =
        ⊎_elim (λ (c : T (ltb j i)). g j a (ltb→lt j i c) o)
        (λ c.
        let x = (word_in j (nltb→le j i c) b o).0 in
        clash (bit set (j % 32)) x (subst (λ (y : ℕ). T (not (bit y (j % 32)))) (sym e) (subst (λ (y : Bool). T (not y)) (sym (bit_none (j % 32))) tt)))
        (decide (ltb j i))

    pub next_found : Fit l n → (set ≡ 0 → ⊥) → set < 2 ^ 32 → NextOpen l from n (i / 32 * 32 + count_trailing_zeros 32 set)
    next_found fit ne small =
        let b = count_trailing_zeros 32 set in
        let top = low_small set ne small in
        let z = word_out b top (low_set set ne small) in
        record {
          bound = omega arith;
          top = omega (arith, fit (i / 32 * 32 + b) z.0);
          some = λ q. z.0;
          none = λ j a k o.
              ⊎_elim (λ (c : T (ltb j i)). g j a (ltb→lt j i c) o)
              (λ c.
              let x = word_in j (nltb→le j i c) (omega arith) o in
              clash (bit set (j % 32)) x.0 (low_none set (j % 32) small (omega (arith, x.1))))
              (decide (ltb j i));
        }

  module _ (w c : List ℕ) (from stop n : ℕ) (h : from ≤ i) (g : (j : ℕ) → from ≤ j → j < stop → j < i → T (is_open l j) → T (not (shut c (con_at w j)))) (r : Option ℕ) (x : HitIn w c (i / 32 * 32) set r) where
    none_here : (j : ℕ) → from ≤ j → j < stop → j < i / 32 * 32 + unwrap_or r 32 → j < i / 32 * 32 + 32 → T (is_open l j) → T (not (shut c (con_at w j)))
    none_here j a s k k' o =
        ⊎_elim (λ (q : T (ltb j i)). g j a s (ltb→lt j i q) o)
        (λ q.
        let y = word_in j (nltb→le j i q) k' o in
        subst (λ (z : ℕ). T (not (shut c (con_at w z)))) (sym y.1) (x.none (j % 32) (omega (arith, y.1)) y.0))
        (decide (ltb j i))

    pub hit_found : Fit l n → (b : ℕ) → r ≡ Some b → NextHit w c l from stop n (i / 32 * 32 + b)
    hit_found fit b is =
        let y = subst (λ (o : Option ℕ). IfSome o (λ b. (b < 32) × T (bit set b) × T (shut c (con_at w (i / 32 * 32 + b))))) is x.some in
        let z = word_out b y.0 y.1 in
        let u : unwrap_or r 32 ≡ b = ap (λ (o : Option ℕ). unwrap_or o 32) is in
        record { bound = omega (arith, z.1); top = omega (arith, fit (i / 32 * 32 + b) z.0); some = λ q. (z.0, y.2); none = λ j a s q. none_here j a s (omega arith) (omega (arith, y.0)) }

    pub hit_skip : r ≡ None → (j : ℕ) → from ≤ j → j < stop → j < i / 32 * 32 + 32 → T (is_open l j) → T (not (shut c (con_at w j)))
    hit_skip is j a s q o =
        let u : unwrap_or r 32 ≡ 32 = ap (λ (o : Option ℕ). unwrap_or o 32) is in none_here j a s (omega arith) q o

pub next_none : (l : List ℕ) (n from i : ℕ) → ((j : ℕ) → from ≤ j → j < i → T (is_open l j) → ⊥) → from ≤ n → n ≤ i → NextOpen l from n n
next_none l n from i f k e = record { bound = k; top = omega arith; some = λ q. absurd (omega arith); none = λ j a b o. f j a (omega arith) o }

pub hit_none : (w c l : List ℕ) (from stop n i : ℕ) → ((j : ℕ) → from ≤ j → j < stop → j < i → T (is_open l j) → T (not (shut c (con_at w j)))) → from ≤ stop → stop ≤ n → stop ≤ i → NextHit w c l from stop n stop
hit_none w c l from stop n i f k top e = record { bound = k; top = top; some = λ q. absurd (omega arith); none = λ j a s b o. f j a s (omega arith) o }

module _ (w c l : List ℕ) (n i j : ℕ) (f : (k : ℕ) → k < i → T (is_open l k) → T (held c (con_at w k))) (x : NextOpen l i n j) where
  before : (k : ℕ) → k < j → T (is_open l k) → T (held c (con_at w k))
  before k h o = ⊎_elim (λ (q : T (ltb k i)). f k (ltb→lt k i q) o) (λ q. absurd (x.none k (nltb→le k i q) h o)) (decide (ltb k i))

  pub choice_none : n ≤ j → NextChoice w c l n n
  choice_none h = record { top = omega arith; some = λ q. absurd (omega arith); none = λ k q o. before k (omega arith) o }

  pub choice_found : j < n → T (not (held c (con_at w j))) → NextChoice w c l n j
  choice_found h t = record { top = omega arith; some = λ q. (x.some q, t); none = before }

  pub choice_next : T (held c (con_at w j)) → (k : ℕ) → k < j + 1 → T (is_open l k) → T (held c (con_at w k))
  choice_next t k h o =
      ⊎_elim (λ (q : k ≡ j). subst (λ (y : ℕ). T (held c (con_at w y))) (sym q) t) (λ (q : k ≢ j). before k (omega arith) o) (same? k j)

-- ---- steps of pruning go together

module _ (w : List ℕ) (n : ℕ) where
  narrow_none : (c l : List ℕ) → PartialOrder c → Narrowed w n c l c l
  narrow_none c l p = record { grown = grown_none w n c p; fewer = λ i t. t; settled = λ i t u. absurd (clash (is_open l i) t u) }

  narrow_then : (c l d m e k : List ℕ) → Narrowed w n c l d m → Narrowed w n d m e k → Narrowed w n c l e k
  narrow_then c l d m e k x y =
      record {
        grown = grown_then w n c d e x.grown y.grown;
        fewer = λ i t. x.fewer i (y.fewer i t);
        settled = λ i t u.
            ⊎_elim (λ z. y.settled i z u) (λ z. held_more d e (con_at w i) y.grown.more (x.settled i t z)) (decide (is_open m i));
      }

  -- one constraint is dropped
  narrow_one : (d m e k : List ℕ) (i : ℕ) → i < n → PartialOrder d → Grown w n d e → T (held e (con_at w i)) → Dropped m i k → Narrowed w n d m e k
  narrow_one d m e k i h p g f drop =
      record {
        grown = g;
        fewer = drop_fewer m k i drop;
        settled = λ j t u.
            ⊎_elim (λ (q : j ≡ i). subst (λ (y : ℕ). T (held e (con_at w y))) (sym q) f)
            (λ (q : j ≢ i). absurd (clash (is_open k j) (drop_stays m k i drop j t q) u)) (same? j i);
      }

  -- the loop: every open constraint is among those from i to stop, or below again, or has no side closed off
  pub record Pruning (c l d m : List ℕ) (i stop again : ℕ) : Type 0 where
    pub narrowed : Narrowed w n c l d m
    pub turning : Turning n i stop again
    pub run : (g : List ℕ) → Tidy g → c ≡ reach g → Run w n g l d m i
    pub seen : (j : ℕ) → T (is_open m j) → (j < i) ⊎ (stop ≤ j) → again ≤ j → T (not (shut d (con_at w j)))

  pub pruning_none : (c l : List ℕ) → PartialOrder c → Fit l n → Pruning c l c l 0 n 0
  pruning_none c l p fit =
      record {
        narrowed = narrow_none c l p;
        turning = turn_first n;
        run = λ g ti e. run_none w n g l c ti e;
        seen = λ j o x a. ⊎_elim (λ (y : j < 0). absurd (omega arith)) (λ (y : n ≤ j). absurd (omega (arith, fit j o))) x;
      }

  module _ (c l d m : List ℕ) (fit : Fit l n) (i stop again : ℕ) (g : Pruning c l d m i stop again) (at : ℕ) (x : NextHit w d m i stop n at) where
    -- a hit
    module _ (h : at < stop) (k : Constraint) (is : k ≡ con_at w at) (from to : ℕ) (last : Last d k from to) where
      side : Last d (con_at w at) from to
      side = subst (λ (x : Constraint). Last d x from to) is last

      hn : at < n
      hn = omega (arith, g.turning.stops)

      pub pruning_next : (e : List ℕ) → Taken d e from to → (m' : List ℕ) → Dropped m at m' → Pruning c l e m' (at + 1) n at
      pruning_next e taken m' drop =
          let y = forced w n d g.narrowed.grown.partial at hn e from to side taken in
          let all = narrow_then c l d m e m' g.narrowed (narrow_one d m e m' at hn g.narrowed.grown.partial y.0 y.1 drop) in
          record {
            narrowed = all;
            turning = turn_hit n i stop again at g.turning h;
            run = λ g' ti q. run_next w n g' l d m i (g.run g' ti q) at x.bound hn (x.some h).0 (λ j a b o. x.none j a (omega arith) b o) from to side e taken.is m' drop;
            seen = λ j o y a.
                ⊎_elim
                (λ (b : j < at + 1). let z : j ≡ at = omega arith in absurd (clash (is_open m' at) (subst (λ (v : ℕ). T (is_open m' v)) z o) (drop_gone m m' at drop)))
                (λ (b : n ≤ j). absurd (omega (arith, fit j (all.fewer j o)))) y;
          }

      pub pruning_stuck : T (closed_off d from to) → PrunedState w n c l true d m
      pruning_stuck q =
          record {
            narrowed = λ r. no_true (sym r);
            done = λ r. no_true (sym r);
            hopeless = λ r o k y. forced_none w n d g.narrowed.grown.partial at hn from to side q o (g.narrowed.grown.keeps o k y) y;
            exact = λ g' ti e. run_stuck w n g' l d m i (g.run g' ti e) at x.bound hn (x.some h).0 (λ j a b o. x.none j a (omega arith) b o) from to side q d m;
          }

    -- no hit
    module _ (h : stop ≤ at) where
      none_left : (j : ℕ) → T (is_open m j) → again ≤ j → T (not (shut d (con_at w j)))
      none_left j o a =
          ⊎_elim (λ (y : T (ltb j i)). g.seen j o (inl (ltb→lt j i y)) a)
          (λ y.
          ⊎_elim (λ (z : T (ltb j stop)). let s = ltb→lt j stop z in x.none j (nltb→le j i y) s (omega arith) o)
          (λ z. g.seen j o (inr (nltb→le j stop z)) a) (decide (ltb j stop))) (decide (ltb j i))

      pub pruning_again : Pruning c l d m 0 again 0
      pruning_again =
          record {
            narrowed = g.narrowed;
            turning = turn_again n i stop again g.turning;
            run = λ g' ti e. run_again w n g' l d m i (g.run g' ti e) (omega (arith, g.turning.from, g.turning.stops)) (λ j a b o. none_left j o (omega (arith, g.turning.behind)));
            seen = λ j o y a. ⊎_elim (λ (b : j < 0). absurd (omega arith)) (λ (b : again ≤ j). none_left j o b) y;
          }

      pub pruning_end : again ≡ 0 → PrunedState w n c l false d m
      pruning_end e =
          record {
            narrowed = λ q. g.narrowed;
            done = λ q j o. none_left j o (omega arith);
            hopeless = λ q. no_true q;
            exact = λ g' ti q. run_end w n g' l d m i (g.run g' ti q) (omega (arith, g.turning.from, g.turning.stops)) (λ j a o. none_left j o (omega arith));
          }
