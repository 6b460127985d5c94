-- The depth of the walk: how many pairs of numbers stand in no order, at most 496, and that a choice puts one in order. Assumes nothing.
use Prim.Native.Nat.{ℕ, suc, ◌+◌, ◌*◌, ◌/◌, ◌%◌, ◌≤◌, ◌<◌}
use native.Mathlib.Omega.{arith}
use native.Mathlib.Nat.{lt_of_lt_of_le}
use mathlib.Core.Path.{◌≡◌, sym, subst}
use mathlib.Core.Logic.{◌⊎◌, inl, inr, ⊎_elim, ◌≢◌}
use mathlib.Core.Bool.{Bool, true, false, not, ◌&&◌}
use mathlib.Core.List.{List}
use lib.Dec.{T, ltb, ltb→lt, lt→ltb, nltb→le}
use Rattle.model.specs.Lists.{implies, up_to, bit}
use Rattle.model.specs.Polygraph.{has, closed_off}
use Rattle.model.specs.RowWords.{side_in}
use Rattle.model.proofs.Basics.{clash, decide, not_intro, and_l, and_r, and_in, implies_out, all_up_to_out, not_all_up_to_out}
use Rattle.model.proofs.Closed.{fewer}
use Rattle.search.specs.Steps.{PartialOrder, Taken, apart, open_pairs}
use Rattle.search.proofs.Steps.{off_in}
use Rattle.search.proofs.Opens.{count_fewer}

abbrev at : ℕ → ℕ → ℕ
at u v = u * 32 + v

module _ (c d : List ℕ) (more : (u v : ℕ) → T (has c u v) → T (has d u v)) where
  still : (u v : ℕ) → T (not (has d u v)) → T (not (has c u v))
  still u v n = not_intro (has c u v) (λ t. clash (has d u v) (more u v t) n)

  apart_less : (u v : ℕ) → T (apart d u v) → T (apart c u v)
  unfolding apart
  apart_less u v t =
      let x = and_r (ltb u v) (not (has d u v) && not (has d v u)) t in
      and_in (ltb u v) (not (has c u v) && not (has c v u)) (and_l (ltb u v) (not (has d u v) && not (has d v u)) t)
      (and_in (not (has c u v)) (not (has c v u)) (still u v (and_l (not (has d u v)) (not (has d v u)) x)) (still v u (and_r (not (has d u v)) (not (has d v u)) x)))

  -- more edges, fewer pairs
  pairs_le : open_pairs d ≤ open_pairs c
  unfolding open_pairs
  pairs_le = fewer (λ k. apart d (k / 32) (k % 32)) (λ k. apart c (k / 32) (k % 32)) (λ k. apart_less (k / 32) (k % 32)) (up_to 1024)

  ordered : (u v : ℕ) → u < v → v < 32 → T (not (has c u v)) → T (not (has c v u)) → T (has d u v) ⊎ T (has d v u) → open_pairs d < open_pairs c
  unfolding open_pairs apart
  ordered u v l h a b x =
      let p : at u v / 32 ≡ u = omega arith in
      let q : at u v % 32 ≡ v = omega arith in
      let w : T (apart c u v) = and_in (ltb u v) (not (has c u v) && not (has c v u)) (lt→ltb u v l) (and_in (not (has c u v)) (not (has c v u)) a b) in
      let n : T (not (apart d u v)) =
      not_intro (apart d u v)
      (λ t.
      let y = and_r (ltb u v) (not (has d u v) && not (has d v u)) t in
      ⊎_elim (λ z. clash (has d u v) z (and_l (not (has d u v)) (not (has d v u)) y)) (λ z. clash (has d v u) z (and_r (not (has d u v)) (not (has d v u)) y)) x) in
      count_fewer (λ k. apart d (k / 32) (k % 32)) (λ k. apart c (k / 32) (k % 32)) (λ k. apart_less (k / 32) (k % 32)) 1024 (at u v) (omega arith)
      (subst (λ (k : ℕ). T (not (apart d k (at u v % 32)))) (sym p) (subst (λ (k : ℕ). T (not (apart d u k))) (sym q) n))
      (subst (λ (k : ℕ). T (apart c k (at u v % 32))) (sym p) (subst (λ (k : ℕ). T (apart c u k)) (sym q) w))

  -- a pair is put in order
  pairs_lt : (u v : ℕ) → u < 32 → v < 32 → u ≢ v → T (not (has c u v)) → T (not (has c v u)) → T (has d u v) → open_pairs d < open_pairs c
  pairs_lt u v hu hv ne a b t =
      ⊎_elim (λ (l : T (ltb u v)). ordered u v (ltb→lt u v l) hv a b (inl t)) (λ l. ordered v u (omega (arith, nltb→le u v l)) hu b a (inr t)) (decide (ltb u v))

-- 32 numbers have 496 pairs
pub pairs_most : (c : List ℕ) → open_pairs c ≤ 496
unfolding open_pairs apart
pairs_most c =
    fewer (λ k. apart c (k / 32) (k % 32)) (λ k. ltb (k / 32) (k % 32))
    (λ k t. and_l (ltb (k / 32) (k % 32)) (not (has c (k / 32) (k % 32)) && not (has c (k % 32) (k / 32))) t) (up_to 1024)

implies_no : (a b : Bool) → T (not (implies a b)) → T a × T (not b)
implies_no true true t = absurd t
implies_no true false t = (tt, tt)
implies_no false b t = absurd t

-- a side that is neither there whole nor closed off puts a pair in order
pub side_falls : (c d e : List ℕ) (from to : ℕ) → ((u v : ℕ) → T (has c u v) → T (has d u v)) → PartialOrder d → to < 32
    → T (not (side_in d from to)) → T (not (closed_off d from to)) → Taken d e from to → open_pairs e < open_pairs c
unfolding side_in
side_falls c d e from to more p h n off x =
    let z = not_all_up_to_out (λ s. implies (bit from s) (has d s to)) 32 n in
    let s = z.0 in
    let y = implies_no (bit from s) (has d s to) z.1 in
    let ne : s ≢ to = λ q. clash (closed_off d from to) (off_in d from to s z.2 y.0 (inl q)) off in
    let back : T (not (has d to s)) =
    not_intro (has d to s) (λ t. clash (closed_off d from to) (off_in d from to s z.2 y.0 (inr (subst (λ (g : List ℕ). T (has g to s)) (sym p.closed) t))) off) in
    let new : T (has e s to) =
    implies_out (bit from s) (has e s to) (all_up_to_out (λ s. implies (bit from s) (has e s to)) 32 x.there s z.2) y.0 in
    lt_of_lt_of_le (pairs_lt d e x.more s to z.2 h ne y.1 back new) (pairs_le c d more)

-- n calls of the walk stand one in another below the one over the words c: each is over words with fewer pairs in no order (`falls-A` and `falls-B` of Walks say so of its two calls)
pub data Nested : List ℕ → ℕ → Type 0 where
  last : {c : List ℕ} → Nested c 0
  inner : {c d : List ℕ} {n : ℕ} → open_pairs d < open_pairs c → Nested d n → Nested c (suc n)

deep : {c : List ℕ} {n : ℕ} → Nested c n → n ≤ open_pairs c
deep Nested.last = omega arith
deep (Nested.inner h x) = let z = deep x in omega arith

-- so they are at most 496
pub depth : {c : List ℕ} {n : ℕ} → Nested c n → n ≤ 496
depth {c = c} x = omega (arith, deep x, pairs_most c)
