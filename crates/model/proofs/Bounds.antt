-- How many operations a transaction can have: numbers below n that stand once are at most n, so that in a good one, over 32 keys, reads and writes are at most
-- 64, and so are read-backs. (They are at most 32; that there are fewer than 256 operations is all that is asked.) Assumes nothing.
use Prim.Native.Nat.{ℕ, suc, ◌+◌, ◌*◌, ◌≤◌, ◌<◌}
use native.Mathlib.Omega.{arith}
use mathlib.Core.Path.{◌≡◌, refl, ap, ◌∙◌}
use mathlib.Core.Logic.{⊎_elim, ◌≢◌}
use mathlib.Core.Bool.{Bool, true, false, not, cond, ◌&&◌}
use mathlib.Core.List.{List, [], ◌∷◌, map}
use lib.Dec.{T, eqb, eqb→eq}
use lib.ListN.{length, length-map}
use Rattle.model.specs.Lists.{All, all, count, keep_after}
use Rattle.model.specs.History.{Operation, is_read, is_write, is_read_back, outward, read_backs, keys_once, good_keys}
use Rattle.model.proofs.Basics.{and_l, and_r, implies_out, eq-eqb, same?, All-imp, All-after, All-map-in}
use Rattle.model.proofs.Places.{Once, count_here, count_there, length_sum, sum_digits}
use Rattle.model.proofs.Loaded.{may_precede}
use Rattle.model.proofs.Takes.{before_each}

-- ---- numbers that stand once

pub once_short : (n : ℕ) (xs : List ℕ) → Once xs → All (λ x. x < n) xs → length xs ≤ n
once_short n xs once l = omega (arith, length_sum n xs l, sum_digits (λ k. count k xs) n once)

-- ---- operations by kind and key

abbrev pub Kind : Operation → Type 0
Kind o = o.kind < 2

abbrev pub code : Operation → ℕ
code o = 2 * o.key + o.kind

-- of two of which the first may stand before the second, kind or key differ
apart : (p o : Operation) → Kind p → Kind o → T (may_precede p o) → code o ≢ code p
apart p o kp ko may e =
    let same : p.key ≡ o.key = omega arith in
    let r = implies_out (eqb p.key o.key) (is_read p && is_write o) may (eq-eqb {m = p.key} {n = o.key} same) in
    let read = eqb→eq p.kind 0 (and_l (is_read p) (is_write o) r) in
    let write = eqb→eq o.kind 1 (and_r (is_read p) (is_write o) r) in
    omega arith

none_after : (p : Operation) (os : List Operation) → Kind p → All Kind os → All (λ o. T (may_precede p o)) os → count (code p) (map code os) ≡ 0
none_after p [] kp ks ms = refl
none_after p (o ∷ os) kp ks ms =
    count_there (code o) (code p) (map code os) (apart p o kp ks.0 ms.0) ∙ none_after p os kp ks.1 ms.1

pub once : (earlier os : List Operation) → All Kind os → T (keys_once earlier os) → Once (map code os)
unfolding keys_once
once earlier [] ks t x = omega arith
once earlier (o ∷ os) ks t x =
    let rest = and_r (all (λ p. may_precede p o) earlier) (keys_once (o ∷ earlier) os) t in
    let after = All-imp (λ y. T (all (λ p. may_precede p y) (o ∷ earlier))) (λ y. T (may_precede o y))
    (λ y u. and_l (may_precede o y) (all (λ p. may_precede p y) earlier) u) os (before_each (o ∷ earlier) os rest) in
    ⊎_elim
    (λ (e : code o ≡ x). omega (arith, count_here (code o) x (map code os) e, ap (λ y. count y (map code os)) e, none_after o os ks.0 ks.1 after))
    (λ (d : code o ≢ x). omega (arith, count_there (code o) x (map code os) d, once (o ∷ earlier) os ks.1 rest x))
    (same? (code o) x)

-- ---- a transaction

parts_length : (p : List Operation → Operation → Bool) (earlier os : List Operation)
    → length os ≡ length (keep_after (λ e o. not (p e o)) earlier os) + length (keep_after p earlier os)
parts_length p earlier [] = omega arith
parts_length p earlier (o ∷ os) =
    go (p earlier o) (keep_after (λ e x. not (p e x)) (o ∷ earlier) os) (keep_after p (o ∷ earlier) os) (parts_length p (o ∷ earlier) os)
  where
    go : (b : Bool) (left kept : List Operation) → length os ≡ length left + length kept
        → suc (length os) ≡ length (cond (not b) (o ∷ left) left) + length (cond b (o ∷ kept) kept)
    go true left kept e = omega arith
    go false left kept e = omega arith

module _ (os : List Operation) (good : All (λ o. (o.kind < 2) × (o.key < 32)) os) where
  -- those that are kept of them, no key twice
  short : (p : List Operation → Operation → Bool) → T (keys_once [] (keep_after p [] os)) → length (keep_after p [] os) ≤ 64
  short p t =
      let kept = keep_after p [] os in
      let goods = All-after (λ o. (o.kind < 2) × (o.key < 32)) p [] os good in
      let kinds = All-imp (λ o. (o.kind < 2) × (o.key < 32)) Kind (λ o g. g.0) kept goods in
      let low = All-map-in (λ x. x < 64) code kept (All-imp (λ o. (o.kind < 2) × (o.key < 32)) (λ o. code o < 64) (λ o g. omega (arith, g.0, g.1)) kept goods) in
      omega (arith, length-map kept code, once_short 64 (map code kept) (once [] kept kinds t) low)

  pub good_short : (t : ℕ) → T (good_keys t os) → length os < 256
  unfolding good_keys outward read_backs
  good_short t g =
      let backs = keys_once [] (read_backs os) && all (λ o. eqb o.argument t) (read_backs os) in
      let first = and_l (keys_once [] (outward os)) backs g in
      let second = and_l (keys_once [] (read_backs os)) (all (λ o. eqb o.argument t) (read_backs os)) (and_r (keys_once [] (outward os)) backs g) in
      omega (arith, parts_length is_read_back [] os, short (λ e o. not (is_read_back e o)) first, short is_read_back second)
