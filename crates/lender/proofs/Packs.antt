-- Laws of the packed words.
--     packed_long      as many words as there were
--     packed_none, packed_next     no constraint packed; one more
--     packed_each      of the words that were packed, the four of a place below n are the constraint there
--     room_of          where 4 * n words fit, the words of a place below n do
-- Assumes nothing.
use mathlib.Core.Path.{◌≡◌, refl, sym, ap, ◌∙◌}
use Prim.Native.Nat.{ℕ, zero, suc, ◌+◌, ◌*◌, ◌<◌, ◌≤◌}
use native.Mathlib.Numerals.{add-one}
use native.Mathlib.Omega.{arith}
use mathlib.Core.Logic.{◌≢◌, ⊎_elim}
use mathlib.Core.List.{List}
use lib.ListN.{length, get_or}
use Rattle.model.specs.declared.Constraint.{Constraint}
use Rattle.model.specs.Lent.{no_constraint}
use Rattle.model.proofs.Basics.{same?}
use Rattle.search.specs.Constraints.{con_at, with_words}
use Rattle.search.proofs.Puts.{put_long, put_new, put_same}
use Rattle.lender.specs.Packing.{packed}

pub packed_long : (n : ℕ) (ys : List Constraint) (out : List ℕ) → length (packed n ys out) ≡ length out
unfolding packed
packed_long zero ys out = refl
packed_long (suc n) ys out = put_long (packed n ys out) n (get_or ys n no_constraint) ∙ packed_long n ys out

pub room_of : (n i m : ℕ) → 4 * n ≤ m → i < n → 4 * i + 4 ≤ m
room_of n i m h l = omega arith

pub packed_none : (ys : List Constraint) (out : List ℕ) → out ≡ packed 0 ys out
unfolding packed
packed_none ys out = refl

pub packed_next : (n : ℕ) (ys : List Constraint) (out : List ℕ) → with_words (packed n ys out) n (get_or ys n no_constraint) ≡ packed (n + 1) ys out
unfolding packed
packed_next n ys out = ap (λ k. packed k ys out) (sym (add-one n))

pub packed_each : (n : ℕ) (ys : List Constraint) (out : List ℕ) → 4 * n ≤ length out → (i : ℕ) → i < n → con_at (packed n ys out) i ≡ get_or ys i no_constraint
unfolding packed
packed_each zero ys out room i l = absurd (omega arith)
packed_each (suc n) ys out room i l =
    let w = packed n ys out in
    let c = get_or ys n no_constraint in
    ⊎_elim
    (λ (e : i ≡ n). ap (con_at (with_words w n c)) e ∙ put_new w n c (omega (arith, packed_long n ys out)) ∙ ap (λ k. get_or ys k no_constraint) (sym e))
    (λ (f : i ≢ n). put_same w n c i (omega arith) ∙ packed_each n ys out (omega arith) i (omega arith))
    (same? i n)
