-- The sum of the counts, and whether each has its byte. Assumes nothing.
use Prim.Native.Nat.{ℕ, suc, zero, ◌+◌, ◌≤◌, ◌<◌}
use native.Mathlib.Omega.{arith}
use native.Mathlib.Numerals.{add-one}
use mathlib.Core.Path.{◌≡◌, sym, ap, refl, subst, ◌∙◌}
use mathlib.Core.Bool.{Bool, true, false}
use mathlib.Core.Logic.{◌↔◌}
use mathlib.Core.List.{List}
use lib.Dec.{T, ltb, lt→ltb}
use lib.ListN.{length, take}
use Rattle.std.specs.Bool.{IsTrue}
use Rattle.std.specs.List.{sum, EachIndex}
use Rattle.std.proofs.lemmas.List.{get_or-take, length-take-le}
use Rattle.std.proofs.lemmas.List.Sums.{sum_by_more}
use Rattle.model.specs.Writing.{sum_of}
use Rattle.model.proofs.Basics.{true_eq, false_eq, not_intro, all_up_to_in}
use Rattle.model.proofs.Writing.{sum_suc, sum_none}
use Rattle.writer.specs.Rows.{at}
use Rattle.writer.specs.Room.{narrow}
use Rattle.writer.proofs.Laying.{narrow_out}

pub total_next : (counts : List ℕ) (t sum count : ℕ) → sum ≡ sum_of (at counts) t → count ≡ at counts t → sum + count ≡ sum_of (at counts) (t + 1)
total_next counts t sum count e f = omega (arith, sum_suc (at counts) t, ap (sum_of (at counts)) (add-one t))

-- the sum of the first n counts
pub sum_taken : (counts : List ℕ) (n : ℕ) → n ≤ length counts → sum (take n counts) ≡ sum_of (at counts) n
sum_taken counts zero l = sym (sum_none (at counts))
sum_taken counts (suc n) l =
    ap (λ i. sum (take i counts)) (sym (add-one n)) ∙ sum_by_more (λ x. x) counts n 0 (omega arith)
    ∙ ap (λ x. x + at counts n) (sum_taken counts n (omega arith)) ∙ sym (sum_suc (at counts) n)

-- every count so far has its byte
pub narrow_in : (counts : List ℕ) (n : ℕ) → ((t : ℕ) → t < n → at counts t < 256) → true ≡ narrow counts n
unfolding narrow
narrow_in counts n f = sym (true_eq (narrow counts n) (all_up_to_in (λ t. ltb (at counts t) 256) n (λ t l. lt→ltb (at counts t) 256 (f t l))))

-- the same of the first n counts, as a test of them all
pub narrow_taken : (counts : List ℕ) (n : ℕ) (r : Bool) → n ≤ length counts → (IsTrue r ↔ EachIndex (take n counts) (λ t. at (take n counts) t < 256)) → r ≡ narrow counts n
narrow_taken counts n true l f =
    narrow_in counts n (λ t k. subst (λ x. x < 256) (get_or-take n counts t 0 k) (f.0 refl t (omega (arith, length-take-le n counts l))))
narrow_taken counts n false l f =
    sym (false_eq (narrow counts n) (not_intro (narrow counts n)
    (λ s. subst T (sym (f.1 (λ t k.
    let low : t < n = omega (arith, length-take-le n counts l) in
    subst (λ x. x < 256) (sym (get_or-take n counts t 0 low)) (narrow_out counts counts n s t low)))) tt)))
