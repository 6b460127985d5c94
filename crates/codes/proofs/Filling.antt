-- Laws of what is written as bytes.
--     pair_long, word_long, constraint_long, bill_long     as many bytes as there were
--     filled_none, filled_next, filled_long    no step; one step more; as many bytes as there were, where each step keeps them
--     filled_same      steps that do the same below n give the same
--     constraint_packed    of a list that was packed, each constraint is there
--     filled_first     a table filled up to a place has up to there what was to be in it
-- Assumes nothing.
use mathlib.Core.Path.{◌≡◌, refl, sym, ap, ◌∙◌}
use Prim.Native.Nat.{ℕ, zero, suc, ◌+◌, ◌*◌, ◌/◌, ◌%◌, ◌<◌, ◌≤◌}
use native.Mathlib.Numerals.{add-one}
use native.Mathlib.Omega.{arith}
use mathlib.Core.List.{List, map}
use lib.ListN.{length, take, set, length-set, get_or, replicate, length-replicate}
use lib.Seq.{length-take-le, get_or-take, ext_get_or}
use Rattle.model.specs.Lists.{up_to}
use Rattle.model.proofs.Words.{length_up_to, get_or_up_to}
use Rattle.graph.proofs.WordLaws.{Filled}
use Rattle.model.specs.declared.Constraint.{Constraint}
use Rattle.wear.specs.Bills.{no_bill}
use Rattle.wear.specs.declared.Bill.{Bill}
use Rattle.lender.specs.Packing.{packed}
use Rattle.lender.proofs.Packs.{packed_each}
use Rattle.codes.specs.Images.{pair_bytes, word_bytes, filled, constraint_bytes, constraint_in, value_in, row_in, words_in, bill_bytes, bill_in}

pub pair_long : (at v : ℕ) (out : List ℕ) → length (pair_bytes at v out) ≡ length out
unfolding pair_bytes
pair_long at v out = length-set (set out at (v % 256)) (at + 1) (v / 256) ∙ length-set out at (v % 256)

pub word_long : (at v : ℕ) (out : List ℕ) → length (word_bytes at v out) ≡ length out
unfolding word_bytes
word_long at v out =
    let one = set out at (v % 256) in
    let two = set one (at + 1) (v / 256 % 256) in
    length-set (set two (at + 2) (v / 65536 % 256)) (at + 3) (v / 16777216) ∙ length-set two (at + 2) (v / 65536 % 256) ∙ length-set one (at + 1) (v / 256 % 256) ∙ length-set out at (v % 256)

pub constraint_long : (at : ℕ) (c : Constraint) (out : List ℕ) → length (constraint_bytes at c out) ≡ length out
unfolding constraint_bytes
constraint_long at c out =
    let one = set (word_bytes at c.fromA out) (at + 4) (c.toA % 256) in
    length-set (word_bytes (at + 5) c.fromB one) (at + 9) (c.toB % 256) ∙ word_long (at + 5) c.fromB one ∙ length-set (word_bytes at c.fromA out) (at + 4) (c.toA % 256) ∙ word_long at c.fromA out

pub bill_long : (at : ℕ) (b : Bill) (out : List ℕ) → length (bill_bytes at b out) ≡ length out
unfolding bill_bytes
bill_long at b out = word_long (at + 8) _ _ ∙ word_long (at + 4) _ _ ∙ word_long at _ out

pub filled_none : (step : ℕ → List ℕ → List ℕ) (out : List ℕ) → out ≡ filled step 0 out
unfolding filled
filled_none step out = refl

pub filled_next : (step : ℕ → List ℕ → List ℕ) (n : ℕ) (out : List ℕ) → step n (filled step n out) ≡ filled step (n + 1) out
unfolding filled
filled_next step n out = ap (λ k. filled step k out) (sym (add-one n))

pub filled_long : (step : ℕ → List ℕ → List ℕ) → ((i : ℕ) (o : List ℕ) → length (step i o) ≡ length o) → (n : ℕ) (out : List ℕ) → length (filled step n out) ≡ length out
unfolding filled
filled_long step keeps zero out = refl
filled_long step keeps (suc n) out = keeps n (filled step n out) ∙ filled_long step keeps n out

pub filled_same : (f g : ℕ → List ℕ → List ℕ) (n : ℕ) → ((i : ℕ) → i < n → (o : List ℕ) → f i o ≡ g i o) → (out : List ℕ) → filled f n out ≡ filled g n out
unfolding filled
filled_same f g zero same out = refl
filled_same f g (suc n) same out = same n (omega arith) (filled f n out) ∙ ap (g n) (filled_same f g n (λ i l o. same i (omega arith) o) out)

pub values_long : (values : List ℕ) (n : ℕ) (out : List ℕ) → length (filled (value_in values) n out) ≡ length out
values_long values = filled_long (value_in values) (λ i o. pair_long (2 * i) (get_or values i 0) o)

pub rows_long : (rows : List ℕ) (n : ℕ) (out : List ℕ) → length (filled (row_in rows) n out) ≡ length out
rows_long rows = filled_long (row_in rows) (λ i o. word_long (2 + 4 * i) (get_or rows i 0) o)

pub words_long : (words : List ℕ) (n : ℕ) (out : List ℕ) → length (filled (words_in words) n out) ≡ length out
words_long words = filled_long (words_in words) (λ i o. constraint_long (130 + 10 * i) _ o)

pub bills_long : (bills : List Bill) (n : ℕ) (out : List ℕ) → length (filled (bill_in bills) n out) ≡ length out
bills_long bills = filled_long (bill_in bills) (λ i o. bill_long (12 * i) (get_or bills i no_bill) o)

pub constraint_packed : (n : ℕ) (cs : List Constraint) (words : List ℕ) → words ≡ packed n cs (replicate 16384 0) → n ≤ 4096 → (i : ℕ) → i < n → (out : List ℕ) → words_in words i out ≡ constraint_in cs i out
constraint_packed n cs words e few i l out =
    ap (λ x. words_in x i out) e ∙ ap (λ c. constraint_bytes (130 + 10 * i) c out) (packed_each n cs (replicate 16384 0) (omega (arith, few, length-replicate {A = ℕ} 16384 0)) i l)

pub filled_first : (n : ℕ) (f : ℕ → ℕ) (i : ℕ) (w : List ℕ) → i ≤ n → Filled n f i w → take i w ≡ map f (up_to i)
filled_first n f i w l x =
    let long : length (take i w) ≡ i = length-take-le i w (omega (arith, x.long)) in
    ext_get_or 0 (take i w) (map f (up_to i)) (long ∙ sym (length_up_to f i))
    (λ j k. let m : j < i = omega arith in get_or-take i w j 0 m ∙ x.at j m ∙ sym (get_or_up_to f 0 i j m))
