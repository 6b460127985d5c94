-- The first places of a list, lent to a call: what they hold before it, and what they hold for the next.
-- Assumes nothing.
use Rattle.std.proofs.Common.{◌≡◌, ℕ, ◌-◌, ◌≤◌, ap₂, List, ◌++◌, length, take, replicate, ap, subst, ◌∙◌}
use Rattle.std.proofs.Math.Seq.{take-append_seam}
use Rattle.std.proofs.Math.ListN.{length-replicate}
use Rattle.std.proofs.lemmas.List.{take-replicate}
use Rattle.model.specs.declared.Constraint.{Constraint}
use Rattle.checker.specs.declared.Case.{Case}
use Rattle.checker.specs.declared.Answer.{Answer}
use Rattle.checker.specs.declared.Encoding.{Encoding}
use Rattle.checker.specs.declared.Decision.{Decision}
use Rattle.checker.specs.Encodings.{encode_answer, encode_rows, encode_list}
use Rattle.checker.specs.Decisions.{deciding, list_after_decide}
use Rattle.wear.specs.declared.Bill.{Bill}
use Rattle.checker.specs.Results.{replying, bills_refused, bills_left}
use Rattle.lender.specs.Packing.{packed}

pub first_again : {A : Type 0} (n : ℕ) (ys rest : List A) → length ys ≡ n → take n (ys ++ rest) ≡ ys
first_again n ys rest e = subst (λ (k : ℕ). take k (ys ++ rest) ≡ ys) e (take-append_seam ys rest)

-- Encode on l, which is so many marks, whose words then go out
pub encoded : (c : Case) (e p : ℕ) (rows out : List ℕ) (n : ℕ) (mark : Constraint) (l l' zs : List Constraint) (r : Encoding) (rows' out' : List ℕ) → l ≡ replicate n mark
    → r ≡ encode_answer c e p (length l) (length rows) → rows' ≡ encode_rows c e p (length l) rows → zs ≡ encode_list c e p l (length rows) → l' ≡ zs → out' ≡ packed n l' out
    → (r ≡ encode_answer c e p n (length rows)) × (rows' ≡ encode_rows c e p n rows) × (out' ≡ packed n (encode_list c e p (replicate n mark) (length rows)) out)
encoded c e p rows out n mark l l' zs r rows' out' is answer known list again words =
    let long : length l ≡ n = ap (λ (x : List Constraint). length x) is ∙ length-replicate n mark in (
      answer ∙ ap (λ (k : ℕ). encode_answer c e p k (length rows)) long,
      known ∙ ap (λ (k : ℕ). encode_rows c e p k rows) long,
      words ∙ ap (λ (x : List Constraint). packed n x out) (again ∙ list ∙ ap (λ (x : List Constraint). encode_list c e p x (length rows)) is),
    )

-- two Decides on one list, of the first places each time
pub decided_twice : (first second : Case) (e p encoding pruning : ℕ) (out : List ℕ) (n : ℕ) (mark : Constraint) (l l₁ l₂ zs zs₁ : List Constraint) (d : Decision) (out' : List ℕ) → l ≡ replicate n mark
    → zs ≡ list_after_decide first e p l → l₁ ≡ zs → length l₁ ≡ n → d ≡ deciding second encoding pruning (length l₁) → zs₁ ≡ list_after_decide second encoding pruning l₁ → l₂ ≡ zs₁ → out' ≡ packed n l₂ out
    → (d ≡ deciding second encoding pruning n) × (out' ≡ packed n (list_after_decide second encoding pruning (list_after_decide first e p (replicate n mark))) out)
decided_twice first second e p encoding pruning out n mark l l₁ l₂ zs zs₁ d out' is list again long answer list₁ again₁ words = (
  answer ∙ ap (λ (k : ℕ). deciding second encoding pruning k) long,
  words ∙ ap (λ (x : List Constraint). packed n x out)
      (again₁ ∙ list₁ ∙ ap (λ (x : List Constraint). list_after_decide second encoding pruning x) (again ∙ list ∙ ap (λ (x : List Constraint). list_after_decide first e p x) is)),
)

-- as many places as are lent
pub lent_long : {A : Type 0} (n m : ℕ) (x : A) → n ≤ m → length (take n (replicate m x)) ≡ n
lent_long {A} n m x h = ap (λ (l : List A). length l) (take-replicate n m x h) ∙ length-replicate n x

-- what Bills gave, and the whole list of m places after it
pub billed_first : (c : Case) (n m : ℕ) (mark : Bill) (l zs rest : List Bill) (answer : Answer) → l ≡ replicate n mark → rest ≡ replicate (m - n) mark
    → answer ≡ replying c (bills_refused c (length l)) → zs ≡ bills_left c l
    → (answer ≡ replying c (bills_refused c n)) × (zs ++ rest ≡ bills_left c (replicate n mark) ++ replicate (m - n) mark)
billed_first c n m mark l zs rest answer is behind result list = (
  result ∙ ap (λ (k : ℕ). replying c (bills_refused c k)) (ap (λ (y : List Bill). length y) is ∙ length-replicate n mark),
  ap₂ (λ (y z : List Bill). y ++ z) (list ∙ ap (λ (y : List Bill). bills_left c y) is) behind,
)
