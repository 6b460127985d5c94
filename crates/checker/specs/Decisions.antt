-- What Decide gives and leaves, refused or not: document 01, 'The calls' and the two pages of refusals. Assumes nothing.
use Rattle.std.specs.Prelude.{ℕ, ◌≡◌, ◌⊎◌, cond, List, T, eqb, length, take, replicate, Result, Ok, Err}
use Rattle.std.proofs.Math.Option.{Option, none, some}
use Rattle.refusals.specs.declared.Refusal.{Refusal}
use Rattle.refusals.specs.Numbers.{refusal_of}
use Rattle.model.specs.declared.Constraint.{Constraint}
use Rattle.model.specs.History.{History, size, legal}
use Rattle.model.specs.Lent.{encoded_list, encoded_count, order_numbers}
use Rattle.model.specs.Search.{first_legal, LexLess}
use Rattle.answers.specs.declared.Stage.{Stage}
use Rattle.answers.specs.declared.Stage.TheVariants.{Ordered, NoOrder}
use Rattle.answers.specs.declared.Verdict.{Verdict}
use Rattle.answers.specs.declared.Verdict.TheVariants.{Order, NoOrder as NoOrderSaid}
use Rattle.checker.specs.declared.Case.{Case}
use Rattle.checker.specs.declared.Decision.{Decision}
use Rattle.checker.specs.Cases.{history_in, answered_case}
use Rattle.checker.specs.Encodings.{encode_refusal}
use Rattle.answers.specs.Numbers.{verdict_number}

-- Decide tests 22, 12 and 25 as Encode does, for a list of so many places; it writes no row words.
abbrev pub decide_refusal : Case → ℕ → ℕ → ℕ → ℕ
decide_refusal c e pruning places = encode_refusal c e pruning places 32

-- the verdict and the stage that an answer stands for
abbrev pub verdict_for : Option (List ℕ) → Verdict
verdict_for none = NoOrderSaid
verdict_for (some o) = Order

abbrev pub stage_for : Option (List ℕ) → Stage
stage_for none = NoOrder
stage_for (some o) = Ordered

-- the case with an answer stored: its window as it was, the order as 32 numbers
unfoldable pub decided_case : Case → Option (List ℕ) → Case
decided_case c answer = answered_case c (stage_for answer) (order_numbers answer)

-- the answer where Decide is not refused: the first legal order, or 'no order', with the count that Encode gives
unfoldable pub decided : Case → Option (List ℕ) → ℕ → Decision
decided c answer n = record { case = decided_case c answer; verdict = Ok (verdict_for answer); order = order_numbers answer; left = n }

unfoldable pub refused_decision : Case → ℕ → Decision
refused_decision c number = record { case = c; verdict = Err (refusal_of number); order = replicate 32 0; left = 0 }

unfoldable pub deciding : Case → ℕ → ℕ → ℕ → Decision
deciding c e pruning places =
    let number = decide_refusal c e pruning places in
    cond (eqb number 0) (decided c (first_legal (history_in c)) (encoded_count (history_in c) e pruning)) (refused_decision c number)

-- Demand 3 in its own words: 'no order' only where no legal order exists; otherwise the order's T numbers are a legal order which has, against
-- every other legal one, the lower number at the first place where the two differ.
unfoldable pub Answers : History → Result Verdict Refusal → List ℕ → Type 0
Answers h (Ok NoOrderSaid) order = (p : List ℕ) → T (legal h p) → ⊥
Answers h (Ok Order) order =
    T (legal h (take (size h) order)) × ((p : List ℕ) → T (legal h p) → (p ≡ take (size h) order) ⊎ LexLess (take (size h) order) p)
Answers h (Err r) order = Unit {0}

-- the lent list after Decide: the same as after Encode
unfoldable pub list_after_decide : Case → ℕ → ℕ → List Constraint → List Constraint
list_after_decide c e pruning ys =
    cond (eqb (decide_refusal c e pruning (length ys)) 0) (encoded_list (history_in c) e pruning ys) ys

-- Decide's result, with demand 3 in its own words, and the list
pub record Decides (c : Case) (e pruning : ℕ) (ys : List Constraint) (r : Decision) (zs : List Constraint) : Type 0 where
  pub result : r ≡ deciding c e pruning (length ys)
  pub number : verdict_number r.verdict ≡ decide_refusal c e pruning (length ys)
  pub answers : Answers (history_in c) r.verdict r.order
  pub list : zs ≡ list_after_decide c e pruning ys
