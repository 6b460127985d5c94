-- What Decide finds over a log that Load takes with its times. Assumes nothing.
use Rattle.std.specs.Prelude.{ℕ, ◌≤◌, ◌≡◌, Bool, true, List, length, Result, IfOk}
use Rattle.refusals.specs.declared.Refusal.{Refusal}
use Rattle.refusals.specs.Numbers.{number_of}
use Rattle.model.specs.History.{History}
use Rattle.model.specs.Polygraph.{constraints, polygraph}
use Rattle.model.specs.Lent.{encoded_count}
use Rattle.listing.specs.Candidates.{items_by}
use Rattle.decision.specs.Answer.{first_answer}
use Rattle.finding.specs.declared.Outcome.{Outcome}

-- Where nothing refuses a list of so many places: the first legal order, if there is one, and, where they are to be listed, the constraints of the setting as
-- candidates' numbers: the first `left` of ks, by the tables t.
pub record Found (h : History) (e pruning places : ℕ) (listed : Bool) (t ks : List ℕ) (o : Outcome) : Type 0 where
  pub order_is : o.order ≡ first_answer h
  pub count_is : o.count ≡ length (constraints h e)
  pub left_is : listed ≡ true → o.left ≡ encoded_count h e pruning
  pub items_are : listed ≡ true → items_by t ks o.left ≡ (polygraph h e pruning).choices
  pub few : o.count ≤ 4096
  pub fits : o.count ≤ places
  pub within : o.left ≤ o.count

-- the refusal's number, or what is found
pub record Finds (number : ℕ) (h : History) (e pruning places : ℕ) (listed : Bool) (t ks : List ℕ) (r : Result Outcome Refusal) : Type 0 where
  pub number_is : number_of r ≡ number
  pub found : IfOk r (λ o. Found h e pruning places listed t ks o)
