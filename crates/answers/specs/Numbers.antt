-- The values of the answers by their numbers: document 01 gives each refusal a number, and 0 stands for none. Assumes nothing.
use Rattle.std.specs.Prelude.{ℕ, Bool, true, false, cond, Result, Ok, Err}
use Rattle.refusals.specs.declared.Refusal.{Refusal}
use Rattle.refusals.specs.Numbers.{number_of, answer_of}
use Rattle.answers.specs.declared.Judgement.{Judgement}
use Rattle.answers.specs.declared.Judgement.TheVariants.{Legal, Illegal}
use Rattle.answers.specs.declared.Verdict.{Verdict}

-- the reply with a number
abbrev pub reply_of : ℕ → Result (Unit {0}) Refusal
reply_of n = answer_of n tt

-- the number of a judgement
abbrev pub judgement_number : Result Judgement Refusal → ℕ
judgement_number r = number_of r

-- its yes or no: no where it refuses
abbrev pub judgement_yes : Result Judgement Refusal → Bool
judgement_yes (Ok Legal) = true
judgement_yes (Ok Illegal) = false
judgement_yes (Err r) = false

-- the judgement with a number and, where that is 0, a yes or no
unfoldable pub judgement_of : ℕ → Bool → Result Judgement Refusal
judgement_of n legal = answer_of n (cond legal Legal Illegal)

-- document 01's number of a verdict: 0 beside an order or 'no order'
abbrev pub verdict_number : Result Verdict Refusal → ℕ
verdict_number r = number_of r
