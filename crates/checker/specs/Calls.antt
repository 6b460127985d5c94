-- What each call gives, refused or not: document 01, 'The calls' and the two pages of refusals. Assumes nothing.
use Rattle.std.specs.Prelude.{ℕ, Bool, cond, ◌&&◌, List, eqb}
use Rattle.model.specs.History.{size, legal}
use Rattle.model.specs.Window.{Window, window_number}
use Rattle.checker.specs.declared.Case.{Case}
use Rattle.checker.specs.declared.Answer.{Answer}
use Rattle.checker.specs.declared.Checking.{Checking}
use Rattle.checker.specs.Cases.{history_in, stage_of, loaded_case}
use Rattle.answers.specs.Stages.{is_fresh, order_refusal}
use Rattle.answers.specs.Numbers.{reply_of, judgement_of}

-- Load tests 21, a case not fresh, then what `window_number` tests, in turn: 36, then the log, then its times.
unfoldable pub load_refusal : Case → Window → ℕ
load_refusal c w = cond (is_fresh (stage_of c)) (window_number w) 21

-- the case after Load: a refusal leaves it as it was
unfoldable pub case_after_load : Case → Window → Case
case_after_load c w = cond (eqb (load_refusal c w) 0) (loaded_case w) c

unfoldable pub loading : Case → Window → Answer
loading c w = record { case = case_after_load c w; reply = reply_of (load_refusal c w) }

-- Check tests 22, a fresh case, then 13.
unfoldable pub check_refusal : Case → List ℕ → ℕ
check_refusal c o = cond (is_fresh (stage_of c)) 22 (order_refusal (size (history_in c)) o)

-- yes where it is legal, no for a refusal
unfoldable pub check_yes : Case → List ℕ → Bool
check_yes c o = eqb (check_refusal c o) 0 && legal (history_in c) o

-- the case is as it was
unfoldable pub checking : Case → List ℕ → Checking
checking c o = record { case = c; judgement = judgement_of (check_refusal c o) (check_yes c o) }
