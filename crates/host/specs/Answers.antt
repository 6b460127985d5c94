-- The code that C gets of an answer. Assumes nothing.
use Rattle.std.specs.Prelude.{ℕ, Bool, true, false, Result, Ok, Err}
use Rattle.refusals.specs.declared.Refusal.{Refusal}
use Rattle.refusals.specs.Numbers.{code}

-- 0 for yes, 255 for no, else the refusal's number
abbrev pub answer_code : Result Bool Refusal → ℕ
answer_code (Ok true) = 0
answer_code (Ok false) = 255
answer_code (Err r) = code r
