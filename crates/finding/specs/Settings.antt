-- The refusal of a setting and of the places of lent lists, of a history: document 01, the two pages of refusals. Assumes nothing.
use Rattle.std.specs.Prelude.{ℕ, cond, eqb, length}
use Rattle.model.specs.History.{History}
use Rattle.model.specs.Polygraph.{constraints}
use Rattle.answers.specs.Settings.{setting_refusal, places_refusal}

-- of a history, in a setting and for lists of so many places: 12, then 25
abbrev pub polygraph_refusal : History → ℕ → ℕ → ℕ → ℕ → ℕ
polygraph_refusal h e pruning places words =
    cond (eqb (setting_refusal e pruning) 0) (places_refusal (length (constraints h e)) places words) (setting_refusal e pruning)
