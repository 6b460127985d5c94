-- What Load gives of a fresh case: its number is the window's own, and where that is 0 the case holds the window. Assumes nothing.
use mathlib.Core.Path.{◌≡◌, ap, ◌∙◌}
use mathlib.Core.Bool.{cond}
use borrow.Author.Tests.{eq-eqb}
use Rattle.model.specs.Window.{Window, window_number}
use Rattle.checker.specs.declared.Case.{Case}
use Rattle.checker.specs.Cases.{fresh_case, loaded_case, stage_of}
use Rattle.answers.specs.Stages.{counted}
use Rattle.checker.specs.Calls.{load_refusal, case_after_load}

pub fresh_number : (c : Case) (w : Window) → c ≡ fresh_case → load_refusal c w ≡ window_number w
unfolding load_refusal stage_of counted fresh_case
fresh_number c w e = ap (λ (k : Case). load_refusal k w) e

pub fresh_case_lem : (c : Case) (w : Window) → c ≡ fresh_case → window_number w ≡ 0 → case_after_load c w ≡ loaded_case w
unfolding case_after_load
fresh_case_lem c w e z = ap (λ b. cond b (loaded_case w) c) (eq-eqb (load_refusal c w) 0 (fresh_number c w e ∙ z))
