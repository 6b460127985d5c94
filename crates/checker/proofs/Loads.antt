-- Load's answer by its tests. Assumes nothing.
use Prim.Native.Nat.{ℕ}
use native.Mathlib.Omega.{arith}
use mathlib.Core.Path.{◌≡◌, sym, ap, ap₂, ◌∙◌}
use mathlib.Core.Bool.{Bool, true, false, cond}
use borrow.Author.Tests.{eq-eqb, ne_eqb}
use Rattle.model.specs.Window.{Window, window_number}
use Rattle.checker.specs.declared.Case.{Case}
use Rattle.checker.specs.declared.Answer.{Answer}
use Rattle.std.specs.Prelude.{Result, Ok, Err}
use Rattle.refusals.specs.declared.Refusal.{Refusal}
use Rattle.refusals.specs.Numbers.{code}
use Rattle.refusals.proofs.Numbering.{code_some}
use Rattle.checker.specs.Cases.{stage_of, loaded_case}
use Rattle.answers.specs.Stages.{is_fresh}
use Rattle.checker.specs.Calls.{load_refusal, case_after_load, loading}
use Rattle.answers.proofs.Answering.{reply_is}

-- ---- the number

module _ (c : Case) (w : Window) where
  pub refusal_fresh : is_fresh (stage_of c) ≡ true → load_refusal c w ≡ window_number w
  unfolding load_refusal
  refusal_fresh e = ap (λ x. cond x (window_number w) 21) e

  pub refusal_other : is_fresh (stage_of c) ≡ false → load_refusal c w ≡ 21
  unfolding load_refusal
  refusal_other e = ap (λ x. cond x (window_number w) 21) e

  pub refusal_none : load_refusal c w ≡ 0 → window_number w ≡ 0
  unfolding load_refusal
  refusal_none e = go (is_fresh (stage_of c)) e
    where
      go : (x : Bool) → ◌≡◌ {A = ℕ} (cond x (window_number w) 21) 0 → window_number w ≡ 0
      go true p = p
      go false p = absurd (omega (arith, p))

  -- ---- the answer

  abbrev answer : Case → Result (Unit {0}) Refusal → Answer
  answer x r = record { case = x; reply = r }

  pub load_refused : (r : Refusal) → code r ≡ load_refusal c w → record { case = c; reply = Err r } ≡ loading c w
  unfolding loading case_after_load
  load_refused r e =
      ap₂ answer (sym (ap (λ x. cond x (loaded_case w) c) (ne_eqb (load_refusal c w) 0 (λ z. code_some r (e ∙ z))))) (reply_is (Err r) (load_refusal c w) e)

  pub load_taken : (d : Case) → load_refusal c w ≡ 0 → d ≡ loaded_case w → record { case = d; reply = Ok tt } ≡ loading c w
  unfolding loading case_after_load
  load_taken d e p =
      ap₂ answer (p ∙ sym (ap (λ x. cond x (loaded_case w) c) (eq-eqb (load_refusal c w) 0 e))) (reply_is (Ok tt) (load_refusal c w) (sym e))
