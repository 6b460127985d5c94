-- What a call answers, from the number that its test gave. Assumes nothing.
use Prim.Native.Nat.{ℕ}
use mathlib.Core.Path.{◌≡◌, refl, sym, ap, ap₂, ◌∙◌}
use mathlib.Core.Bool.{cond}
use mathlib.Core.Logic.{◌≢◌}
use borrow.Author.Tests.{eq-eqb, ne_eqb}
use lib.Dec.{eqb}
use Rattle.std.specs.Prelude.{Result, Ok, Err, IsOk, is_ok}
use Rattle.refusals.specs.declared.Refusal.{Refusal}
use Rattle.refusals.specs.Numbers.{code, number_of}
use Rattle.refusals.proofs.Numbering.{code_some}
use Rattle.writer.specs.Calls.{Noted, answering}
use Rattle.writer.specs.declared.Notes.{Notes}

module _ (number : ℕ) (before after : Notes) where
  pub taken_notes : number ≡ 0 → (answering number before after).notes ≡ after
  unfolding answering
  taken_notes e = ap (λ b. cond b after before) (eq-eqb number 0 e)

  -- a refusal leaves the notes as found
  pub refused_notes : number ≢ 0 → (answering number before after).notes ≡ before
  unfolding answering
  refused_notes f = ap (λ b. cond b after before) (ne_eqb number 0 f)

module _ (number r : ℕ) (before after : Notes) (is : r ≡ number) where
  pub refused : r ≢ 0 → record { number = r; notes = before } ≡ answering number before after
  unfolding answering
  refused f =
      ap₂ {C = Noted} (λ x b. record { number = x; notes = cond b after before }) is (sym (ne_eqb number 0 (λ z. f (is ∙ z))))

  pub taken : r ≡ 0 → record { number = 0; notes = after } ≡ answering number before after
  unfolding answering
  taken e =
      let z : number ≡ 0 = sym is ∙ e in
      ap₂ {C = Noted} (λ x b. record { number = x; notes = cond b after before }) (sym z) (sym (eq-eqb number 0 z))

-- ---- an answer, by its number

pub ok_by : {X : Type 0} (r : Result X Refusal) → number_of r ≡ 0 → IsOk r
ok_by (Ok x) e = refl
ok_by (Err r) e = absurd (code_some r e)

pub ok_is : {X : Type 0} (r : Result X Refusal) → is_ok r ≡ eqb (number_of r) 0
ok_is (Ok x) = refl
ok_is (Err r) = sym (ne_eqb (code r) 0 (code_some r))
