-- Replies, judgements and settings by their tests. Assumes nothing.
use Prim.Native.Nat.{ℕ, ◌≤◌}
use native.Mathlib.Omega.{arith}
use mathlib.Core.Path.{◌≡◌, refl, sym, ap, ap₂, ◌∙◌}
use mathlib.Core.Logic.{◌⊎◌, inl, inr}
use mathlib.Core.Bool.{Bool, true, false, not, cond, ◌&&◌}
use mathlib.Core.List.{List}
use lib.Dec.{T, eqb, ltb, nltb→le}
use borrow.Author.Tests.{ne_eqb, le-ltb}
use Rattle.model.specs.History.{is_order}
use Rattle.std.specs.Prelude.{Result, Ok, Err, is_ok}
use Rattle.refusals.specs.declared.Refusal.{Refusal}
use Rattle.refusals.specs.declared.Refusal.TheVariants.{NotAnOrder}
use Rattle.refusals.specs.Numbers.{code, number_of, refusal_of, answer_of}
use Rattle.refusals.proofs.Numbering.{code_some, answer_numbered}
use Rattle.answers.specs.declared.Judgement.TheVariants.{Legal, Illegal}
use Rattle.answers.specs.Numbers.{reply_of, judgement_yes, judgement_of}
use Rattle.answers.specs.Stages.{order_refusal}
use Rattle.answers.specs.Settings.{setting_refusal, places_refusal}

-- ---- replies

-- a reply is the one with its number
pub reply_is : (r : Result (Unit {0}) Refusal) (n : ℕ) → number_of r ≡ n → r ≡ reply_of n
reply_is r n e = sym (answer_numbered tt r (λ y f. refl)) ∙ ap reply_of e

-- whether it is taken says its number
pub ok_number : {X : Type 0} (r : Result X Refusal) → is_ok r ≡ eqb (number_of r) 0
ok_number (Ok x) = refl
ok_number (Err r) = sym (ne_eqb (code r) 0 (code_some r))

-- ---- the numbers that stand for a refusal or for none: of these an answer bears the number that it is made of

abbrev pub Known : ℕ → Type 0
Known n = number_of (reply_of n) ≡ n

pub known_either : (b : Bool) (m n : ℕ) → Known m → Known n → Known (cond b m n)
known_either true m n k l = k
known_either false m n k l = l

pub number_known : {X : Type 0} (n : ℕ) (x : X) → Known n → number_of (answer_of n x) ≡ n
unfolding answer_of
number_known n x k = go (eqb n 0) ∙ k
  where
    go : (b : Bool) → number_of (cond b (Ok x) (Err (refusal_of n))) ≡ number_of {X = Unit {0}} (cond b (Ok tt) (Err (refusal_of n)))
    go true = refl
    go false = refl

-- ---- judgements

-- the yes or no that a judgement is made of comes out of it again
pub judgement_yes_lem : (n : ℕ) (y : Bool) → judgement_yes (judgement_of n y) ≡ (eqb n 0 && y)
unfolding judgement_of answer_of
judgement_yes_lem n y = go (eqb n 0) y
  where
    go : (x z : Bool) → judgement_yes (cond x (Ok (cond z Legal Illegal)) (Err (refusal_of n))) ≡ (x && z)
    go true true = refl
    go true false = refl
    go false z = refl

-- where the number is not 0, yes or no makes no difference
pub judgement_only : (n : ℕ) (y : Bool) → judgement_of n (eqb n 0 && y) ≡ judgement_of n y
unfolding judgement_of answer_of
judgement_only n y = go (eqb n 0)
  where
    go : (x : Bool) → cond x (Ok (cond (x && y) Legal Illegal)) (Err (refusal_of n)) ≡ cond x (Ok (cond y Legal Illegal)) (Err (refusal_of n))
    go true = refl
    go false = refl

-- ---- over a log

module _ (n : ℕ) (o : List ℕ) (y : Bool) where
  pub judged_none : is_order n o ≡ false → Err NotAnOrder ≡ judgement_of (order_refusal n o) y
  unfolding order_refusal judgement_of answer_of refusal_of
  judged_none e = sym (ap (λ b. judgement_of (cond b 0 13) y) e)

  pub judged_some : (x : Bool) → is_order n o ≡ true → y ≡ x → Ok (cond x Legal Illegal) ≡ judgement_of (order_refusal n o) y
  unfolding order_refusal judgement_of answer_of
  judged_some x e f = sym (ap₂ (λ b z. judgement_of (cond b 0 13) z) e f)

-- ---- settings

-- a setting is taken, or refused with 12
pub setting_either : (e pruning : ℕ) → (setting_refusal e pruning ≡ 0) ⊎ (setting_refusal e pruning ≡ 12)
unfolding setting_refusal
setting_either e pruning = go (ltb 2 e) (ltb 1 pruning)
  where
    go : (a b : Bool) → let n : ℕ = cond a 12 (cond b 12 0) in (n ≡ 0) ⊎ (n ≡ 12)
    go true b = inr refl
    go false true = inr refl
    go false false = inl refl

pub setting_zero : (e pruning : ℕ) → setting_refusal e pruning ≡ 0 → e ≤ 2
unfolding setting_refusal
setting_zero e pruning = go (ltb 2 e) (λ t. nltb→le 2 e t)
  where
    go : (b : Bool) → (T (not b) → e ≤ 2) → ◌≡◌ {A = ℕ} (cond b 12 (cond (ltb 1 pruning) 12 0)) 0 → e ≤ 2
    go true f z = absurd (omega arith)
    go false f z = f tt

pub pruning_zero : (e pruning : ℕ) → setting_refusal e pruning ≡ 0 → pruning ≤ 1
unfolding setting_refusal
pruning_zero e pruning = go (ltb 2 e) (ltb 1 pruning) (λ t. nltb→le 1 pruning t)
  where
    go : (a b : Bool) → (T (not b) → pruning ≤ 1) → ◌≡◌ {A = ℕ} (cond a 12 (cond b 12 0)) 0 → pruning ≤ 1
    go true b f z = absurd (omega arith)
    go false true f z = absurd (omega arith)
    go false false f z = f tt

pub places_zero : (n places words : ℕ) → places_refusal n places words ≡ 0 → (n ≤ places) × (32 ≤ words)
unfolding places_refusal
places_zero n places words = go (ltb places n) (ltb words 32) (λ t. nltb→le places n t) (λ t. nltb→le words 32 t)
  where
    go : (a b : Bool) → (T (not a) → n ≤ places) → (T (not b) → 32 ≤ words) → ◌≡◌ {A = ℕ} (cond a 25 (cond b 25 0)) 0 → (n ≤ places) × (32 ≤ words)
    go true b f g z = absurd (omega arith)
    go false true f g z = absurd (omega arith)
    go false false f g z = (f tt, g tt)

pub places_enough : (n places words : ℕ) → n ≤ places → 32 ≤ words → places_refusal n places words ≡ 0
unfolding places_refusal
places_enough n places words l m = ap₂ {C = ℕ} (λ (a b : Bool). cond a 25 (cond b 25 0)) (le-ltb places n l) (le-ltb words 32 m)

-- their numbers stand for a refusal, or for none
pub setting_known : (e pruning : ℕ) → Known (setting_refusal e pruning)
unfolding setting_refusal answer_of refusal_of
setting_known e pruning = known_either (ltb 2 e) 12 (cond (ltb 1 pruning) 12 0) refl (known_either (ltb 1 pruning) 12 0 refl refl)

pub places_known : (n places words : ℕ) → Known (places_refusal n places words)
unfolding places_refusal answer_of refusal_of
places_known n places words = known_either (ltb places n) 25 (cond (ltb words 32) 25 0) refl (known_either (ltb words 32) 25 0 refl refl)
