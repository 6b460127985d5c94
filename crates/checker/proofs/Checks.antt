-- Check's judgement by its tests. Assumes nothing.
use Prim.Native.Nat.{ℕ}
use mathlib.Core.Path.{◌≡◌, refl, sym, ap, ap₂, ◌∙◌}
use mathlib.Core.Bool.{Bool, true, false, cond, ◌&&◌}
use mathlib.Core.List.{List}
use lib.Dec.{eqb}
use Rattle.model.specs.History.{size, is_order, legal}
use Rattle.model.specs.Log.{transactions_in}
use Rattle.model.specs.Times.{times, timed_history}
use Rattle.model.proofs.Times.{timed_log_size}
use Rattle.answers.specs.Clocks.{times_in}
use Rattle.checker.specs.declared.Case.{Case}
use Rattle.answers.specs.declared.Judgement.{Judgement}
use Rattle.std.specs.Prelude.{Result, Err}
use Rattle.refusals.specs.declared.Refusal.{Refusal}
use Rattle.refusals.specs.declared.Refusal.TheVariants.{NothingLoaded}
use Rattle.refusals.specs.Numbers.{refusal_of, answer_of}
use Rattle.logs.specs.declared.times.TimedLog.{TimedLog}
use Rattle.checker.specs.Holding.{HeldBy}
use Rattle.checker.specs.Cases.{contents, history_in, stage_of}
use Rattle.answers.specs.Stages.{is_fresh}
use Rattle.answers.specs.Numbers.{judgement_number, judgement_of}
use Rattle.checker.specs.Calls.{check_refusal, check_yes, checking}
use Rattle.answers.specs.Stages.{order_refusal}
use Rattle.checker.specs.declared.Checking.{Checking}
use Rattle.answers.proofs.Answering.{judgement_only, Known, known_either, number_known}

-- ---- over a case

module _ (c : Case) (o : List ℕ) where
  refusal_fresh : is_fresh (stage_of c) ≡ true → check_refusal c o ≡ 22
  unfolding check_refusal
  refusal_fresh e = ap (λ b. cond b 22 (order_refusal (size (history_in c)) o)) e

  pub check_fresh : is_fresh (stage_of c) ≡ true → Err NothingLoaded ≡ judgement_of (check_refusal c o) (check_yes c o)
  unfolding judgement_of answer_of refusal_of
  check_fresh e = sym (ap (λ n. judgement_of n (check_yes c o)) (refusal_fresh e))

  refusal_loaded : is_fresh (stage_of c) ≡ false → check_refusal c o ≡ order_refusal (transactions_in (contents c)) o
  unfolding check_refusal
  refusal_loaded e = ap₂ (λ b n. cond b 22 (order_refusal n o)) e (timed_log_size (contents c) (times_in c.clock))

  pub check_loaded : is_fresh (stage_of c) ≡ false → judgement_of (order_refusal (transactions_in (contents c)) o) (legal (history_in c) o) ≡ judgement_of (check_refusal c o) (check_yes c o)
  unfolding check_yes
  check_loaded e = sym (judgement_only (check_refusal c o) (legal (history_in c) o) ∙ ap (λ n. judgement_of n (legal (history_in c) o)) (refusal_loaded e))

  -- over what it holds
  pub check_held : (w : TimedLog) → HeldBy c w → judgement_of (order_refusal (transactions_in w.log.bytes.now) o) (legal (timed_history w.log.bytes.now (times w.clock.begin.now w.clock.end.now w.clock.drift)) o) ≡ judgement_of (check_refusal c o) (check_yes c o)
  check_held w h =
      ap₂ (λ b ts. judgement_of (order_refusal (transactions_in b) o) (legal (timed_history b ts) o)) h.log_is h.times_are ∙ check_loaded h.counts

  -- the number stands for a refusal, or for none, so that the judgement bears it
  pub check_number : judgement_number (judgement_of (check_refusal c o) (check_yes c o)) ≡ check_refusal c o
  unfolding judgement_of
  check_number = number_known (check_refusal c o) _ known
    where
      known : Known (check_refusal c o)
      known =
          unfold check_refusal in unfold order_refusal in unfold answer_of in unfold refusal_of in
          known_either (is_fresh (stage_of c)) 22 (order_refusal (size (history_in c)) o) refl (known_either (is_order (size (history_in c)) o) 0 13 refl refl)

  pub checked_yes : (eqb (check_refusal c o) 0 && check_yes c o) ≡ check_yes c o
  unfolding check_yes
  checked_yes = go (eqb (check_refusal c o) 0) (legal (history_in c) o)
    where
      go : (x z : Bool) → (x && (x && z)) ≡ (x && z)
      go true z = refl
      go false z = refl

  pub checking_is : (v : Result Judgement Refusal) → v ≡ judgement_of (check_refusal c o) (check_yes c o) → record { case = c; judgement = v } ≡ checking c o
  unfolding checking
  checking_is v e = ap answer e
    where
      answer : Result Judgement Refusal → Checking
      answer x = record { case = c; judgement = x }
