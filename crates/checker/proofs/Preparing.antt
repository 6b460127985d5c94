-- What Decide finds before it writes anything, and what writing and answering come to. Assumes nothing.
use Prim.Native.Nat.{ℕ, ◌-◌}
use mathlib.Core.Path.{◌≡◌, refl, sym, ap, ap₂, subst, ◌∙◌}
use mathlib.Core.Bool.{Bool, true, cond}
use mathlib.Core.List.{List, ◌++◌}
use mathlib.Core.Option.{Option, none, some}
use lib.ListN.{length, drop, replicate}
use borrow.Author.Tests.{eq-eqb, ne_eqb}
use Rattle.std.specs.Prelude.{Result, Err}
use Rattle.refusals.specs.declared.Refusal.{Refusal}
use Rattle.refusals.specs.declared.Refusal.TheVariants.{NothingLoaded}
use Rattle.refusals.specs.Numbers.{code}
use Rattle.refusals.proofs.Numbering.{code_some, refusal_of_code}
use Rattle.model.specs.History.{History}
use Rattle.model.specs.declared.Constraint.{Constraint}
use Rattle.model.specs.Lent.{encoded_list, encoded_count, order_numbers, no_constraint}
use Rattle.model.specs.Search.{first_legal}
use Rattle.model.specs.Times.{times, timed_history}
use Rattle.listing.specs.Candidates.{items_by}
use Rattle.decision.specs.Answer.{answer_of, first_answer}
use Rattle.answers.specs.Numbers.{verdict_number}
use Rattle.answers.specs.Stages.{is_fresh}
use Rattle.finding.specs.Settings.{polygraph_refusal}
use Rattle.finding.specs.Finding.{Finds, Found}
use Rattle.finding.specs.declared.Outcome.{Outcome}
use Rattle.checker.specs.declared.Case.{Case}
use Rattle.checker.specs.declared.Decision.{Decision}
use Rattle.logs.specs.declared.times.TimedLog.{TimedLog}
use Rattle.checker.specs.Cases.{history_in, stage_of}
use Rattle.checker.specs.Holding.{HeldBy}
use Rattle.checker.specs.Encodings.{encode_refusal}
use Rattle.checker.specs.Decisions.{decide_refusal, decided_case, decided, refused_decision, deciding, list_after_decide, Answers, Decides}
use Rattle.checker.specs.Preparing.{storing, answering}
use Rattle.checker.proofs.Verdicts.{deciding_answers, deciding_number}

-- ---- what is found, by the first test

module _ (c : Case) (e pruning places : ℕ) (listed : Bool) (t ks : List ℕ) where
  pub fresh_finds : (r : Refusal) → r ≡ NothingLoaded → is_fresh (stage_of c) ≡ true → Finds (decide_refusal c e pruning places) (history_in c) e pruning places listed t ks (Err r)
  unfolding encode_refusal
  fresh_finds r is f = record { number_is = ap code is ∙ sym (ap (λ b. cond b 22 (polygraph_refusal (history_in c) e pruning places 32)) f); found = tt }

  pub held_finds : (w : TimedLog) → HeldBy c w → (r : Result Outcome Refusal)
      → let h = timed_history w.log.bytes.now (times w.clock.begin.now w.clock.end.now w.clock.drift) in Finds (polygraph_refusal h e pruning places 32) h e pruning places listed t ks r
      → Finds (decide_refusal c e pruning places) (history_in c) e pruning places listed t ks r
  unfolding encode_refusal
  held_finds w held r x =
      subst (λ n. Finds n (history_in c) e pruning places listed t ks r) (sym (ap (λ b. cond b 22 (polygraph_refusal (history_in c) e pruning places 32)) held.counts))
      (subst finds (ap₂ timed_history held.log_is held.times_are) x)
    where
      finds : History → Type 0
      finds h = Finds (polygraph_refusal h e pruning places 32) h e pruning places listed t ks r

-- ---- the answer: the case with the first legal order stored, or with 'no order', and what says so

pub decided_by : (c : Case) (x : Option (List ℕ)) (left : ℕ) → answering (storing c (answer_of x)) (answer_of x) left ≡ decided c x left
unfolding answer_of decided decided_case order_numbers
decided_by c none left = refl
decided_by c (some o) left = refl

pub refusal_said : (c : Case) (r : Refusal) → record { case = c; verdict = Err r; order = replicate 32 0; left = 0 } ≡ refused_decision c (code r)
unfolding refused_decision
refusal_said c r = ap (λ (x : Refusal). at x) (sym (refusal_of_code r))
  where
    at : Refusal → Decision
    at x = record { case = c; verdict = Err x; order = replicate 32 0; left = 0 }

module _ (c : Case) (e pruning : ℕ) (ys : List Constraint) where
  abbrev number : ℕ
  number = decide_refusal c e pruning (length ys)

  abbrev h : History
  h = history_in c

  decides : (d : Decision) (zs : List Constraint) → d ≡ deciding c e pruning (length ys) → zs ≡ list_after_decide c e pruning ys → Decides c e pruning ys d zs
  decides d zs is list = record {
    result = is;
    number = ap (λ (x : Decision). verdict_number x.verdict) is ∙ deciding_number c e pruning (length ys);
    answers = subst (λ (x : Decision). Answers h x.verdict x.order) (sym is) (deciding_answers c e pruning (length ys));
    list = list;
  }

  -- a refusal writes nothing
  pub decides_refused : (d : Decision) (r : Refusal) → code r ≡ number → d ≡ refused_decision c (code r) → Decides c e pruning ys d ys
  unfolding deciding list_after_decide
  decides_refused d r is said =
      let f = ne_eqb number 0 (λ z. code_some r (is ∙ z)) in
      decides d ys
      (said ∙ ap (refused_decision c) is ∙ sym (ap (λ b. cond b (decided c (first_legal h) (encoded_count h e pruning)) (refused_decision c number)) f))
      (sym (ap (λ b. cond b (encoded_list h e pruning ys) ys) f))

  -- else the polygraph's constraints were written
  pub decides_found : (d : Decision) (zs : List Constraint) (t ks : List ℕ) (o : Outcome) → 0 ≡ number → Found h e pruning (length ys) true t ks o
      → zs ≡ items_by t ks o.left ++ (replicate (o.count - o.left) no_constraint ++ drop o.count ys)
      → d ≡ answering (storing c o.order) o.order o.left → Decides c e pruning ys d zs
  unfolding deciding list_after_decide encoded_list encoded_count first_answer
  decides_found d zs t ks o is found wrote said =
      let z = eq-eqb number 0 (sym is) in
      decides d zs
      (said ∙ ap₂ (λ x n. answering (storing c x) x n) found.order_is (found.left_is refl) ∙ decided_by c (first_legal h) (encoded_count h e pruning)
      ∙ sym (ap (λ b. cond b (decided c (first_legal h) (encoded_count h e pruning)) (refused_decision c number)) z))
      (wrote ∙ ap₂ (λ (xs rest : List Constraint). xs ++ rest) (found.items_are refl)
      (ap₂ (λ (n m : ℕ). replicate (n - m) no_constraint ++ drop n ys) found.count_is (found.left_is refl))
      ∙ sym (ap (λ b. cond b (encoded_list h e pruning ys) ys) z))
