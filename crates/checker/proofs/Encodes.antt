-- Encode's tests in their order, and what it gives and leaves. Assumes nothing.
--     tests_fresh, tests_setting, tests_places        22, 12, 25.        enough_places        of 4,096 places none is missing
--     plans_fresh, plans_setting, plans_places, plans_ready        what is planned before anything is written, by the tests
--     encodes_refused, encodes_done        the call, refused and not
use Prim.Native.Nat.{ℕ, ◌≤◌}
use mathlib.Core.Path.{◌≡◌, refl, sym, ap, ap₂, subst, ◌∙◌}
use mathlib.Core.Logic.{⊎_elim, ◌≢◌}
use mathlib.Core.Bool.{Bool, true, false, cond}
use mathlib.Core.List.{List, ◌++◌}
use lib.Dec.{eqb, ltb}
use lib.ListN.{length, drop}
use borrow.Author.Tests.{eq-eqb, ne_eqb}
use Rattle.model.specs.Polygraph.{constraints}
use Rattle.model.specs.Lent.{encoded_list, encoded_rows, encoded_count}
use Rattle.model.specs.declared.Constraint.{Constraint}
use Rattle.encoding.specs.Writing.{Planned, Encoded}
use Rattle.pruning.specs.declared.Pruned.{Pruned}
use Rattle.checker.specs.declared.Case.{Case}
use Rattle.checker.specs.declared.Encoding.{Encoding}
use Rattle.encoding.specs.declared.Known.{Known as Planning}
use Rattle.logs.specs.declared.times.TimedLog.{TimedLog}
use Rattle.checker.specs.Holding.{HeldBy}
use Rattle.checker.specs.Cases.{contents, history_in, stage_of}
use Rattle.answers.specs.Stages.{is_fresh}
use Rattle.answers.specs.Clocks.{times_in}
use Rattle.std.specs.Prelude.{Result, Ok, Err}
use Rattle.refusals.specs.declared.Refusal.{Refusal}
use Rattle.refusals.specs.declared.Refusal.TheVariants.{NothingLoaded}
use Rattle.refusals.specs.Numbers.{code, refusal_of, answer_of}
use Rattle.refusals.proofs.Numbering.{code_some}
use Rattle.model.specs.Times.{times, timed_history}
use Rattle.checker.specs.Encodings.{encode_refusal, encode_answer, encode_list, encode_rows, Encodes, Plans}
use Rattle.answers.specs.Settings.{setting_refusal, places_refusal}
use Rattle.finding.specs.Settings.{polygraph_refusal}
use Rattle.answers.proofs.Answering.{reply_is, Known, known_either, setting_either, setting_known, places_zero, places_known, pruning_zero}
use Rattle.finding.proofs.Finding.{enough_for_a_log}
use Rattle.checker.proofs.Holding.{case_loads}

module _ (c : Case) (e pruning places words : ℕ) where
  -- the number, by the first two tests
  abbrev tested : Bool → Bool → ℕ
  tested a b = cond a 22 (cond b (places_refusal (length (constraints (history_in c) e)) places words) (setting_refusal e pruning))

  refusal_is : (a b : Bool) → is_fresh (stage_of c) ≡ a → eqb (setting_refusal e pruning) 0 ≡ b → encode_refusal c e pruning places words ≡ tested a b
  unfolding encode_refusal
  refusal_is a b p q = ap₂ tested p q

  pub tests_fresh : is_fresh (stage_of c) ≡ true → encode_refusal c e pruning places words ≡ 22
  tests_fresh p = refusal_is true (eqb (setting_refusal e pruning) 0) p refl

  pub tests_setting : is_fresh (stage_of c) ≡ false → setting_refusal e pruning ≢ 0 → encode_refusal c e pruning places words ≡ 12
  tests_setting p ne =
      refusal_is false false p (ne_eqb (setting_refusal e pruning) 0 ne) ∙ ⊎_elim (λ (z : setting_refusal e pruning ≡ 0). absurd (ne z)) (λ z. z) (setting_either e pruning)

  pub tests_places : is_fresh (stage_of c) ≡ false → setting_refusal e pruning ≡ 0
      → encode_refusal c e pruning places words ≡ cond (ltb places (length (constraints (history_in c) e))) 25 (cond (ltb words 32) 25 0)
  unfolding places_refusal
  tests_places p z = refusal_is false true p (eq-eqb (setting_refusal e pruning) 0 z)

  -- 4,096 places are enough for every case that isn't fresh, in every encoding
  pub enough_places : is_fresh (stage_of c) ≡ false → 4096 ≤ places → 32 ≤ words → encode_refusal c e pruning places words ≡ setting_refusal e pruning
  unfolding encode_refusal
  enough_places p l m =
      ap (λ (f : Bool). cond f 22 (polygraph_refusal (history_in c) e pruning places words)) p ∙ enough_for_a_log (contents c) (times_in c.clock) (case_loads c p) e pruning places words l m

  -- the number stands for a refusal, or for none
  pub encode_known : Known (encode_refusal c e pruning places words)
  unfolding encode_refusal answer_of refusal_of
  encode_known =
      known_either (is_fresh (stage_of c)) 22 (polygraph_refusal (history_in c) e pruning places words) refl
      (known_either (eqb (setting_refusal e pruning) 0) (places_refusal (length (constraints (history_in c) e)) places words) (setting_refusal e pruning)
      (places_known (length (constraints (history_in c) e)) places words) (setting_known e pruning))

  module _ (t ks : List ℕ) where
    pub plans_refused : (r : Refusal) → code r ≡ encode_refusal c e pruning places words → Plans c e pruning places words t ks (Err r)
    plans_refused r is = record { number_is = is; ready = tt }

    pub plans_fresh : (r : Refusal) → r ≡ NothingLoaded → is_fresh (stage_of c) ≡ true → Plans c e pruning places words t ks (Err r)
    plans_fresh r is p = plans_refused r (ap code is ∙ sym (tests_fresh p))

    pub plans_setting : (r : Refusal) → is_fresh (stage_of c) ≡ false → code r ≡ setting_refusal e pruning → Plans c e pruning places words t ks (Err r)
    plans_setting r p is =
        plans_refused r (is ∙ sym (refusal_is false false p (ne_eqb (setting_refusal e pruning) 0 (λ z. code_some r (is ∙ z)))))

    module _ (w : TimedLog) (h : HeldBy c w) (k : Planning) (zero : setting_refusal e pruning ≡ 0)
        (planned : Planned (timed_history w.log.bytes.now (times w.clock.begin.now w.clock.end.now w.clock.drift)) e t ks k.rows k.count) where
      plan : Planned (history_in c) e t ks k.rows k.count
      plan =
          subst (λ b. Planned (timed_history b (times_in c.clock)) e t ks k.rows k.count) h.log_is
          (subst (λ ts. Planned (timed_history w.log.bytes.now ts) e t ks k.rows k.count) h.times_are planned)

      number : encode_refusal c e pruning places words ≡ places_refusal k.count places words
      number = refusal_is false true h.counts (eq-eqb (setting_refusal e pruning) 0 zero) ∙ ap (λ (n : ℕ). places_refusal n places words) (sym plan.chosen_are.count_is)

      pub plans_places : (r : Refusal) → code r ≡ places_refusal k.count places words → Plans c e pruning places words t ks (Err r)
      plans_places r is = plans_refused r (is ∙ sym number)

      pub plans_ready : places_refusal k.count places words ≡ 0 → Plans c e pruning places words t ks (Ok k)
      plans_ready z =
          let enough = places_zero k.count places words z in
          record {
            number_is = sym (number ∙ z);
            ready = record { low = pruning_zero e pruning zero; plan = plan; writable = record { few = plan.chosen_are.low; fits = enough.0 }; room = enough.1 };
          }

-- ---- the call

abbrev pub answered : Case → Result (Unit {0}) Refusal → ℕ → Encoding
answered c reply left = record { case = c; reply = reply; left = left }

module _ (c : Case) (e pruning : ℕ) (ys : List Constraint) (ws : List ℕ) where
  abbrev x : ℕ
  x = encode_refusal c e pruning (length ys) (length ws)

  pub encodes_refused : (r : Refusal) → code r ≡ x → Encodes c e pruning ys ws (answered c (Err r) 0) ys ws
  unfolding encode_answer encode_list encode_rows
  encodes_refused r is =
      let t : eqb x 0 ≡ false = ne_eqb x 0 (λ z. code_some r (is ∙ z)) in
      record {
        result = ap₂ (answered c) (reply_is (Err r) x is) (ap (λ (b : Bool). cond b (encoded_count (history_in c) e pruning) 0) (sym t));
        number = is;
        list = ap (λ (b : Bool). cond b (encoded_list (history_in c) e pruning ys) ys) (sym t);
        rows = ap (λ (b : Bool). cond b (encoded_rows (history_in c) e pruning ws) ws) (sym t);
      }

  pub encodes_done : 0 ≡ x → (p : Pruned) (zs : List Constraint) (vs : List ℕ) (left : ℕ) → left ≡ p.left → Encoded (history_in c) e pruning ys p zs → vs ≡ p.rows ++ drop 32 ws
      → Encodes c e pruning ys ws (answered c (Ok tt) left) zs vs
  unfolding encode_answer encode_list encode_rows encoded_rows
  encodes_done is p zs vs left l d v =
      let t : eqb x 0 ≡ true = eq-eqb x 0 (sym is) in
      record {
        result = ap₂ (answered c) (reply_is (Ok tt) x is) (l ∙ d.left_is ∙ ap (λ (b : Bool). cond b (encoded_count (history_in c) e pruning) 0) (sym t));
        number = is;
        list = d.list_is ∙ ap (λ (b : Bool). cond b (encoded_list (history_in c) e pruning ys) ys) (sym t);
        rows = v ∙ ap (λ (l : List ℕ). l ++ drop 32 ws) d.rows_are ∙ ap (λ (b : Bool). cond b (encoded_rows (history_in c) e pruning ws) ws) (sym t);
      }
