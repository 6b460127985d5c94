-- Demand 3's parts: what Encode's lists hold, taken as a polygraph, and what a decision says and leaves. Assumes nothing.
use Prim.Native.Nat.{ℕ, zero, suc, ◌≤◌, ◌<◌}
use native.Mathlib.Omega.{arith}
use mathlib.Core.Path.{◌≡◌, refl, sym, ap, ap₂, subst, ◌∙◌}
use mathlib.Core.Logic.{◌↔◌}
use mathlib.Core.Bool.{Bool, true, false, not, cond, ◌&&◌, ◌||◌}
use mathlib.Core.List.{List, [], ◌∷◌, ◌++◌}
use mathlib.Core.Option.{Option, none, some}
use lib.Dec.{T, eqb, ltb, nltb→le}
use lib.ListN.{length, take, drop}
use lib.Seq.{take_at}
use Rattle.model.specs.declared.Constraint.{Constraint}
use Rattle.model.specs.Lists.{word_of, bit}
use Rattle.model.specs.History.{History, size, legal, replay}
use Rattle.model.specs.Log.{transactions_in}
use Rattle.model.specs.Window.{Window, window_history}
use Rattle.model.specs.Polygraph.{Polygraph, has, rows, edge, with_side, closed_off, pass, passes, unpruned, constraints, polygraph, AcyclicSelection}
use Rattle.model.specs.Lent.{order_numbers, encoded_list, encoded_rows, encoded_count}
use Rattle.model.specs.Search.{first_legal}
use Rattle.model.proofs.Words.{length_up_to}
use Rattle.model.proofs.First.{first_some, first_none, legal_length}
use Rattle.model.proofs.Times.{loadable_timed, timed_log_size}
use Rattle.answers.specs.Clocks.{times_in}
use Rattle.model.proofs.Selection.{serializable}
use Rattle.answers.specs.declared.Stage.{Stage}
use Rattle.answers.specs.declared.Stage.TheVariants.{Fresh, Loaded, Ordered, NoOrder}
use Rattle.answers.specs.declared.Verdict.{Verdict}
use Rattle.answers.specs.declared.Verdict.TheVariants.{Order, NoOrder as NoOrderSaid}
use Rattle.std.specs.Prelude.{Result, Ok, Err}
use Rattle.refusals.specs.declared.Refusal.{Refusal}
use Rattle.checker.specs.declared.Case.{Case}
use Rattle.checker.specs.declared.Decision.{Decision}
use Rattle.wear.specs.Wear.{moves}
use Rattle.wear.specs.Bills.{bills_of}
use Rattle.checker.specs.Cases.{contents, window_in, history_in, stage_of, loaded_case}
use Rattle.answers.specs.Stages.{is_fresh}
use Rattle.checker.specs.Calls.{load_refusal, case_after_load}
use Rattle.checker.specs.Encodings.{encode_refusal, encode_answer, encode_list, encode_rows}
use Rattle.answers.specs.Settings.{setting_refusal}
use Rattle.checker.specs.Decisions.{decide_refusal, verdict_for, decided_case, decided, refused_decision, deciding, list_after_decide}
use Rattle.checker.specs.Results.{order_refused, table_refused, bills_refused}
use Rattle.checker.specs.Demand.{in_lists, lists_handed_out, Serializable, IsFirst, SettlesWithBills, SameAnswer}
use Rattle.checker.proofs.Holding.{case_timed}
use Rattle.checker.proofs.Verdicts.{numbers_of}
use Rattle.checker.proofs.Loads.{refusal_none}
use Rattle.checker.proofs.Chain.{taken, load_window, load_stage, encode_held, not_refused, decided_contents, decided_window, none_stage, some_stage, order_writes, table_writes, bills_writes}
use Rattle.answers.proofs.Holding.{refused_none}

-- ---- the row words of a polygraph are 32

abbrev Long : Polygraph → Type 0
Long p = length p.known ≡ 32

side_long : (g : List ℕ) (from to : ℕ) → length (with_side g from to) ≡ 32
unfolding with_side
side_long g from to = length_up_to (λ u. word_of 32 (λ v. has g u v || (bit from u && eqb v to))) 32

pass_long : (cs : List Constraint) (g : List ℕ) → length g ≡ 32 → Long (pass g cs)
unfolding pass
pass_long [] g l = l
pass_long (c ∷ cs) g l =
    go (closed_off g c.fromA c.toA) (closed_off g c.fromB c.toB)
    (pass_long cs (with_side g c.fromB c.toB) (side_long g c.fromB c.toB))
    (pass_long cs (with_side g c.fromA c.toA) (side_long g c.fromA c.toA))
    (pass_long cs g l)
  where
    drop_a : Polygraph
    drop_a = pass (with_side g c.fromB c.toB) cs

    drop_b : Polygraph
    drop_b = pass (with_side g c.fromA c.toA) cs

    held : Polygraph
    held = pass g cs

    stays : Polygraph
    stays = record { known = held.known; choices = c ∷ held.choices }

    go : (a b : Bool) → Long drop_a → Long drop_b → Long held → Long (cond a drop_a (cond b drop_b stays))
    go true b x y z = x
    go false true x y z = y
    go false false x y z = z

either_long : (b : Bool) (x y : Polygraph) → Long x → Long y → Long (cond b x y)
either_long true x y k r = k
either_long false x y k r = r

passes_long : (m : ℕ) (p : Polygraph) → Long p → Long (passes m p)
unfolding passes
passes_long zero p l = l
passes_long (suc m) p l =
    let q = pass p.known p.choices in
    let k = pass_long p.choices p.known l in
    either_long (eqb (length q.choices) (length p.choices)) q (passes m q) k (passes_long m q k)

known_long : (h : History) (e pruning : ℕ) → Long (polygraph h e pruning)
unfolding polygraph rows
known_long h e pruning =
    let r : Long (unpruned h e) = length_up_to (λ u. word_of 32 (edge h e u)) 32 in
    either_long (eqb pruning 1) (passes (length (constraints h e)) (unpruned h e)) (unpruned h e) (passes_long (length (constraints h e)) (unpruned h e) r) r

-- ---- a call that is not refused has a setting in range

pub in_range : (c : Case) (e pruning places words : ℕ) → encode_refusal c e pruning places words ≡ 0 → e < 3
unfolding encode_refusal setting_refusal
in_range c e pruning places words r = go (is_fresh (stage_of c)) (ltb 2 e) _ _ refl r
  where
    go : (fresh over : Bool) (m n : ℕ) → ltb 2 e ≡ over → cond fresh 22 (cond (eqb (cond over 12 m) 0) n (cond over 12 m)) ≡ 0 → e < 3
    go true over m n is f = absurd (omega arith)
    go false true m n is f = absurd (omega arith)
    go false false m n is f = omega (arith, nltb→le 2 e (subst (λ b. T (not b)) (sym is) tt))

-- ---- Encode

module _ (c : Case) (e pruning : ℕ) (ys : List Constraint) (ws : List ℕ) (runs : encode_refusal c e pruning (length ys) (length ws) ≡ 0) where
  abbrev h : History
  h = history_in c

  pub lists_hold : lists_handed_out c e pruning ys ws ≡ polygraph h e pruning
  unfolding lists_handed_out in_lists encode_answer encode_list encode_rows encoded_list encoded_rows encoded_count
  lists_hold =
      ap₂ {C = Polygraph} (λ (k : List ℕ) (cs : List Constraint). record { known = k; choices = cs })
      (ap (take 32) (taken (encode_refusal c e pruning (length ys) (length ws)) (p.known ++ drop 32 ws) ws runs) ∙ take_at p.known (drop 32 ws) 32 (known_long h e pruning))
      (ap₂ take (taken (encode_refusal c e pruning (length ys) (length ws)) (length p.choices) 0 runs) (taken (encode_refusal c e pruning (length ys) (length ws)) (encoded_list h e pruning ys) ys runs)
      ∙ take_at p.choices _ (length p.choices) refl)
    where
      p : Polygraph
      p = polygraph h e pruning

  pub lists_select : Serializable h ↔ AcyclicSelection (lists_handed_out c e pruning ys ws)
  lists_select =
      subst (λ (p : Polygraph). Serializable h ↔ AcyclicSelection p) (sym lists_hold)
      (serializable h (loadable_timed (contents c) (times_in c.clock) (case_timed c (encode_held c e pruning (length ys) (length ws) runs))) e pruning (in_range c e pruning (length ys) (length ws) runs))

-- ---- Decide

-- a verdict says one thing
abbrev says_order : Result Verdict Refusal → Bool
says_order (Ok Order) = true
says_order (Ok NoOrderSaid) = false
says_order (Err r) = false

order_not_none : ◌≡◌ {A = Result Verdict Refusal} (Ok Order) (Ok NoOrderSaid) → ⊥
order_not_none e = subst (λ v. T (says_order v)) e tt

-- and so does a stage
abbrev is_ordered : Stage → Bool
is_ordered Fresh = false
is_ordered Loaded = false
is_ordered Ordered = true
is_ordered NoOrder = false

none_not_ordered : NoOrder ≡ Ordered → ⊥
none_not_ordered e = subst (λ (s : Stage). T (is_ordered s)) (sym e) tt

module _ (c : Case) (n : ℕ) (held : is_fresh (stage_of c) ≡ false) where
  abbrev hc : History
  hc = history_in c

  settles_none : first_legal hc ≡ none → SettlesWithBills (window_in c) (decided c none n)
  unfolding decided order_refused table_refused bills_refused
  settles_none is = record {
    settles = record {
      none = (λ p s. first_none hc is s.0 s.1, λ f. refl);
      some = (λ p. absurd (order_not_none (sym p)), λ s. absurd (first_none hc is s.0 s.1));
      first = λ p. absurd (order_not_none (sym p));
      none_stage = λ p. none_stage c held;
      some_stage = λ p. absurd (order_not_none (sym p));
      order = λ out r. absurd (none_not_ordered (sym (none_stage c held) ∙ (refused_none _ _ _ r).ordered));
      table = λ out r. absurd (none_not_ordered (sym (none_stage c held) ∙ (refused_none _ _ _ r).ordered));
    };
    bills = λ out r. absurd (none_not_ordered (sym (none_stage c held) ∙ (refused_none _ _ _ r).ordered));
  }

  settles_some : (o : List ℕ) → first_legal hc ≡ some o → SettlesWithBills (window_in c) (decided c (some o) n)
  unfolding decided order_refused table_refused bills_refused
  settles_some o is = record {
    settles = record {
      none = (λ p. absurd (order_not_none p), λ f. absurd (f (o, l)));
      some = (λ p. (o, l), λ s. refl);
      first = λ p. subst (IsFirst hc) (sym numbers) (first_some hc o is);
      none_stage = λ p. absurd (order_not_none p);
      some_stage = λ p. some_stage c o held l;
      order = λ out r. order_writes c o held l out (room out r) ∙ ap₂ {C = List ℕ} (λ (x : List ℕ) (m : ℕ). x ++ drop m out) (sym numbers) (legal_length hc o l);
      table = λ out r. table_writes c o held l out (refused_none _ _ _ r).room ∙ ap (λ (x : List ℕ). replay hc c.starting x ++ drop 32 out) (sym numbers);
    };
    bills = λ out r. bills_writes c o held l out (refused_none _ _ _ r).room ∙ ap (λ (x : List ℕ). bills_of (moves hc c.starting x) ++ drop 16 out) (sym numbers);
  }
    where
      l : T (legal hc o)
      l = (first_some hc o is).0

      numbers : take (size hc) (order_numbers (some o)) ≡ o
      numbers = numbers_of hc o l

      room : (out : List ℕ) → order_refused (decided_case c (some o)) (length out) ≡ 0 → length o ≤ length out
      room out r =
          let fits = (refused_none _ _ _ r).room in
          omega (arith, fits, legal_length hc o l, timed_log_size (contents c) (times_in c.clock), ap transactions_in (decided_contents c (some o)))

  pub decided_settles : SettlesWithBills (window_in c) (decided c (first_legal hc) n)
  decided_settles = go (first_legal hc) refl
    where
      go : (x : Option (List ℕ)) → first_legal hc ≡ x → SettlesWithBills (window_in c) (decided c x n)
      go none is = settles_none is
      go (some o) is = settles_some o is

module _ (c : Case) (e pruning places : ℕ) (runs : decide_refusal c e pruning places ≡ 0) where
  -- the decision, where the call is not refused
  pub decision_is : deciding c e pruning places ≡ decided c (first_legal (history_in c)) (encoded_count (history_in c) e pruning)
  unfolding deciding
  decision_is = taken (decide_refusal c e pruning places) _ (refused_decision c (decide_refusal c e pruning places)) runs

  pub decision_settles : SettlesWithBills (window_in c) (deciding c e pruning places)
  decision_settles =
      subst (SettlesWithBills (window_in c)) (sym decision_is) (decided_settles c (encoded_count (history_in c) e pruning) (not_refused c e pruning places runs))

  -- its case is the one with the answer stored, which holds the same window
  pub case_is : (deciding c e pruning places).case ≡ decided_case c (first_legal (history_in c))
  unfolding decided
  case_is = ap (λ (d : Decision). d.case) decision_is

  pub same_window : window_in (deciding c e pruning places).case ≡ window_in c
  same_window = ap window_in case_is ∙ decided_window c (first_legal (history_in c))

-- storing an answer twice is storing it once
stored_again : (c : Case) (x y : Option (List ℕ)) → decided_case (decided_case c x) y ≡ decided_case c y
unfolding decided_case
stored_again c x y = refl

module _ (c : Case) (e pruning places : ℕ) (runs : decide_refusal c e pruning places ≡ 0) (e' pruning' places' : ℕ) where
  abbrev after : Case
  after = (deciding c e pruning places).case

  module _ (runs' : decide_refusal after e' pruning' places' ≡ 0) where
    abbrev x : Option (List ℕ)
    x = first_legal (history_in c)

    x_is : first_legal (history_in after) ≡ x
    x_is = ap (λ (w : Window). first_legal (window_history w)) (same_window c e pruning places runs)

    pub again_settles : SettlesWithBills (window_in c) (deciding after e' pruning' places')
    again_settles =
        subst (λ (w : Window). SettlesWithBills w (deciding after e' pruning' places')) (same_window c e pruning places runs) (decision_settles after e' pruning' places' runs')

    pub again_same : SameAnswer (deciding c e pruning places) (deciding after e' pruning' places')
    unfolding decided
    again_same = record {
      verdict = ap (λ (d : Decision). d.verdict) second ∙ ap (λ (y : Option (List ℕ)). Ok (verdict_for y)) x_is ∙ sym (ap (λ (d : Decision). d.verdict) first);
      order = ap (λ (d : Decision). d.order) second ∙ ap order_numbers x_is ∙ sym (ap (λ (d : Decision). d.order) first);
      case =
          case_is after e' pruning' places' runs' ∙ ap₂ decided_case (case_is c e pruning places runs) x_is ∙ stored_again c x x
          ∙ sym (case_is c e pruning places runs);
    }
      where
        first : deciding c e pruning places ≡ decided c x (encoded_count (history_in c) e pruning)
        first = decision_is c e pruning places runs

        second : deciding after e' pruning' places' ≡ decided after (first_legal (history_in after)) (encoded_count (history_in after) e' pruning')
        second = decision_is after e' pruning' places' runs'

-- Decide leaves the constraints that Encode leaves
pub decide_lists : (c : Case) (e pruning : ℕ) (ys : List Constraint) → decide_refusal c e pruning (length ys) ≡ 0
    → take (deciding c e pruning (length ys)).left (list_after_decide c e pruning ys) ≡ (polygraph (history_in c) e pruning).choices
unfolding list_after_decide encoded_list encoded_count decided
decide_lists c e pruning ys runs =
    ap₂ take (ap (λ (d : Decision). d.left) (decision_is c e pruning (length ys) runs)) (taken (decide_refusal c e pruning (length ys)) (encoded_list (history_in c) e pruning ys) ys runs)
    ∙ take_at (polygraph (history_in c) e pruning).choices _ (length (polygraph (history_in c) e pruning).choices) refl

-- ---- Load

module _ (c : Case) (w : Window) (runs : load_refusal c w ≡ 0) where
  pub after_load : case_after_load c w ≡ loaded_case w
  unfolding case_after_load
  after_load = taken (load_refusal c w) (loaded_case w) c runs

  pub load_counts : stage_of (case_after_load c w) ≡ Loaded
  load_counts = ap stage_of after_load ∙ load_stage w (refusal_none c w runs)

  pub after_load_holds : window_in (case_after_load c w) ≡ w
  after_load_holds = ap window_in after_load ∙ load_window w (refusal_none c w runs)
