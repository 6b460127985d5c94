-- The starting table decides nothing: nothing but Table's and Bills' values looks at it. Assumes nothing.
use Prim.Native.Nat.{ℕ, ◌≤◌, ◌<◌}
use native.Mathlib.Omega.{arith}
use mathlib.Core.Path.{◌≡◌, refl, sym, ap, ◌∙◌}
use mathlib.Core.Bool.{Bool, true, false, cond}
use mathlib.Core.List.{List, ◌++◌}
use lib.Dec.{eqb}
use lib.ListN.{length, get_or, drop, get_or-append}
use Rattle.model.specs.History.{History, start, last_writer, replay, value_of}
use Rattle.model.specs.Log.{load_number}
use Rattle.model.specs.Times.{Times}
use Rattle.model.specs.Window.{Window, window, zeros, from_zeros}
use Rattle.model.specs.Lent.{encoded_count, written_table}
use Rattle.model.specs.Search.{first_legal}
use Rattle.model.proofs.Windows.{number_of_log, number_of_zeros}
use Rattle.model.proofs.Values.{replay_at, replay_long}
use Rattle.model.proofs.Times.{loadable_timed}
use Rattle.answers.specs.Clocks.{times_in}
use Rattle.answers.specs.declared.Stage.TheVariants.{Ordered}
use Rattle.answers.specs.Stages.{is_fresh}
use Rattle.checker.specs.declared.Case.{Case}
use Rattle.checker.specs.declared.Decision.{Decision}
use Rattle.checker.specs.Cases.{contents, stage_of, history_in, order_in, loaded_case, with_starting}
use Rattle.checker.specs.Calls.{load_refusal, case_after_load, check_refusal, check_yes, checking}
use Rattle.checker.specs.Encodings.{encode_refusal, encode_answer, encode_list, encode_rows}
use Rattle.checker.specs.Decisions.{decide_refusal, decided_case, decided, refused_decision, deciding, list_after_decide}
use Rattle.checker.specs.Results.{order_refused, order_left, table_refused, table_left}
use Rattle.checker.specs.Starting.{SameButForTable}
use Rattle.checker.proofs.Holding.{case_timed}
use Rattle.checker.proofs.Chain.{taken, table_left_lem}

-- what a decision of either case holds, by whether it is refused
either : {X : Type 0} (f g : Decision → X) (b : Bool) (x y u v : Decision) → f x ≡ g u → f y ≡ g v → f (cond b x y) ≡ g (cond b u v)
either f g true x y u v p q = p
either f g false x y u v p q = q

-- the two that a decision is, by its number
abbrev yes : Case → ℕ → ℕ → Decision
yes c e pruning = decided c (first_legal (history_in c)) (encoded_count (history_in c) e pruning)

abbrev number : Case → ℕ → ℕ → ℕ → ℕ
number c e pruning places = decide_refusal c e pruning places

module _ (c : Case) (table : List ℕ) where
  abbrev d : Case
  d = with_starting c table

  -- a part of the decision, of the one case and of the other
  part : {X : Type 0} (f g : Decision → X) (e pruning places : ℕ) → f (yes d e pruning) ≡ g (yes c e pruning)
      → f (refused_decision d (number c e pruning places)) ≡ g (refused_decision c (number c e pruning places)) → f (deciding d e pruning places) ≡ g (deciding c e pruning places)
  unfolding stage_of encode_refusal deciding
  part f g e pruning places p q =
      let n = number c e pruning places in
      either f g (eqb n 0) (yes d e pruning) (refused_decision d n) (yes c e pruning) (refused_decision c n) p q

  pub same_answers : SameButForTable c d
  unfolding stage_of encode_refusal encode_answer encode_list encode_rows decided refused_decision list_after_decide checking check_refusal check_yes load_refusal order_refused order_left table_refused
  same_answers = record {
    decide_number = λ e pruning places. refl;
    verdict = λ e pruning places. part (λ x. x.verdict) (λ x. x.verdict) e pruning places refl refl;
    order = λ e pruning places. part (λ x. x.order) (λ x. x.order) e pruning places refl refl;
    count = λ e pruning places. part (λ x. x.left) (λ x. x.left) e pruning places refl refl;
    decide_list = λ e pruning ys. refl;
    encode_number = λ e pruning places words. refl;
    encode_reply = λ e pruning places words. refl;
    encode_count = λ e pruning places words. refl;
    encode_list_same = λ e pruning ys words. refl;
    encode_rows_same = λ e pruning places ws. refl;
    check = λ o. refl;
    load_number_same = λ w. refl;
    order_number = λ places. refl;
    order_list = λ ys. refl;
    table_number = λ places. refl;
  }

  pub load_replaces : (w : Window) → case_after_load d w ≡ cond (eqb (load_refusal c w) 0) (loaded_case w) d
  unfolding stage_of load_refusal case_after_load
  load_replaces w = refl

  pub decided_alike : (e pruning places : ℕ) → (deciding d e pruning places).case ≡ with_starting (deciding c e pruning places).case table
  unfolding decided decided_case refused_decision
  decided_alike e pruning places = part (λ x. x.case) (λ x. with_starting x.case table) e pruning places refl refl

pub decided_keeps : (c : Case) (e pruning places : ℕ) → (deciding c e pruning places).case.starting ≡ c.starting
unfolding decided decided_case refused_decision
decided_keeps c e pruning places = part c c.starting (λ x. x.case.starting) (λ x. c.starting) e pruning places refl refl

pub decided_clock : (c : Case) (e pruning places : ℕ) → (deciding c e pruning places).case.clock ≡ c.clock
unfolding decided decided_case refused_decision
decided_clock c e pruning places = part c c.starting (λ x. x.case.clock) (λ x. c.clock) e pruning places refl refl

-- ---- Load

module _ (c : Case) (b s table : List ℕ) (ts : Times) (long : length s ≡ 32) (long' : length table ≡ 32) where
  pub load_number_alike : load_refusal c (window b table ts) ≡ load_refusal c (window b s ts)
  unfolding load_refusal
  load_number_alike = ap (λ n. cond (is_fresh (stage_of c)) n 21) (number_of_log (window b table ts) long' ∙ sym (number_of_log (window b s ts) long))

  pub load_alike : load_refusal c (window b s ts) ≡ 0 → case_after_load c (window b table ts) ≡ with_starting (case_after_load c (window b s ts)) table
  unfolding case_after_load loaded_case
  load_alike runs =
      taken (load_refusal c (window b table ts)) (loaded_case (window b table ts)) c (load_number_alike ∙ runs)
      ∙ sym (ap (λ (x : Case). with_starting x table) (taken (load_refusal c (window b s ts)) (loaded_case (window b s ts)) c runs))

module _ (c : Case) (b : List ℕ) where
  pub zeros_number : load_refusal c (from_zeros b) ≡ cond (is_fresh (stage_of c)) (load_number b) 21
  unfolding load_refusal
  zeros_number = ap (λ n. cond (is_fresh (stage_of c)) n 21) (number_of_zeros b)

  pub zeros_case : case_after_load c (from_zeros b) ≡ cond (eqb (cond (is_fresh (stage_of c)) (load_number b) 21) 0) (loaded_case (from_zeros b)) c
  unfolding case_after_load
  zeros_case = ap (λ n. cond (eqb n 0) (loaded_case (from_zeros b)) c) zeros_number

  pub zeros_start : load_refusal c (from_zeros b) ≡ 0 → (e pruning places : ℕ) → (deciding (case_after_load c (from_zeros b)) e pruning places).case.starting ≡ zeros
  unfolding case_after_load loaded_case
  zeros_start runs e pruning places =
      decided_keeps (case_after_load c (from_zeros b)) e pruning places
      ∙ ap (λ (x : Case). x.starting) (taken (load_refusal c (from_zeros b)) (loaded_case (from_zeros b)) c runs)

pub table_from : (d : Case) (s : List ℕ) → d.starting ≡ s → (ys : List ℕ)
    → table_left d ys ≡ cond (eqb (table_refused d (length ys)) 0) (replay (history_in d) s (order_in d) ++ drop 32 ys) ys
unfolding table_left written_table
table_from d s e ys = ap (λ x. cond (eqb (table_refused d (length ys)) 0) (replay (history_in d) x (order_in d) ++ drop 32 ys) ys) e

-- ---- a key of the table

module _ (c : Case) (ordered : stage_of c ≡ Ordered) (long : length c.starting ≡ 32) (ys : List ℕ) (room : 32 ≤ length ys) (k : ℕ) (low : k < 32) where
  abbrev h : History
  h = history_in c

  pub table_at : get_or (table_left c ys) k 0 ≡ value_of h c.starting k (last_writer h k start (order_in c))
  unfolding written_table
  table_at =
      ap (λ l. get_or l k 0) (table_left_lem c ordered ys room)
      ∙ get_or-append (replay h c.starting (order_in c)) (drop 32 ys) 0 k (omega (arith, long, low, replay_long h c.starting (order_in c)))
      ∙ replay_at h k (loadable_timed (contents c) (times_in c.clock) (case_timed c (ap is_fresh ordered))).few (order_in c) c.starting (omega (arith, long, low))
