-- What is found over the bytes of a log with its times is what Decide gives of the case that holds its window, and what is written of an order is what Order and
-- Table write.
-- Assumes nothing.
use mathlib.Core.Path.{◌≡◌, refl, sym, ap, ap₂, subst, ◌∙◌}
use Prim.Native.Nat.{ℕ, ◌<◌, ◌≤◌}
use native.Mathlib.Omega.{arith}
use mathlib.Core.Bool.{Bool, false, cond}
use mathlib.Core.List.{List, ◌++◌, append-nil}
use mathlib.Core.Option as model
use mathlib.Core.Option.{none, some}
use lib.Dec.{T, ltb}
use lib.ListN.{length, take, drop, replicate}
use borrow.Author.Tests.{lt-ltb, le-ltb}
use Rattle.std.specs.Prelude.{Option, Result, Ok, Err, IfSome, IfOk}
use Rattle.refusals.specs.declared.Refusal.{Refusal}
use Rattle.refusals.specs.Numbers.{code}
use Rattle.refusals.proofs.Numbering.{code_some}
use Rattle.model.specs.History.{History, size, legal, is_order, replay}
use Rattle.model.specs.Times.{Times, timed_number}
use Rattle.model.specs.Window.{Window, window, window_number, window_history}
use Rattle.model.specs.Log.{transactions_in, history_of}
use Rattle.model.specs.Lent.{order_numbers, written_order, written_table, encoded_count}
use Rattle.model.specs.Search.{first_legal}
use Rattle.model.proofs.Basics.{true_eq}
use Rattle.model.proofs.First.{first_some, legal_order}
use Rattle.model.proofs.Times.{timed_log_size, timed_table}
use Rattle.model.proofs.Windows.{number_of_log}
use Rattle.decision.specs.Answer.{answer_of, first_answer}
use Rattle.answers.specs.declared.Stage.TheVariants.{Ordered}
use Rattle.finding.specs.declared.Outcome.{Outcome}
use Rattle.finding.specs.Finding.{Finds}
use Rattle.finding.specs.Settings.{polygraph_refusal}
use Rattle.answers.specs.Stages.{holds_window, claims_order, counted, is_fresh}
use Rattle.checker.specs.declared.Case.{Case}
use Rattle.checker.specs.declared.Decision.{Decision}
use Rattle.checker.specs.Cases.{window_in, history_in, order_in, stage_of, loaded_case}
use Rattle.checker.specs.Decisions.{decide_refusal, decided, deciding, refused_decision}
use Rattle.checker.specs.Encodings.{encode_refusal}
use Rattle.checker.specs.Preparing.{storing, answering}
use Rattle.checker.specs.Results.{order_refused, table_left}
use Rattle.checker.proofs.Chain.{taken as at-0, refused, load_holds, load_window, load_stage, ordered_number, order_left_lem, table_left_lem}
use Rattle.checker.proofs.Holding.{case_holds}
use Rattle.checker.proofs.Preparing.{decided_by, refusal_said}
use Rattle.checker.proofs.Verdicts.{numbers_of}
use Rattle.codes.specs.Codes.{ordered_case, found_decision, decision_of, said_code, said_order, said_table, window_code, window_order, window_table}
use Rattle.codes.specs.Images.{filled, value_in}
use Rattle.codes.proofs.Taking.{where_refused, refused_number, where_taken}
use Rattle.codes.proofs.Writing.{Written, order_short, both_written}

-- a log with its times, and 32 values, is a window that is taken
pub takes : (log starting : List ℕ) (ts : Times) → length starting ≡ 32 → timed_number log ts ≡ 0 → window_number (window log starting ts) ≡ 0
takes log starting ts long z = number_of_log (window log starting ts) long ∙ z

module _ (w : Window) (taken : window_number w ≡ 0) where
  abbrev log : List ℕ
  log = w.bytes

  held : is_fresh (stage_of (loaded_case w)) ≡ false
  held = ap is_fresh (load_stage w taken)

  -- ---- what is found

  module _ (e pruning places : ℕ) (listed : Bool) (t ks : List ℕ) where
    abbrev k : Case
    k = loaded_case w

    abbrev h : History
    h = window_history w

    abbrev count : ℕ
    count = encoded_count (history_in k) e pruning

    number_here : decide_refusal k e pruning places ≡ polygraph_refusal h e pruning places 32
    unfolding encode_refusal
    number_here =
        ap (λ b. cond b 22 (polygraph_refusal (history_in k) e pruning places 32)) held
        ∙ ap (λ (v : Window). polygraph_refusal (window_history v) e pruning places 32) (load_window w taken)

    pub as_decided : (r : Result Outcome Refusal) → Finds (polygraph_refusal h e pruning places 32) h e pruning places listed t ks r
        → found_decision w r count ≡ deciding k e pruning places
    unfolding deciding first_answer
    as_decided (Err r) finds =
        let is : decide_refusal k e pruning places ≡ code r = number_here ∙ sym finds.number_is in
        refusal_said k r ∙ ap (refused_decision k) (sym is)
        ∙ sym (refused (decide_refusal k e pruning places) (decided k (first_legal (history_in k)) count) _ (λ z. code_some r (sym is ∙ z)))
    as_decided (Ok o) finds =
        ap (λ x. answering (storing k x) x count) (finds.found.order_is ∙ ap (λ (v : Window). answer_of (first_legal (window_history v))) (sym (load_window w taken)))
        ∙ decided_by k (first_legal (history_in k)) count
        ∙ sym (at-0 (decide_refusal k e pruning places) _ (refused_decision k (decide_refusal k e pruning places)) (number_here ∙ sym finds.number_is))

    -- an order that is found has every number below T once
    pub found_order : (r : Result Outcome Refusal) → Finds (polygraph_refusal h e pruning places 32) h e pruning places listed t ks r
        → IfOk r (λ (o : Outcome). IfSome o.order (λ numbers. T (is_order (transactions_in log) (take (transactions_in log) numbers))))
    unfolding first_answer answer_of
    found_order (Err r) finds = tt
    found_order (Ok o) finds = subst ordered (sym finds.found.order_is) (go (first_legal h) refl)
      where
        ordered : Option (List ℕ) → Type 0
        ordered x = IfSome x (λ numbers. T (is_order (transactions_in log) (take (transactions_in log) numbers)))

        go : (x : model.Option (List ℕ)) → first_legal h ≡ x → ordered (answer_of x)
        go none is = tt
        go (some o) is =
            let l : T (legal h o) = (first_some h o is).0 in
            subst (λ m. T (is_order m (take m (order_numbers (some o))))) (timed_log_size log w.clock)
            (subst (λ p. T (is_order (size h) p)) (sym (numbers_of h o l)) (legal_order h o l))

  -- ---- the case with an order

  module _ (numbers : List ℕ) (orders : T (is_order (transactions_in log) (take (transactions_in log) numbers))) where
    abbrev c : Case
    c = ordered_case w numbers

    same_window : window_in c ≡ w
    same_window = load_window w taken

    counts : stage_of c ≡ Ordered
    unfolding stage_of counted claims_order
    counts =
        ap₂ (counted Ordered) (true_eq (holds_window (loaded_case w).bytes (loaded_case w).length (loaded_case w).clock) (case_holds (loaded_case w) held))
        (true_eq _ (subst (λ b. T (is_order (transactions_in b) (take (transactions_in b) numbers))) (sym (load_holds w)) orders))

    same_size : transactions_in (window_in c).bytes ≡ transactions_in log
    same_size = ap (λ (v : Window). transactions_in v.bytes) same_window

    number_by : (places : ℕ) → order_refused c places ≡ cond (ltb places (transactions_in log)) 25 0
    number_by places = ordered_number c counts places ∙ ap {B = ℕ} (λ (v : Window). cond (ltb places (transactions_in v.bytes)) 25 0) same_window

    table_by : table_left c (replicate 32 0) ≡ replay (history_of log) w.starting (take (transactions_in log) numbers)
    unfolding written_table loaded_case
    table_by =
        table_left_lem c counts (replicate 32 0) (omega arith) ∙ append-nil (replay (history_in c) w.starting (order_in c))
        ∙ ap (λ (v : Window). replay (window_history v) w.starting (take (transactions_in v.bytes) numbers)) same_window
        ∙ timed_table w.clock (history_of log) w.starting (take (transactions_in log) numbers)

    module _ (order table : List ℕ) (room : 64 ≤ length table) (n : ℕ) (is : n ≡ transactions_in log) where
      pub no_room : length order < n → Written c order table 25 order table
      no_room l =
          order_short c order table 25
          (sym (number_by (length order) ∙ ap {B = ℕ} (λ b. cond b 25 0) (lt-ltb (length order) (transactions_in log) (omega (arith, is)))))
          room (λ z. absurd (omega (arith, z)))

      pub written : (order' values table' : List ℕ) → n ≤ length order → order' ≡ take n numbers ++ drop n order → values ≡ replay (history_of log) w.starting (take n numbers)
          → table' ≡ filled (value_in values) 32 table → Written c order table 0 order' table'
      unfolding written_order
      written order' values table' l o v t =
          both_written c order table 0
          (sym (number_by (length order) ∙ ap {B = ℕ} (λ b. cond b 25 0) (le-ltb (length order) (transactions_in log) (omega (arith, is))))) room order'
          (o ∙ ap (λ m. take m numbers ++ drop m order) (is ∙ sym same_size) ∙ sym (order_left_lem c counts order (omega (arith, is, same_size)))) table' refl
          (t ∙ ap (λ x. filled (value_in x) 32 table) (v ∙ ap (λ m. replay (history_of log) w.starting (take m numbers)) is ∙ sym table_by))

-- ---- what is given of a window

-- the code, and what is left in the two lists
abbrev pub Decided : Window → ℕ → ℕ → List ℕ → List ℕ → ℕ → List ℕ → List ℕ → Type 0
Decided w e pruning order table n order' table' =
    (n ≡ window_code w e pruning (length order) (length table))
    × ((order' ≡ window_order w e pruning order (length table)) × (table' ≡ window_table w e pruning (length order) table))

module _ (w : Window) (e pruning : ℕ) (order table : List ℕ) where
  -- of one that is refused
  pub not_taken : (n : ℕ) → n ≡ window_number w → (n ≡ 0 → ⊥) → Decided w e pruning order table n order table
  unfolding window_code window_order window_table
  not_taken n is not0 = (
    refused_number w n (window_number w) is refl _ not0,
    (where_refused w n (window_number w) is refl _ order not0, where_refused w n (window_number w) is refl _ table not0),
  )

  -- of one that is taken: what is said of the decision
  pub as_said : window_number w ≡ 0 → (d : Decision) → d ≡ decision_of w e pruning → (n : ℕ) (order' table' : List ℕ)
      → n ≡ said_code d (length order) (length table) → order' ≡ said_order d order (length table) → table' ≡ said_table d (length order) table
      → Decided w e pruning order table n order' table'
  unfolding window_code window_order window_table
  as_said taken d is n order' table' code o t = (
    where_taken w 0 0 refl (sym taken) _ _ n refl (code ∙ ap (λ x. said_code x (length order) (length table)) is),
    (
      where_taken w 0 0 refl (sym taken) _ _ order' refl (o ∙ ap (λ x. said_order x order (length table)) is),
      where_taken w 0 0 refl (sym taken) _ _ table' refl (t ∙ ap (λ x. said_table x (length order) table) is),
    ),
  )
