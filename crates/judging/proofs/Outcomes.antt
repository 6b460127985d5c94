-- What the calls give of a log that Load takes, as Judge's text needs it.
--     refusal_is       Decide refuses no log that Load takes
--     text_decided     Judge's text is then that of the first legal order
--     said             what each verdict says
--     text_is          what is printed from what Order and Table write of a case that is decided with the first legal order
-- Assumes nothing.
use Prim.Native.Nat.{ℕ, ◌≤◌}
use native.Mathlib.Omega.{arith}
use mathlib.Core.Path.{◌≡◌, refl, sym, ap, ap₂, subst, ◌∙◌}
use mathlib.Core.Bool.{false, cond}
use mathlib.Core.List.{List, append-nil}
use mathlib.Core.Option.{Option, none, some}
use lib.Dec.{T, eqb}
use lib.ListN.{length, take, drop, replicate}
use lib.Seq.{take_at}
use Rattle.model.specs.History.{History, size, legal, replay}
use Rattle.model.specs.Window.{window_history, zeros, from_zeros}
use Rattle.model.specs.Log.{transactions_in, load_number, history_of}
use Rattle.model.specs.Search.{first_legal}
use Rattle.model.specs.Lent.{encoded_count}
use Rattle.model.proofs.Loaded.{history_size, loadable_log}
use Rattle.model.proofs.Times.{timed_none}
use Rattle.model.proofs.Windows.{number_of_zeros}
use Rattle.model.proofs.First.{first_some, legal_length}
use Rattle.polygraph.specs.Tables.{writers_of}
use Rattle.checker.specs.declared.Case.{Case}
use Rattle.checker.specs.declared.Decision.{Decision}
use Rattle.answers.specs.declared.Verdict.{Verdict}
use Rattle.answers.specs.declared.Verdict.TheVariants.{Order, NoOrder}
use Rattle.std.specs.Prelude.{Result, Ok, Err}
use Rattle.refusals.specs.declared.Refusal.{Refusal}
use Rattle.checker.specs.Cases.{history_in, stage_of, loaded_case}
use Rattle.answers.specs.Stages.{is_fresh}
use Rattle.answers.specs.Settings.{setting_refusal}
use Rattle.checker.specs.Decisions.{decide_refusal, decided, refused_decision, deciding}
use Rattle.checker.specs.Results.{order_left, table_left}
use Rattle.checker.proofs.Chain.{load_window, load_stage, order_writes, table_writes}
use Rattle.checker.proofs.Encodes.{enough_places}
use Rattle.report.specs.Text.{refused_text, no_order_text, found_text, marked}
use Rattle.report.specs.Judge.{decided_text, judge_text}
use Rattle.report.proofs.Answers.{found_is, marked_written}
use Rattle.judging.specs.Outcome.{OrderedBy}

module _ (b : List ℕ) (ok : load_number b ≡ 0) where
  abbrev h : History
  h = history_of b

  abbrev held : Case
  held = loaded_case (from_zeros b)

  history_is : history_in held ≡ h
  history_is = ap window_history (load_window (from_zeros b) (number_of_zeros b ∙ ok)) ∙ timed_none b 0

  not_fresh : is_fresh (stage_of held) ≡ false
  not_fresh = ap is_fresh (load_stage (from_zeros b) (number_of_zeros b ∙ ok))

  -- the list that is lent has places enough
  refusal_is : decide_refusal held 2 1 4096 ≡ 0
  unfolding setting_refusal
  refusal_is = enough_places held 2 1 4096 32 not_fresh (omega arith) (omega arith)

  deciding_is : deciding held 2 1 4096 ≡ decided held (first_legal h) (encoded_count h 2 1)
  unfolding deciding
  deciding_is =
      ap₂ (λ (n : ℕ) (x : History). cond (eqb n 0) (decided held (first_legal x) (encoded_count x 2 1)) (refused_decision held n)) refusal_is history_is

  pub text_decided : judge_text b ≡ decided_text h (first_legal h)
  unfolding judge_text
  text_decided = ap (λ (n : ℕ). cond (eqb n 0) (decided_text h (first_legal h)) (refused_text n)) ok

  -- what each verdict says: Decide does not refuse
  abbrev pub Said : Result Verdict Refusal → Case → Type 0
  Said (Ok Order) c = OrderedBy b c
  Said (Ok NoOrder) c = judge_text b ≡ no_order_text
  Said (Err r) c = ⊥

  answered : (x : Option (List ℕ)) (k : ℕ) → first_legal h ≡ x → let d = decided held x k in Said d.verdict d.case
  unfolding decided decided_text
  answered none k e = text_decided ∙ ap (decided_text h) e
  answered (some o) k e = record { loads = ok; order = o; first = e; case_is = refl }

  pub said : (d : Decision) → d ≡ deciding held 2 1 4096 → (v : Result Verdict Refusal) → d.verdict ≡ v → Said v d.case
  said d e v is =
      subst (λ (x : Result Verdict Refusal). Said x d.case) is
      (subst (λ (x : Decision). Said x.verdict x.case) (sym (e ∙ deciding_is)) (answered (first_legal h) (encoded_count h 2 1) refl))

-- ---- a case that is decided with the first legal order

module _ (b : List ℕ) (c : Case) (by : OrderedBy b c) where
  abbrev o : List ℕ
  o = by.order

  same : history_in (loaded_case (from_zeros b)) ≡ history_of b
  same = history_is b by.loads

  legal_here : T (legal (history_of b) o)
  legal_here = (first_some (history_of b) o by.first).0

  legal_held : T (legal (history_in (loaded_case (from_zeros b))) o)
  legal_held = subst (λ (x : History). T (legal x o)) (sym same) legal_here

  long : length o ≡ transactions_in b
  long = legal_length (history_of b) o legal_here ∙ history_size b

  few : size (history_of b) ≤ 32
  few = (loadable_log b by.loads).few

  order_is : (n : ℕ) → n ≡ transactions_in b → take n (order_left c (replicate 32 0)) ≡ o
  order_is n e =
      ap (λ (x : Case). take n (order_left x (replicate 32 0))) by.case_is
      ∙ ap (take n) (order_writes (loaded_case (from_zeros b)) o (not_fresh b by.loads) legal_held (replicate 32 0) (omega (arith, long, few, history_size b)))
      ∙ take_at o (drop (length o) (replicate 32 0)) n (long ∙ sym e)

  table_is : table_left c (replicate 32 0) ≡ replay (history_of b) zeros o
  unfolding loaded_case
  table_is =
      ap (λ (x : Case). table_left x (replicate 32 0)) by.case_is
      ∙ table_writes (loaded_case (from_zeros b)) o (not_fresh b by.loads) legal_held (replicate 32 0) (omega arith)
      ∙ append-nil (replay (history_in (loaded_case (from_zeros b))) zeros o)
      ∙ ap (λ (x : History). replay x zeros o) same

  -- what is printed from them is what Judge prints
  pub text_is : (n : ℕ) (order writers table : List ℕ) → n ≡ transactions_in b → order ≡ order_left c (replicate 32 0) → writers ≡ writers_of (history_of b) → table ≡ table_left c (replicate 32 0)
      → found_text (take n order) (marked writers) table ≡ decided_text (history_of b) (first_legal (history_of b))
  unfolding writers_of
  text_is n order writers table e p w t =
      ap₂ (λ (x y : List ℕ). found_text x (marked writers) y) (ap (take n) p ∙ order_is n e) (t ∙ table_is)
      ∙ found_is (history_of b) o (marked writers) (λ k l. ap (λ (x : List ℕ). marked x k) w ∙ marked_written (history_of b) few k l)
      ∙ ap (decided_text (history_of b)) (sym by.first)
