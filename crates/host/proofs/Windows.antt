-- What is given of the window that a log with its times makes, beside a starting table.
--     window_of, same_window      the window; it is that of the bytes and the times that were loaded
--     checked      Check's code
--     found_refused, found_none, found_some       Decide, by what is found: a refusal, no order, an order that is written
--     encode_refused, encode_unset, encode_sent       Encode: of a window that is refused, in a setting that is refused, and of a polygraph that is sent
-- Assumes nothing.
use mathlib.Core.Path.{◌≡◌, refl, sym, ap, ap₂, subst, ◌∙◌}
use mathlib.Core.Logic.{⊎_elim}
use Prim.Native.Nat.{ℕ}
use mathlib.Core.Bool.{Bool}
use mathlib.Core.List.{List}
use lib.Dec.{T}
use lib.ListN.{length, take}
use Rattle.std.specs.Prelude.{Option, None, Some, Result, Ok, Err, IfSome}
use Rattle.refusals.specs.declared.Refusal.{Refusal}
use Rattle.refusals.specs.Numbers.{code}
use Rattle.refusals.proofs.Numbering.{code_some}
use Rattle.model.specs.History.{legal, is_order}
use Rattle.model.specs.Log.{transactions_in}
use Rattle.model.specs.Lent.{encoded_count}
use Rattle.model.specs.Times.{times}
use Rattle.model.specs.Window.{Window, window, window_number, window_history, zeros}
use Rattle.logs.specs.declared.times.TimedLog.{TimedLog}
use Rattle.logs.specs.declared.times.Times.{Times as Clock}
use Rattle.answers.specs.Numbers.{judgement_of}
use Rattle.answers.specs.Settings.{setting_refusal}
use Rattle.answers.specs.Stages.{order_refusal}
use Rattle.answers.proofs.Answering.{setting_either}
use Rattle.finding.specs.declared.Outcome.{Outcome}
use Rattle.finding.specs.Finding.{Finds}
use Rattle.finding.specs.Settings.{polygraph_refusal}
use Rattle.checker.specs.Cases.{history_in, loaded_case}
use Rattle.checker.specs.Preparing.{storing, answering}
use Rattle.codes.specs.Codes.{judgement_code, check_window, decide_places, ordered_case, found_decision, said_code, said_order, said_table, sent_code, sent_after, encode_window, encode_window_after}
use Rattle.codes.proofs.Taking.{where_refused, refused_number, where_taken}
use Rattle.codes.proofs.Room.{judged_code, checked_code, encoded_code, encoded_refused, encoded_kept, encoded_list_lem}
use Rattle.codes.proofs.Deciding.{takes, as_decided, found_order, Decided, as_said}
use Rattle.codes.proofs.Writing.{Written}

abbrev pub window_of : TimedLog → List ℕ → Window
window_of x starting = window x.log.bytes.now starting (times x.clock.begin.now x.clock.end.now x.clock.drift)

module _ (x : TimedLog) (bytes starting : List ℕ) (k : Clock) (is : (x.log.bytes.now ≡ bytes) × (x.clock ≡ k)) where
  pub same_window : window_of x starting ≡ window bytes starting (times k.begin.now k.end.now k.drift)
  same_window = ap₂ (λ (b : List ℕ) (j : Clock). window b starting (times j.begin.now j.end.now j.drift)) is.0 is.1

-- ---- Check

module _ (x : TimedLog) (bytes : List ℕ) (k : Clock) (is : (x.log.bytes.now ≡ bytes) × (x.clock ≡ k)) where
  abbrev v : Window
  v = window_of x zeros

  pub checked : (o : List ℕ) → judgement_code (judgement_of (order_refusal (transactions_in v.bytes) o) (legal (window_history v) o))
      ≡ check_window (window bytes zeros (times k.begin.now k.end.now k.drift)) o
  unfolding check_window
  checked o =
      let taken = takes v.bytes zeros v.clock refl x.taken in
      where_taken v 0 0 refl (sym taken) _ _ _ refl (judged_code (transactions_in v.bytes) (window_history v) o ∙ sym (checked_code v taken o))
      ∙ ap (λ (w : Window). check_window w o) (same_window x bytes zeros k is)

-- ---- Decide

module _ (x : TimedLog) (starting : List ℕ) (long : length starting ≡ 32) (e pruning : ℕ) (order table : List ℕ) (listed : Bool) (t ks : List ℕ) where
  abbrev w : Window
  w = window_of x starting

  taken : window_number w ≡ 0
  taken = takes w.bytes starting w.clock long x.taken

  abbrev count : ℕ
  count = encoded_count (history_in (loaded_case w)) e pruning

  abbrev Finding : Result Outcome Refusal → Type 0
  Finding r = Finds (polygraph_refusal (window_history w) e pruning decide_places 32) (window_history w) e pruning decide_places listed t ks r

  -- an order that is found has every number below T once
  pub orders : (o : Outcome) → Finding (Ok o) → (numbers : List ℕ) → o.order ≡ Some numbers → T (is_order (transactions_in w.bytes) (take (transactions_in w.bytes) numbers))
  orders o finds numbers some =
      subst (λ (y : Option (List ℕ)). IfSome y (λ (ns : List ℕ). T (is_order (transactions_in w.bytes) (take (transactions_in w.bytes) ns)))) some
      (found_order w taken e pruning decide_places listed t ks (Ok o) finds)

  module _ (bytes : List ℕ) (k : Clock) (is : (x.log.bytes.now ≡ bytes) × (x.clock ≡ k)) where
    abbrev Given : ℕ → List ℕ → List ℕ → Type 0
    Given n order' table' = Decided (window bytes starting (times k.begin.now k.end.now k.drift)) e pruning order table n order' table'

    given : (r : Result Outcome Refusal) → Finding r → (n : ℕ) (order' table' : List ℕ) → n ≡ said_code (found_decision w r count) (length order) (length table)
        → order' ≡ said_order (found_decision w r count) order (length table) → table' ≡ said_table (found_decision w r count) (length order) table → Given n order' table'
    given r finds n order' table' c o s =
        subst (λ (v : Window). Decided v e pruning order table n order' table') (same_window x bytes starting k is)
        (as_said w e pruning order table taken (found_decision w r count) (as_decided w taken e pruning decide_places listed t ks r finds) n order' table' c o s)

    pub found_refused : (f : Refusal) → Finding (Err f) → Given (code f) order table
    found_refused f finds = given (Err f) finds (code f) order table refl refl refl

    module _ (o : Outcome) (finds : Finding (Ok o)) where
      abbrev Said : Option (List ℕ) → ℕ → List ℕ → List ℕ → Type 0
      Said y n order' table' =
          let d = answering (storing (loaded_case w) y) y count in
          (n ≡ said_code d (length order) (length table)) × ((order' ≡ said_order d order (length table)) × (table' ≡ said_table d (length order) table))

      by : (y : Option (List ℕ)) → o.order ≡ y → (n : ℕ) (order' table' : List ℕ) → Said y n order' table' → Given n order' table'
      by y e n order' table' said =
          let here : Said o.order n order' table' = subst (λ (y : Option (List ℕ)). Said y n order' table') (sym e) said in
          given (Ok o) finds n order' table' here.0 here.1.0 here.1.1

      pub found_none : o.order ≡ None → Given 255 order table
      found_none e = by None e 255 order table (refl, (refl, refl))

      pub found_some : (numbers : List ℕ) → o.order ≡ Some numbers → (n : ℕ) (order' table' : List ℕ) → Written (ordered_case w numbers) order table n order' table'
          → Given n order' table'
      found_some numbers e n order' table' wrote = by (Some numbers) e n order' table' wrote

-- ---- Encode

-- the code, and the list after it
abbrev pub Encoded : Window → ℕ → ℕ → List ℕ → ℕ → List ℕ → Type 0
Encoded w e pruning out n out' = (n ≡ encode_window w e pruning (length out)) × (out' ≡ encode_window_after w e pruning out)

pub encode_refused : (w : Window) (e pruning : ℕ) (out : List ℕ) (n : ℕ) → n ≡ window_number w → (n ≡ 0 → ⊥) → Encoded w e pruning out n out
unfolding encode_window encode_window_after
encode_refused w e pruning out n is not0 = (refused_number w n (window_number w) is refl _ not0, where_refused w n (window_number w) is refl _ out not0)

module _ (x : TimedLog) (bytes : List ℕ) (k : Clock) (is : (x.log.bytes.now ≡ bytes) × (x.clock ≡ k)) (e pruning : ℕ) (out : List ℕ) where
  abbrev u : Window
  u = window_of x zeros

  loads : window_number u ≡ 0
  loads = takes u.bytes zeros u.clock refl x.taken

  abbrev Gives : ℕ → List ℕ → Type 0
  Gives n out' = Encoded (window bytes zeros (times k.begin.now k.end.now k.drift)) e pruning out n out'

  gives : (n : ℕ) (out' : List ℕ) → Encoded u e pruning out n out' → Gives n out'
  gives n out' = subst (λ (v : Window). Encoded v e pruning out n out') (same_window x bytes zeros k is)

  pub encode_unset : (f : Refusal) → code f ≡ setting_refusal e pruning → Gives (code f) out
  unfolding encode_window encode_window_after
  encode_unset f setting =
      let twelve : setting_refusal e pruning ≡ 12 =
      ⊎_elim (λ (q : setting_refusal e pruning ≡ 0). absurd (code_some f (setting ∙ q))) (λ q. q) (setting_either e pruning) in
      gives (code f) out (
        where_taken u 0 0 refl (sym loads) _ _ _ refl (setting ∙ twelve ∙ sym (encoded_refused u loads e pruning twelve (length out))),
        where_taken u 0 0 refl (sym loads) _ _ _ refl (sym (encoded_kept u loads e pruning twelve out)),
      )

  pub encode_sent : setting_refusal e pruning ≡ 0 → (n : ℕ) (out' : List ℕ) → n ≡ sent_code (window_history u) e pruning (length out) → out' ≡ sent_after (window_history u) e pruning out
      → Gives n out'
  unfolding encode_window encode_window_after sent_code
  encode_sent zero n out' c l =
      gives n out' (
        where_taken u 0 0 refl (sym loads) _ _ _ refl (c ∙ sym (encoded_code u loads e pruning zero (length out))),
        where_taken u 0 0 refl (sym loads) _ _ _ refl (l ∙ sym (encoded_list_lem u loads e pruning zero out)),
      )
