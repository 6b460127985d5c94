-- Demand 3 in one piece, over what the calls give and leave: what Encode's two lists hold, what Decide answers in every setting and again, and
-- what Order and Table then write; from the log's bytes, the starting table and the times on. `demand_3` in proofs/Demands.antt proves it. What Bills then writes is
-- `Demand3WithBills`, which `demand_3_with_bills` proves. Assumes nothing.
use Rattle.std.specs.Prelude.{ℕ, ◌≡◌, ◌⊎◌, ◌↔◌, List, ◌++◌, T, length, take, drop, Ok}
use Rattle.model.specs.declared.Constraint.{Constraint}
use Rattle.model.specs.History.{History, size, legal, replay, every_read_sees_the_value_it_names}
use Rattle.model.specs.Window.{Window, window_history}
use Rattle.model.specs.Polygraph.{Polygraph, polygraph, AcyclicSelection}
use Rattle.model.specs.Search.{LexLess}
use Rattle.wear.specs.Wear.{moves}
use Rattle.wear.specs.Bills.{bills_of}
use Rattle.wear.specs.declared.Bill.{Bill}
use Rattle.answers.specs.declared.Stage.TheVariants.{Loaded, Ordered, NoOrder}
use Rattle.answers.specs.declared.Verdict.TheVariants.{Order, NoOrder as NoOrderSaid}
use Rattle.checker.specs.declared.Case.{Case}
use Rattle.checker.specs.declared.Decision.{Decision}
use Rattle.checker.specs.Cases.{window_in, history_in, stage_of}
use Rattle.checker.specs.Calls.{load_refusal, case_after_load}
use Rattle.checker.specs.Encodings.{encode_refusal, encode_answer, encode_list, encode_rows}
use Rattle.checker.specs.Decisions.{decide_refusal, deciding, list_after_decide}
use Rattle.checker.specs.Results.{order_refused, order_left, table_refused, table_left, bills_refused, bills_left}

-- The two lists that Encode leaves, taken as a polygraph: the first 32 row words, and as many constraints as the count says.
unfoldable pub in_lists : List Constraint → ℕ → List ℕ → Polygraph
in_lists zs left vs = record { known = take 32 vs; choices = take left zs }

-- What Encode leaves in the lists ys and ws, taken so.
unfoldable pub lists_handed_out : Case → ℕ → ℕ → List Constraint → List ℕ → Polygraph
lists_handed_out c e pruning ys ws =
    in_lists (encode_list c e pruning ys (length ws)) (encode_answer c e pruning (length ys) (length ws)).left (encode_rows c e pruning (length ys) ws)

-- some legal order exists
abbrev pub Serializable : History → Type 0
Serializable h = (o : List ℕ) × T (legal h o)

-- o is the first legal order: legal, and at the first place where it differs from another legal order it has the lower number
abbrev pub IsFirst : History → List ℕ → Type 0
IsFirst h o = T (legal h o) × ((p : List ℕ) → T (legal h p) → (p ≡ o) ⊎ LexLess o p)

-- A decision d answers the window w: of its history it says 'no order' exactly where no legal order exists, and an order exactly where one does; the order's T
-- numbers are then the first legal order. Its case counts as decided so, and Order and Table of that case, where they aren't refused, write
-- this order and the table which its replay leaves, from the window's starting table.
pub record Settles (w : Window) (d : Decision) : Type 0 where
  pub none : (d.verdict ≡ Ok NoOrderSaid) ↔ (Serializable (window_history w) → ⊥)
  pub some : (d.verdict ≡ Ok Order) ↔ Serializable (window_history w)
  pub first : d.verdict ≡ Ok Order → IsFirst (window_history w) (take (size (window_history w)) d.order)
  pub none_stage : d.verdict ≡ Ok NoOrderSaid → stage_of d.case ≡ NoOrder
  pub some_stage : d.verdict ≡ Ok Order → stage_of d.case ≡ Ordered
  pub order : (out : List ℕ) → order_refused d.case (length out) ≡ 0
      → order_left d.case out ≡ take (size (window_history w)) d.order ++ drop (size (window_history w)) out
  pub table : (out : List ℕ) → table_refused d.case (length out) ≡ 0
      → table_left d.case out ≡ replay (window_history w) w.starting (take (size (window_history w)) d.order) ++ drop 32 out

-- The same, and Bills of that case, where it isn't refused, writes the bills of the moves in that replay.
pub record SettlesWithBills (w : Window) (d : Decision) : Type 0 where
  pub settles : Settles w d
  pub bills : (out : List Bill) → bills_refused d.case (length out) ≡ 0
      → bills_left d.case out ≡ bills_of (moves (window_history w) w.starting (take (size (window_history w)) d.order)) ++ drop 16 out

-- a second decision gives what the first gave: verdict, order and case
pub record SameAnswer (d d' : Decision) : Type 0 where
  pub verdict : d'.verdict ≡ d.verdict
  pub order : d'.order ≡ d.order
  pub case : d'.case ≡ d.case

-- Of any case, setting and lists, where the call is not refused.
pub record Whole (c : Case) (e pruning : ℕ) (ys : List Constraint) (ws : List ℕ) : Type 0 where
  -- what Encode leaves in the two lists is the polygraph, and has an acyclic selection exactly when a legal order exists
  pub handed_out : encode_refusal c e pruning (length ys) (length ws) ≡ 0 → lists_handed_out c e pruning ys ws ≡ polygraph (history_in c) e pruning
  pub selection : encode_refusal c e pruning (length ys) (length ws) ≡ 0 → Serializable (history_in c) ↔ AcyclicSelection (lists_handed_out c e pruning ys ws)
  -- Decide leaves the same constraints, with their count, and answers the window
  pub listed : decide_refusal c e pruning (length ys) ≡ 0
      → take (deciding c e pruning (length ys)).left (list_after_decide c e pruning ys) ≡ (polygraph (history_in c) e pruning).choices
  pub settles : decide_refusal c e pruning (length ys) ≡ 0 → Settles (window_in c) (deciding c e pruning (length ys))
  -- the case that it gives back holds the same window, of which all of this can be said again; a second Decide of it, in any setting and on any list,
  -- answers that window in the same way
  pub again : decide_refusal c e pruning (length ys) ≡ 0 → let d = deciding c e pruning (length ys) in
      (e' pruning' places : ℕ) → decide_refusal d.case e' pruning' places ≡ 0 → let d' = deciding d.case e' pruning' places in
      (window_in d.case ≡ window_in c) × Settles (window_in c) d' × SameAnswer d d'

-- From bytes to bytes: after Load, where it isn't refused, the case counts as loaded and holds the window that Load took, the log's bytes, the
-- starting table and the times; so what Decide, Order and Table then give and write is said of these.
pub record FromBytes (c : Case) (w : Window) : Type 0 where
  pub loaded : stage_of (case_after_load c w) ≡ Loaded
  pub holds : window_in (case_after_load c w) ≡ w
  pub settles : (e pruning places : ℕ) → decide_refusal (case_after_load c w) e pruning places ≡ 0 → Settles w (deciding (case_after_load c w) e pruning places)
  -- in the replay of the order, from the starting table, every read sees the value that it names
  pub values : (e pruning places : ℕ) → decide_refusal (case_after_load c w) e pruning places ≡ 0 → let d = deciding (case_after_load c w) e pruning places in
      d.verdict ≡ Ok Order → T (every_read_sees_the_value_it_names (window_history w) w.starting (take (size (window_history w)) d.order))

-- Demand 3.
pub record Demand3 : Type 0 where
  pub whole : (c : Case) (e pruning : ℕ) (ys : List Constraint) (ws : List ℕ) → Whole c e pruning ys ws
  pub bytes : (c : Case) (w : Window) → load_refusal c w ≡ 0 → FromBytes c w

-- Card 8: what Decide settles, Bills writes: of any case, again after a second Decide in any setting and on any list, and from bytes on.
pub record Demand3WithBills : Type 0 where
  pub whole : (c : Case) (e pruning places : ℕ) → decide_refusal c e pruning places ≡ 0 → SettlesWithBills (window_in c) (deciding c e pruning places)
  pub again : (c : Case) (e pruning places : ℕ) → decide_refusal c e pruning places ≡ 0 → let d = deciding c e pruning places in
      (e' pruning' places' : ℕ) → decide_refusal d.case e' pruning' places' ≡ 0 → SettlesWithBills (window_in c) (deciding d.case e' pruning' places')
  pub bytes : (c : Case) (w : Window) → load_refusal c w ≡ 0 → (e pruning places : ℕ) → decide_refusal (case_after_load c w) e pruning places ≡ 0
      → SettlesWithBills w (deciding (case_after_load c w) e pruning places)
