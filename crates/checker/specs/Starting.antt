-- Card 5: what two cases that differ in their starting tables alone have in common, and what 32 zeros give. `starting_table_decides_nothing` and
-- `thirty_two_zeros_as_before` in proofs/Demands.antt prove it. Assumes nothing.
use Rattle.std.specs.Prelude.{ℕ, ◌≡◌, cond, List, ◌++◌, eqb, length, drop, replicate}
use Rattle.model.specs.declared.Constraint.{Constraint}
use Rattle.model.specs.History.{replay}
use Rattle.model.specs.Log.{load_number}
use Rattle.model.specs.Times.{Times}
use Rattle.model.specs.Window.{Window, window, from_zeros}
use Rattle.answers.specs.declared.Stage.TheVariants.{Loaded}
use Rattle.answers.specs.Stages.{is_fresh}
use Rattle.answers.specs.Clocks.{no_clock}
use Rattle.checker.specs.declared.Case.{Case}
use Rattle.checker.specs.Cases.{history_in, order_in, stage_of, in_room, loaded_case, with_starting}
use Rattle.checker.specs.Calls.{load_refusal, case_after_load, checking}
use Rattle.checker.specs.Encodings.{encode_refusal, encode_answer, encode_list, encode_rows}
use Rattle.checker.specs.Decisions.{decide_refusal, deciding, list_after_decide}
use Rattle.checker.specs.Results.{order_refused, order_left, table_refused, table_left}

-- Of two cases: in every setting and on any lists Decide gives the same refusal, verdict, order and count and leaves the same list; Encode gives the
-- same refusal and count and leaves the same lists; Check answers the same. So do Load, Order, and Table where it refuses (and Bills: `bills_refused_alike`).
pub record SameButForTable (c d : Case) : Type 0 where
  pub decide_number : (e pruning places : ℕ) → decide_refusal d e pruning places ≡ decide_refusal c e pruning places
  pub verdict : (e pruning places : ℕ) → (deciding d e pruning places).verdict ≡ (deciding c e pruning places).verdict
  pub order : (e pruning places : ℕ) → (deciding d e pruning places).order ≡ (deciding c e pruning places).order
  pub count : (e pruning places : ℕ) → (deciding d e pruning places).left ≡ (deciding c e pruning places).left
  pub decide_list : (e pruning : ℕ) (ys : List Constraint) → list_after_decide d e pruning ys ≡ list_after_decide c e pruning ys
  pub encode_number : (e pruning places words : ℕ) → encode_refusal d e pruning places words ≡ encode_refusal c e pruning places words
  pub encode_reply : (e pruning places words : ℕ) → (encode_answer d e pruning places words).reply ≡ (encode_answer c e pruning places words).reply
  pub encode_count : (e pruning places words : ℕ) → (encode_answer d e pruning places words).left ≡ (encode_answer c e pruning places words).left
  pub encode_list_same : (e pruning : ℕ) (ys : List Constraint) (words : ℕ) → encode_list d e pruning ys words ≡ encode_list c e pruning ys words
  pub encode_rows_same : (e pruning places : ℕ) (ws : List ℕ) → encode_rows d e pruning places ws ≡ encode_rows c e pruning places ws
  pub check : (o : List ℕ) → (checking d o).judgement ≡ (checking c o).judgement
  pub load_number_same : (w : Window) → load_refusal d w ≡ load_refusal c w
  pub order_number : (places : ℕ) → order_refused d places ≡ order_refused c places
  pub order_list : (ys : List ℕ) → order_left d ys ≡ order_left c ys
  pub table_number : (places : ℕ) → table_refused d places ≡ table_refused c places

-- The starting table decides nothing: a case and the same with another table have the same answers, and so have the cases that Decide leaves of them, which
-- again differ in the table alone; Load leaves the same case of both where it takes a window, and else each as it was; and Load of one log with its times beside two tables of
-- 32 values has one number, and leaves cases that differ in the table alone.
pub record Indifferent : Type 0 where
  pub answers : (c : Case) (table : List ℕ) → SameButForTable c (with_starting c table)
  pub decided : (c : Case) (table : List ℕ) (e pruning places : ℕ) → (deciding (with_starting c table) e pruning places).case ≡ with_starting (deciding c e pruning places).case table
  pub replaced : (c : Case) (table : List ℕ) (w : Window) → case_after_load (with_starting c table) w ≡ cond (eqb (load_refusal c w) 0) (loaded_case w) (with_starting c table)
  pub number : (c : Case) (b s table : List ℕ) (ts : Times) → length s ≡ 32 → length table ≡ 32 → load_refusal c (window b table ts) ≡ load_refusal c (window b s ts)
  pub loaded : (c : Case) (b s table : List ℕ) (ts : Times) → length s ≡ 32 → length table ≡ 32 → load_refusal c (window b s ts) ≡ 0
      → case_after_load c (window b table ts) ≡ with_starting (case_after_load c (window b s ts)) table

-- Loading 32 zeros, without times, is what Load was before it took a table: 21, then the log's number; the same case, with zeros for its table (and, since card 7, no
-- times in it); and where Decide is then made, in any setting, what Table writes of the case that it leaves is what it wrote then: the replay from zeros. What the other calls give of that case hangs on its other
-- fields (`Indifferent`), by the definitions that they had; whose order it is says `FromBytes`.
pub record AsBefore (c : Case) (b : List ℕ) : Type 0 where
  pub number : load_refusal c (from_zeros b) ≡ cond (is_fresh (stage_of c)) (load_number b) 21
  pub case : case_after_load c (from_zeros b)
      ≡ cond (eqb (cond (is_fresh (stage_of c)) (load_number b) 21) 0)
      (record { stage = Loaded; bytes = in_room b; length = length b; starting = replicate 32 0; clock = no_clock; order = replicate 32 0 }) c
  pub table : load_refusal c (from_zeros b) ≡ 0 → (e pruning places : ℕ) (ys : List ℕ) → let d = (deciding (case_after_load c (from_zeros b)) e pruning places).case in
      table_left d ys ≡ cond (eqb (table_refused d (length ys)) 0) (replay (history_in d) (replicate 32 0) (order_in d) ++ drop 32 ys) ys
