-- What writing a planned polygraph relies on, and what it leaves where words are lent. Assumes nothing.
use Rattle.std.specs.Prelude.{ℕ, ◌≡◌, List, replicate}
use Rattle.model.specs.History.{History}
use Rattle.model.specs.Polygraph.{polygraph}
use Rattle.model.specs.Lent.{no_constraint, encoded_list, encoded_count}
use Rattle.pruning.specs.declared.Pruned.{Pruned}
use Rattle.encoding.specs.Writing.{Planned}
use Rattle.lender.specs.Packing.{packed}

-- the tables, the numbers, the known edges and the count are the plan of some history in some encoding
pub record PlanFor (tables chosen rs : List ℕ) (n : ℕ) : Type 0 where
  pub h : History
  pub e : ℕ
  pub plan : Planned h e tables chosen rs n

-- the polygraph of the history in a setting: its known edges and its count are the result, its constraints go out as words, four each
pub record Sent (h : History) (e pruning : ℕ) (r : Pruned) (before after : List ℕ) : Type 0 where
  pub rows_are : r.rows ≡ (polygraph h e pruning).known
  pub left_is : r.left ≡ encoded_count h e pruning
  pub words_are : after ≡ packed r.left (encoded_list h e pruning (replicate 4096 no_constraint)) before
