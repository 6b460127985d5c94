-- What a plan says of a polygraph, and what writing it leaves. Assumes nothing.
use Rattle.std.specs.Prelude.{ℕ, ◌≤◌, ◌≡◌, List}
use Rattle.model.specs.declared.Constraint.{Constraint}
use Rattle.model.specs.History.{History}
use Rattle.model.specs.Polygraph.{rows, polygraph}
use Rattle.model.specs.Lent.{encoded_list, encoded_count}
use Rattle.model.specs.Log.{transactions_in, load_number, history_of}
use Rattle.polygraph.specs.Tables.{writers_of, read_marks_of}
use Rattle.listing.specs.Listing.{Chosen}
use Rattle.pruning.specs.declared.Pruned.{Pruned}

-- the tables of a log that Load takes: who writes each key, and the reads by what they name; n is T
pub record TablesOf (b : List ℕ) (n : ℕ) (writers marks : List ℕ) : Type 0 where
  pub loads : load_number b ≡ 0
  pub count : n ≡ transactions_in b
  pub few : n ≤ 32
  pub writers_are : writers ≡ writers_of (history_of b)
  pub marks_are : marks ≡ read_marks_of (history_of b)

-- the tables and the numbers are the constraints of the history in encoding e, beside its known edges and the count of its constraints
pub record Planned (h : History) (e : ℕ) (tables chosen rs : List ℕ) (n : ℕ) : Type 0 where
  pub chosen_are : Chosen h e tables chosen n
  pub rows_are : rs ≡ rows h e

-- what writing relies on, in a list of m places: that the constraints have a place among the numbers and in the list
pub record Writable (n m : ℕ) : Type 0 where
  pub few : n ≤ 4096
  pub fits : n ≤ m

-- the polygraph of the history in a setting is written where ys was lent
pub record Encoded (h : History) (e pruning : ℕ) (ys : List Constraint) (r : Pruned) (zs : List Constraint) : Type 0 where
  pub list_is : zs ≡ encoded_list h e pruning ys
  pub rows_are : r.rows ≡ (polygraph h e pruning).known
  pub left_is : r.left ≡ encoded_count h e pruning
