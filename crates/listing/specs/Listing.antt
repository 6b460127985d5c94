-- What callers see of tables and numbers: they are the constraints of a history in an encoding. Assumes nothing.
use Rattle.std.specs.Prelude.{◌≡◌, ℕ, ◌≤◌, List, length}
use Rattle.model.specs.History.{History}
use Rattle.model.specs.Polygraph.{constraints}
use Rattle.listing.specs.Candidates.{items_by}

-- n are the constraints of the history in encoding e, at most 4,096; the first n numbers are theirs
pub record Chosen (h : History) (e : ℕ) (t ks : List ℕ) (n : ℕ) : Type 0 where
  pub count_is : n ≡ length (constraints h e)
  pub low : n ≤ 4096
  pub items_are : items_by t ks n ≡ constraints h e
