-- What pruning leaves of candidates' numbers and of closed row words. Assumes nothing.
use Rattle.std.specs.Prelude.{ℕ, ◌≡◌, Bool, List, is_some}
use Rattle.model.specs.declared.Constraint.{Constraint}
use Rattle.model.specs.Polygraph.{Polygraph, reach}
use Rattle.listing.specs.Candidates.{items_by}
use Rattle.pruning.specs.Passes.{resolution_of, with_added}

-- the known edges, with the side that a pass adds where it drops a constraint
unfoldable pub resolved : List ℕ → Constraint → List ℕ
resolved g c = with_added g (resolution_of g c)

-- a constraint is resolved: r says whether it is dropped, and ws are the closed words then
pub record Resolves (g : List ℕ) (c : Constraint) (r : Bool) (ws : List ℕ) : Type 0 where
  pub drops_is : r ≡ is_some (resolution_of g c)
  pub rows_are : ws ≡ reach (resolved g c)

-- the first r numbers are the constraints that are left, in their order, and ws are the closed words of the known edges
pub record PrunedTo (p : Polygraph) (t ks : List ℕ) (r : ℕ) (ws : List ℕ) : Type 0 where
  pub choices_are : items_by t ks r ≡ p.choices
  pub rows_are : ws ≡ reach p.known
