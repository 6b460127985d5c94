-- What one step of a pass does, and what is left of a pass that stands in the middle of a list. Assumes nothing.
use Rattle.std.specs.Prelude.{ℕ, ◌+◌, ◌-◌, ◌≤◌, ◌<◌, ◌≡◌, Bool, true, false, cond, List, ◌++◌, eqb, ltb, length, get_or, take, drop, Option, None, Some, MatchOption}
use Rattle.model.specs.declared.Constraint.{Constraint}
use Rattle.model.specs.Lent.{no_constraint}
use Rattle.model.specs.Polygraph.{Polygraph, with_side, closed_off, pass, passes}
use Rattle.graph.specs.declared.Side.{Side}
use Rattle.pruning.specs.declared.Place.{Place}
use Rattle.pruning.specs.declared.Hit.{Hit}
use Rattle.pruning.specs.declared.Pruned.{Pruned}

-- both targets are transactions' numbers
abbrev pub LowTargets : Constraint → Type 0
LowTargets c = (c.toA < 32) × (c.toB < 32)

-- and so in each of the first n constraints
abbrev pub Aims : List Constraint → ℕ → Type 0
Aims ys n = (k : ℕ) → k < n → LowTargets (get_or ys k no_constraint)

-- by whether side A, and side B, is closed off: the side that is added where a constraint is dropped is the other one; where neither is, it stays
unfoldable pub resolution : Bool → Bool → Constraint → Option Side
resolution true b c = Some (record { from = c.fromB; to = c.toB })
resolution false true c = Some (record { from = c.fromA; to = c.toA })
resolution false false c = None

unfoldable pub resolution_of : List ℕ → Constraint → Option Side
resolution_of g c = resolution (closed_off g c.fromA c.toA) (closed_off g c.fromB c.toB) c

-- the known edges with the side that is added, if one is
abbrev pub with_added : List ℕ → Option Side → List ℕ
with_added g None = g
with_added g (Some s) = with_side g s.from s.to

abbrev pub choose_place : Bool → Place → Place → Place
choose_place true a b = a
choose_place false a b = b

-- pruning of n constraints starts with a pass over them; with pruning 0 all are kept
unfoldable pub first_place : ℕ → ℕ → Place
first_place n pruning = choose_place (eqb pruning 1) (record { at = 0; kept = 0; end = n; on = true }) (record { at = n; kept = n; end = n; on = false })

-- after a hit the pass goes on behind it; at its end the next starts over those kept, unless none was dropped
unfoldable pub next_place : Place → Hit → Place
next_place p h =
    choose_place (ltb h.at p.end) (record { at = h.at + 1; kept = h.kept; end = p.end; on = true })
    (choose_place (ltb h.kept p.end) (record { at = 0; kept = 0; end = h.kept; on = true }) (record { at = h.at; kept = h.kept; end = p.end; on = false }))

-- the counts of a pass over n constraints: what is kept lies behind where it stands, and its end is no further than n
pub record PlaceWithin (n : ℕ) (p : Place) : Type 0 where
  pub low : p.kept ≤ p.at
  pub high : p.at ≤ p.end
  pub top : p.end ≤ n

-- the constraints from i on, below the end
abbrev pub part : List Constraint → ℕ → ℕ → List Constraint
part l i end = take (end - i) (drop i l)

-- a polygraph with constraints before its own
abbrev pub prepend : List Constraint → Polygraph → Polygraph
prepend xs p = record { known = p.known; choices = xs ++ p.choices }

-- what a pass ends with that has the edges g, has kept the first j of l, and stands at i
unfoldable pub rest : List ℕ → List Constraint → ℕ → ℕ → ℕ → Polygraph
rest g l i j end = prepend (take j l) (pass g (part l i end))

-- a polygraph, pruned: passes until one drops none
unfoldable pub pruned : Polygraph → Polygraph
pruned p = passes (length p.choices) p

-- a polygraph as pruning 0 or 1 leaves it
unfoldable pub settled : ℕ → Polygraph → Polygraph
settled pruning p = cond (eqb pruning 1) (pruned p) p

-- what a skim from (at, kept) of ys leaves, with its result r: the same is left of the pass, r is where the next constraint is dropped, or the end, and each one before it was kept
pub record Skimmed (g : List ℕ) (ys : List Constraint) (at kept end : ℕ) (r : Hit) (zs : List Constraint) : Type 0 where
  pub low : at ≤ r.at
  pub high : r.at ≤ end
  pub behind : r.kept ≤ r.at
  pub grown : r.kept + at ≡ kept + r.at
  pub same : rest g zs r.at r.kept end ≡ rest g ys at kept end
  pub back : drop end zs ≡ drop end ys
  pub aims : Aims zs end
  pub ends : MatchOption r.side (end ≤ r.at) (λ s. (r.at < end) × (resolution_of g (get_or zs r.at no_constraint) ≡ Some s))

-- what pruning the first n of ys leaves: the model's edges and constraints, and the places from n on as they were
pub record Pruning (g : List ℕ) (ys : List Constraint) (n pruning : ℕ) (r : Pruned) (zs : List Constraint) : Type 0 where
  pub few : r.left ≤ n
  pub left_is : r.left ≡ length (settled pruning (record { known = g; choices = take n ys })).choices
  pub rows_are : r.rows ≡ (settled pruning (record { known = g; choices = take n ys })).known
  pub front : take r.left zs ≡ (settled pruning (record { known = g; choices = take n ys })).choices
  pub back : drop n zs ≡ drop n ys
