-- What contracts say of row words: which edges they can hold, whether they have a cycle, and which sides are there whole. Assumes nothing.
use Rattle.std.specs.Prelude.{ℕ, ◌<◌, Bool, ◌||◌, List, T}
use Rattle.model.specs.Lists.{implies, All, all, any, up_to, bit}
use Rattle.model.specs.History.{is_order}
use Rattle.model.specs.Polygraph.{Constraint, has, reach, RespectsKnown, RespectsOne}

-- every edge lies between numbers below n
abbrev pub Within : List ℕ → ℕ → Type 0
Within g n = (u v : ℕ) → T (has g u v) → (u < n) × (v < n)

-- unused words and bits are 0
abbrev pub Tidy : List ℕ → Type 0
Tidy g = Within g 32

-- both targets and all sources of a constraint are below n
pub record Aimed (n : ℕ) (c : Constraint) : Type 0 where
  pub toA-small : c.toA < n
  pub toB-small : c.toB < n
  pub fromA-small : (s : ℕ) → T (bit c.fromA s) → s < n
  pub fromB-small : (s : ℕ) → T (bit c.fromB s) → s < n

-- some node reaches itself
unfoldable pub cyclic : List ℕ → Bool
cyclic g = any (λ u. has (reach g) u u) (up_to 32)

-- all edges of a side are there
unfoldable pub side_in : List ℕ → ℕ → ℕ → Bool
side_in g from to = all (λ s. implies (bit from s) (has g s to)) (up_to 32)

-- one of the two sides is there whole
unfoldable pub held : List ℕ → Constraint → Bool
held g c = side_in g c.fromA c.toA || side_in g c.fromB c.toB

-- some order of the numbers below n respects the row words and one side of each constraint
abbrev pub Solvable : ℕ → List Constraint → List ℕ → Type 0
Solvable n cs g = (o : List ℕ) × T (is_order n o) × RespectsKnown o g × All (RespectsOne o) cs
