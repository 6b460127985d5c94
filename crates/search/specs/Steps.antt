-- What the steps of the search promise. `c`, `d`, `e` are row words, `l`, `m` the words of the open constraints, `w` the words of the n constraints. Assumes nothing.
use Rattle.std.specs.Prelude.{ℕ, ◌+◌, ◌/◌, ◌%◌, ◌<◌, ◌≤◌, ◌≡◌, Bool, true, false, not, ◌&&◌, ◌||◌, List, T, ltb, length, Option, MatchOption, IfSome, unwrap_or}
use Rattle.model.specs.Lists.{bit, keep, up_to}
use Rattle.model.specs.Polygraph.{Polygraph, has, with_side, reach, closed_off, passes, RespectsKnown, RespectsSide}
use Rattle.model.specs.declared.Constraint.{Constraint}
use Rattle.model.specs.RowWords.{Tidy, Within, cyclic, side_in, held}
use Rattle.search.specs.Constraints.{con_at, is_open, open_list, Keeps, AimedAll, Given, Fit}

-- row words that hold every path as an edge, and no cycle
pub record PartialOrder (c : List ℕ) : Type 0 where
  pub closed : reach c ≡ c
  pub acyclic : T (not (cyclic c))

-- some side of the constraint is closed off
unfoldable pub shut : List ℕ → Constraint → Bool
shut c k = closed_off c k.fromA k.toA || closed_off c k.fromB k.toB

-- a side is taken: d has its edges and those of c, and only what an order that respects both has anyway
pub record Taken (c d : List ℕ) (from to : ℕ) : Type 0 where
  pub is : d ≡ reach (with_side c from to)
  pub partial : PartialOrder d
  pub more : (u v : ℕ) → T (has c u v) → T (has d u v)
  pub there : T (side_in d from to)
  pub keeps : (o : List ℕ) → RespectsKnown o c → RespectsSide o from to → RespectsKnown o d
  pub within : (m : ℕ) → Within c m → ((s : ℕ) → T (bit from s) → s < m) → to < m → Within d m

-- the side from, to is the last that is left of a constraint: B where A is closed off, else A where B is
pub data Last (c : List ℕ) (k : Constraint) (from to : ℕ) : Type 0 where
  side_b : T (closed_off c k.fromA k.toA) → from ≡ k.fromB → to ≡ k.toB → Last c k from to
  side_a : T (not (closed_off c k.fromA k.toA)) → T (closed_off c k.fromB k.toB) → from ≡ k.fromA → to ≡ k.toA → Last c k from to

-- edges are added that every order which respects all has anyway
pub record Grown (w : List ℕ) (n : ℕ) (c d : List ℕ) : Type 0 where
  pub partial : PartialOrder d
  pub more : (u v : ℕ) → T (has c u v) → T (has d u v)
  pub keeps : (o : List ℕ) → RespectsKnown o c → Keeps o w n → RespectsKnown o d
  pub within : (m : ℕ) → Within c m → AimedAll m w n → Within d m

-- and some constraints are settled: one side of each is there whole
pub record Narrowed (w : List ℕ) (n : ℕ) (c l d m : List ℕ) : Type 0 where
  pub grown : Grown w n c d
  pub fewer : (i : ℕ) → T (is_open m i) → T (is_open l i)
  pub settled : (i : ℕ) → T (is_open l i) → T (not (is_open m i)) → T (held d (con_at w i))

-- no order respects all
abbrev pub Hopeless : List ℕ → ℕ → List ℕ → Type 0
Hopeless w n c = (o : List ℕ) → RespectsKnown o c → Keeps o w n → ⊥

-- what passes leave, q, is the closed words d and the constraints that m has open; where pruning is stuck, q has a cycle
pub record Passed (w : List ℕ) (n : ℕ) (q : Polygraph) (stuck : Bool) (d m : List ℕ) : Type 0 where
  pub rows : stuck ≡ false → d ≡ reach q.known
  pub list : stuck ≡ false → open_list w m n ≡ q.choices
  pub cycle : stuck ≡ true → T (cyclic q.known)

-- what pruning comes to: no open constraint has a side closed off, or no order respects all
pub record PrunedState (w : List ℕ) (n : ℕ) (c l : List ℕ) (stuck : Bool) (d m : List ℕ) : Type 0 where
  pub narrowed : stuck ≡ false → Narrowed w n c l d m
  pub done : stuck ≡ false → (i : ℕ) → T (is_open m i) → T (not (shut d (con_at w i)))
  pub hopeless : stuck ≡ true → Hopeless w n c
  pub exact : (g : List ℕ) → Tidy g → c ≡ reach g → Passed w n (passes (length (open_list w l n)) (record { known = g; choices = open_list w l n })) stuck d m

-- what a step of the walk asks
pub record Ready (w : List ℕ) (n : ℕ) (c l : List ℕ) : Type 0 where
  pub given : Given w n
  pub partial : PartialOrder c
  pub fit : Fit l n

-- d is a selection: it has the edges of c, and one side of each open constraint whole
pub record Chosen (w : List ℕ) (n : ℕ) (c l d : List ℕ) : Type 0 where
  pub partial : PartialOrder d
  pub more : (u v : ℕ) → T (has c u v) → T (has d u v)
  pub within : (m : ℕ) → Within c m → AimedAll m w n → Within d m
  pub held : (i : ℕ) → T (is_open l i) → T (held d (con_at w i))

-- the walk's answer: a selection, or that no order respects all
abbrev pub Walked : List ℕ → ℕ → List ℕ → List ℕ → Option (List ℕ) → Type 0
Walked w n c l r = MatchOption r (Hopeless w n c) (Chosen w n c l)

-- u < v, and neither leads to the other
unfoldable pub apart : List ℕ → ℕ → ℕ → Bool
apart c u v = ltb u v && (not (has c u v) && not (has c v u))

-- how many pairs stand in no order. Each choice of the walk puts one in order, so this bounds its depth.
unfoldable pub open_pairs : List ℕ → ℕ
open_pairs c = length (keep (λ k. apart c (k / 32) (k % 32)) (up_to 1024))

-- the first open constraint from `from` on, or n
pub record NextOpen (l : List ℕ) (from n r : ℕ) : Type 0 where
  pub bound : from ≤ r
  pub top : r ≤ n
  pub some : r < n → T (is_open l r)
  pub none : (i : ℕ) → from ≤ i → i < r → T (is_open l i) → ⊥

-- the counts of pruning in the search, from turn to turn: of n constraints those from i to `stop` are still to be looked at, and then those below `again`
pub record Turning (n i stop again : ℕ) : Type 0 where
  pub from : i ≤ stop
  pub stops : stop ≤ n
  pub behind : again ≤ i

-- the first of 32 constraints from `base` on that is in the set and has a side closed off, if one has
pub record HitIn (w c : List ℕ) (base set : ℕ) (r : Option ℕ) : Type 0 where
  pub some : IfSome r (λ b. (b < 32) × T (bit set b) × T (shut c (con_at w (base + b))))
  pub none : (b : ℕ) → b < unwrap_or r 32 → T (bit set b) → T (not (shut c (con_at w (base + b))))

-- the first open constraint from `from` on that has a side closed off, or none before `stop`; in any case one of n, or n
pub record NextHit (w c l : List ℕ) (from stop n r : ℕ) : Type 0 where
  pub bound : from ≤ r
  pub top : r ≤ n
  pub some : r < stop → T (is_open l r) × T (shut c (con_at w r))
  pub none : (j : ℕ) → from ≤ j → j < stop → j < r → T (is_open l j) → T (not (shut c (con_at w j)))

-- the first open constraint of which no side is there whole, or n
pub record NextChoice (w c l : List ℕ) (n r : ℕ) : Type 0 where
  pub top : r ≤ n
  pub some : r < n → T (is_open l r) × T (not (held c (con_at w r)))
  pub none : (j : ℕ) → j < r → T (is_open l j) → T (held c (con_at w j))
