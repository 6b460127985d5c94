-- What the search for the first order promises. `c` are row words, `l` the words of the open constraints, `w` the words of the n constraints, `set` the numbers that are not placed. Assumes nothing.
use Rattle.std.specs.Prelude.{ℕ, ◌^◌, ◌<◌, ◌≤◌, ◌≡◌, ◌⊎◌, ◌≢◌, Bool, not, cond, ◌&&◌, List, ◌++◌, T, eqb, length, get_or, take, Option, MatchOption}
use Rattle.std.specs.Int.Bits.{bit_or}
use Rattle.model.specs.Lists.{bit, count}
use Rattle.model.specs.History.{is_order}
use Rattle.model.specs.declared.Constraint.{Constraint}
use Rattle.model.specs.Polygraph.{has, Before, RespectsKnown, RespectsOne}
use Rattle.model.specs.Search.{LexLess}
use Rattle.model.specs.RowWords.{Within}
use Rattle.search.specs.Constraints.{con_at, is_open, Keeps, AimedAll, Given}
use Rattle.search.specs.Steps.{PartialOrder, Ready}

-- an order of the numbers below t that respects the row words g and one side of each of the n constraints
pub record Solution (t : ℕ) (w : List ℕ) (n : ℕ) (g o : List ℕ) : Type 0 where
  pub order : T (is_order t o)
  pub known : RespectsKnown o g
  pub keeps : Keeps o w n

-- every order of the numbers below t that respects the row words has one side of the constraint
abbrev pub Sure : ℕ → List ℕ → Constraint → Type 0
Sure t c k = (o : List ℕ) → T (is_order t o) → RespectsKnown o c → RespectsOne o k

-- A constraint that is an edge against the same edge turned round: every order has one of the two, and pruning adds nothing by it.
unfoldable pub opposed : Constraint → Bool
opposed k = (eqb k.fromA (2 ^ k.toB) && eqb k.fromB (2 ^ k.toA)) && not (eqb k.toA k.toB)

-- some open constraints are left out: each of them is of that kind
pub record Lighter (w l m : List ℕ) : Type 0 where
  pub fewer : (i : ℕ) → T (is_open m i) → T (is_open l i)
  pub gone : (i : ℕ) → T (is_open l i) → T (not (is_open m i)) → T (opposed (con_at w i))

-- v stands before all others of the set
abbrev pub Firsts : ℕ → ℕ → List ℕ → Type 0
Firsts set v o = (x : ℕ) → x < 32 → T (bit set x) → x ≢ v → Before o v x

-- r has the numbers with a predecessor in the set, by the rows below i
pub record Under (c : List ℕ) (set i r : ℕ) : Type 0 where
  pub sound : (v : ℕ) → T (bit r v) → (u : ℕ) × T (bit set u) × T (has c u v)
  pub whole : (u v : ℕ) → u < i → T (bit set u) → T (has c u v) → T (bit r v)

-- row u with the set `add`, where u is v or leads to v
unfoldable pub led_row : ℕ → ℕ → ℕ → ℕ → ℕ
led_row add v u row = cond (bit (bit_or row (2 ^ u)) v) (bit_or row add) row

-- d is c with v before all others of the set
pub record Placed (c : List ℕ) (set v : ℕ) (d : List ℕ) : Type 0 where
  pub partial : PartialOrder d
  pub more : (x y : ℕ) → T (has c x y) → T (has d x y)
  pub first : (x : ℕ) → T (bit set x) → x ≢ v → T (has d v x)
  pub keeps : (o : List ℕ) → RespectsKnown o c → Firsts set v o → RespectsKnown o d
  pub within : (m : ℕ) → Within c m → v < m → ((x : ℕ) → T (bit set x) → x < m) → Within d m

-- the closed words of a selection: an order that respects them respects c and one side of each constraint
pub record Witness (t : ℕ) (w : List ℕ) (n : ℕ) (c sel : List ℕ) : Type 0 where
  pub partial : PartialOrder sel
  pub within : Within sel t
  pub back : (o : List ℕ) → T (is_order t o) → RespectsKnown o sel → RespectsKnown o c
  pub sure : (i : ℕ) → i < n → Sure t sel (con_at w i)

-- what is kept from place to place: constraints that are not open are settled, and there is a selection
pub record Progress (t : ℕ) (w : List ℕ) (n : ℕ) (c l sel : List ℕ) : Type 0 where
  pub few : t ≤ 32
  pub aimed : AimedAll t w n
  pub ready : Ready w n c l
  pub settled : (i : ℕ) → i < n → T (not (is_open l i)) → Sure t c (con_at w i)
  pub within : Within c t
  pub witness : Witness t w n c sel

-- v can't come first among the set
abbrev pub Never : List ℕ → ℕ → List ℕ → ℕ → ℕ → Type 0
Never w n c set v = (o : List ℕ) → RespectsKnown o c → Keeps o w n → Firsts set v o → ⊥

-- the set lies below t
abbrev pub Below : ℕ → ℕ → Type 0
Below set t = (x : ℕ) → T (bit set x) → x < t

-- v is the lowest of the set that can come first; d are the row words with it placed, sel a selection that has it so
pub record Picked (t : ℕ) (w : List ℕ) (n : ℕ) (c : List ℕ) (set v : ℕ) (d sel : List ℕ) : Type 0 where
  pub member : T (bit set v)
  pub placed : Placed c set v d
  pub witness : Witness t w n d sel
  pub lowest : (x : ℕ) → x < v → T (bit set x) → Never w n c set x

-- the numbers `pre` are placed: the solutions that respect c are those that begin with them, and no solution is lower
pub record Begun (t : ℕ) (w : List ℕ) (n : ℕ) (g pre c l sel : List ℕ) (set : ℕ) : Type 0 where
  pub progress : Progress t w n c l sel
  pub back : (o : List ℕ) → RespectsKnown o c → RespectsKnown o g
  pub follows : (o : List ℕ) → Solution t w n g o → RespectsKnown o c → (r : List ℕ) × (o ≡ pre ++ r)
  pub leads : (o : List ℕ) → Solution t w n g o → (r : List ℕ) → o ≡ pre ++ r → RespectsKnown o c
  pub lowest : (o : List ℕ) → Solution t w n g o → ((r : List ℕ) × (o ≡ pre ++ r)) ⊎ ((r : List ℕ) → LexLess (pre ++ r) o)
  pub inside : (x : ℕ) → T (bit set x) → (x < t) × (count x pre ≡ 0)
  pub whole : (x : ℕ) → x < t → count x pre ≡ 0 → T (bit set x)

-- what the places are filled from: nothing is placed
pub record Begins (t : ℕ) (w : List ℕ) (n : ℕ) (c l sel : List ℕ) (set : ℕ) : Type 0 where
  pub progress : Progress t w n c l sel
  pub inside : (x : ℕ) → T (bit set x) → x < t
  pub whole : (x : ℕ) → x < t → T (bit set x)

-- the first solution, and zeros behind it: 32 numbers
pub record First (t : ℕ) (w : List ℕ) (n : ℕ) (g out : List ℕ) : Type 0 where
  pub long : length out ≡ 32
  pub solves : Solution t w n g (take t out)
  pub lowest : (o : List ℕ) → Solution t w n g o → (o ≡ take t out) ⊎ LexLess (take t out) o
  pub zeros : (j : ℕ) → t ≤ j → get_or out j 0 ≡ 0

-- what is asked: row words and n constraints over the numbers below t
pub record Asked (t : ℕ) (w : List ℕ) (n : ℕ) (g : List ℕ) : Type 0 where
  pub few : t ≤ 32
  pub given : Given w n
  pub within : Within g t
  pub aimed : AimedAll t w n

-- the answer: the first solution, or that there is none
abbrev pub Answered : ℕ → List ℕ → ℕ → List ℕ → Option (List ℕ) → Type 0
Answered t w n g r = MatchOption r ((o : List ℕ) → Solution t w n g o → ⊥) (First t w n g)
