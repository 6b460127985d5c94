-- Lists of numbers as orders, as the code tests them, and their places. Assumes nothing.
use Rattle.std.specs.Prelude.{ℕ, ◌≤◌, ◌<◌, ◌≡◌, List, Bool, not, ◌&&◌, ltb, length, get_or}
use Rattle.model.specs.Lists.{count, place, bit}

-- x is below n and not in the mask
unfoldable pub is_new : ℕ → ℕ → ℕ → Bool
is_new n mask x = ltb x n && not (bit mask x)

-- a list of at most 32 numbers, each below 32 and none of them twice
pub record Ordered (o : List ℕ) : Type 0 where
  pub few : length o ≤ 32
  pub once : (x : ℕ) → count x o ≤ 1
  pub small : (i : ℕ) → i < length o → get_or o i 0 < 32

-- r has the place of each number of o
pub record Places (o r : List ℕ) : Type 0 where
  pub at : (t : ℕ) → place t o < length o → get_or r t 0 ≡ place t o
