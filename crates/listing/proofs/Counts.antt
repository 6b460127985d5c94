-- How many numbers are listed: no count passes the places, which 16 bits hold, so no function here wraps one. Assumes nothing.
use Prim.Native.Nat.{ℕ, ◌+◌, ◌≤◌}
use native.Mathlib.Omega.{arith}
use mathlib.Core.List.{List}
use lib.ListN.{length}
use Rattle.listing.specs.Choosing.{Chose}

-- a count that is handed on: it is no less than what was handed in, and there are places for as many
abbrev pub Grew : ℕ → ℕ → Type 0
Grew from r = (from ≤ r) × (r ≤ 4096)

-- What `choose`, `pairs`, `Runs::list`, `rows` and the two `table`s promise of the numbers that they list, where those have the room that each of them asks for. That there is
-- room is shown by who calls: `row_room`, `going_room`, `keys_room`, `numbers_room`, `bodies_room`; for all of a log `runs_room` and `plain_room`.
pub counts : (cs : List ℕ) (from r : ℕ) (ks ls : List ℕ) → from + length cs ≤ 4096 → Chose cs from ks r ls → Grew from r
counts cs from r ks ls room c = (omega (arith, c.count), omega (arith, c.count))
