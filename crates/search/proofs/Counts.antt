-- The counts of the search, function by function: none passes that of the constraints which are given, so none wraps. Assumes nothing.
--     turn_first, turn_hit, turn_again        `prune`, turn by turn
--     word_counts      `order::open_word`.        open_next        `next_choice` and `order::lighter`, which look on behind one that is open. (`next_hit`, `next_open` and `next_choice` say it themselves, by their field `top`.)
use Prim.Native.Nat.{ℕ, ◌+◌, ◌*◌, ◌-◌, ◌≤◌, ◌<◌}
use native.Mathlib.Omega.{arith}
use mathlib.Core.Path.{◌≡◌}
use mathlib.Core.List.{List}
use Rattle.search.specs.Steps.{Turning, NextOpen}

pub turn_first : (n : ℕ) → Turning n 0 n 0
turn_first n = record { from = omega arith; stops = omega arith; behind = omega arith }

module _ (n i stop again : ℕ) where
  -- behind one that is dropped at `at`: this pass goes to the end, and the next to `at`
  pub turn_hit : (at : ℕ) → Turning n i stop again → at < stop → Turning n (at + 1) n at
  turn_hit at t h = record { from = omega (arith, t.stops); stops = omega arith; behind = omega arith }

  pub turn_again : Turning n i stop again → Turning n 0 again 0
  turn_again t = record { from = omega arith; stops = omega (arith, t.behind, t.from, t.stops); behind = omega arith }

-- how many there are from word w on
pub word_counts : (n w : ℕ) → w * 32 < n → w * 32 + (n - w * 32) ≡ n
word_counts n w h = omega arith

pub open_next : (l : List ℕ) (n from r : ℕ) → NextOpen l from n r → r < n → (from < r + 1) × (r + 1 ≤ n)
open_next l n from r x h = (omega (arith, x.bound), omega arith)
