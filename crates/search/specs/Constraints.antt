-- Constraints as one list of words, four a constraint, and the set of those that are open, as words of 32 bits. Assumes nothing.
--     con_at w i          the constraint at i: word 4 i is side A's sources, 4 i + 1 its target, 4 i + 2 and 4 i + 3 the same of side B
--     with_words w i c   the words with the constraint c at i
--     list_of w n         the first n of them, as the model's list
--     is_open l i         constraint i is open
--     open_count l n      how many of the first n are
use Rattle.std.specs.Prelude.{ℕ, ◌+◌, ◌*◌, ◌/◌, ◌%◌, ◌<◌, ◌≤◌, ◌≡◌, Bool, not, ◌&&◌, T, eqb, List, map, length, get_or, set}
use Rattle.model.specs.Lists.{bit, keep, up_to}
use Rattle.model.specs.Polygraph.{RespectsOne}
use Rattle.model.specs.declared.Constraint.{Constraint}
use Rattle.model.specs.RowWords.{Aimed}

abbrev pub con_at : List ℕ → ℕ → Constraint
con_at w i =
    record { fromA = get_or w (4 * i) 0; toA = get_or w (4 * i + 1) 0; fromB = get_or w (4 * i + 2) 0; toB = get_or w (4 * i + 3) 0 }

unfoldable pub with_words : List ℕ → ℕ → Constraint → List ℕ
with_words w i c = set (set (set (set w (4 * i) c.fromA) (4 * i + 1) c.toA) (4 * i + 2) c.fromB) (4 * i + 3) c.toB

unfoldable pub list_of : List ℕ → ℕ → List Constraint
list_of w n = map (con_at w) (up_to n)

unfoldable pub is_open : List ℕ → ℕ → Bool
is_open l i = bit (get_or l (i / 32) 0) (i % 32)

unfoldable pub open_count : List ℕ → ℕ → ℕ
open_count l n = length (keep (is_open l) (up_to n))

-- the open ones among the first n, as the model's list
unfoldable pub open_list : List ℕ → List ℕ → ℕ → List Constraint
open_list w l n = map (con_at w) (keep (is_open l) (up_to n))

-- the order respects one side of each of the first n
abbrev pub Keeps : List ℕ → List ℕ → ℕ → Type 0
Keeps o w n = (i : ℕ) → i < n → RespectsOne o (con_at w i)

-- the first n name only numbers below m
abbrev pub AimedAll : ℕ → List ℕ → ℕ → Type 0
AimedAll m w n = (i : ℕ) → i < n → Aimed m (con_at w i)

-- n constraints are there, at most 4,096, with targets below 32
pub record Given (w : List ℕ) (n : ℕ) : Type 0 where
  pub there : 4 * n ≤ length w
  pub few : n ≤ 4096
  pub nodes : (i : ℕ) → i < n → (get_or w (4 * i + 1) 0 < 32) × (get_or w (4 * i + 3) 0 < 32)

-- the open constraints are among the n that are given
abbrev pub Fit : List ℕ → ℕ → Type 0
Fit l n = (i : ℕ) → T (is_open l i) → i < n

-- all open ones but i
abbrev pub Dropped : List ℕ → ℕ → List ℕ → Type 0
Dropped l i m = (j : ℕ) → is_open m j ≡ (is_open l j && not (eqb j i))
