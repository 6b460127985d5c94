-- What a list of bytes holds where Encode for C wrote a polygraph into it, each number read back at its place, low byte first; and what it left. Assumes nothing.
--     Held         the four numbers of a constraint in the ten bytes of place i, from byte 130 on: A's sources 4, A's target 1, B's sources 4, B's target 1
--     Polygraphed  the count left in bytes 0 and 1, the 32 row words from byte 2 on, four bytes each, and the constraints left; the list is as long as it was, and
--                  behind the last constraint it is as it was
use Rattle.std.specs.Prelude.{ℕ, ◌+◌, ◌*◌, ◌<◌, ◌≤◌, ◌≡◌, List, length, get_or}
use Rattle.model.specs.History.{History}
use Rattle.model.specs.Polygraph.{polygraph}
use Rattle.model.specs.Log.{byte_at, pair_at}
use Rattle.model.specs.Lent.{no_constraint, encoded_count}
use Rattle.model.specs.declared.Constraint.{Constraint}
use Rattle.codes.specs.Images.{word_at}

pub record Held (i : ℕ) (c : Constraint) (out : List ℕ) : Type 0 where
  pub sources-A : word_at out (130 + 10 * i) ≡ c.fromA
  pub target-A : byte_at out (134 + 10 * i) ≡ c.toA
  pub sources-B : word_at out (135 + 10 * i) ≡ c.fromB
  pub target-B : byte_at out (139 + 10 * i) ≡ c.toB

pub record Polygraphed (h : History) (e pruning : ℕ) (before after : List ℕ) : Type 0 where
  pub count : pair_at after 0 ≡ encoded_count h e pruning
  pub row_words : (u : ℕ) → u < 32 → word_at after (2 + 4 * u) ≡ get_or (polygraph h e pruning).known u 0
  pub constraints_left : (i : ℕ) → i < encoded_count h e pruning → Held i (get_or (polygraph h e pruning).choices i no_constraint) after
  pub long : length after ≡ length before
  pub behind : (j : ℕ) → 130 + 10 * encoded_count h e pruning ≤ j → get_or after j 0 ≡ get_or before j 0
