-- The room of a log, as the code tests it before it lays a byte. `room_of` in proofs/Holding: notes whose history has a log are within it. Assumes nothing.
use Rattle.std.specs.Prelude.{ℕ, ◌≤◌, Bool, ◌&&◌, List, T, ltb, leb, length}
use Rattle.model.specs.Lists.{all, up_to}
use Rattle.writer.specs.Rows.{at}
use Rattle.writer.specs.Held.{noted_in, held_log}
use Rattle.writer.specs.declared.Notes.{Notes}

-- every count has its byte in the log
unfoldable pub narrow : List ℕ → ℕ → Bool
narrow counts n = all (λ t. ltb (at counts t) 256) (up_to n)

-- At most 32 transactions and 256 operations, and every count has its byte. Notes put together outside the calls may be beyond it; the calls' own may
-- have a count of 256.
unfoldable pub in_room : Notes → Bool
in_room n = leb n.transactions 32 && (leb (noted_in n) 256 && narrow n.counts n.transactions)

-- what the laying of bytes relies on
pub record Fits (n : Notes) (room : ℕ) : Type 0 where
  pub within : T (in_room n)
  pub long : length (held_log n) ≤ room
