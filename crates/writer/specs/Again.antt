-- A loaded log noted again: the calls, in the log's own order. Assumes nothing.
use Rattle.std.specs.Prelude.{ℕ, zero, suc, ◌+◌, List}
use Rattle.model.specs.Log.{transactions_in, cabinet_at, count_at, start_at, kind_at, key_at, argument_at, load_number}
use Rattle.writer.specs.Calls.{Noted, fresh_notes, answering, opening, noting, closing}
use Rattle.writer.specs.declared.Notes.{Notes}

-- operation m of transaction t is noted
unfoldable pub operation_noted : List ℕ → Notes → ℕ → ℕ → Noted
operation_noted b n t m = noting n (kind_at b (start_at b t + m)) (key_at b (start_at b t + m)) (argument_at b (start_at b t + m))

-- the first m operations of transaction t are noted
unfoldable pub operations_noted : List ℕ → Notes → ℕ → ℕ → Notes
operations_noted b n t zero = n
operations_noted b n t (suc m) = (operation_noted b (operations_noted b n t m) t m).notes

-- transaction t is opened, and its first m operations are noted
unfoldable pub begun_notes : List ℕ → Notes → ℕ → ℕ → Notes
begun_notes b n t m = operations_noted b (opening n (cabinet_at b t)).notes t m

-- transaction t is opened, its operations are noted, and it is closed
unfoldable pub next_notes : List ℕ → Notes → ℕ → Notes
next_notes b n t = (closing (begun_notes b n t (count_at b t))).notes

-- the first n transactions
unfoldable pub again_notes : List ℕ → ℕ → Notes
again_notes b zero = fresh_notes
again_notes b (suc t) = next_notes b (again_notes b t) t

-- Load's number where it refuses the log, with fresh notes; else its notes
unfoldable pub noting_again : List ℕ → Noted
noting_again b = answering (load_number b) fresh_notes (again_notes b (transactions_in b))
