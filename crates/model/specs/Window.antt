-- A window: what Load takes and a case holds. Document 01, 'The log', card 5's starting table and card 7's times. Assumes nothing.
use Rattle.std.specs.Prelude.{ℕ, cond, List, eqb, length, replicate}
use Rattle.model.specs.History.{History}
use Rattle.model.specs.Times.{Times, no_times, timed_number, timed_history}

-- The log's bytes; the starting table, which is the value of each key before the window's first transaction; and the times.
pub record Window : Type 0 where
  pub bytes : List ℕ
  pub starting : List ℕ
  pub clock : Times

abbrev pub window : List ℕ → List ℕ → Times → Window
window b table ts = record { bytes = b; starting = table; clock = ts }

-- Load's number of a window, or 0: 36 a starting table that isn't exactly 32 values, then what `timed_number` tests of the log and its times, in turn.
unfoldable pub window_number : Window → ℕ
window_number w = cond (eqb (length w.starting) 32) (timed_number w.bytes w.clock) 36

-- The history of a window is its log's with its times: the starting table is no part of it, and so of nothing that is said of a history alone.
abbrev pub window_history : Window → History
window_history w = timed_history w.bytes w.clock

-- the starting table that document 01 implies, 0 for each of the 32 keys, and a log with it and without times: what Judge loads
abbrev pub zeros : List ℕ
zeros = replicate 32 0

abbrev pub from_zeros : List ℕ → Window
from_zeros b = window b zeros no_times
