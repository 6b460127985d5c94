-- What a case holds and the stage that it counts as: document 01, 'The calls'. Assumes nothing.
use Rattle.std.specs.Prelude.{ℕ, ◌-◌, ◌≤◌, ◌<◌, ◌≡◌, ◌⊎◌, List, ◌++◌, length, get_or, take, replicate}
use Rattle.model.specs.History.{History}
use Rattle.model.specs.Log.{transactions_in, load_number}
use Rattle.model.specs.Window.{Window, window, window_history, zeros}
use Rattle.answers.specs.declared.Stage.{Stage}
use Rattle.answers.specs.declared.Stage.TheVariants.{Fresh, Loaded}
use Rattle.checker.specs.declared.Case.{Case}
use Rattle.answers.specs.Clocks.{times_in, clock_of, no_clock}
use Rattle.answers.specs.Stages.{claims_order, counted, holds_window}

-- the log's bytes, of those that a case has room for
abbrev pub contents : Case → List ℕ
contents c = take c.length c.bytes

-- the window that a case holds: its log, the table that it starts from, and its times
abbrev pub window_in : Case → Window
window_in c = window (contents c) c.starting (times_in c.clock)

-- the loaded history of a case that isn't fresh
abbrev pub history_in : Case → History
history_in c = window_history (window_in c)

-- the order that a case claims: T numbers; what stands behind them is no part of the claim
abbrev pub order_in : Case → List ℕ
order_in c = take (transactions_in (contents c)) c.order

-- The stage that a case counts as. Its table is 32 values, whatever they are: Load refuses the window that it holds only for the log and the times.
unfoldable pub stage_of : Case → Stage
stage_of c = counted c.stage (holds_window c.bytes c.length c.clock) (claims_order c.bytes c.length c.order)

-- the case that Clear gives
unfoldable pub fresh_case : Case
fresh_case = record { stage = Fresh; bytes = replicate 1156 0; length = 0; starting = zeros; clock = no_clock; order = replicate 32 0 }

-- a log in the room of a case, with zeros behind it
unfoldable pub in_room : List ℕ → List ℕ
in_room b = b ++ replicate (1156 - length b) 0

-- a case with its window as it is, at another stage and with another order
abbrev pub answered_case : Case → Stage → List ℕ → Case
answered_case c stage order = record { stage = stage; bytes = c.bytes; length = c.length; starting = c.starting; clock = c.clock; order = order }

-- the case that Load leaves
unfoldable pub loaded_case : Window → Case
loaded_case w =
    record { stage = Loaded; bytes = in_room w.bytes; length = length w.bytes; starting = w.starting; clock = clock_of w.clock; order = replicate 32 0 }

-- What a case must hold to count as loaded, field by field: a log in its room that Load takes, and times that it takes beside it: as many entries in each list as
-- there are transactions, or none, no begin after its end, and a drift of at most 3,600. What stands behind the count plays no part.
pub record Holds (c : Case) : Type 0 where
  pub room : c.length ≤ length c.bytes
  pub log : load_number (contents c) ≡ 0
  pub entries : c.clock.count ≤ 32
  pub all_or_none : (c.clock.count ≡ 0) ⊎ (c.clock.count ≡ transactions_in (contents c))
  pub each_in_turn : (t : ℕ) → t < c.clock.count → get_or c.clock.begin t 0 ≤ get_or c.clock.end t 0
  pub short : c.clock.drift ≤ 3600

-- the same case with another starting table
abbrev pub with_starting : Case → List ℕ → Case
with_starting c table = record { stage = c.stage; bytes = c.bytes; length = c.length; starting = table; clock = c.clock; order = c.order }
