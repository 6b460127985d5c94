-- Runs of calls from fresh notes, and what they mean for a history. Assumes nothing.
use Rattle.std.specs.Prelude.{ℕ, Bool, true, false, not, cond, ◌&&◌, List, [], ltb}
use Rattle.model.specs.Lists.{fold}
use Rattle.model.specs.History.{History, Operation, size, operation_count}
use Rattle.writer.specs.Held.{with_transaction, with_operation}
use Rattle.writer.specs.Calls.{fresh_notes, opening, noting, closing}
use Rattle.writer.specs.declared.Notes.{Notes}

-- a call that notes something
pub data Call : Type 0 where
  opens : ℕ → Call
  reads : ℕ → ℕ → Call
  writes : ℕ → ℕ → Call
  closes : Call

-- the notes after a call, refused or not
unfoldable pub called : Notes → Call → Notes
called n (opens cabinet) = (opening n cabinet).notes
called n (reads key argument) = (noting n 0 key argument).notes
called n (writes key value) = (noting n 1 key value).notes
called n closes = (closing n).notes

-- a history, and whether its last transaction is open
pub record Story : Type 0 where
  pub history : History
  pub unclosed : Bool

-- what an operation adds: nothing where none is open, or where there are 256
abbrev pub told : Story → Operation → Story
told s o =
    cond (s.unclosed && ltb (operation_count s.history) 256) (record { history = with_operation s.history o; unclosed = true }) s

-- what a call means: an open adds nothing where one is open, or where there are 32 transactions
unfoldable pub meant : Story → Call → Story
meant s (opens cabinet) =
    cond (not s.unclosed && ltb (size s.history) 32) (record { history = with_transaction s.history cabinet; unclosed = true }) s
meant s (reads key argument) = told s (record { kind = 0; key = key; argument = argument })
meant s (writes key value) = told s (record { kind = 1; key = key; argument = value })
meant s closes = record { history = s.history; unclosed = false }

-- the notes after all calls, from fresh ones
abbrev pub run : List Call → Notes
run calls = fold called fresh_notes calls

-- what they mean
abbrev pub meant_by : List Call → Story
meant_by calls = fold meant (record { history = []; unclosed = false }) calls
