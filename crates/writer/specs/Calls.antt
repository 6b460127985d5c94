-- The calls of the writer: with which number each refuses, and what it gives and leaves. Assumes nothing.
use Rattle.std.specs.Result.{result_unwrap_or}
use Rattle.std.specs.Prelude.{ℕ, Result, ◌+◌, ◌-◌, true, false, cond, List, ◌++◌, eqb, ltb, length, set, drop, replicate}
use Rattle.writer.specs.Rows.{at}
use Rattle.model.specs.Writing.{has_log}
use Rattle.writer.specs.Held.{noted_in, held, held_log, is_open}
use Rattle.refusals.specs.declared.Refusal.{Refusal}
use Rattle.refusals.specs.Numbers.{number_of}
use Rattle.writer.specs.declared.Notes.{Notes}

-- what a call gives: the number of a refusal, or 0, and the notes after the call
pub record Noted : Type 0 where
  pub number : ℕ
  pub notes : Notes

-- what a writing gives: the number of a refusal, or 0, the length of the log that was written, or 0, and the notes after it
pub record Written : Type 0 where
  pub number : ℕ
  pub length : ℕ
  pub notes : Notes

-- the same of an answer and the notes after it
abbrev pub noted_by : {X : Type 0} → Result X Refusal → Notes → Noted
noted_by r n = record { number = number_of r; notes = n }

abbrev pub written_by : Result ℕ Refusal → Notes → Written
written_by r n = record { number = number_of r; length = result_unwrap_or r 0; notes = n }

-- nothing noted
unfoldable pub fresh_notes : Notes
fresh_notes =
    record { opened = false; transactions = 0; cabinets = replicate 32 0; counts = replicate 32 0; kinds = replicate 256 0; keys = replicate 256 0; arguments = replicate 256 0 }

-- the answer of a call: the notes after it where its number is 0, else the notes as they were found
unfoldable pub answering : ℕ → Notes → Notes → Noted
answering number before after = record { number = number; notes = cond (eqb number 0) after before }

-- ---- open: 32 when one is open, 33 a 33rd transaction

unfoldable pub open_refusal : Notes → ℕ
open_refusal n = cond (is_open n) 32 (cond (ltb n.transactions 32) 0 33)

-- one transaction more, without operations
unfoldable pub opened_notes : Notes → ℕ → Notes
opened_notes n cabinet =
    record { opened = true; transactions = n.transactions + 1; cabinets = set n.cabinets n.transactions cabinet; counts = set n.counts n.transactions 0; kinds = n.kinds; keys = n.keys; arguments = n.arguments }

unfoldable pub opening : Notes → ℕ → Noted
opening n cabinet = answering (open_refusal n) n (opened_notes n cabinet)

-- ---- note a read or a write: 31 when none is open, 33 a 257th note; notes put together outside with over 32 transactions have no room for one, 33 too

unfoldable pub note_refusal : Notes → ℕ
note_refusal n = cond (is_open n) (cond (ltb 32 n.transactions) 33 (cond (ltb (noted_in n) 256) 0 33)) 31

-- the notes with operation i noted, of the last transaction
unfoldable pub noted_at : Notes → ℕ → ℕ → ℕ → ℕ → Notes
noted_at n i kind key argument =
    let t = n.transactions - 1 in
    record { opened = n.opened; transactions = n.transactions; cabinets = n.cabinets; counts = set n.counts t (at n.counts t + 1); kinds = set n.kinds i kind; keys = set n.keys i key; arguments = set n.arguments i argument }

-- one operation more, behind all others
unfoldable pub noted_notes : Notes → ℕ → ℕ → ℕ → Notes
noted_notes n kind key argument = noted_at n (noted_in n) kind key argument

unfoldable pub noting : Notes → ℕ → ℕ → ℕ → Noted
noting n kind key argument = answering (note_refusal n) n (noted_notes n kind key argument)

-- ---- close: 31 when none is open

unfoldable pub close_refusal : Notes → ℕ
close_refusal n = cond (is_open n) 0 31

unfoldable pub closed_notes : Notes → Notes
closed_notes n =
    record { opened = false; transactions = n.transactions; cabinets = n.cabinets; counts = n.counts; kinds = n.kinds; keys = n.keys; arguments = n.arguments }

unfoldable pub closing : Notes → Noted
closing n = answering (close_refusal n) n (closed_notes n)

-- ---- write: 32 when one is open, 33 content that Load would refuse, 25 a buffer shorter than the log to be written

unfoldable pub write_refusal : Notes → ℕ → ℕ
write_refusal n room = cond (is_open n) 32 (cond (has_log (held n)) (cond (ltb room (length (held_log n))) 25 0) 33)

-- the number, the length of the log or 0, and the notes as found
unfoldable pub writing : Notes → ℕ → Written
writing n room = record { number = write_refusal n room; length = cond (eqb (write_refusal n room) 0) (length (held_log n)) 0; notes = n }

-- the buffer after it: the log, and behind it what stood there
unfoldable pub buffer_after : Notes → List ℕ → List ℕ
buffer_after n out = cond (eqb (write_refusal n (length out)) 0) (held_log n ++ drop (length (held_log n)) out) out
