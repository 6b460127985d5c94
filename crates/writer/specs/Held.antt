-- What notes hold: a history, its log, and whether a transaction is open. Assumes nothing.
use Rattle.std.specs.Prelude.{ℕ, Bool, false, cond, ◌≡◌, List, [], ◌∷◌, ◌++◌, eqb, length}
use Rattle.model.specs.History.{History, Operation, untimed}
use Rattle.model.specs.Writing.{sum_of, log_of, history_from}
use Rattle.writer.specs.Rows.{at, operation_in}
use Rattle.writer.specs.declared.Notes.{Notes}

-- how many operations are noted
unfoldable pub noted_in : Notes → ℕ
noted_in n = sum_of (at n.counts) n.transactions

-- The history: cabinets and operations, in the order in which they were noted. What a count claims beyond the room reads as 0.
unfoldable pub held : Notes → History
held n = history_from n.transactions (at n.cabinets) (at n.counts) (operation_in n.kinds n.keys n.arguments)

-- the log to be written
unfoldable pub held_log : Notes → List ℕ
held_log n = log_of (held n)

-- A transaction is open. Notes without a transaction have none open, whatever they say.
unfoldable pub is_open : Notes → Bool
is_open n = cond (eqb n.transactions 0) false n.opened

-- ---- what the calls add to a history

-- a transaction more, without operations
abbrev pub with_transaction : History → ℕ → History
with_transaction h cabinet = h ++ (untimed cabinet [] ∷ [])

-- an operation more, behind those of the last transaction
abbrev pub with_operation : History → Operation → History
with_operation [] o = []
with_operation (t ∷ []) o = record { cabinet = t.cabinet; operations = t.operations ++ (o ∷ []); begin = t.begin; until = t.until } ∷ []
with_operation (t ∷ u ∷ h) o = t ∷ with_operation (u ∷ h) o

-- the arrays have the lengths that their types give them
pub record Sized (n : Notes) : Type 0 where
  pub cabinets : length n.cabinets ≡ 32
  pub counts : length n.counts ≡ 32
  pub kinds : length n.kinds ≡ 256
  pub keys : length n.keys ≡ 256
  pub arguments : length n.arguments ≡ 256
