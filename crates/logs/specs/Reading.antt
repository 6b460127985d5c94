-- What the readers of a log rely on and give. Assumes nothing.
use Rattle.std.specs.Prelude.{ℕ, ◌+◌, ◌*◌, ◌≤◌, ◌<◌, ◌≡◌, List, length}
use Rattle.model.specs.Log.{transactions_in, operations_in, cabinet_at, count_at, start_at, body_at, kind_at, key_at, argument_at, load_number, operation_at}
use Rattle.model.specs.History.{Operation}
use Rattle.logs.specs.declared.view.Header.{Header}
use Rattle.logs.specs.declared.view.Entry.{Entry}
use Rattle.rules.specs.declared.Body.{Body}

-- the header
abbrev pub header_at : List ℕ → Header
header_at b = record { transactions = transactions_in b; operations = operations_in b }

-- entry t
abbrev pub entry_at : List ℕ → ℕ → Entry
entry_at b t = record { cabinet = cabinet_at b t; count = count_at b t; start = start_at b t }

-- body i
abbrev pub record_at : List ℕ → ℕ → Body
record_at b i = record { kind = kind_at b i; key = key_at b i; argument = argument_at b i }

-- entry t lies in the bytes
abbrev pub EntryIn : List ℕ → ℕ → Type 0
EntryIn b t = 4 + 4 * t + 4 ≤ length b

-- entry t lies in the bytes, and so does body m from its start on
abbrev pub BodyIn : List ℕ → ℕ → ℕ → Type 0
BodyIn b t m = EntryIn b t × (body_at b (start_at b t + m) + 4 ≤ length b)

-- body i as it is read, with what its fields have room for
pub record IsBody (b : List ℕ) (i : ℕ) (o : Body) : Type 0 where
  pub is : o ≡ record_at b i
  pub kind_fits : o.kind < 256
  pub key_fits : o.key < 256
  pub argument_fits : o.argument < 65536

-- an operation, as it is read
abbrev pub as_operation : Body → Operation
as_operation o = record { kind = o.kind; key = o.key; argument = o.argument }

-- transaction t of a log that Load takes
pub record InLog (b : List ℕ) (t : ℕ) : Type 0 where
  pub loads : load_number b ≡ 0
  pub below : t < transactions_in b

-- operation m of transaction t
pub record IsOperation (b : List ℕ) (t m kind key argument : ℕ) : Type 0 where
  pub kind_is : kind ≡ (operation_at b (start_at b t + m)).kind
  pub key_is : key ≡ (operation_at b (start_at b t + m)).key
  pub argument_is : argument ≡ (operation_at b (start_at b t + m)).argument
  pub key_low : key < 32
  pub argument_fits : argument < 65536
