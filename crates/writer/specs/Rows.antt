-- Rows of four bytes laid over a buffer: how the writer fills it. Assumes nothing.
use Rattle.std.specs.Prelude.{ℕ, ◌+◌, ◌/◌, ◌%◌, List, [], ◌∷◌, ◌++◌, length, get_or, take, drop}
use Rattle.model.specs.Lists.{each, up_to}
use Rattle.model.specs.History.{Operation}
use Rattle.model.specs.Writing.{sum_of, head_bytes, entry_bytes, body_bytes}

-- the buffer with a row in the place of what stood from `at` on
unfoldable pub over : List ℕ → ℕ → List ℕ → List ℕ
over out at row = take at out ++ (row ++ drop (at + length row) out)

-- two bytes and a two-byte field, the low byte first
abbrev pub row_bytes : ℕ → ℕ → ℕ → List ℕ
row_bytes a b pair = a ∷ b ∷ (pair % 256) ∷ (pair / 256) ∷ []

-- number i of a table
abbrev pub at : List ℕ → ℕ → ℕ
at table i = get_or table i 0

-- the entries of the first n transactions
unfoldable pub entry_rows : List ℕ → List ℕ → ℕ → List ℕ
entry_rows cabinets counts n = each (λ t. entry_bytes (at cabinets t) (at counts t) (sum_of (at counts) t)) (up_to n)

-- T and N, and the entries
unfoldable pub contents_rows : List ℕ → List ℕ → ℕ → ℕ → List ℕ
contents_rows cabinets counts n m = head_bytes n m ++ entry_rows cabinets counts n

-- an operation of three tables
abbrev pub operation_in : List ℕ → List ℕ → List ℕ → ℕ → Operation
operation_in kinds keys arguments i = record { kind = at kinds i; key = at keys i; argument = at arguments i }

-- the first n bodies
unfoldable pub body_rows : List ℕ → List ℕ → List ℕ → ℕ → List ℕ
body_rows kinds keys arguments n = each (λ i. body_bytes (operation_in kinds keys arguments i)) (up_to n)
