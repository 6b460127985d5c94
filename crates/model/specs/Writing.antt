-- The log of a history: what a writer of logs would write, and whether that is bytes that Load takes. Assumes nothing.
use Rattle.std.specs.Prelude.{ℕ, zero, suc, ◌+◌, ◌/◌, ◌%◌, Bool, ◌&&◌, List, [], ◌∷◌, ◌++◌, map, eqb, ltb, length}
use Rattle.model.specs.Lists.{all, each, up_to}
use Rattle.model.specs.History.{History, Transaction, Operation, untimed, size, cabinet_of, operations_of, operation_count}
use Rattle.model.specs.Log.{load_number}

-- the sum of f 0, f 1, ... f (n - 1)
unfoldable pub sum_of : (ℕ → ℕ) → ℕ → ℕ
sum_of f zero = 0
sum_of f (suc n) = sum_of f n + f n

-- T and N; two-byte fields have the low byte first
abbrev pub head_bytes : ℕ → ℕ → List ℕ
head_bytes t n = (t % 256) ∷ (t / 256) ∷ (n % 256) ∷ (n / 256) ∷ []

-- an entry of the contents: cabinet, count of operations, start
abbrev pub entry_bytes : ℕ → ℕ → ℕ → List ℕ
entry_bytes cabinet count start = cabinet ∷ count ∷ (start % 256) ∷ (start / 256) ∷ []

-- a body: kind, key, argument
abbrev pub body_bytes : Operation → List ℕ
body_bytes o = o.kind ∷ o.key ∷ (o.argument % 256) ∷ (o.argument / 256) ∷ []

-- the count of transaction t's operations
abbrev pub count_of : History → ℕ → ℕ
count_of h t = length (operations_of h t)

-- the entry of transaction t, whose start is the sum of the counts before it
abbrev pub entry_of : History → ℕ → List ℕ
entry_of h t = entry_bytes (cabinet_of h t) (count_of h t) (sum_of (count_of h) t)

-- the operations of all transactions, in their order
abbrev pub all_operations : History → List Operation
all_operations h = each (λ (t : Transaction). t.operations) h

-- The contents come first; then the bodies. What has no byte of its own (a count of 256, a cabinet of 300) stands here unwrapped, and the list is
-- none of bytes.
unfoldable pub log_of : History → List ℕ
log_of h = head_bytes (size h) (operation_count h) ++ (each (entry_of h) (up_to (size h)) ++ each body_bytes (all_operations h))

-- a list of bytes that Load takes
unfoldable pub is_log : List ℕ → Bool
is_log b = all (λ x. ltb x 256) b && eqb (load_number b) 0

-- the history has a log: what would be written of it is bytes, and Load takes them
unfoldable pub has_log : History → Bool
has_log h = is_log (log_of h)

-- Flat tables hold a history: the cabinet and the count of each transaction, and the operations of all, one after another. Transaction t of them:
abbrev pub transaction_from : (ℕ → ℕ) → (ℕ → ℕ) → (ℕ → Operation) → ℕ → Transaction
transaction_from cabinet count operation t =
    untimed (cabinet t) (map (λ m. operation (sum_of count t + m)) (up_to (count t)))

-- the first n transactions
unfoldable pub history_from : ℕ → (ℕ → ℕ) → (ℕ → ℕ) → (ℕ → Operation) → History
history_from n cabinet count operation = map (transaction_from cabinet count operation) (up_to n)
