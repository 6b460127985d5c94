-- The operations and the constraints of one key, of which card 6's bound speaks. Assumes nothing.
use Rattle.std.specs.Prelude.{ℕ, cond, List, eqb, length}
use Rattle.model.specs.Lists.{keep, each, total, up_to}
use Rattle.model.specs.History.{History, Operation, size, operations_of, outward_of}
use Rattle.model.specs.Polygraph.{Constraint, plain_of, joined_on, chained_on}

-- A key's constraints are at most so many for each of its operations.
abbrev pub per_operation : ℕ
per_operation = 16

-- those of some operations that are on key k
abbrev pub of_key : ℕ → List Operation → List Operation
of_key k os = keep (λ o. eqb o.key k) os

-- how many operations there are on key k, read-backs too
abbrev pub count_on : History → ℕ → ℕ
count_on h k = total (λ t. length (of_key k (operations_of h t))) (up_to (size h))

-- the plain constraints of the reads of key k
abbrev pub plain_on : History → ℕ → List Constraint
plain_on h k = each (λ t. each (plain_of h t) (of_key k (outward_of h t))) (up_to (size h))

-- The constraints of key k in encoding e: in encodings 1 and 2 what is listed for it, in encoding 0, whose list goes by transactions, what is listed for the reads of it.
-- That those of the 32 keys are as many as all is the theorem `constraints_key_by_key`.
unfoldable pub constraints_on : History → ℕ → ℕ → List Constraint
constraints_on h e k = cond (eqb e 0) (plain_on h k) (cond (eqb e 1) (joined_on h k) (chained_on h k))
