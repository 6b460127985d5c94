-- What the calls leave in the lists that they are lent, and the order as 32 numbers: document 01, 'The calls'. Assumes nothing.
use Rattle.std.specs.Prelude.{ℕ, ◌-◌, List, ◌++◌, length, take, drop, replicate}
use Rattle.std.proofs.Math.Option.{Option, none, some}
use Rattle.model.specs.History.{History, replay}
use Rattle.model.specs.Polygraph.{Constraint, constraints, polygraph}

-- four zeros
abbrev pub no_constraint : Constraint
no_constraint = record { fromA = 0; toA = 0; fromB = 0; toB = 0 }

-- The list that Encode and Decide leave where ys was lent: constraints left stand first in list order; up to the count before pruning, the
-- places behind them hold four zeros; further places are untouched.
unfoldable pub encoded_list : History → ℕ → ℕ → List Constraint → List Constraint
encoded_list h e pruning ys =
    let left = (polygraph h e pruning).choices in
    let before = length (constraints h e) in
    left ++ (replicate (before - length left) no_constraint ++ drop before ys)

-- The 32 row words as pruning leaves them; further places are untouched.
unfoldable pub encoded_rows : History → ℕ → ℕ → List ℕ → List ℕ
encoded_rows h e pruning ws = (polygraph h e pruning).known ++ drop 32 ws

-- the count of constraints left
unfoldable pub encoded_count : History → ℕ → ℕ → ℕ
encoded_count h e pruning = length (polygraph h e pruning).choices

-- The order as 32 numbers, 0 from place T on; 'no order' has 32 zeros.
unfoldable pub order_numbers : Option (List ℕ) → List ℕ
order_numbers none = replicate 32 0
order_numbers (some o) = o ++ replicate (32 - length o) 0

-- Order writes the order's T numbers as bytes; further places are untouched.
unfoldable pub written_order : ℕ → List ℕ → List ℕ → List ℕ
written_order n numbers ys = take n numbers ++ drop n ys

-- Table writes 32 values, by key: the table which the order leaves, from the starting one. Further places are untouched.
unfoldable pub written_table : History → List ℕ → List ℕ → List ℕ → List ℕ
written_table h table o ys = replay h table o ++ drop 32 ys
