-- Which constraint stands at a candidate's number, from the tables, and the list of constraints of some numbers. Assumes nothing.
use Rattle.std.specs.Prelude.{ℕ, ◌*◌, ◌+◌, ◌/◌, ◌%◌, ◌^◌, Bool, true, false, cond, List, map, eqb, get_or}
use Rattle.model.specs.Lists.{up_to}
use Rattle.model.specs.declared.Constraint.{Constraint}
use Rattle.graph.specs.Masks.{without}

-- One list of 1,025 words, of which the last is the encoding. Candidate c stands in row c / 32, at column c % 32; there are 1,024 rows.
--     Encoding 1: row k * 32 + i, column j, for key k and the two writes i and j. Word k * 32 + i has the good readers of the key from i.
--     Encoding 2: the same for two heads. Word k * 32 + g has the sources of every side from the chain with head g.
--     Encoding 0: row i, column v, for body i and the writer v. Word i has the body's transaction, and 32 times the one that it names.

abbrev pub row_of : ℕ → ℕ
row_of c = c / 32 % 1024

abbrev pub left_of : ℕ → ℕ
left_of c = row_of c % 32

abbrev pub right_of : ℕ → ℕ
right_of c = c % 32

-- the word of i, and the word of j
abbrev pub left_word : List ℕ → ℕ → ℕ
left_word t c = get_or t (row_of c) 0

abbrev pub right_word : List ℕ → ℕ → ℕ
right_word t c = get_or t (row_of c / 32 * 32 + right_of c) 0

-- the readers of w without x or, where there are none, w alone
unfoldable pub ends_by : ℕ → ℕ → ℕ → ℕ
ends_by readers w x = cond (eqb (without readers x) 0) (2 ^ w) (without readers x)

unfoldable pub pair_item : List ℕ → ℕ → Constraint
pair_item t c = record {
  fromA = ends_by (left_word t c) (left_of c) (right_of c);
  toA = right_of c;
  fromB = ends_by (right_word t c) (right_of c) (left_of c);
  toB = left_of c;
}

unfoldable pub chain_item : List ℕ → ℕ → Constraint
chain_item t c = record { fromA = left_word t c; toA = right_of c; fromB = right_word t c; toB = left_of c }

unfoldable pub plain_item : List ℕ → ℕ → Constraint
plain_item t c = record { fromA = 2 ^ (left_word t c % 32); toA = right_of c; fromB = 2 ^ right_of c; toB = left_word t c / 32 % 32 }

abbrev pub choose : Bool → Constraint → Constraint → Constraint
choose true a b = a
choose false a b = b

unfoldable pub item_by : List ℕ → ℕ → Constraint
item_by t c = choose (eqb (get_or t 1024 0) 2) (chain_item t c) (choose (eqb (get_or t 1024 0) 0) (plain_item t c) (pair_item t c))

-- the constraints of the first n numbers of a list
unfoldable pub items_by : List ℕ → List ℕ → ℕ → List Constraint
items_by t ks n = map (λ i. item_by t (get_or ks i 0)) (up_to n)
