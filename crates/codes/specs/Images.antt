-- What the functions write, and read of a starting table and of times: numbers as bytes, low byte first, in their places of a list of bytes. Assumes nothing.
--     pair_bytes, word_bytes     a number as two bytes, and as four, from a place on.        word_at       the number that four bytes hold
--     filled step n out        out after n steps
--     value_in          a value of a table, two bytes.        values_in     the 32 values that 64 bytes hold
--     seconds_in        the seconds that a list of bytes holds, four bytes each; what is left behind the last four is no part of them
--     second_bytes      seconds as bytes, four each, low byte first
--     polygraph_in      the count left (2 bytes), the 32 row words (4 bytes each), and each constraint left as 10 bytes: A's sources 4, A's target 1, B's sources 4, B's target 1
--     bill_in           a cabinet's bill, 12 bytes: mills, cents, travel.        twos, signed_at      a signed number as two's complement, and the one that four bytes hold
use Rattle.std.specs.Prelude.{ℕ, zero, suc, ◌+◌, ◌*◌, ◌-◌, ◌/◌, ◌%◌, cond, List, [], ◌∷◌, map, ltb, ℤ, pos, negsuc, length, set, get_or}
use Rattle.model.specs.Lists.{up_to}
use Rattle.model.specs.Log.{byte_at, pair_at}
use Rattle.model.specs.declared.Constraint.{Constraint}
use Rattle.model.specs.Lent.{no_constraint}
use Rattle.search.specs.Constraints.{con_at}
use Rattle.wear.specs.Bills.{no_bill}
use Rattle.wear.specs.declared.Bill.{Bill}

unfoldable pub pair_bytes : ℕ → ℕ → List ℕ → List ℕ
pair_bytes at v out = set (set out at (v % 256)) (at + 1) (v / 256)

unfoldable pub word_bytes : ℕ → ℕ → List ℕ → List ℕ
word_bytes at v out = set (set (set (set out at (v % 256)) (at + 1) (v / 256 % 256)) (at + 2) (v / 65536 % 256)) (at + 3) (v / 16777216)

unfoldable pub filled : (ℕ → List ℕ → List ℕ) → ℕ → List ℕ → List ℕ
filled step zero out = out
filled step (suc n) out = step n (filled step n out)

abbrev pub value_in : List ℕ → ℕ → List ℕ → List ℕ
value_in values i = pair_bytes (2 * i) (get_or values i 0)

unfoldable pub values_in : List ℕ → List ℕ
values_in bytes = map (λ i. pair_at bytes (2 * i)) (up_to 32)

unfoldable pub word_at : List ℕ → ℕ → ℕ
word_at b i = byte_at b i + 256 * byte_at b (i + 1) + 65536 * byte_at b (i + 2) + 16777216 * byte_at b (i + 3)

unfoldable pub seconds_in : List ℕ → List ℕ
seconds_in bytes = map (λ i. word_at bytes (4 * i)) (up_to (length bytes / 4))

-- seconds as a caller in C hands them over
unfoldable pub second_bytes : List ℕ → List ℕ
second_bytes [] = []
second_bytes (s ∷ ss) = s % 256 ∷ s / 256 % 256 ∷ s / 65536 % 256 ∷ s / 16777216 ∷ second_bytes ss

abbrev pub row_in : List ℕ → ℕ → List ℕ → List ℕ
row_in rows i = word_bytes (2 + 4 * i) (get_or rows i 0)

-- a constraint as ten bytes, from a place on
unfoldable pub constraint_bytes : ℕ → Constraint → List ℕ → List ℕ
constraint_bytes at c out = set (word_bytes (at + 5) c.fromB (set (word_bytes at c.fromA out) (at + 4) (c.toA % 256))) (at + 9) (c.toB % 256)

abbrev pub constraint_in : List Constraint → ℕ → List ℕ → List ℕ
constraint_in cs i = constraint_bytes (130 + 10 * i) (get_or cs i no_constraint)

-- of a list of words, four a constraint
abbrev pub words_in : List ℕ → ℕ → List ℕ → List ℕ
words_in words i = constraint_bytes (130 + 10 * i) (con_at words i)

unfoldable pub polygraph_in : ℕ → List ℕ → List Constraint → List ℕ → List ℕ
polygraph_in left rows cs out = filled (constraint_in cs) left (filled (row_in rows) 32 (pair_bytes 0 left out))

-- two's complement in 32 bits: -1 is 4,294,967,295
abbrev pub twos : ℤ → ℕ
twos (pos n) = n
twos (negsuc n) = 4294967295 - n

-- and back: from 2,147,483,648 on a number stands for a negative one
unfoldable pub signed_at : List ℕ → ℕ → ℤ
signed_at b i = cond (ltb (word_at b i) 2147483648) (pos (word_at b i)) (negsuc (4294967295 - word_at b i))

-- a bill as twelve bytes, from a place on
unfoldable pub bill_bytes : ℕ → Bill → List ℕ → List ℕ
bill_bytes at b out = word_bytes (at + 8) (twos b.travel) (word_bytes (at + 4) b.cents (word_bytes at b.mills out))

abbrev pub bill_in : List Bill → ℕ → List ℕ → List ℕ
bill_in bills i = bill_bytes (12 * i) (get_or bills i no_bill)
