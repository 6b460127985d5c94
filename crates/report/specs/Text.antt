-- What Judge prints, as bytes: document 01, 'The program Judge'. Assumes nothing.
use Rattle.std.specs.Prelude.{ℕ, zero, suc, ◌+◌, ◌-◌, ◌*◌, ◌/◌, ◌%◌, ◌≤◌, ◌≡◌, Bool, true, false, not, cond, List, [], ◌∷◌, ◌++◌, eqb, ltb, length, get_or, take, drop}
use Prim.Native.Char.{code}
use Prim.Native.String.{String, [] as nothing, ◌∷◌ as ◌then◌}
use Rattle.model.specs.Lists.{each, up_to}

-- a text's bytes, one for each letter
abbrev pub letters : String → List ℕ
letters nothing = []
letters (c then s) = code c ∷ letters s

-- a number's digits, at most n of them
unfoldable pub digits : ℕ → ℕ → List ℕ
digits zero x = []
digits (suc n) x = cond (ltb x 10) ((48 + x) ∷ []) (digits n (x / 10) ++ ((48 + x % 10) ∷ []))

-- a number in decimal; five digits hold every number of 16 bits
abbrev pub decimal : ℕ → List ℕ
decimal x = digits 5 x

-- a word and a number behind it
unfoldable pub number_text : List ℕ → ℕ → List ℕ
number_text word n = word ++ decimal n

abbrev pub newline : List ℕ
newline = letters "\n"

-- 'refused' and the number
unfoldable pub refused_text : ℕ → List ℕ
refused_text n = number_text (letters "refused ") n ++ newline

-- 'no order'
abbrev pub no_order_text : List ℕ
no_order_text = letters "no order\n"

-- one transaction's number, with the space before it
abbrev pub step_text : ℕ → List ℕ
step_text t = number_text (letters " ") t

-- 'order' and the transaction numbers, with one space between words
unfoldable pub order_text : List ℕ → List ℕ
order_text o = letters "order" ++ (each step_text o ++ newline)

-- a line: key, its number, value, its last value
unfoldable pub key_text : ℕ → ℕ → List ℕ
key_text k v = number_text (letters "key ") k ++ (number_text (letters " value ") v ++ newline)

-- a line for each key written, ascending
unfoldable pub line_if : Bool → ℕ → ℕ → List ℕ
line_if true k v = key_text k v
line_if false k v = []

unfoldable pub table_text : (ℕ → Bool) → List ℕ → ℕ → List ℕ
table_text written table n = each (λ k. line_if (written k) k (get_or table k 0)) (up_to n)

-- a table of writers, one word for each key: the key is written where its word is not 0
unfoldable pub marked : List ℕ → ℕ → Bool
marked writers k = not (eqb (get_or writers k 0) 0)

-- after an order
unfoldable pub found_text : List ℕ → (ℕ → Bool) → List ℕ → List ℕ
found_text o written table = order_text o ++ table_text written table 32

-- ---- what the functions leave in a buffer

-- `added` was put behind the first `at` bytes of the buffer, so that the text now has r bytes; these, and those from r on, are as they were
pub record Wrote (before : List ℕ) (at : ℕ) (added after : List ℕ) (r : ℕ) : Type 0 where
  pub count : r ≡ at + length added
  pub fits : r ≤ length before
  pub room : length after ≡ length before
  pub whole : after ≡ take at before ++ (added ++ drop r before)

-- the text stands at the start of the buffer, and has r bytes, which a caller may lend; those from r on are as they were
pub record Printed (text before after : List ℕ) (r : ℕ) : Type 0 where
  pub count : r ≡ length text
  pub fits : r ≤ length after
  pub part : r ≡ length (take r after)
  pub whole : after ≡ text ++ drop r before

-- ---- what a number's digits are worth: a law says that `decimal` is the number

-- the value of digits, from the left
abbrev pub value_from : ℕ → List ℕ → ℕ
value_from n [] = n
value_from n (d ∷ ds) = value_from (10 * n + (d - 48)) ds

abbrev pub value_of : List ℕ → ℕ
value_of ds = value_from 0 ds
