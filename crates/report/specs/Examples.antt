-- What Judge prints for a few inputs, document 01's example first: rows of one list that one theorem covers, by computation. Assumes nothing.
use Rattle.std.specs.Prelude.{ℕ, ◌≡◌, refl, List, [], ◌∷◌}
use Rattle.model.specs.Lists.{All, bit}
use Rattle.model.specs.History.{is_read_back, outward, writes, reads, last_writer, explained, every_read_explained, is_order, keeps_precedence, legal, stored, replay}
use Rattle.model.specs.Log.{pair_at, counts_before, first_number, entry_number, seen, back_at, seen_back, again, body_number, bodies_number, load_number, transaction_at, history_of}
use Rattle.model.specs.Search.{arrangements, first_legal}
use Rattle.report.specs.Text.{letters, digits, number_text, refused_text, order_text, key_text, line_if, table_text, found_text}
use Rattle.report.specs.Judge.{written, decided_text, judge_text}

-- an input, and what is printed for it
pub record Example : Type 0 where
  pub input : List ℕ
  pub text : List ℕ

abbrev example : List ℕ → List ℕ → Example
example input text = record { input = input; text = text }

abbrev pub examples : List Example
examples =
    -- document 01's own
    example (0x02 ∷ 0x00 ∷ 0x03 ∷ 0x00 ∷ 0x00 ∷ 0x02 ∷ 0x00 ∷ 0x00 ∷ 0x01 ∷ 0x01 ∷ 0x02 ∷ 0x00 ∷ 0x00 ∷ 0x00 ∷ 0x01 ∷ 0x00 ∷ 0x01 ∷ 0x01 ∷ 0x07 ∷ 0x00 ∷ 0x01 ∷ 0x00 ∷ 0x05 ∷ 0x00 ∷ [])
    (letters "order 1 0\nkey 0 value 5\nkey 1 value 7\n")
    -- no transactions
    ∷ example (0x00 ∷ 0x00 ∷ 0x00 ∷ 0x00 ∷ []) (letters "order\n")
    -- history B
    ∷ example (0x02 ∷ 0x00 ∷ 0x04 ∷ 0x00 ∷ 0x00 ∷ 0x02 ∷ 0x00 ∷ 0x00 ∷ 0x01 ∷ 0x02 ∷ 0x02 ∷ 0x00 ∷ 0x00 ∷ 0x00 ∷ 0xff ∷ 0xff ∷ 0x01 ∷ 0x01 ∷ 0x07 ∷ 0x00 ∷ 0x00 ∷ 0x01 ∷ 0xff ∷ 0xff ∷ 0x01 ∷ 0x00 ∷ 0x07 ∷ 0x00 ∷ [])
    (letters "no order\n")
    -- three bytes
    ∷ example (0x00 ∷ 0x00 ∷ 0x00 ∷ []) (letters "refused 1\n")
    -- no bytes
    ∷ example [] (letters "refused 1\n")
    -- the last key, with the largest value
    ∷ example (0x01 ∷ 0x00 ∷ 0x01 ∷ 0x00 ∷ 0x0f ∷ 0x01 ∷ 0x00 ∷ 0x00 ∷ 0x01 ∷ 0x1f ∷ 0xff ∷ 0xff ∷ [])
    (letters "order 0\nkey 31 value 65535\n")
    -- a write that its transaction reads back
    ∷ example (0x01 ∷ 0x00 ∷ 0x02 ∷ 0x00 ∷ 0x00 ∷ 0x02 ∷ 0x00 ∷ 0x00 ∷ 0x01 ∷ 0x00 ∷ 0x07 ∷ 0x00 ∷ 0x00 ∷ 0x00 ∷ 0x00 ∷ 0x00 ∷ [])
    (letters "order 0\nkey 0 value 7\n")
    -- a read after the write of the key that names the start
    ∷ example (0x01 ∷ 0x00 ∷ 0x02 ∷ 0x00 ∷ 0x00 ∷ 0x02 ∷ 0x00 ∷ 0x00 ∷ 0x01 ∷ 0x00 ∷ 0x07 ∷ 0x00 ∷ 0x00 ∷ 0x00 ∷ 0xff ∷ 0xff ∷ [])
    (letters "refused 11\n")
    -- a second write of a key in its transaction
    ∷ example (0x01 ∷ 0x00 ∷ 0x02 ∷ 0x00 ∷ 0x00 ∷ 0x02 ∷ 0x00 ∷ 0x00 ∷ 0x01 ∷ 0x00 ∷ 0x07 ∷ 0x00 ∷ 0x01 ∷ 0x00 ∷ 0x07 ∷ 0x00 ∷ [])
    (letters "refused 34\n")
    -- a byte more than the counts say, and one less
    ∷ example (0x01 ∷ 0x00 ∷ 0x00 ∷ 0x00 ∷ 0x00 ∷ 0x00 ∷ 0x00 ∷ 0x00 ∷ 0x00 ∷ []) (letters "refused 35\n")
    ∷ example (0x01 ∷ 0x00 ∷ 0x00 ∷ 0x00 ∷ 0x00 ∷ 0x00 ∷ 0x00 ∷ []) (letters "refused 3\n")
    ∷ []

pub examples_printed : All (λ (e : Example). judge_text e.input ≡ e.text) examples
unfolding bit is_read_back outward writes reads last_writer explained every_read_explained is_order keeps_precedence legal stored replay arrangements first_legal pair_at counts_before first_number entry_number seen back_at seen_back again body_number bodies_number load_number transaction_at history_of digits number_text refused_text order_text key_text line_if table_text found_text written decided_text judge_text
examples_printed = (refl, (refl, (refl, (refl, (refl, (refl, (refl, (refl, (refl, (refl, (refl, tt)))))))))))
