-- The tables that everything else reads: who writes each key, the reads as numbers, and the reads by what they name. Assumes nothing.
use Rattle.std.specs.Prelude.{ℕ, ◌+◌, ◌-◌, ◌*◌, ◌/◌, ◌%◌, ◌^◌, ◌≤◌, ◌<◌, ◌≡◌, Bool, false, not, cond, ◌&&◌, List, ◌++◌, map, eqb, ltb, length, get_or, set, take}
use Rattle.std.specs.Int.Bits.{bit_or}
use Rattle.model.specs.Lists.{keep, each, fold, up_to, bit, word_of}
use Rattle.model.specs.History.{History, Operation, start, size, operations_of, outward, is_read, is_write, writes, reads}
use Rattle.model.specs.Polygraph.{good_read, bad_read}
use Rattle.model.specs.Log.{count_at, load_number, history_of}
use Rattle.graph.specs.Masks.{put_if}

-- bit t of word k: t writes k
unfoldable pub writers_of : History → List ℕ
writers_of h = map (λ k. word_of 32 (λ t. writes h t k)) (up_to 32)

-- ---- the reads as numbers

-- a read by t: its key, t, its argument
abbrev pub packed_as : ℕ → ℕ → ℕ → ℕ
packed_as t key argument = (key * 256 + t) * 65536 + argument

unfoldable pub packed_read : ℕ → Operation → ℕ
packed_read t o = packed_as t o.key o.argument

-- and back: a key and a transaction are below 32
unfoldable pub key_in : ℕ → ℕ
key_in r = r / 16777216 % 32

unfoldable pub owner_in : ℕ → ℕ
owner_in r = r / 65536 % 32

unfoldable pub argument_in : ℕ → ℕ
argument_in r = r % 65536

-- of t, in body order: those that look at earlier transactions
unfoldable pub reads_in : ℕ → List Operation → List ℕ
reads_in t os = map (packed_read t) (keep is_read (outward os))

-- of all, in the order of the log
unfoldable pub reads_of : History → List ℕ
reads_of h = each (λ t. reads_in t (operations_of h t)) (up_to (size h))

-- ---- the reads by what they name

-- what the read table says of t at word i: below 1024, that t has a good read of key i / 32 from i % 32;
-- from 1024 on, that t reads key i - 1024 at start; at 1056, that t has a bad read
unfoldable pub read_mark : History → ℕ → ℕ → Bool
read_mark h i t = cond (ltb i 1024) (good_read h (i / 32) t (i % 32)) (cond (ltb i 1056) (reads h t (i - 1024) start) (bad_read h t))

unfoldable pub read_marks_of : History → List ℕ
read_marks_of h = map (λ i. word_of 32 (read_mark h i)) (up_to 1057)

-- the word of the read table for a read of a key with an argument, by t, where w are the key's writers
unfoldable pub slot_by : ℕ → ℕ → ℕ → ℕ → ℕ
slot_by w t key argument =
    cond (eqb argument start) (1024 + key) (cond (ltb argument 32 && (not (eqb argument t) && bit w argument)) (key * 32 + argument) 1056)

abbrev pub slot_of : List ℕ → ℕ → Operation → ℕ
slot_of writers t o = slot_by (get_or writers o.key 0) t o.key o.argument

-- for a read as a number
unfoldable pub slot_in : List ℕ → ℕ → ℕ
slot_in writers r = slot_by (get_or writers (key_in r) 0) (owner_in r) (key_in r) (argument_in r)

-- the numbers of the words to which the first reads go
abbrev pub SlotsOf : List ℕ → List ℕ → ℕ → List ℕ → Type 0
SlotsOf writers reads count slots = (i : ℕ) → i < count → get_or slots i 0 ≡ slot_in writers (get_or reads i 0)

-- ---- how the code fills a table: it puts sets into words

-- the set x goes into word i
unfoldable pub put_at : List ℕ → ℕ → ℕ → List ℕ
put_at w i x = set w i (bit_or (get_or w i 0) x)

-- an operation of t goes into the writers
unfoldable pub write_step : ℕ → List ℕ → Operation → List ℕ
write_step t w o = put_at w o.key (put_if 0 t (is_write o))

-- all operations of t
unfoldable pub writes_step : History → List ℕ → ℕ → List ℕ
writes_step h w t = fold (write_step t) w (operations_of h t)

-- a read goes into the read table
unfoldable pub mark_step : List ℕ → List ℕ → ℕ → List ℕ
mark_step writers w r = put_at w (slot_in writers r) (2 ^ owner_in r)

-- ---- what a log that Load takes is decoded to

-- 32 words, none of which has t yet: then t in a word says that t has written the key by now
pub record Unmarked (t : ℕ) (w : List ℕ) : Type 0 where
  pub long : length w ≡ 32
  pub none : (k : ℕ) → bit (get_or w k 0) t ≡ false

-- the operations of t: its writes in the writers, its reads that look at earlier transactions behind the first `from`
pub record DecodedOne (b : List ℕ) (t from : ℕ) (ws rs writers reads : List ℕ) (count : ℕ) : Type 0 where
  pub writers_with : writers ≡ fold (write_step t) ws (operations_of (history_of b) t)
  pub reads_behind : take count reads ≡ take from rs ++ reads_in t (operations_of (history_of b) t)
  pub room : count ≤ from + count_at b t
  pub long : length reads ≡ 256

-- all of it
pub record Decoded (b writers reads : List ℕ) (count : ℕ) : Type 0 where
  pub loads : load_number b ≡ 0
  pub writers_are : writers ≡ writers_of (history_of b)
  pub reads_are : take count reads ≡ reads_of (history_of b)
  pub room : count ≤ 256
  pub long : length reads ≡ 256

-- the same with the reads alone, and no place behind them
pub record DecodedTo (b writers reads : List ℕ) : Type 0 where
  pub loads : load_number b ≡ 0
  pub writers_are : writers ≡ writers_of (history_of b)
  pub reads_are : reads ≡ reads_of (history_of b)
  pub room : length reads ≤ 256
