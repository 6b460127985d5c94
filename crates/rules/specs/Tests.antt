-- The tests of a body as the code makes them: from its fields and three masks of keys. Laws in `logs` say that they are the model's. Assumes nothing.
use Rattle.std.specs.Prelude.{ℕ, ◌^◌, ◌/◌, ◌%◌, Bool, cond, ◌||◌, eqb, ltb}
use Rattle.std.specs.Int.Bits.{bit_and, bit_or}
use Rattle.model.specs.Lists.{bit}
use Rattle.model.specs.History.{start}
use Rattle.rules.specs.declared.Body.{Body}
use Rattle.rules.specs.declared.Seen.{Seen}

-- a read's argument below n, or 65535
unfoldable pub named : ℕ → ℕ → Bool
named n argument = ltb argument n || eqb argument start

-- a read-back by t, the second of its key or not
unfoldable pub back_by : ℕ → Bool → ℕ → ℕ
back_by t second argument = cond second 10 (cond (eqb argument t) 0 11)

-- a read of a key by t, in a log of n transactions, after reads, writes and read-backs of these keys
unfoldable pub read_by : ℕ → ℕ → ℕ → ℕ → ℕ → ℕ → ℕ → ℕ
read_by n t reads writes backs key argument =
    cond (named n argument) (cond (bit writes key) (back_by t (bit backs key) argument) (cond (bit reads key) 10 0)) 9

-- a write of a key after writes of these keys
unfoldable pub write_by : ℕ → ℕ → ℕ
write_by writes key = cond (bit writes key) 34 0

-- a body of t, after reads, writes and read-backs of these keys
unfoldable pub body_by : Body → ℕ → ℕ → ℕ → ℕ → ℕ → ℕ
body_by o n t reads writes backs =
    cond (ltb 1 o.kind) 7
    (cond (ltb 31 o.key) 8
    (cond (eqb o.kind 0) (read_by n t reads writes backs o.key o.argument) (write_by writes o.key)))

-- the mask with the key, where the kind is the one that is marked
unfoldable pub mark_by : ℕ → ℕ → ℕ → ℕ → ℕ
mark_by mask kind which key = cond (eqb kind which) (bit_or mask (2 ^ key)) mask

-- the mask of the keys read back, with the key where the body reads it after a write of it
unfoldable pub mark_back : ℕ → ℕ → ℕ → ℕ → ℕ
mark_back backs writes kind key = cond (bit writes key) (mark_by backs kind 0 key) backs

-- the keys after a body
abbrev pub after_by : Seen → Body → Seen
after_by s o =
    record { reads = mark_by s.reads o.kind 0 o.key; writes = mark_by s.writes o.kind 1 o.key; backs = mark_back s.backs s.writes o.kind o.key }

-- a body after reads and writes of these keys, as bits of which none is set where it is good and no read-back
unfoldable pub faults_by : Body → ℕ → ℕ → ℕ → ℕ
faults_by o n reads writes =
    let key = o.key % 32 in
    let read = mark_by 0 o.kind 0 key in
    bit_or (bit_or (bit_or (o.kind / 2) (o.key / 32)) (bit_or (bit_and reads read) (bit_and writes (bit_or 0 (2 ^ key))))) (cond (named n o.argument) 0 read)

-- all bits where a mask stays, none where it is dropped
unfoldable pub keep_word : Bool → ℕ
keep_word stays = cond stays 4294967295 0
