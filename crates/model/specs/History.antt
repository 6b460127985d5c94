-- Histories, replay and legal orders: document 01, 'The log' (its rules on operations) and 'Replay and legality', with card 1's read-backs, card 5's
-- starting table and card 7's times. Assumes nothing.
use Rattle.std.specs.Prelude.{ℕ, ◌+◌, Bool, true, not, cond, ◌&&◌, ◌||◌, List, [], ◌∷◌, map, eqb, ltb, leb, length, get_or, set}
use Rattle.model.specs.Lists.{implies, all, any, keep, keep_after, all_after, first_or, fold, up_to, count, place, up_to_element}

-- An operation: kind 0 is a read and 1 a write. A write's argument is its value; a read's is the number of the transaction whose write it saw,
-- or 65535 for the starting value.
pub record Operation : Type 0 where
  pub kind : ℕ
  pub key : ℕ
  pub argument : ℕ

-- A transaction: the cabinet that sent it, its operations in body order, and its times in seconds on the office clock: its begin, and its end with the drift
-- added. All numbers are natural ones, so no sum wraps. In a window without times both are 0.
pub record Transaction : Type 0 where
  pub cabinet : ℕ
  pub operations : List Operation
  pub begin : ℕ
  pub until : ℕ

-- one without times
abbrev pub untimed : ℕ → List Operation → Transaction
untimed cabinet operations = record { cabinet = cabinet; operations = operations; begin = 0; until = 0 }

-- Transactions are numbered from 0 in contents order: a transaction's number is its place.
abbrev pub History : Type 0
History = List Transaction

-- what a read of the starting value names
abbrev pub start : ℕ
start = 65535

-- the count of transactions, T
abbrev pub size : History → ℕ
size h = length h

abbrev pub no_transaction : Transaction
no_transaction = untimed 0 []

abbrev pub cabinet_of : History → ℕ → ℕ
cabinet_of h t = (get_or h t no_transaction).cabinet

abbrev pub operations_of : History → ℕ → List Operation
operations_of h t = (get_or h t no_transaction).operations

abbrev pub begin_of : History → ℕ → ℕ
begin_of h t = (get_or h t no_transaction).begin

abbrev pub until_of : History → ℕ → ℕ
until_of h t = (get_or h t no_transaction).until

abbrev pub is_read : Operation → Bool
is_read o = eqb o.kind 0

abbrev pub is_write : Operation → Bool
is_write o = eqb o.kind 1

-- A read-back: a read of a key that its transaction has written before. It is a question of the read's place, not of what it says: `earlier` is
-- what stands before it in its transaction.
unfoldable pub is_read_back : List Operation → Operation → Bool
is_read_back earlier o = is_read o && any (λ p. is_write p && eqb p.key o.key) earlier

-- The operations of a transaction without its read-backs: the reads among them look at what earlier transactions left. Readers, known edges,
-- constraints, the reads of a replay and legality share this list, so that a read-back adds nothing to any of them.
unfoldable pub outward : List Operation → List Operation
outward os = keep_after (λ earlier o. not (is_read_back earlier o)) [] os

-- the read-backs of a transaction: the write before each explains it
unfoldable pub read_backs : List Operation → List Operation
read_backs os = keep_after is_read_back [] os

abbrev pub outward_of : History → ℕ → List Operation
outward_of h t = outward (operations_of h t)

-- the same history, each transaction without its read-backs
unfoldable pub without_read_backs : History → History
without_read_backs h = map (λ (x : Transaction). record { cabinet = x.cabinet; operations = outward x.operations; begin = x.begin; until = x.until }) h

-- ---- what Load lets through

-- among these operations a key has at most one read and one write, the read first
unfoldable pub keys_once : List Operation → List Operation → Bool
keys_once earlier [] = true
keys_once earlier (o ∷ os) = all (λ p. implies (eqb p.key o.key) (is_read p && is_write o)) earlier && keys_once (o ∷ earlier) os

-- kind 0 or 1, key 0 to 31, a read's argument below T or 65535, a write's value of 16 bits
unfoldable pub good_operation : ℕ → Operation → Bool
good_operation n o =
    ltb o.kind 2 && (ltb o.key 32 && (ltb o.argument 65536 && implies (is_read o) (ltb o.argument n || eqb o.argument start)))

-- In one transaction a key has at most one read that looks at earlier transactions, then one write, then one read-back, which names the
-- transaction itself.
unfoldable pub good_keys : ℕ → List Operation → Bool
good_keys t os = keys_once [] (outward os) && (keys_once [] (read_backs os) && all (λ o. eqb o.argument t) (read_backs os))

unfoldable pub good_transaction : History → ℕ → Bool
good_transaction h t = ltb (cabinet_of h t) 16 && (all (good_operation (size h)) (operations_of h t) && good_keys t (operations_of h t))

-- how many operations there are
abbrev pub operation_count : History → ℕ
operation_count h = fold (λ n (t : Transaction). n + length t.operations) 0 h

unfoldable pub well_formed : History → Bool
well_formed h = leb (size h) 32 && (leb (operation_count h) 256 && all (good_transaction h) (up_to (size h)))

-- ---- reads, writes, replay

-- transaction t writes key k
unfoldable pub writes : History → ℕ → ℕ → Bool
writes h t k = any (λ o. is_write o && eqb o.key k) (operations_of h t)

-- transaction t has a read of key k that looks at earlier transactions and names u (or the starting value, where u is 65535)
unfoldable pub reads : History → ℕ → ℕ → ℕ → Bool
reads h t k u = any (λ o. is_read o && (eqb o.key k && eqb o.argument u)) (outward_of h t)

-- the last writer of key k in a run of transactions, or d where there is none
unfoldable pub last_writer : History → ℕ → ℕ → List ℕ → ℕ
last_writer h k d [] = d
last_writer h k d (x ∷ xs) = last_writer h k (cond (writes h x k) x d) xs

-- A read by t is explained when the last earlier writer of its key is the transaction it names, or, for 65535, when there is no earlier writer.
-- What stands before t does not hold t itself: a transaction never explains a read of its own that looks at earlier ones.
unfoldable pub explained : History → List ℕ → ℕ → Operation → Bool
explained h o t r = eqb (last_writer h r.key start (up_to_element t o)) r.argument

-- Every read that looks at earlier transactions is explained. A read-back is explained by the write before it, in every order: Load takes only those that
-- name their own transaction. So in a loaded log this is `every_read_names_what_it_sees` (theorem `explained_by_what_it_sees`).
unfoldable pub every_read_explained : History → List ℕ → Bool
every_read_explained h o = all (λ t. all (λ r. implies (is_read r) (explained h o t r)) (outward_of h t)) (up_to (size h))

-- What a read by t sees in an order, by its place: its own transaction's write, where a write of the key stands before it in t; else the write of the last
-- earlier writer of the key, or the start.
unfoldable pub sees : History → List ℕ → ℕ → List Operation → Operation → ℕ
sees h o t earlier r = cond (is_read_back earlier r) t (last_writer h r.key start (up_to_element t o))

-- all reads, read-backs too
unfoldable pub every_read_names_what_it_sees : History → List ℕ → Bool
every_read_names_what_it_sees h o =
    all (λ t. all_after (λ earlier r. implies (is_read r) (eqb (sees h o t earlier r) r.argument)) [] (operations_of h t)) (up_to (size h))

-- an order holds every number below T once and nothing else
unfoldable pub is_order : ℕ → List ℕ → Bool
is_order n o = all (λ x. ltb x n) o && all (λ t. eqb (count t o) 1) (up_to n)

-- u stands before v in the order
abbrev pub before : List ℕ → ℕ → ℕ → Bool
before o u v = ltb (place u o) (place v o)

-- A cabinet's own order is the contents order of its transactions: one cabinet sent both, and u comes first in the contents.
abbrev pub sent_before : History → ℕ → ℕ → Bool
sent_before h u v = ltb u v && eqb (cabinet_of h u) (cabinet_of h v)

-- By the office clock u ended before v began: u's end with the drift added is less than v's begin. Equal seconds order nothing (in source document 003 they do).
abbrev pub ends_before : History → ℕ → ℕ → Bool
ends_before h u v = ltb (until_of h u) (begin_of h v)

-- What a legal order keeps besides its reads: u before v wherever their cabinet sent u first, or u ended, with the drift added, before v began.
abbrev pub must_precede : History → ℕ → ℕ → Bool
must_precede h u v = sent_before h u v || ends_before h u v

unfoldable pub keeps_precedence : History → List ℕ → Bool
keeps_precedence h o =
    all (λ u. all (λ v. implies (must_precede h u v) (before o u v)) (up_to (size h))) (up_to (size h))

-- An order is legal when it holds every number below T once and nothing else, keeps each cabinet's own order and that of the office clock, and has every
-- read explained.
unfoldable pub legal : History → List ℕ → Bool
legal h o = is_order (size h) o && (keeps_precedence h o && every_read_explained h o)

-- ---- the replay's table

-- one transaction's writes are stored
unfoldable pub stored : History → List ℕ → ℕ → List ℕ
stored h table t = fold (λ tb o. set tb o.key o.argument) table (keep is_write (operations_of h t))

-- Replay runs the transactions one after another, from a starting table: the reads look at the table as earlier transactions left it (a read-back at the
-- write before it), then the writes are stored. Reads change nothing: `sees` says whose write they see, `value_seen` its value.
unfoldable pub replay : History → List ℕ → List ℕ → List ℕ
replay h table o = fold (stored h) table o

-- ---- values: what a read sees, and what it names

-- what a run of operations leaves at key k, where v stood: the value of the last write of it
abbrev pub left_at : ℕ → ℕ → List Operation → ℕ
left_at k v os = fold (λ x o. cond (is_write o && eqb o.key k) o.argument x) v os

-- the value that transaction u wrote at key k; 0 where it writes none
abbrev pub value_written : History → ℕ → ℕ → ℕ
value_written h u k = left_at k 0 (operations_of h u)

-- the value that stands for u at key k: what transaction u wrote there, or, for the start, the starting table's
abbrev pub value_of : History → List ℕ → ℕ → ℕ → ℕ
value_of h table k u = cond (eqb u start) (get_or table k 0) (value_written h u k)

-- The value that a read by t sees in the replay of an order from a starting table: the one that replay's table has at its key when t comes; a
-- read-back sees that of the write before it, the nearest in `earlier`. The theorem `every_read_sees_its_writers_value_lem` ties it to `sees`.
unfoldable pub value_seen : History → List ℕ → List ℕ → ℕ → List Operation → Operation → ℕ
value_seen h table o t earlier r =
    cond (is_read_back earlier r) (first_or r (λ p. is_write p && eqb p.key r.key) earlier).argument (get_or (replay h table (up_to_element t o)) r.key 0)

-- of every read, read-backs too, the value seen is that of the write, or of the start, that `sees` names ..
unfoldable pub every_read_sees_its_writers_value : History → List ℕ → List ℕ → Bool
every_read_sees_its_writers_value h table o =
    all (λ t. all_after (λ earlier r. implies (is_read r) (eqb (value_seen h table o t earlier r) (value_of h table r.key (sees h o t earlier r)))) [] (operations_of h t)) (up_to (size h))

-- .. and that of the one that the read itself names: for 65535 the starting table's
unfoldable pub every_read_sees_the_value_it_names : History → List ℕ → List ℕ → Bool
every_read_sees_the_value_it_names h table o =
    all (λ t. all_after (λ earlier r. implies (is_read r) (eqb (value_seen h table o t earlier r) (value_of h table r.key r.argument))) [] (operations_of h t)) (up_to (size h))
