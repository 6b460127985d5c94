-- Document 01's histories A to J, histories with read-backs, windows with times and the program's example, as logs, with a window for each number of Load: rows of
-- one list that one theorem covers, by computation. Assumes nothing.
use Rattle.std.specs.Prelude.{ℕ, ◌-◌, Bool, true, false, ◌&&◌, List, [], ◌∷◌, ◌++◌, map, T, eqb, length, get_or, replicate}
use Rattle.std.proofs.Math.Option.{Option, none, some}
use Rattle.model.specs.Lists.{all, bit}
use Rattle.model.specs.History.{Operation, Transaction, History, start, untimed, is_read_back, outward, writes, reads, last_writer, explained, every_read_explained, is_order, keeps_precedence, legal, stored, replay}
use Rattle.model.specs.Polygraph.{good_read, next_of_cabinet, start_read, bad_read, successor, chain_edge, edge, rows, Constraint, in_ends, plain_of, plain, between, joined, is_successor, is_head, tail_within, chained, constraints, with_side, through, reach, closed_off, pass, passes, polygraph, has}
use Rattle.model.specs.Lent.{encoded_list}
use Rattle.model.specs.Log.{pair_at, counts_before, first_number, entry_number, seen, back_at, seen_back, again, body_number, bodies_number, load_number, transaction_at, history_of}
use Rattle.model.specs.Times.{Times, times, no_times, untils, with_times, timed, timed_history, times_number, timed_number}
use Rattle.model.specs.Window.{window, window_number, zeros}
use Rattle.model.specs.Search.{arrangements, first_legal}

-- a read of a key from a transaction, or from start
abbrev read : ℕ → ℕ → Operation
read key u = record { kind = 0; key = key; argument = u }

abbrev write : ℕ → ℕ → Operation
write key value = record { kind = 1; key = key; argument = value }

abbrev sent : ℕ → List Operation → Transaction
sent c os = untimed c os

-- the same with a begin, and an end with the drift added
abbrev sent_at : ℕ → ℕ → ℕ → List Operation → Transaction
sent_at c from to os = record { cabinet = c; operations = os; begin = from; until = to }

-- What is said of a window: the number that Load gives, the history that it holds, and what document 01 says of that history.
pub data Claim : Type 0 where
  number : ℕ → Claim
  holding : History → Claim
  final : (order table : List ℕ) → Claim
  final_from : (starting order table : List ℕ) → Claim
  number_from : (starting : List ℕ) (n : ℕ) → Claim
  order : List ℕ → Claim
  no_order : Claim
  counts : ℕ → ℕ → ℕ → Claim
  left : (encoding pruning count : ℕ) → Claim
  joined_are : List (List ℕ) → Claim
  has_edge : (encoding u v : ℕ) → Claim
  pruned_has_edge : (encoding u v : ℕ) → Claim
  leaves : (encoding pruning : ℕ) (lent list : List (List ℕ)) → Claim
  edges_are : (encoding : ℕ) (words : List ℕ) → Claim
  judged_as : (other : List ℕ) → Claim

abbrev same : List ℕ → List ℕ → Bool
same [] [] = true
same [] (y ∷ ys) = false
same (x ∷ xs) [] = false
same (x ∷ xs) (y ∷ ys) = eqb x y && same xs ys

abbrev same_lists : List (List ℕ) → List (List ℕ) → Bool
same_lists [] [] = true
same_lists [] (y ∷ ys) = false
same_lists (x ∷ xs) [] = false
same_lists (x ∷ xs) (y ∷ ys) = same x y && same_lists xs ys

abbrev is_order_found : Option (List ℕ) → List ℕ → Bool
is_order_found none o = false
is_order_found (some p) o = same p o

abbrev is_none : Option (List ℕ) → Bool
is_none none = true
is_none (some p) = false

abbrev same_operation : Operation → Operation → Bool
same_operation p q = eqb p.kind q.kind && (eqb p.key q.key && eqb p.argument q.argument)

abbrev same_operations : List Operation → List Operation → Bool
same_operations [] [] = true
same_operations [] (y ∷ ys) = false
same_operations (x ∷ xs) [] = false
same_operations (x ∷ xs) (y ∷ ys) = same_operation x y && same_operations xs ys

abbrev same_history : History → History → Bool
same_history [] [] = true
same_history [] (y ∷ ys) = false
same_history (x ∷ xs) [] = false
same_history (x ∷ xs) (y ∷ ys) =
    (eqb x.cabinet y.cabinet && (same_operations x.operations y.operations && (eqb x.begin y.begin && eqb x.until y.until)))
    && same_history xs ys

abbrev fields : Constraint → List ℕ
fields c = c.fromA ∷ c.toA ∷ c.fromB ∷ c.toB ∷ []

abbrev constraint_of : List ℕ → Constraint
constraint_of l = record { fromA = get_or l 0 0; toA = get_or l 1 0; fromB = get_or l 2 0; toB = get_or l 3 0 }

-- the same known edges and constraints in a setting
abbrev same_polygraph : History → History → ℕ → ℕ → Bool
same_polygraph g h e p =
    same (polygraph g e p).known (polygraph h e p).known && same_lists (map fields (polygraph g e p).choices) (map fields (polygraph h e p).choices)

abbrev same_order : Option (List ℕ) → Option (List ℕ) → Bool
same_order none p = is_none p
same_order (some o) p = is_order_found p o

-- b the log, ts the times beside it, h the history of both
pub holds : List ℕ → Times → History → Claim → Bool
holds b ts h (number n) = eqb (timed_number b ts) n
holds b ts h (holding g) = same_history h g
holds b ts h (final o table) = is_order_found (first_legal h) o && same (replay h zeros o) table
-- the same from another starting table; and the number that Load gives beside one
holds b ts h (final_from s o table) = is_order_found (first_legal h) o && same (replay h s o) table
holds b ts h (number_from s n) = eqb (window_number (window b s ts)) n
holds b ts h (order o) = is_order_found (first_legal h) o
holds b ts h no_order = is_none (first_legal h)
holds b ts h (counts x y z) =
    eqb (length (constraints h 0)) x && (eqb (length (constraints h 1)) y && eqb (length (constraints h 2)) z)
holds b ts h (left e p n) = eqb (length (polygraph h e p).choices) n
holds b ts h (joined_are cs) = same_lists (map fields (joined h)) cs
holds b ts h (has_edge e u v) = edge h e u v
holds b ts h (pruned_has_edge e u v) = has (polygraph h e 1).known u v
holds b ts h (leaves e p lent list) = same_lists (map fields (encoded_list h e p (map constraint_of lent))) list
-- the first words; those behind them are 0
holds b ts h (edges_are e ws) = same (rows h e) (ws ++ replicate (32 - length ws) 0)
-- the same first legal order, and the same polygraph in all six settings, as another log without times
holds b ts h (judged_as c) =
    same_order (first_legal h) (first_legal (history_of c))
    && all (λ e. same_polygraph h (history_of c) e 0 && same_polygraph h (history_of c) e 1) (0 ∷ 1 ∷ 2 ∷ [])

-- a log with times, and what is said of it
pub record Row : Type 0 where
  pub log : List ℕ
  pub clock : Times
  pub claims : List Claim

-- without times, and with begins, ends and a drift
abbrev row : List ℕ → List Claim → Row
row b cs = record { log = b; clock = no_times; claims = cs }

abbrev at : List ℕ → (begins ends : List ℕ) → ℕ → List Claim → Row
at b begins ends drift cs = record { log = b; clock = times begins ends drift; claims = cs }

-- The logs of C and J, which are given times, and of C, E and F, which others are held against.
abbrev log_c : List ℕ
log_c = 0x02 ∷ 0x00 ∷ 0x02 ∷ 0x00 ∷ 0x00 ∷ 0x01 ∷ 0x00 ∷ 0x00 ∷ 0x01 ∷ 0x01 ∷ 0x01 ∷ 0x00 ∷ 0x01 ∷ 0x00 ∷ 0x07 ∷ 0x00 ∷ 0x01 ∷ 0x00 ∷ 0x07 ∷ 0x00 ∷ []

abbrev log_j : List ℕ
log_j = 0x02 ∷ 0x00 ∷ 0x02 ∷ 0x00 ∷ 0x00 ∷ 0x01 ∷ 0x00 ∷ 0x00 ∷ 0x01 ∷ 0x01 ∷ 0x01 ∷ 0x00 ∷ 0x01 ∷ 0x00 ∷ 0x07 ∷ 0x00 ∷ 0x00 ∷ 0x00 ∷ 0xff ∷ 0xff ∷ []

abbrev log_e : List ℕ
log_e =
    0x04 ∷ 0x00 ∷ 0x06 ∷ 0x00 ∷ 0x00 ∷ 0x01 ∷ 0x00 ∷ 0x00 ∷ 0x01 ∷ 0x02 ∷ 0x01 ∷ 0x00 ∷ 0x02 ∷ 0x01 ∷ 0x03 ∷ 0x00 ∷ 0x03 ∷ 0x02 ∷ 0x04 ∷ 0x00 ∷ 0x01 ∷ 0x00 ∷ 0x07 ∷ 0x00 ∷ 0x00 ∷ 0x00 ∷ 0x00 ∷ 0x00 ∷ 0x01 ∷ 0x00 ∷ 0x07 ∷ 0x00 ∷ 0x01 ∷ 0x00 ∷ 0x07 ∷ 0x00 ∷ 0x00 ∷ 0x00 ∷ 0x02 ∷ 0x00 ∷ 0x01 ∷ 0x00 ∷ 0x07 ∷ 0x00 ∷ []

abbrev log_f : List ℕ
log_f = 0x01 ∷ 0x00 ∷ 0x02 ∷ 0x00 ∷ 0x00 ∷ 0x02 ∷ 0x00 ∷ 0x00 ∷ 0x00 ∷ 0x00 ∷ 0x00 ∷ 0x00 ∷ 0x01 ∷ 0x00 ∷ 0x07 ∷ 0x00 ∷ []

-- k is key 0, m is key 1; a log's bytes stand as header, entries and bodies
abbrev pub table : List Row
table =
    -- A. T = 0: the empty order
    row (0x00 ∷ 0x00 ∷ 0x00 ∷ 0x00 ∷ [])
    (number 0 ∷ holding [] ∷ order [] ∷ final_from (9 ∷ (replicate 30 1 ++ (65535 ∷ []))) [] (9 ∷ (replicate 30 1 ++ (65535 ∷ []))) ∷ number_from [] 36 ∷ number_from (replicate 31 7) 36 ∷ number_from (replicate 32 7) 0 ∷ number_from (replicate 33 7) 36 ∷ [])
    -- B. 0 reads k at start, writes m; 1 reads m at start, writes k: no order
    ∷ row (0x02 ∷ 0x00 ∷ 0x04 ∷ 0x00 ∷ 0x00 ∷ 0x02 ∷ 0x00 ∷ 0x00 ∷ 0x01 ∷ 0x02 ∷ 0x02 ∷ 0x00 ∷ 0x00 ∷ 0x00 ∷ 0xff ∷ 0xff ∷ 0x01 ∷ 0x01 ∷ 0x07 ∷ 0x00 ∷ 0x00 ∷ 0x01 ∷ 0xff ∷ 0xff ∷ 0x01 ∷ 0x00 ∷ 0x07 ∷ 0x00 ∷ [])
    (number 0 ∷ holding (sent 0 (read 0 start ∷ write 1 7 ∷ []) ∷ sent 1 (read 1 start ∷ write 0 7 ∷ []) ∷ []) ∷ no_order ∷ [])
    -- C. 0 and 1 write k: order 0 1; constraints 0, 1, 1
    ∷ row log_c
    (number 0 ∷ holding (sent 0 (write 0 7 ∷ []) ∷ sent 1 (write 0 7 ∷ []) ∷ []) ∷ order (0 ∷ 1 ∷ []) ∷ counts 0 1 1 ∷ [])
    -- D. 0 and 1 write k; 2 and 3 read k from 0; 4 from 1: order 0 2 3 1 4; constraints 3, 1, 1; joined A is {2, 3} to 1, B is {4} to 0
    ∷ row (0x05 ∷ 0x00 ∷ 0x05 ∷ 0x00 ∷ 0x00 ∷ 0x01 ∷ 0x00 ∷ 0x00 ∷ 0x01 ∷ 0x01 ∷ 0x01 ∷ 0x00 ∷ 0x02 ∷ 0x01 ∷ 0x02 ∷ 0x00 ∷ 0x03 ∷ 0x01 ∷ 0x03 ∷ 0x00 ∷ 0x04 ∷ 0x01 ∷ 0x04 ∷ 0x00 ∷ 0x01 ∷ 0x00 ∷ 0x07 ∷ 0x00 ∷ 0x01 ∷ 0x00 ∷ 0x07 ∷ 0x00 ∷ 0x00 ∷ 0x00 ∷ 0x00 ∷ 0x00 ∷ 0x00 ∷ 0x00 ∷ 0x00 ∷ 0x00 ∷ 0x00 ∷ 0x00 ∷ 0x01 ∷ 0x00 ∷ [])
    (number 0 ∷ holding (sent 0 (write 0 7 ∷ []) ∷ sent 1 (write 0 7 ∷ []) ∷ sent 2 (read 0 0 ∷ []) ∷ sent 3 (read 0 0 ∷ []) ∷ sent 4 (read 0 1 ∷ []) ∷ []) ∷ order (0 ∷ 2 ∷ 3 ∷ 1 ∷ 4 ∷ []) ∷ counts 3 1 1 ∷ joined_are ((0b01100 ∷ 1 ∷ 0b10000 ∷ 0 ∷ []) ∷ []) ∷ [])
    -- E. 0 writes k; 1 reads it from 0 and writes it; 2 writes k; 3 reads it from 2 and writes it: order 0 1 2 3; constraints 4, 6, 1; joined and pruned 4
    ∷ row log_e
    (number 0 ∷ holding (sent 0 (write 0 7 ∷ []) ∷ sent 1 (read 0 0 ∷ write 0 7 ∷ []) ∷ sent 2 (write 0 7 ∷ []) ∷ sent 3 (read 0 2 ∷ write 0 7 ∷ []) ∷ []) ∷ order (0 ∷ 1 ∷ 2 ∷ 3 ∷ []) ∷ counts 4 6 1 ∷ left 1 1 4
    ∷ leaves 1 1 (replicate 7 (9 ∷ 9 ∷ 9 ∷ 9 ∷ []))
    ((2 ∷ 2 ∷ 8 ∷ 0 ∷ []) ∷ (2 ∷ 3 ∷ 8 ∷ 0 ∷ []) ∷ (2 ∷ 2 ∷ 8 ∷ 1 ∷ []) ∷ (2 ∷ 3 ∷ 8 ∷ 1 ∷ []) ∷ (0 ∷ 0 ∷ 0 ∷ 0 ∷ []) ∷ (0 ∷ 0 ∷ 0 ∷ 0 ∷ []) ∷ (9 ∷ 9 ∷ 9 ∷ 9 ∷ []) ∷ [])
    ∷ [])
    -- F. 0 reads k from 0, then writes k: no order, edge 0→0
    ∷ row log_f
    (number 0 ∷ holding (sent 0 (read 0 0 ∷ write 0 7 ∷ []) ∷ []) ∷ no_order ∷ has_edge 0 0 0 ∷ has_edge 1 0 0 ∷ has_edge 2 0 0 ∷ pruned_has_edge 0 0 0 ∷ pruned_has_edge 1 0 0 ∷ pruned_has_edge 2 0 0 ∷ [])
    -- G. 0 and 1 read k at start and write it: no order
    ∷ row (0x02 ∷ 0x00 ∷ 0x04 ∷ 0x00 ∷ 0x00 ∷ 0x02 ∷ 0x00 ∷ 0x00 ∷ 0x01 ∷ 0x02 ∷ 0x02 ∷ 0x00 ∷ 0x00 ∷ 0x00 ∷ 0xff ∷ 0xff ∷ 0x01 ∷ 0x00 ∷ 0x07 ∷ 0x00 ∷ 0x00 ∷ 0x00 ∷ 0xff ∷ 0xff ∷ 0x01 ∷ 0x00 ∷ 0x07 ∷ 0x00 ∷ [])
    (number 0 ∷ holding (sent 0 (read 0 start ∷ write 0 7 ∷ []) ∷ sent 1 (read 0 start ∷ write 0 7 ∷ []) ∷ []) ∷ no_order ∷ [])
    -- H. 0 reads k from 1, 1 writes k: order 1 0
    ∷ row (0x02 ∷ 0x00 ∷ 0x02 ∷ 0x00 ∷ 0x00 ∷ 0x01 ∷ 0x00 ∷ 0x00 ∷ 0x01 ∷ 0x01 ∷ 0x01 ∷ 0x00 ∷ 0x00 ∷ 0x00 ∷ 0x01 ∷ 0x00 ∷ 0x01 ∷ 0x00 ∷ 0x07 ∷ 0x00 ∷ [])
    (number 0 ∷ holding (sent 0 (read 0 1 ∷ []) ∷ sent 1 (write 0 7 ∷ []) ∷ []) ∷ order (1 ∷ 0 ∷ []) ∷ [])
    -- H. no order if one cabinet sent both
    ∷ row (0x02 ∷ 0x00 ∷ 0x02 ∷ 0x00 ∷ 0x00 ∷ 0x01 ∷ 0x00 ∷ 0x00 ∷ 0x00 ∷ 0x01 ∷ 0x01 ∷ 0x00 ∷ 0x00 ∷ 0x00 ∷ 0x01 ∷ 0x00 ∷ 0x01 ∷ 0x00 ∷ 0x07 ∷ 0x00 ∷ [])
    (number 0 ∷ holding (sent 0 (read 0 1 ∷ []) ∷ sent 0 (write 0 7 ∷ []) ∷ []) ∷ no_order ∷ [])
    -- I. 0 writes k; 1 and 2 read it from 0 and write it: no order; the successor of 0 is 1, so that encoding 2 has 2→1;
    -- joined and pruned, the pair 0, 1 gives 2→1 (B is closed off) and then the pair 0, 2 gives 2→0 (A is closed off)
    ∷ row (0x03 ∷ 0x00 ∷ 0x05 ∷ 0x00 ∷ 0x00 ∷ 0x01 ∷ 0x00 ∷ 0x00 ∷ 0x01 ∷ 0x02 ∷ 0x01 ∷ 0x00 ∷ 0x02 ∷ 0x02 ∷ 0x03 ∷ 0x00 ∷ 0x01 ∷ 0x00 ∷ 0x07 ∷ 0x00 ∷ 0x00 ∷ 0x00 ∷ 0x00 ∷ 0x00 ∷ 0x01 ∷ 0x00 ∷ 0x07 ∷ 0x00 ∷ 0x00 ∷ 0x00 ∷ 0x00 ∷ 0x00 ∷ 0x01 ∷ 0x00 ∷ 0x07 ∷ 0x00 ∷ [])
    (number 0 ∷ holding (sent 0 (write 0 7 ∷ []) ∷ sent 1 (read 0 0 ∷ write 0 7 ∷ []) ∷ sent 2 (read 0 0 ∷ write 0 7 ∷ []) ∷ []) ∷ no_order ∷ has_edge 2 2 1
    ∷ joined_are ((0b100 ∷ 1 ∷ 0b010 ∷ 0 ∷ []) ∷ (0b010 ∷ 2 ∷ 0b100 ∷ 0 ∷ []) ∷ (0b010 ∷ 2 ∷ 0b100 ∷ 1 ∷ []) ∷ [])
    ∷ pruned_has_edge 1 2 1 ∷ pruned_has_edge 1 2 0 ∷ [])
    -- J. 0 writes k; 1 reads k at start: order 1 0; the read gives 1→0
    ∷ row log_j
    (number 0 ∷ holding (sent 0 (write 0 7 ∷ []) ∷ sent 1 (read 0 start ∷ []) ∷ []) ∷ order (1 ∷ 0 ∷ []) ∷ final_from (replicate 32 65535) (1 ∷ 0 ∷ []) (7 ∷ replicate 31 65535) ∷ has_edge 0 1 0 ∷ [])
    -- a read-back: 0 writes k and reads it back: order 0, no edge, no constraint
    ∷ row (0x01 ∷ 0x00 ∷ 0x02 ∷ 0x00 ∷ 0x00 ∷ 0x02 ∷ 0x00 ∷ 0x00 ∷ 0x01 ∷ 0x00 ∷ 0x07 ∷ 0x00 ∷ 0x00 ∷ 0x00 ∷ 0x00 ∷ 0x00 ∷ [])
    (number 0 ∷ holding (sent 0 (write 0 7 ∷ read 0 0 ∷ []) ∷ []) ∷ final (0 ∷ []) (7 ∷ replicate 31 0) ∷ edges_are 0 [] ∷ edges_are 1 [] ∷ edges_are 2 [] ∷ counts 0 0 0 ∷ [])
    -- 0 reads k at start, writes it and reads it back: order 0, no edge, no constraint
    ∷ row (0x01 ∷ 0x00 ∷ 0x03 ∷ 0x00 ∷ 0x00 ∷ 0x03 ∷ 0x00 ∷ 0x00 ∷ 0x00 ∷ 0x00 ∷ 0xff ∷ 0xff ∷ 0x01 ∷ 0x00 ∷ 0x07 ∷ 0x00 ∷ 0x00 ∷ 0x00 ∷ 0x00 ∷ 0x00 ∷ [])
    (number 0 ∷ holding (sent 0 (read 0 start ∷ write 0 7 ∷ read 0 0 ∷ []) ∷ []) ∷ final (0 ∷ []) (7 ∷ replicate 31 0) ∷ final_from (3 ∷ replicate 31 4) (0 ∷ []) (7 ∷ replicate 31 4) ∷ edges_are 0 [] ∷ edges_are 1 [] ∷ edges_are 2 [] ∷ counts 0 0 0 ∷ [])
    -- 0 reads k from 0, writes it and reads it back: no order, edge 0→0, as F
    ∷ row (0x01 ∷ 0x00 ∷ 0x03 ∷ 0x00 ∷ 0x00 ∷ 0x03 ∷ 0x00 ∷ 0x00 ∷ 0x00 ∷ 0x00 ∷ 0x00 ∷ 0x00 ∷ 0x01 ∷ 0x00 ∷ 0x07 ∷ 0x00 ∷ 0x00 ∷ 0x00 ∷ 0x00 ∷ 0x00 ∷ [])
    (number 0 ∷ holding (sent 0 (read 0 0 ∷ write 0 7 ∷ read 0 0 ∷ []) ∷ []) ∷ no_order ∷ has_edge 0 0 0 ∷ has_edge 1 0 0 ∷ has_edge 2 0 0 ∷ judged_as log_f ∷ [])
    -- E with a read-back in each writer: the same order, counts, rows and constraints as E
    ∷ row (0x04 ∷ 0x00 ∷ 0x0a ∷ 0x00 ∷ 0x00 ∷ 0x02 ∷ 0x00 ∷ 0x00 ∷ 0x01 ∷ 0x03 ∷ 0x02 ∷ 0x00 ∷ 0x02 ∷ 0x02 ∷ 0x05 ∷ 0x00 ∷ 0x03 ∷ 0x03 ∷ 0x07 ∷ 0x00 ∷ 0x01 ∷ 0x00 ∷ 0x07 ∷ 0x00 ∷ 0x00 ∷ 0x00 ∷ 0x00 ∷ 0x00 ∷ 0x00 ∷ 0x00 ∷ 0x00 ∷ 0x00 ∷ 0x01 ∷ 0x00 ∷ 0x07 ∷ 0x00 ∷ 0x00 ∷ 0x00 ∷ 0x01 ∷ 0x00 ∷ 0x01 ∷ 0x00 ∷ 0x07 ∷ 0x00 ∷ 0x00 ∷ 0x00 ∷ 0x02 ∷ 0x00 ∷ 0x00 ∷ 0x00 ∷ 0x02 ∷ 0x00 ∷ 0x01 ∷ 0x00 ∷ 0x07 ∷ 0x00 ∷ 0x00 ∷ 0x00 ∷ 0x03 ∷ 0x00 ∷ [])
    (number 0 ∷ holding (sent 0 (write 0 7 ∷ read 0 0 ∷ []) ∷ sent 1 (read 0 0 ∷ write 0 7 ∷ read 0 1 ∷ []) ∷ sent 2 (write 0 7 ∷ read 0 2 ∷ []) ∷ sent 3 (read 0 2 ∷ write 0 7 ∷ read 0 3 ∷ []) ∷ []) ∷ order (0 ∷ 1 ∷ 2 ∷ 3 ∷ []) ∷ counts 4 6 1 ∷ edges_are 0 (2 ∷ 0 ∷ 8 ∷ []) ∷ judged_as log_e ∷ [])
    -- behind an empty transaction, 1 reads the last key at start, writes it, writes m, and reads both back: order 0 1, no edge, no constraint
    ∷ row (0x02 ∷ 0x00 ∷ 0x05 ∷ 0x00 ∷ 0x00 ∷ 0x00 ∷ 0x00 ∷ 0x00 ∷ 0x0f ∷ 0x05 ∷ 0x00 ∷ 0x00 ∷ 0x00 ∷ 0x1f ∷ 0xff ∷ 0xff ∷ 0x01 ∷ 0x1f ∷ 0x07 ∷ 0x00 ∷ 0x01 ∷ 0x01 ∷ 0x08 ∷ 0x00 ∷ 0x00 ∷ 0x1f ∷ 0x01 ∷ 0x00 ∷ 0x00 ∷ 0x01 ∷ 0x01 ∷ 0x00 ∷ [])
    (number 0 ∷ holding (sent 0 [] ∷ sent 15 (read 31 start ∷ write 31 7 ∷ write 1 8 ∷ read 31 1 ∷ read 1 1 ∷ []) ∷ []) ∷ final (0 ∷ 1 ∷ []) (0 ∷ 8 ∷ (replicate 29 0 ++ (7 ∷ []))) ∷ edges_are 0 [] ∷ edges_are 1 [] ∷ edges_are 2 [] ∷ counts 0 0 0 ∷ [])
    -- C where 1 ended before 0 began: order 1 0, and 1→0 in every encoding
    ∷ at log_c (10 ∷ 0 ∷ []) (20 ∷ 5 ∷ []) 0
    (number 0 ∷ holding (sent_at 0 10 20 (write 0 7 ∷ []) ∷ sent_at 1 0 5 (write 0 7 ∷ []) ∷ []) ∷ order (1 ∷ 0 ∷ []) ∷ edges_are 0 (0 ∷ 1 ∷ []) ∷ edges_are 1 (0 ∷ 1 ∷ []) ∷ edges_are 2 (0 ∷ 1 ∷ []) ∷ counts 0 1 1 ∷ left 1 1 0 ∷ left 2 1 0 ∷ [])
    -- C where 1 ended in the second in which 0 began: equal seconds order nothing
    ∷ at log_c (5 ∷ 0 ∷ []) (9 ∷ 5 ∷ []) 0
    (number 0 ∷ order (0 ∷ 1 ∷ []) ∷ edges_are 0 [] ∷ edges_are 1 [] ∷ edges_are 2 [] ∷ counts 0 1 1 ∷ left 1 1 1 ∷ [])
    -- C where both began and ended in one second
    ∷ at log_c (5 ∷ 5 ∷ []) (5 ∷ 5 ∷ []) 0
    (number 0 ∷ order (0 ∷ 1 ∷ []) ∷ edges_are 0 [] ∷ edges_are 1 [] ∷ edges_are 2 [] ∷ [])
    -- C where 1 began and ended in the second before
    ∷ at log_c (5 ∷ 4 ∷ []) (5 ∷ 4 ∷ []) 0
    (number 0 ∷ order (1 ∷ 0 ∷ []) ∷ edges_are 0 (0 ∷ 1 ∷ []) ∷ edges_are 1 (0 ∷ 1 ∷ []) ∷ edges_are 2 (0 ∷ 1 ∷ []) ∷ [])
    -- C where 0 ended before 1 began: 0 1 is the only legal order
    ∷ at log_c (0 ∷ 6 ∷ []) (5 ∷ 9 ∷ []) 0
    (number 0 ∷ order (0 ∷ 1 ∷ []) ∷ edges_are 0 (2 ∷ []) ∷ edges_are 1 (2 ∷ []) ∷ edges_are 2 (2 ∷ []) ∷ left 2 1 0 ∷ [])
    -- J where 0 ended before 1 began, against 1's read: no order
    ∷ at log_j (0 ∷ 10 ∷ []) (5 ∷ 20 ∷ []) 0
    (number 0 ∷ no_order ∷ has_edge 0 1 0 ∷ has_edge 0 0 1 ∷ has_edge 1 0 1 ∷ has_edge 2 0 1 ∷ [])
    -- C where 1 ended 5 seconds before 0 began: a drift of 4 leaves the edge ..
    ∷ at log_c (10 ∷ 0 ∷ []) (20 ∷ 5 ∷ []) 4
    (number 0 ∷ holding (sent_at 0 10 24 (write 0 7 ∷ []) ∷ sent_at 1 0 9 (write 0 7 ∷ []) ∷ []) ∷ order (1 ∷ 0 ∷ []) ∷ edges_are 0 (0 ∷ 1 ∷ []) ∷ edges_are 1 (0 ∷ 1 ∷ []) ∷ edges_are 2 (0 ∷ 1 ∷ []) ∷ [])
    -- .. and one of 5 takes it away
    ∷ at log_c (10 ∷ 0 ∷ []) (20 ∷ 5 ∷ []) 5
    (number 0 ∷ order (0 ∷ 1 ∷ []) ∷ edges_are 0 [] ∷ edges_are 1 [] ∷ edges_are 2 [] ∷ [])
    -- J with those times and the longest drift: the clock orders nothing
    ∷ at log_j (0 ∷ 10 ∷ []) (5 ∷ 20 ∷ []) 3600
    (number 0 ∷ order (1 ∷ 0 ∷ []) ∷ has_edge 0 1 0 ∷ edges_are 2 (0 ∷ 1 ∷ []) ∷ [])
    -- the last second but one of the clock is before the last ..
    ∷ at log_c (4294967295 ∷ 0 ∷ []) (4294967295 ∷ 4294967294 ∷ []) 0
    (number 0 ∷ order (1 ∷ 0 ∷ []) ∷ edges_are 0 (0 ∷ 1 ∷ []) ∷ edges_are 1 (0 ∷ 1 ∷ []) ∷ edges_are 2 (0 ∷ 1 ∷ []) ∷ [])
    -- .. and with a drift of 1 it is not: the sum is not less
    ∷ at log_c (4294967295 ∷ 0 ∷ []) (4294967295 ∷ 4294967294 ∷ []) 1
    (number 0 ∷ order (0 ∷ 1 ∷ []) ∷ edges_are 0 [] ∷ edges_are 1 [] ∷ edges_are 2 [] ∷ [])
    -- the sum does not wrap: 4,294,967,295 plus 3,600 is more than any begin, and so is 4,294,967,295 plus 1
    ∷ at log_c (4294967295 ∷ 0 ∷ []) (4294967295 ∷ 4294967295 ∷ []) 3600
    (number 0 ∷ holding (sent_at 0 4294967295 4294970895 (write 0 7 ∷ []) ∷ sent_at 1 0 4294970895 (write 0 7 ∷ []) ∷ []) ∷ order (0 ∷ 1 ∷ []) ∷ edges_are 0 [] ∷ edges_are 1 [] ∷ edges_are 2 [] ∷ [])
    ∷ at log_c (3600 ∷ 0 ∷ []) (3600 ∷ 4294967295 ∷ []) 1
    (number 0 ∷ order (0 ∷ 1 ∷ []) ∷ edges_are 0 [] ∷ edges_are 1 [] ∷ edges_are 2 [] ∷ [])
    -- 0 writes 5 to k and 1 writes 9: by the clock 1 came first, and k ends at 5; without times at 9
    ∷ at (0x02 ∷ 0x00 ∷ 0x02 ∷ 0x00 ∷ 0x00 ∷ 0x01 ∷ 0x00 ∷ 0x00 ∷ 0x01 ∷ 0x01 ∷ 0x01 ∷ 0x00 ∷ 0x01 ∷ 0x00 ∷ 0x05 ∷ 0x00 ∷ 0x01 ∷ 0x00 ∷ 0x09 ∷ 0x00 ∷ []) (10 ∷ 0 ∷ []) (20 ∷ 5 ∷ []) 0
    (final (1 ∷ 0 ∷ []) (5 ∷ replicate 31 0) ∷ final_from (replicate 32 7) (1 ∷ 0 ∷ []) (5 ∷ replicate 31 7) ∷ [])
    ∷ at (0x02 ∷ 0x00 ∷ 0x02 ∷ 0x00 ∷ 0x00 ∷ 0x01 ∷ 0x00 ∷ 0x00 ∷ 0x01 ∷ 0x01 ∷ 0x01 ∷ 0x00 ∷ 0x01 ∷ 0x00 ∷ 0x05 ∷ 0x00 ∷ 0x01 ∷ 0x00 ∷ 0x09 ∷ 0x00 ∷ []) [] [] 3600
    (final (0 ∷ 1 ∷ []) (9 ∷ replicate 31 0) ∷ [])
    -- three transactions one after another: an edge for each pair, not only for neighbours
    ∷ at (0x03 ∷ 0x00 ∷ 0x00 ∷ 0x00 ∷ 0x00 ∷ 0x00 ∷ 0x00 ∷ 0x00 ∷ 0x01 ∷ 0x00 ∷ 0x00 ∷ 0x00 ∷ 0x02 ∷ 0x00 ∷ 0x00 ∷ 0x00 ∷ []) (1 ∷ 3 ∷ 5 ∷ []) (2 ∷ 4 ∷ 6 ∷ []) 0
    (number 0 ∷ order (0 ∷ 1 ∷ 2 ∷ []) ∷ edges_are 0 (0b110 ∷ 0b100 ∷ []) ∷ edges_are 1 (0b110 ∷ 0b100 ∷ []) ∷ edges_are 2 (0b110 ∷ 0b100 ∷ []) ∷ [])
    -- the same backwards
    ∷ at (0x03 ∷ 0x00 ∷ 0x00 ∷ 0x00 ∷ 0x00 ∷ 0x00 ∷ 0x00 ∷ 0x00 ∷ 0x01 ∷ 0x00 ∷ 0x00 ∷ 0x00 ∷ 0x02 ∷ 0x00 ∷ 0x00 ∷ 0x00 ∷ []) (5 ∷ 3 ∷ 1 ∷ []) (6 ∷ 4 ∷ 2 ∷ []) 0
    (number 0 ∷ order (2 ∷ 1 ∷ 0 ∷ []) ∷ edges_are 0 (0 ∷ 0b001 ∷ 0b011 ∷ []) ∷ edges_are 1 (0 ∷ 0b001 ∷ 0b011 ∷ []) ∷ edges_are 2 (0 ∷ 0b001 ∷ 0b011 ∷ []) ∷ [])
    -- a cabinet's own order against the clock: no order
    ∷ at (0x02 ∷ 0x00 ∷ 0x00 ∷ 0x00 ∷ 0x00 ∷ 0x00 ∷ 0x00 ∷ 0x00 ∷ 0x00 ∷ 0x00 ∷ 0x00 ∷ 0x00 ∷ []) (5 ∷ 0 ∷ []) (6 ∷ 1 ∷ []) 0
    (number 0 ∷ no_order ∷ edges_are 0 (0b10 ∷ 0b01 ∷ []) ∷ edges_are 1 (0b10 ∷ 0b01 ∷ []) ∷ edges_are 2 (0b10 ∷ 0b01 ∷ []) ∷ [])
    -- the program's example with 0's operations exchanged: a read behind a write of another key looks at earlier transactions
    ∷ row (0x02 ∷ 0x00 ∷ 0x03 ∷ 0x00 ∷ 0x00 ∷ 0x02 ∷ 0x00 ∷ 0x00 ∷ 0x01 ∷ 0x01 ∷ 0x02 ∷ 0x00 ∷ 0x01 ∷ 0x01 ∷ 0x07 ∷ 0x00 ∷ 0x00 ∷ 0x00 ∷ 0x01 ∷ 0x00 ∷ 0x01 ∷ 0x00 ∷ 0x05 ∷ 0x00 ∷ [])
    (number 0 ∷ holding (sent 0 (write 1 7 ∷ read 0 1 ∷ []) ∷ sent 1 (write 0 5 ∷ []) ∷ []) ∷ final (1 ∷ 0 ∷ []) (5 ∷ 7 ∷ replicate 30 0) ∷ [])
    -- the program's example: order 1 0, key 0 value 5, key 1 value 7
    ∷ row (0x02 ∷ 0x00 ∷ 0x03 ∷ 0x00 ∷ 0x00 ∷ 0x02 ∷ 0x00 ∷ 0x00 ∷ 0x01 ∷ 0x01 ∷ 0x02 ∷ 0x00 ∷ 0x00 ∷ 0x00 ∷ 0x01 ∷ 0x00 ∷ 0x01 ∷ 0x01 ∷ 0x07 ∷ 0x00 ∷ 0x01 ∷ 0x00 ∷ 0x05 ∷ 0x00 ∷ [])
    (number 0 ∷ holding (sent 0 (read 0 1 ∷ write 1 7 ∷ []) ∷ sent 1 (write 0 5 ∷ []) ∷ []) ∷ final (1 ∷ 0 ∷ []) (5 ∷ 7 ∷ replicate 30 0) ∷ final_from (9 ∷ 9 ∷ (replicate 29 1 ++ (65535 ∷ []))) (1 ∷ 0 ∷ []) (5 ∷ 7 ∷ (replicate 29 1 ++ (65535 ∷ []))) ∷ [])
    -- three bytes: refused
    ∷ row (0x00 ∷ 0x00 ∷ 0x00 ∷ []) (number 1 ∷ number_from (replicate 32 7) 1 ∷ number_from (replicate 31 7) 36 ∷ [])
    -- T = 33 in three bytes: 1 stands before 2: refused
    ∷ row (0x21 ∷ 0x00 ∷ 0x00 ∷ []) (number 1 ∷ [])
    -- T = 33: refused
    ∷ row (0x21 ∷ 0x00 ∷ 0x00 ∷ 0x00 ∷ []) (number 2 ∷ [])
    -- N = 257: refused
    ∷ row (0x00 ∷ 0x00 ∷ 0x01 ∷ 0x01 ∷ []) (number 2 ∷ [])
    -- T = 33, N = 0 and 137 bytes, one more than they say: 2 stands before 35: refused
    ∷ row (0x21 ∷ 0x00 ∷ 0x00 ∷ 0x00 ∷ replicate 133 0) (number 2 ∷ [])
    -- the same with 135 bytes, one less: 2 stands before 3: refused
    ∷ row (0x21 ∷ 0x00 ∷ 0x00 ∷ 0x00 ∷ replicate 131 0) (number 2 ∷ [])
    -- N = 257 and 1,033 bytes, one more than they say, and the same with 1,031, one less: refused
    ∷ row (0x00 ∷ 0x00 ∷ 0x01 ∷ 0x01 ∷ replicate 1029 0) (number 2 ∷ [])
    ∷ row (0x00 ∷ 0x00 ∷ 0x01 ∷ 0x01 ∷ replicate 1027 0) (number 2 ∷ [])
    -- no transaction, and a byte more: refused
    ∷ row (0x00 ∷ 0x00 ∷ 0x00 ∷ 0x00 ∷ 0x00 ∷ []) (number 35 ∷ [])
    -- a write of k: taken
    ∷ row (0x01 ∷ 0x00 ∷ 0x01 ∷ 0x00 ∷ 0x00 ∷ 0x01 ∷ 0x00 ∷ 0x00 ∷ 0x01 ∷ 0x00 ∷ 0x07 ∷ 0x00 ∷ []) (number 0 ∷ [])
    -- the same with one byte more, and with four: refused
    ∷ row (0x01 ∷ 0x00 ∷ 0x01 ∷ 0x00 ∷ 0x00 ∷ 0x01 ∷ 0x00 ∷ 0x00 ∷ 0x01 ∷ 0x00 ∷ 0x07 ∷ 0x00 ∷ 0x00 ∷ []) (number 35 ∷ [])
    ∷ row (0x01 ∷ 0x00 ∷ 0x01 ∷ 0x00 ∷ 0x00 ∷ 0x01 ∷ 0x00 ∷ 0x00 ∷ 0x01 ∷ 0x00 ∷ 0x07 ∷ 0x00 ∷ 0x01 ∷ 0x01 ∷ 0x07 ∷ 0x00 ∷ []) (number 35 ∷ [])
    -- the same with one byte less, and with eight, the header alone: refused
    ∷ row (0x01 ∷ 0x00 ∷ 0x01 ∷ 0x00 ∷ 0x00 ∷ 0x01 ∷ 0x00 ∷ 0x00 ∷ 0x01 ∷ 0x00 ∷ 0x07 ∷ []) (number 3 ∷ [])
    ∷ row (0x01 ∷ 0x00 ∷ 0x01 ∷ 0x00 ∷ []) (number 3 ∷ [])
    -- cabinet 16 with a byte more, and with one less: 35 and 3 stand before 4: refused
    ∷ row (0x01 ∷ 0x00 ∷ 0x01 ∷ 0x00 ∷ 0x10 ∷ 0x01 ∷ 0x00 ∷ 0x00 ∷ 0x01 ∷ 0x00 ∷ 0x07 ∷ 0x00 ∷ 0x00 ∷ []) (number 35 ∷ [])
    ∷ row (0x01 ∷ 0x00 ∷ 0x01 ∷ 0x00 ∷ 0x10 ∷ 0x01 ∷ 0x00 ∷ 0x00 ∷ 0x01 ∷ 0x00 ∷ 0x07 ∷ []) (number 3 ∷ [])
    -- cabinet 16: refused
    ∷ row (0x01 ∷ 0x00 ∷ 0x00 ∷ 0x00 ∷ 0x10 ∷ 0x00 ∷ 0x00 ∷ 0x00 ∷ []) (number 4 ∷ [])
    -- cabinet 16 and start 1: 4 stands before 5: refused
    ∷ row (0x01 ∷ 0x00 ∷ 0x00 ∷ 0x00 ∷ 0x10 ∷ 0x00 ∷ 0x01 ∷ 0x00 ∷ []) (number 4 ∷ [])
    -- cabinet 16, and one count of 1 where N = 2: 4 stands before 6: refused
    ∷ row (0x01 ∷ 0x00 ∷ 0x02 ∷ 0x00 ∷ 0x10 ∷ 0x01 ∷ 0x00 ∷ 0x00 ∷ 0x01 ∷ 0x00 ∷ 0x07 ∷ 0x00 ∷ 0x01 ∷ 0x01 ∷ 0x07 ∷ 0x00 ∷ []) (number 4 ∷ [])
    -- start 1 of the first entry, and cabinet 16 in the next: the first entry that is refused has the number
    ∷ row (0x02 ∷ 0x00 ∷ 0x00 ∷ 0x00 ∷ 0x00 ∷ 0x00 ∷ 0x01 ∷ 0x00 ∷ 0x10 ∷ 0x00 ∷ 0x00 ∷ 0x00 ∷ []) (number 5 ∷ [])
    -- start 1 of the first entry, and one count of 1 where N = 2: 5 stands before 6: refused
    ∷ row (0x01 ∷ 0x00 ∷ 0x02 ∷ 0x00 ∷ 0x00 ∷ 0x01 ∷ 0x01 ∷ 0x00 ∷ 0x01 ∷ 0x00 ∷ 0x07 ∷ 0x00 ∷ 0x01 ∷ 0x01 ∷ 0x07 ∷ 0x00 ∷ []) (number 5 ∷ [])
    -- start 1 of the first entry: refused
    ∷ row (0x01 ∷ 0x00 ∷ 0x01 ∷ 0x00 ∷ 0x00 ∷ 0x01 ∷ 0x01 ∷ 0x00 ∷ 0x01 ∷ 0x00 ∷ 0x07 ∷ 0x00 ∷ []) (number 5 ∷ [])
    -- one count of 1, N = 2: refused
    ∷ row (0x01 ∷ 0x00 ∷ 0x02 ∷ 0x00 ∷ 0x00 ∷ 0x01 ∷ 0x00 ∷ 0x00 ∷ 0x01 ∷ 0x00 ∷ 0x07 ∷ 0x00 ∷ 0x01 ∷ 0x01 ∷ 0x07 ∷ 0x00 ∷ []) (number 6 ∷ [])
    -- the same with kind 2: 6 stands before 7: refused
    ∷ row (0x01 ∷ 0x00 ∷ 0x02 ∷ 0x00 ∷ 0x00 ∷ 0x01 ∷ 0x00 ∷ 0x00 ∷ 0x02 ∷ 0x00 ∷ 0x07 ∷ 0x00 ∷ 0x01 ∷ 0x01 ∷ 0x07 ∷ 0x00 ∷ []) (number 6 ∷ [])
    -- kind 2: refused
    ∷ row (0x01 ∷ 0x00 ∷ 0x01 ∷ 0x00 ∷ 0x00 ∷ 0x01 ∷ 0x00 ∷ 0x00 ∷ 0x02 ∷ 0x00 ∷ 0x07 ∷ 0x00 ∷ []) (number 7 ∷ [])
    -- kind 2 and key 32: 7 stands before 8: refused
    ∷ row (0x01 ∷ 0x00 ∷ 0x01 ∷ 0x00 ∷ 0x00 ∷ 0x01 ∷ 0x00 ∷ 0x00 ∷ 0x02 ∷ 0x20 ∷ 0x01 ∷ 0x00 ∷ []) (number 7 ∷ [])
    -- key 32: refused
    ∷ row (0x01 ∷ 0x00 ∷ 0x01 ∷ 0x00 ∷ 0x00 ∷ 0x01 ∷ 0x00 ∷ 0x00 ∷ 0x01 ∷ 0x20 ∷ 0x07 ∷ 0x00 ∷ []) (number 8 ∷ [])
    -- key 32, in a read that names transaction 1 of 1: 8 stands before 9: refused
    ∷ row (0x01 ∷ 0x00 ∷ 0x01 ∷ 0x00 ∷ 0x00 ∷ 0x01 ∷ 0x00 ∷ 0x00 ∷ 0x00 ∷ 0x20 ∷ 0x01 ∷ 0x00 ∷ []) (number 8 ∷ [])
    -- a read that names transaction 1 of 1: refused
    ∷ row (0x01 ∷ 0x00 ∷ 0x01 ∷ 0x00 ∷ 0x00 ∷ 0x01 ∷ 0x00 ∷ 0x00 ∷ 0x00 ∷ 0x1f ∷ 0x01 ∷ 0x00 ∷ []) (number 9 ∷ [])
    -- a read-back that names transaction 1 of 1: 9 stands before 11: refused
    ∷ row (0x01 ∷ 0x00 ∷ 0x02 ∷ 0x00 ∷ 0x00 ∷ 0x02 ∷ 0x00 ∷ 0x00 ∷ 0x01 ∷ 0x00 ∷ 0x07 ∷ 0x00 ∷ 0x00 ∷ 0x00 ∷ 0x01 ∷ 0x00 ∷ []) (number 9 ∷ [])
    -- a second read that names transaction 1 of 1: 9 stands before 10: refused
    ∷ row (0x01 ∷ 0x00 ∷ 0x02 ∷ 0x00 ∷ 0x00 ∷ 0x02 ∷ 0x00 ∷ 0x00 ∷ 0x00 ∷ 0x00 ∷ 0xff ∷ 0xff ∷ 0x00 ∷ 0x00 ∷ 0x01 ∷ 0x00 ∷ []) (number 9 ∷ [])
    -- a second read of a key that is not written: refused
    ∷ row (0x01 ∷ 0x00 ∷ 0x02 ∷ 0x00 ∷ 0x00 ∷ 0x02 ∷ 0x00 ∷ 0x00 ∷ 0x00 ∷ 0x00 ∷ 0xff ∷ 0xff ∷ 0x00 ∷ 0x00 ∷ 0xff ∷ 0xff ∷ []) (number 10 ∷ [])
    -- a second read before the write: refused
    ∷ row (0x01 ∷ 0x00 ∷ 0x03 ∷ 0x00 ∷ 0x00 ∷ 0x03 ∷ 0x00 ∷ 0x00 ∷ 0x00 ∷ 0x00 ∷ 0xff ∷ 0xff ∷ 0x00 ∷ 0x00 ∷ 0xff ∷ 0xff ∷ 0x01 ∷ 0x00 ∷ 0x07 ∷ 0x00 ∷ []) (number 10 ∷ [])
    -- a second write: refused
    ∷ row (0x01 ∷ 0x00 ∷ 0x02 ∷ 0x00 ∷ 0x00 ∷ 0x02 ∷ 0x00 ∷ 0x00 ∷ 0x01 ∷ 0x00 ∷ 0x07 ∷ 0x00 ∷ 0x01 ∷ 0x00 ∷ 0x07 ∷ 0x00 ∷ []) (number 34 ∷ [])
    -- a second write, where a read-back stands between: refused
    ∷ row (0x01 ∷ 0x00 ∷ 0x03 ∷ 0x00 ∷ 0x00 ∷ 0x03 ∷ 0x00 ∷ 0x00 ∷ 0x01 ∷ 0x00 ∷ 0x07 ∷ 0x00 ∷ 0x00 ∷ 0x00 ∷ 0x00 ∷ 0x00 ∷ 0x01 ∷ 0x00 ∷ 0x07 ∷ 0x00 ∷ []) (number 34 ∷ [])
    -- a second write after a read, the write and a read of another key: refused
    ∷ row (0x01 ∷ 0x00 ∷ 0x04 ∷ 0x00 ∷ 0x00 ∷ 0x04 ∷ 0x00 ∷ 0x00 ∷ 0x00 ∷ 0x00 ∷ 0xff ∷ 0xff ∷ 0x01 ∷ 0x00 ∷ 0x07 ∷ 0x00 ∷ 0x00 ∷ 0x01 ∷ 0xff ∷ 0xff ∷ 0x01 ∷ 0x00 ∷ 0x07 ∷ 0x00 ∷ []) (number 34 ∷ [])
    -- a second read and a second write in one transaction, the read first: refused
    ∷ row (0x01 ∷ 0x00 ∷ 0x04 ∷ 0x00 ∷ 0x00 ∷ 0x04 ∷ 0x00 ∷ 0x00 ∷ 0x00 ∷ 0x00 ∷ 0xff ∷ 0xff ∷ 0x00 ∷ 0x00 ∷ 0xff ∷ 0xff ∷ 0x01 ∷ 0x00 ∷ 0x07 ∷ 0x00 ∷ 0x01 ∷ 0x00 ∷ 0x07 ∷ 0x00 ∷ []) (number 10 ∷ [])
    -- the same of a read-back: refused
    ∷ row (0x01 ∷ 0x00 ∷ 0x04 ∷ 0x00 ∷ 0x00 ∷ 0x04 ∷ 0x00 ∷ 0x00 ∷ 0x01 ∷ 0x00 ∷ 0x07 ∷ 0x00 ∷ 0x00 ∷ 0x00 ∷ 0x00 ∷ 0x00 ∷ 0x00 ∷ 0x00 ∷ 0x00 ∷ 0x00 ∷ 0x01 ∷ 0x00 ∷ 0x07 ∷ 0x00 ∷ []) (number 10 ∷ [])
    -- the same of two keys: refused
    ∷ row (0x01 ∷ 0x00 ∷ 0x04 ∷ 0x00 ∷ 0x00 ∷ 0x04 ∷ 0x00 ∷ 0x00 ∷ 0x01 ∷ 0x00 ∷ 0x07 ∷ 0x00 ∷ 0x00 ∷ 0x01 ∷ 0xff ∷ 0xff ∷ 0x00 ∷ 0x01 ∷ 0xff ∷ 0xff ∷ 0x01 ∷ 0x00 ∷ 0x07 ∷ 0x00 ∷ []) (number 10 ∷ [])
    -- a second write and a second read-back in one transaction, the write first: refused
    ∷ row (0x01 ∷ 0x00 ∷ 0x04 ∷ 0x00 ∷ 0x00 ∷ 0x04 ∷ 0x00 ∷ 0x00 ∷ 0x01 ∷ 0x00 ∷ 0x07 ∷ 0x00 ∷ 0x01 ∷ 0x00 ∷ 0x07 ∷ 0x00 ∷ 0x00 ∷ 0x00 ∷ 0x00 ∷ 0x00 ∷ 0x00 ∷ 0x00 ∷ 0x00 ∷ 0x00 ∷ []) (number 34 ∷ [])
    -- the same, where one read-back stands between the writes: refused
    ∷ row (0x01 ∷ 0x00 ∷ 0x04 ∷ 0x00 ∷ 0x00 ∷ 0x04 ∷ 0x00 ∷ 0x00 ∷ 0x01 ∷ 0x00 ∷ 0x07 ∷ 0x00 ∷ 0x00 ∷ 0x00 ∷ 0x00 ∷ 0x00 ∷ 0x01 ∷ 0x00 ∷ 0x07 ∷ 0x00 ∷ 0x00 ∷ 0x00 ∷ 0x00 ∷ 0x00 ∷ []) (number 34 ∷ [])
    -- a second write, and behind it a second read of another key, which is not written: refused
    ∷ row (0x01 ∷ 0x00 ∷ 0x04 ∷ 0x00 ∷ 0x00 ∷ 0x04 ∷ 0x00 ∷ 0x00 ∷ 0x00 ∷ 0x01 ∷ 0xff ∷ 0xff ∷ 0x01 ∷ 0x00 ∷ 0x07 ∷ 0x00 ∷ 0x01 ∷ 0x00 ∷ 0x07 ∷ 0x00 ∷ 0x00 ∷ 0x01 ∷ 0xff ∷ 0xff ∷ []) (number 34 ∷ [])
    -- a second write and behind it a read-back that names the start: the first body that is refused has the number
    ∷ row (0x01 ∷ 0x00 ∷ 0x03 ∷ 0x00 ∷ 0x00 ∷ 0x03 ∷ 0x00 ∷ 0x00 ∷ 0x01 ∷ 0x00 ∷ 0x07 ∷ 0x00 ∷ 0x01 ∷ 0x00 ∷ 0x07 ∷ 0x00 ∷ 0x00 ∷ 0x00 ∷ 0xff ∷ 0xff ∷ []) (number 34 ∷ [])
    -- a second write of the value 1, which is no transaction's number there: 9 is for reads alone: refused
    ∷ row (0x01 ∷ 0x00 ∷ 0x02 ∷ 0x00 ∷ 0x00 ∷ 0x02 ∷ 0x00 ∷ 0x00 ∷ 0x01 ∷ 0x00 ∷ 0x01 ∷ 0x00 ∷ 0x01 ∷ 0x00 ∷ 0x01 ∷ 0x00 ∷ []) (number 34 ∷ [])
    -- a second write in the first of two transactions, a kind of 2 in the second: the first body that is refused has the number
    ∷ row (0x02 ∷ 0x00 ∷ 0x03 ∷ 0x00 ∷ 0x00 ∷ 0x02 ∷ 0x00 ∷ 0x00 ∷ 0x01 ∷ 0x01 ∷ 0x02 ∷ 0x00 ∷ 0x01 ∷ 0x00 ∷ 0x07 ∷ 0x00 ∷ 0x01 ∷ 0x00 ∷ 0x07 ∷ 0x00 ∷ 0x02 ∷ 0x00 ∷ 0x07 ∷ 0x00 ∷ []) (number 34 ∷ [])
    -- the same with a read-back that names the start
    ∷ row (0x02 ∷ 0x00 ∷ 0x03 ∷ 0x00 ∷ 0x00 ∷ 0x02 ∷ 0x00 ∷ 0x00 ∷ 0x01 ∷ 0x01 ∷ 0x02 ∷ 0x00 ∷ 0x01 ∷ 0x00 ∷ 0x07 ∷ 0x00 ∷ 0x00 ∷ 0x00 ∷ 0xff ∷ 0xff ∷ 0x02 ∷ 0x00 ∷ 0x07 ∷ 0x00 ∷ []) (number 11 ∷ [])
    -- a second write behind a kind of 2, a key of 32, a read that names transaction 1 of 1, a read-back that names the start: the first body has the number
    ∷ row (0x01 ∷ 0x00 ∷ 0x03 ∷ 0x00 ∷ 0x00 ∷ 0x03 ∷ 0x00 ∷ 0x00 ∷ 0x02 ∷ 0x01 ∷ 0x07 ∷ 0x00 ∷ 0x01 ∷ 0x00 ∷ 0x07 ∷ 0x00 ∷ 0x01 ∷ 0x00 ∷ 0x07 ∷ 0x00 ∷ []) (number 7 ∷ [])
    ∷ row (0x01 ∷ 0x00 ∷ 0x03 ∷ 0x00 ∷ 0x00 ∷ 0x03 ∷ 0x00 ∷ 0x00 ∷ 0x01 ∷ 0x20 ∷ 0x07 ∷ 0x00 ∷ 0x01 ∷ 0x00 ∷ 0x07 ∷ 0x00 ∷ 0x01 ∷ 0x00 ∷ 0x07 ∷ 0x00 ∷ []) (number 8 ∷ [])
    ∷ row (0x01 ∷ 0x00 ∷ 0x03 ∷ 0x00 ∷ 0x00 ∷ 0x03 ∷ 0x00 ∷ 0x00 ∷ 0x00 ∷ 0x01 ∷ 0x01 ∷ 0x00 ∷ 0x01 ∷ 0x00 ∷ 0x07 ∷ 0x00 ∷ 0x01 ∷ 0x00 ∷ 0x07 ∷ 0x00 ∷ []) (number 9 ∷ [])
    ∷ row (0x01 ∷ 0x00 ∷ 0x03 ∷ 0x00 ∷ 0x00 ∷ 0x03 ∷ 0x00 ∷ 0x00 ∷ 0x01 ∷ 0x00 ∷ 0x07 ∷ 0x00 ∷ 0x00 ∷ 0x00 ∷ 0xff ∷ 0xff ∷ 0x01 ∷ 0x00 ∷ 0x07 ∷ 0x00 ∷ []) (number 11 ∷ [])
    -- a second write, and behind it a kind of 2, a key of 32, a read that names transaction 1 of 1: the same
    ∷ row (0x01 ∷ 0x00 ∷ 0x03 ∷ 0x00 ∷ 0x00 ∷ 0x03 ∷ 0x00 ∷ 0x00 ∷ 0x01 ∷ 0x00 ∷ 0x07 ∷ 0x00 ∷ 0x01 ∷ 0x00 ∷ 0x07 ∷ 0x00 ∷ 0x02 ∷ 0x01 ∷ 0x07 ∷ 0x00 ∷ []) (number 34 ∷ [])
    ∷ row (0x01 ∷ 0x00 ∷ 0x03 ∷ 0x00 ∷ 0x00 ∷ 0x03 ∷ 0x00 ∷ 0x00 ∷ 0x01 ∷ 0x00 ∷ 0x07 ∷ 0x00 ∷ 0x01 ∷ 0x00 ∷ 0x07 ∷ 0x00 ∷ 0x01 ∷ 0x20 ∷ 0x07 ∷ 0x00 ∷ []) (number 34 ∷ [])
    ∷ row (0x01 ∷ 0x00 ∷ 0x03 ∷ 0x00 ∷ 0x00 ∷ 0x03 ∷ 0x00 ∷ 0x00 ∷ 0x01 ∷ 0x00 ∷ 0x07 ∷ 0x00 ∷ 0x01 ∷ 0x00 ∷ 0x07 ∷ 0x00 ∷ 0x00 ∷ 0x01 ∷ 0x01 ∷ 0x00 ∷ []) (number 34 ∷ [])
    -- a second read, and behind it the same three
    ∷ row (0x01 ∷ 0x00 ∷ 0x03 ∷ 0x00 ∷ 0x00 ∷ 0x03 ∷ 0x00 ∷ 0x00 ∷ 0x00 ∷ 0x00 ∷ 0xff ∷ 0xff ∷ 0x00 ∷ 0x00 ∷ 0xff ∷ 0xff ∷ 0x02 ∷ 0x01 ∷ 0x07 ∷ 0x00 ∷ []) (number 10 ∷ [])
    ∷ row (0x01 ∷ 0x00 ∷ 0x03 ∷ 0x00 ∷ 0x00 ∷ 0x03 ∷ 0x00 ∷ 0x00 ∷ 0x00 ∷ 0x00 ∷ 0xff ∷ 0xff ∷ 0x00 ∷ 0x00 ∷ 0xff ∷ 0xff ∷ 0x01 ∷ 0x20 ∷ 0x07 ∷ 0x00 ∷ []) (number 10 ∷ [])
    ∷ row (0x01 ∷ 0x00 ∷ 0x03 ∷ 0x00 ∷ 0x00 ∷ 0x03 ∷ 0x00 ∷ 0x00 ∷ 0x00 ∷ 0x00 ∷ 0xff ∷ 0xff ∷ 0x00 ∷ 0x00 ∷ 0xff ∷ 0xff ∷ 0x00 ∷ 0x01 ∷ 0x01 ∷ 0x00 ∷ []) (number 10 ∷ [])
    -- a second read-back: refused
    ∷ row (0x01 ∷ 0x00 ∷ 0x03 ∷ 0x00 ∷ 0x00 ∷ 0x03 ∷ 0x00 ∷ 0x00 ∷ 0x01 ∷ 0x00 ∷ 0x07 ∷ 0x00 ∷ 0x00 ∷ 0x00 ∷ 0x00 ∷ 0x00 ∷ 0x00 ∷ 0x00 ∷ 0x00 ∷ 0x00 ∷ []) (number 10 ∷ [])
    -- a second read-back that names the start: 10 stands before 11: refused
    ∷ row (0x01 ∷ 0x00 ∷ 0x03 ∷ 0x00 ∷ 0x00 ∷ 0x03 ∷ 0x00 ∷ 0x00 ∷ 0x01 ∷ 0x00 ∷ 0x07 ∷ 0x00 ∷ 0x00 ∷ 0x00 ∷ 0x00 ∷ 0x00 ∷ 0x00 ∷ 0x00 ∷ 0xff ∷ 0xff ∷ []) (number 10 ∷ [])
    -- a read-back that names the start: refused
    ∷ row (0x01 ∷ 0x00 ∷ 0x02 ∷ 0x00 ∷ 0x00 ∷ 0x02 ∷ 0x00 ∷ 0x00 ∷ 0x01 ∷ 0x00 ∷ 0x07 ∷ 0x00 ∷ 0x00 ∷ 0x00 ∷ 0xff ∷ 0xff ∷ []) (number 11 ∷ [])
    -- a read-back that names the start, and behind it a kind of 2: the first body that is refused has the number
    ∷ row (0x01 ∷ 0x00 ∷ 0x03 ∷ 0x00 ∷ 0x00 ∷ 0x03 ∷ 0x00 ∷ 0x00 ∷ 0x01 ∷ 0x00 ∷ 0x07 ∷ 0x00 ∷ 0x00 ∷ 0x00 ∷ 0xff ∷ 0xff ∷ 0x02 ∷ 0x00 ∷ 0x00 ∷ 0x00 ∷ []) (number 11 ∷ [])
    -- a read-back that names the start after a read before the write: refused
    ∷ row (0x01 ∷ 0x00 ∷ 0x03 ∷ 0x00 ∷ 0x00 ∷ 0x03 ∷ 0x00 ∷ 0x00 ∷ 0x00 ∷ 0x00 ∷ 0xff ∷ 0xff ∷ 0x01 ∷ 0x00 ∷ 0x07 ∷ 0x00 ∷ 0x00 ∷ 0x00 ∷ 0xff ∷ 0xff ∷ []) (number 11 ∷ [])
    -- a read-back that names another transaction: refused
    ∷ row (0x02 ∷ 0x00 ∷ 0x03 ∷ 0x00 ∷ 0x00 ∷ 0x02 ∷ 0x00 ∷ 0x00 ∷ 0x01 ∷ 0x01 ∷ 0x02 ∷ 0x00 ∷ 0x01 ∷ 0x00 ∷ 0x07 ∷ 0x00 ∷ 0x00 ∷ 0x00 ∷ 0x01 ∷ 0x00 ∷ 0x01 ∷ 0x00 ∷ 0x07 ∷ 0x00 ∷ []) (number 11 ∷ [])
    -- C with begins and no ends, and with ends and no begins: refused
    ∷ at log_c (1 ∷ 1 ∷ []) [] 0 (number 37 ∷ number_from (replicate 31 7) 36 ∷ [])
    ∷ at log_c [] (1 ∷ 1 ∷ []) 0 (number 37 ∷ [])
    -- one entry of two, and three, in each list, and in one of them: refused
    ∷ at log_c (1 ∷ []) (1 ∷ []) 0 (number 37 ∷ [])
    ∷ at log_c (1 ∷ 1 ∷ 1 ∷ []) (1 ∷ 1 ∷ 1 ∷ []) 0 (number 37 ∷ [])
    ∷ at log_c (1 ∷ 1 ∷ []) (1 ∷ []) 0 (number 37 ∷ [])
    ∷ at log_c (1 ∷ 1 ∷ []) (1 ∷ 1 ∷ 1 ∷ []) 0 (number 37 ∷ [])
    -- one entry where there is no transaction: refused
    ∷ at (0x00 ∷ 0x00 ∷ 0x00 ∷ 0x00 ∷ []) (1 ∷ []) (1 ∷ []) 0 (number 37 ∷ [])
    -- one entry of two, begun after its end, with a drift of 3,601: 37 stands before 38: refused
    ∷ at log_c (2 ∷ []) (1 ∷ []) 3601 (number 37 ∷ [])
    -- a begin after its end, in the first and in the last: refused
    ∷ at log_c (2 ∷ 1 ∷ []) (1 ∷ 1 ∷ []) 0 (number 38 ∷ number_from (replicate 33 7) 36 ∷ [])
    ∷ at log_c (1 ∷ 2 ∷ []) (1 ∷ 1 ∷ []) 0 (number 38 ∷ [])
    -- the same by less than the drift: refused
    ∷ at log_c (1 ∷ 2 ∷ []) (1 ∷ 1 ∷ []) 3600 (number 38 ∷ [])
    -- a drift of 3,601, with times and without: refused
    ∷ at log_c (1 ∷ 1 ∷ []) (1 ∷ 1 ∷ []) 3601 (number 38 ∷ [])
    ∷ at log_c [] [] 3601 (number 38 ∷ [])
    -- a drift of 3,600, with times and without: taken
    ∷ at log_c (1 ∷ 1 ∷ []) (1 ∷ 1 ∷ []) 3600 (number 0 ∷ [])
    ∷ at log_c [] [] 3600 (number 0 ∷ judged_as log_c ∷ number_from (replicate 31 7) 36 ∷ [])
    -- both ends of the clock, begins that are their ends: taken
    ∷ at log_c (0 ∷ 4294967295 ∷ []) (0 ∷ 4294967295 ∷ []) 0 (number 0 ∷ order (0 ∷ 1 ∷ []) ∷ edges_are 0 (2 ∷ []) ∷ [])
    -- no transaction and no times: taken
    ∷ at (0x00 ∷ 0x00 ∷ 0x00 ∷ 0x00 ∷ []) [] [] 0 (number 0 ∷ [])
    -- the same with a drift of 3,601: refused
    ∷ at (0x00 ∷ 0x00 ∷ 0x00 ∷ 0x00 ∷ []) [] [] 3601 (number 38 ∷ [])
    -- three bytes, and a read-back that names the start, with times that would be refused: the log's number comes first
    ∷ at (0x00 ∷ 0x00 ∷ 0x00 ∷ []) (1 ∷ []) [] 3601 (number 1 ∷ [])
    ∷ at (0x01 ∷ 0x00 ∷ 0x02 ∷ 0x00 ∷ 0x00 ∷ 0x02 ∷ 0x00 ∷ 0x00 ∷ 0x01 ∷ 0x00 ∷ 0x07 ∷ 0x00 ∷ 0x00 ∷ 0x00 ∷ 0xff ∷ 0xff ∷ []) (1 ∷ []) [] 3601 (number 11 ∷ [])
    ∷ []

pub histories-A-to-J : T (all (λ (r : Row). all (holds r.log r.clock (timed_history r.log r.clock)) r.claims) table)
unfolding bit is_read_back outward writes reads last_writer explained every_read_explained is_order keeps_precedence legal stored replay good_read next_of_cabinet start_read bad_read successor chain_edge edge rows in_ends plain_of plain between joined is_successor is_head tail_within chained constraints with_side through reach closed_off pass passes polygraph arrangements first_legal pair_at counts_before first_number entry_number seen back_at seen_back again body_number bodies_number load_number transaction_at history_of untils with_times timed times_number timed_number window_number encoded_list holds
histories-A-to-J = tt
