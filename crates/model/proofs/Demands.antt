-- The demands on the definitions, in the demands' own words. `b` is a list of bytes, `ts` the times beside it, `h` the history that they hold, `e` the encoding
-- and `pruning` the second number of the setting. Each theorem cites the law that proves it, and says itself what it asks of b, ts or h: mostly that Load takes b
-- with ts, and where it needs it that b is a list of bytes.
-- What the calls do is held to these definitions by their contracts (crates `checker` and `writer`).
use Prim.Native.Nat.{ℕ, ◌+◌, ◌*◌, ◌≤◌, ◌<◌}
use native.Mathlib.Omega.{arith}
use mathlib.Core.Path.{◌≡◌, refl, sym, subst, ◌∙◌}
use mathlib.Core.Logic.{◌⊎◌, ◌↔◌, ◌≢◌}
use mathlib.Core.Bool.{false, ◌&&◌, ◌||◌}
use mathlib.Core.Option.{none, some}
use mathlib.Core.List.{List, []}
use lib.Dec.{T, ltb}
use lib.ListN.{length, get_or}
use Rattle.model.specs.Lists.{All, any, each, total, up_to, up_to_element}
use Rattle.model.specs.History.{Operation, History, start, size, operations_of, operation_count, is_read_back, read_backs, good_keys, well_formed, writes, reads, last_writer, every_read_explained, every_read_names_what_it_sees, is_order, ends_before, keeps_precedence, legal, replay, sees, value_of, value_seen, every_read_sees_its_writers_value, every_read_sees_the_value_it_names, without_read_backs}
use Rattle.model.specs.Log.{transactions_in, start_at, back_at, body_number, load_number, history_of, LaidOut}
use Rattle.model.specs.Times.{Times, times, no_times, ended_before, keeps_clock, timed, Bare, without_times, timed_history, timed_number}
use Rattle.model.specs.Window.{Window, window_number}
use Rattle.model.specs.Refusals.{Shorter, Longer, FirstRefused, SecondRead, SecondWrite, GoodTimes, Mismatched, Untimely}
use Rattle.model.specs.Untimed.{untimed_edge, untimed_polygraph, keeps_cabinets, untimed_legal, untimed_first}
use Rattle.model.specs.Writing.{log_of, has_log}
use Rattle.model.specs.Polygraph.{good_read, edge, successor, Linked, is_head, tail, has, reach, pass, rows, constraints, unpruned, polygraph, Way, AcyclicSelection, Before, Respects}
use Rattle.model.specs.Keys.{per_operation, count_on, constraints_on}
use Rattle.model.specs.Search.{first_legal, LexLess}
use Rattle.model.proofs.Loaded.{Bytes, operation_of, back_is, keys_good, well_formed_lem}
use Rattle.model.proofs.Times.{without_none, timed_none, number_none, untimed_edges, untimed_polygraph_lem, untimed_legal_lem, untimed_first_lem, log_untimed, timed_operations, timed_constraints, timed_table, timed_edge, timed_legal, timed_log_size, timed_log, timed_times, times_good, loadable_timed, well_formed_timed, log_ends, log_edge, log_edges}
use Rattle.model.proofs.Numbers.{numbers_listed, shorter_iff, longer_iff, body_iff, read_out, read_in, write_out, write_in}
use Rattle.model.proofs.Windows.{number_by_log, number_by_times, timed_numbers, lists_iff, untimely_iff, number_of_log, table_iff, window_numbers}
use Rattle.model.proofs.Values.{replay_at, start_iff, sees_start, start_seen, writers_values, named_values}
use Rattle.model.proofs.Takes.{takes, laid_out}
use Rattle.model.proofs.Writing.{loads_back, same_bytes}
use Rattle.model.proofs.Logs.{has_log_out, has_log_bare, has_log_of, has_log_in, good_narrow, log_good}
use Rattle.model.proofs.Twins.{goods_same, legal_same, first_same, polygraph_same, table_same, bare_alike, bare_clock}
use Rattle.model.proofs.ReadBacks.{behind, backs_own, explained_sees}
use Rattle.model.proofs.Basics.{and_r, eq-T}
use Rattle.model.proofs.Legal.{reads_small, bad_in, good_other, legal_out}
use Rattle.model.proofs.Known.{Loadable, kinds_out}
use Rattle.model.proofs.Pruning.{polygraph_iff, legal_iff, polygraph_done, polygraph_keeps}
use Rattle.model.proofs.Words.{bit_rows}
use Rattle.model.proofs.Selection.{serializable, selections_kept, rows_reached}
use Rattle.model.proofs.First.{first_some, first_none}
use Rattle.model.proofs.Tails.{tail_final}
use Rattle.model.proofs.Rings.{successor_lowest, tail_linked, ring_no_head, ring_no_chain}
use Rattle.model.proofs.Counting.{Countable, counted_timed, key_bound, all_operations_lem, all_constraints, listed_by_key, constraints_bound, constraints_timed}

-- Load takes only what document 01 and card 1 let through: a history of at most 32 transactions and 256 operations, each transaction with at most one read of a
-- key that looks at earlier transactions, then one write, then one read-back that names the transaction, every field in its range.
pub load_takes_only_well_formed : (b : List ℕ) → Bytes b → load_number b ≡ 0 → T (well_formed (history_of b))
load_takes_only_well_formed b bytes taken = well_formed_lem b bytes taken

-- Load takes only logs that are laid out so: as long as T and N say, the starts and N sums of the counts.
pub load_takes_only_laid_out : (b : List ℕ) → load_number b ≡ 0 → LaidOut b
load_takes_only_laid_out b taken = laid_out b taken

-- Load takes every log that is laid out so and holds a well_formed_lem history: together with the two before, these and no others.
pub load_takes_every_well_formed : (b : List ℕ) → LaidOut b → T (well_formed (history_of b)) → load_number b ≡ 0
load_takes_every_well_formed b laid good = takes b laid good

-- ---- what the numbers of a log tell: of any bytes, beside a starting table of 32 values and, where the log is refused, any times

-- The numbers of a log are 0, 1 to 11, 34 and 35.
pub numbers_of_a_log : (b : List ℕ) → (load_number b ≤ 11) ⊎ ((load_number b ≡ 34) ⊎ (load_number b ≡ 35))
numbers_of_a_log b = numbers_listed b

-- 3 is given exactly to a log that is shorter than its counts say, and 35 to one that is longer, where neither 1 nor 2 is.
pub three_exactly_when_shorter : (b : List ℕ) → (load_number b ≡ 3) ↔ Shorter b
three_exactly_when_shorter b = shorter_iff b

pub thirty_five_exactly_when_longer : (b : List ℕ) → (load_number b ≡ 35) ↔ Longer b
thirty_five_exactly_when_longer b = longer_iff b

-- A number of a body, 7 and on but for 35, is given exactly where the first body that is refused has it. ..
pub number_of_the_first_refused_body : (b : List ℕ) (x : ℕ) → 7 ≤ x → x ≢ 35
    → (load_number b ≡ x) ↔ ((t : ℕ) × (m : ℕ) × FirstRefused b t m × (body_number b t (start_at b t) m ≡ x))
number_of_the_first_refused_body b x l f = body_iff b x l f

-- .. So 10 is given exactly where the first body that is refused is a second read, and 34 where it is a second write.
pub ten_exactly_at_a_second_read : (b : List ℕ) → (load_number b ≡ 10) ↔ ((t : ℕ) × (m : ℕ) × FirstRefused b t m × SecondRead b (start_at b t) m)
ten_exactly_at_a_second_read b =
    let is = body_iff b 10 (omega arith) (λ e. omega (arith, e)) in (
      (λ e. let a = is.0 e in (a.0, a.1, a.2, read_out b (start_at b a.0) a.0 a.1 a.3)),
      λ a. is.1 (a.0, a.1, a.2, read_in b (start_at b a.0) a.0 a.1 a.3),
    )

pub thirty_four_exactly_at_a_second_write : (b : List ℕ) → (load_number b ≡ 34) ↔ ((t : ℕ) × (m : ℕ) × FirstRefused b t m × SecondWrite b (start_at b t) m)
thirty_four_exactly_at_a_second_write b =
    let is = body_iff b 34 (omega arith) (λ e. omega (arith, e)) in (
      (λ e. let a = is.0 e in (a.0, a.1, a.2, write_out b (start_at b a.0) a.0 a.1 a.3)),
      λ a. is.1 (a.0, a.1, a.2, write_in b (start_at b a.0) a.0 a.1 a.3),
    )

-- ---- the log of a history

-- What would be written of any history reads back as it, also where it is no list of bytes, but for its times: a log has none ..
pub a_history_comes_back_from_its_log : (h : History) → history_of (log_of h) ≡ without_times h
a_history_comes_back_from_its_log h = loads_back h

pub and_as_it_was_without_times : (h : History) → All Bare h → without_times h ≡ h
and_as_it_was_without_times h bare = without_none h bare

-- .. and a log that Load takes, read and written again, is the same bytes.
pub a_log_comes_back_from_its_history : (b : List ℕ) → Bytes b → load_number b ≡ 0 → log_of (history_of b) ≡ b
a_log_comes_back_from_its_history b bytes taken = same_bytes b bytes taken

-- A history has a log exactly where a log that Load takes holds it, but for its times.
pub has_a_log_exactly_where_one_holds_it : (h : History) → T (has_log h) ↔ ((b : List ℕ) × (Bytes b × ((load_number b ≡ 0) × (history_of b ≡ without_times h))))
has_a_log_exactly_where_one_holds_it h = (
  (λ t. let log = has_log_out h t in (log_of h, (log.0, (log.1, loads_back h)))),
  λ x. eq-T (has_log_bare no_times h) (subst (λ g. T (has_log g)) x.1.1.1 (has_log_of x.0 x.1.0 x.1.1.0)),
)

-- These are the well_formed_lem histories ..
pub has_a_log_exactly_when_well_formed : (h : History) → T (has_log h) ↔ T (well_formed h)
has_a_log_exactly_when_well_formed h = (log_good h, has_log_in h)

-- .. of which no transaction has more operations than a byte can count.
pub well_formed_counts_have_their_byte : (h : History) → T (well_formed h) → (t : ℕ) → t < size h → length (operations_of h t) < 256
well_formed_counts_have_their_byte h good t l = good_narrow h good t l

-- ---- read-backs

keys_of : (b : List ℕ) (ts : Times) → timed_number b ts ≡ 0 → (t : ℕ) → t < size (timed_history b ts) → T (good_keys t (operations_of (timed_history b ts) t))
keys_of b ts taken t l =
    subst (λ os. T (good_keys t os)) (sym (timed_operations ts (history_of b) t)) (keys_good b (timed_log b ts taken) t (subst (λ n. t < n) (timed_log_size b ts) l))

-- In a loaded log a read-back, by its definition a read with a write of its key before it in its transaction, names its own transaction.
pub read_backs_name_their_own : (b : List ℕ) (ts : Times) → timed_number b ts ≡ 0 → let h = timed_history b ts in
    (t : ℕ) → t < size h → All (λ o. (o.argument ≡ t) × T (writes h t o.key)) (read_backs (operations_of h t))
read_backs_name_their_own b ts taken t l = backs_own (timed_history b ts) t (keys_of b ts taken t l)

-- So 'every read explained' means in a loaded log that every read names what it sees: a read-back its own transaction's write, any other read the last
-- earlier writer of the key, or the start.
pub explained_by_what_it_sees : (b : List ℕ) (ts : Times) → timed_number b ts ≡ 0 → let h = timed_history b ts in
    (o : List ℕ) → every_read_explained h o ≡ every_read_names_what_it_sees h o
explained_by_what_it_sees b ts taken = explained_sees (timed_history b ts) (keys_of b ts taken)

-- The place of an operation in its transaction, and that of its body in the log, say the same of it.
pub read_backs_by_their_bytes : (b : List ℕ) (t m : ℕ) → is_read_back (behind (operation_of b t) m) (operation_of b t m) ≡ back_at b (start_at b t) m
read_backs_by_their_bytes b t m = back_is b t m

-- Its read-backs add no reader, no edge and no constraint to a history, loaded or not: without them it has the same good reads, the same legal orders, the
-- same first one, the same polygraph in every setting, and leaves the same table, from any starting one.
pub read_backs_add_nothing : (h : History) → let g = without_read_backs h in
    (good_read g ≡ good_read h) × (legal g ≡ legal h) × (first_legal g ≡ first_legal h) × (polygraph g ≡ polygraph h)
    × ((table o : List ℕ) → replay g table o ≡ replay h table o)
read_backs_add_nothing h =
    let a = bare_alike h in
    let g = without_read_backs h in
    let c = bare_clock h in
    (goods_same g h a, legal_same g h a c, first_same g h a c, polygraph_same g h a c, table_same g h a)

-- A read before the write that names its own transaction gives t → t in every encoding, and no order is legal, with or without a read-back behind it.
pub own_read_unexplained : (b : List ℕ) (ts : Times) → timed_number b ts ≡ 0 → let h = timed_history b ts in
    (t k : ℕ) → T (reads h t k t) → ((e : ℕ) → T (edge h e t t)) × ((o : List ℕ) → T (legal h o) → ⊥)
own_read_unexplained b ts taken t k r =
    let h = timed_history b ts in
    let ok = loadable_timed b ts taken in
    let small = reads_small h t k t r in
    let bad = bad_in h t k t r (λ (e : t ≡ start). omega (arith, ok.few)) (λ g. good_other h k t t g refl) in
    ((λ e. (kinds_out h ok e (λ u v. T (edge h e u v)) (λ u v x. x)).bads t bad), λ o l. (legal_out h ok.few o l).1.bads t bad)

-- ---- starting tables

-- 36 is given exactly to a window whose starting table isn't 32 values, whatever its log and its times; any other window has the number of these. So the numbers
-- of a window are those of a log with times, and 36: 0 to 11 and 34 to 38. Load tests 21 before them.
pub thirty_six_exactly_without_32_values : (w : Window) → (window_number w ≡ 36) ↔ (length w.starting ≢ 32)
thirty_six_exactly_without_32_values w = table_iff w

pub numbers_of_a_window : (w : Window) → (window_number w ≤ 11) ⊎ ((34 ≤ window_number w) × (window_number w ≤ 38))
numbers_of_a_window w = window_numbers w

pub with_32_values_log_and_times_decide : (w : Window) → length w.starting ≡ 32 → window_number w ≡ timed_number w.bytes w.clock
with_32_values_log_and_times_decide w l = number_of_log w l

module _ (b : List ℕ) (ts : Times) (taken : timed_number b ts ≡ 0) where
  abbrev g : History
  g = timed_history b ts

  ok : Loadable g
  ok = loadable_timed b ts taken

  -- A replay has at a key the starting table's value where no transaction of it writes the key, that is where `last_writer` gives the start; else what the
  -- last that does wrote there.
  pub replay_at_a_key : (table xs : List ℕ) (k : ℕ) → k < length table → let u = last_writer g k start xs in
      (get_or (replay g table xs) k 0 ≡ value_of g table k u) × ((u ≡ start) ↔ (any (λ x. writes g x k) xs ≡ false))
  replay_at_a_key table xs k l = (replay_at g k ok.few xs table l, start_iff g k ok.few xs)

  module _ (o : List ℕ) where
    -- A read by t sees the start exactly where no transaction before t writes its key, and it is no read-back; then it sees the starting table's value.
    pub sees_the_start_exactly_without_an_earlier_writer : (t : ℕ) → t < size g → (earlier : List Operation) (r : Operation)
        → (sees g o t earlier r ≡ start) ↔ ((is_read_back earlier r ≡ false) × (any (λ x. writes g x r.key) (up_to_element t o) ≡ false))
    sees_the_start_exactly_without_an_earlier_writer t l earlier r = sees_start g ok.few o t l earlier r

    pub and_then_sees_the_starting_value : (t : ℕ) → t < size g → (earlier : List Operation) (r : Operation) → (table : List ℕ) → r.key < length table
        → (is_read_back earlier r ≡ false) × (any (λ x. writes g x r.key) (up_to_element t o) ≡ false) → value_seen g table o t earlier r ≡ get_or table r.key 0
    and_then_sees_the_starting_value t l earlier r table low u = start_seen g ok.few o t l earlier r table low u

    module _ (table : List ℕ) (long : length table ≡ 32) where
      -- In any order the value that a read sees is that of the write, or of the start, that `sees` names ..
      pub every_read_sees_its_writers_value_lem : T (every_read_sees_its_writers_value g table o)
      every_read_sees_its_writers_value_lem =
          writers_values g ok.few table o (keys_of b ts taken) (λ t l. subst (λ n. All (λ r. r.key < n) (operations_of g t)) (sym long) (ok.keys t))

      -- .. and in a legal one the value that it names, from whatever starting table.
      pub every_read_sees_the_value_it_names_lem : T (legal g o) → T (every_read_sees_the_value_it_names g table o)
      unfolding legal
      every_read_sees_the_value_it_names_lem l =
          let explains = and_r (keeps_precedence g o) (every_read_explained g o) (and_r (is_order (size g) o) (keeps_precedence g o && every_read_explained g o) l) in
          named_values g table o every_read_sees_its_writers_value_lem (subst T (explained_sees g (keys_of b ts taken) o) explains)

-- ---- times

-- Load takes a log with times exactly where it takes the log, and the lists are both empty or both of T entries, no begin is after its end, and the drift is at
-- most 3,600.
pub times_taken_exactly_when_good : (b : List ℕ) (ts : Times) → (timed_number b ts ≡ 0) ↔ ((load_number b ≡ 0) × GoodTimes (transactions_in b) ts)
times_taken_exactly_when_good b ts = (
  (λ e. (timed_log b ts e, timed_times b ts e)),
  λ x. number_by_times b ts x.0 ∙ times_good (transactions_in b) ts x.1,
)

-- A log that is refused has its own number, whatever the times ..
pub a_refused_log_has_its_number : (b : List ℕ) (ts : Times) → load_number b ≢ 0 → timed_number b ts ≡ load_number b
a_refused_log_has_its_number b ts f = number_by_log b ts f

-- .. so 37 and 38 follow 11: 37 is given exactly to lists of another length beside a log that is taken, and 38, of lists that match, to a begin after its end or a
-- drift over 3,600.
pub thirty_seven_exactly_when_mismatched : (b : List ℕ) (ts : Times) → (timed_number b ts ≡ 37) ↔ Mismatched b ts
thirty_seven_exactly_when_mismatched b ts = lists_iff b ts

pub thirty_eight_exactly_when_untimely : (b : List ℕ) (ts : Times) → (timed_number b ts ≡ 38) ↔ Untimely b ts
thirty_eight_exactly_when_untimely b ts = untimely_iff b ts

pub numbers_with_times : (b : List ℕ) (ts : Times)
    → (timed_number b ts ≤ 11) ⊎ ((timed_number b ts ≡ 34) ⊎ ((timed_number b ts ≡ 35) ⊎ ((timed_number b ts ≡ 37) ⊎ (timed_number b ts ≡ 38))))
numbers_with_times b ts = timed_numbers b ts

-- Beside the log's known edges a log with times has, in every encoding, one for every pair that the times order, and no other ..
pub known_edges_of_the_clock : (b : List ℕ) (ts : Times) (e u v : ℕ) → let h = history_of b in
    edge (timed_history b ts) e u v ≡ (edge h e u v || (ltb u (size h) && (ltb v (size h) && ended_before ts u v)))
known_edges_of_the_clock b ts = timed_edge (history_of b) (log_untimed b) ts

-- (the row words have exactly the known edges before pruning, and pruning takes none away) ..
pub row_words_have_the_known_edges : (h : History) (e u v : ℕ) → u < 32 → v < 32 → has (rows h e) u v ≡ edge h e u v
unfolding rows
row_words_have_the_known_edges h e u v hu hv = bit_rows (edge h e) u v hu hv

pub pruning_keeps_the_known_edges : (h : History) (e pruning u v : ℕ) → u < 32 → v < 32 → T (edge h e u v) → T (has (polygraph h e pruning).known u v)
pruning_keeps_the_known_edges h e pruning u v hu hv t = polygraph_keeps h e pruning u v hu hv t

-- .. and an order is legal exactly where it is one that keeps each cabinet's own order and that of the times, and has every read explained.
pub legal_with_times : (b : List ℕ) (ts : Times) (o : List ℕ) → let h = history_of b in
    legal (timed_history b ts) o ≡ (is_order (size h) o && ((keeps_cabinets h o && keeps_clock ts (size h) o) && every_read_explained h o))
legal_with_times b ts = timed_legal (history_of b) (log_untimed b) ts

-- Times change neither the constraints of a history nor what an order leaves, from any starting table.
pub times_change_no_constraint : (h : History) (ts : Times) → let g = timed ts h in
    (constraints g ≡ constraints h) × ((table o : List ℕ) → replay g table o ≡ replay h table o)
times_change_no_constraint h ts = (timed_constraints ts h, timed_table ts h)

-- A window without times gives what it gave before there were any, whatever its drift of at most 3,600: its number is the log's, its history is the log's, and of
-- that history the known edges, the polygraph in every setting, the legal orders and the first of them are what they were (`Untimed`).
pub without_times_as_before : (b : List ℕ) (drift : ℕ) → let h = history_of b in
    (drift ≤ 3600 → timed_number b (times [] [] drift) ≡ load_number b) × (timed_history b (times [] [] drift) ≡ h)
    × ((e u v : ℕ) → edge h e u v ≡ untimed_edge h e u v) × ((e pruning : ℕ) → polygraph h e pruning ≡ untimed_polygraph h e pruning)
    × ((o : List ℕ) → legal h o ≡ untimed_legal h o) × (first_legal h ≡ untimed_first h)
without_times_as_before b drift =
    let h = history_of b in
    let none = log_untimed b in
    (number_none b drift, timed_none b drift, untimed_edges h none, untimed_polygraph_lem h none, untimed_legal_lem h none, untimed_first_lem h none)

-- ---- the first legal order: of every history, loaded or not

-- Where there is a first legal order it is legal, and every other legal order has a higher number at the first place where the two differ.
pub first_is_first : (h : History) (o : List ℕ) → first_legal h ≡ some o → T (legal h o) × ((p : List ℕ) → T (legal h p) → (p ≡ o) ⊎ LexLess o p)
first_is_first h o e = first_some h o e

-- It is missing only where no legal order exists.
pub none_is_none : (h : History) → first_legal h ≡ none → (o : List ℕ) → T (legal h o) → ⊥
none_is_none h e = first_none h e

module _ (b : List ℕ) (ts : Times) (taken : timed_number b ts ≡ 0) where
  abbrev h : History
  h = timed_history b ts

  fit : Loadable h
  fit = loadable_timed b ts taken

  -- By the clock u comes before v exactly where u's end plus the drift is less than v's begin, a sum of natural numbers, which does not wrap; equal seconds
  -- order nothing. There is then a known edge in every encoding, and every legal order keeps it.
  pub the_clock_orders : (u v : ℕ) → u < transactions_in b → v < transactions_in b → T (ends_before h u v) ↔ (get_or ts.ends u 0 + ts.drift < get_or ts.begins v 0)
  the_clock_orders = log_ends b ts taken

  pub the_clock_is_known : (e u v : ℕ) → u < transactions_in b → v < transactions_in b → get_or ts.ends u 0 + ts.drift < get_or ts.begins v 0 → T (edge h e u v)
  the_clock_is_known = log_edge b ts taken

  -- The known edges are the log's own and these, and no others.
  pub known_edges_in_seconds : (e u v : ℕ) → u < transactions_in b → v < transactions_in b
      → T (edge h e u v) ↔ (T (edge (history_of b) e u v) ⊎ (get_or ts.ends u 0 + ts.drift < get_or ts.begins v 0))
  known_edges_in_seconds = log_edges b ts taken

  -- So the words that Encode hands out have an edge of the clock in each of the six settings.
  pub the_clock_is_handed_out : (e pruning u v : ℕ) → u < transactions_in b → v < transactions_in b → get_or ts.ends u 0 + ts.drift < get_or ts.begins v 0
      → T (has (polygraph h e pruning).known u v)
  the_clock_is_handed_out e pruning u v hu hv t =
      pruning_keeps_the_known_edges h e pruning u v (omega (arith, fit.few, timed_log_size b ts)) (omega (arith, fit.few, timed_log_size b ts)) (the_clock_is_known e u v hu hv t)

  pub the_clock_is_kept : (o : List ℕ) → T (legal h o) → (u v : ℕ) → u < transactions_in b → v < transactions_in b → get_or ts.ends u 0 + ts.drift < get_or ts.begins v 0
      → Before o u v
  the_clock_is_kept o l u v hu hv e =
      (legal_out h fit.few o l).1.times u v (omega (arith, timed_log_size b ts)) (omega (arith, timed_log_size b ts)) ((log_ends b ts taken u v hu hv).1 e)

  module _ (e pruning : ℕ) (encoding : e < 3) where
    -- An order is legal exactly when it holds every number below T once and respects the polygraph: every known edge and, of every
    -- constraint, all edges of side A or all edges of side B.
    pub legal_exactly_when_respecting : (o : List ℕ) → T (legal h o) ↔ (T (is_order (size h) o) × Respects o (polygraph h e pruning))
    legal_exactly_when_respecting o = legal_iff h fit e pruning encoding o

    -- An acyclic selection exists exactly when a legal order exists.
    pub selection_exactly_when_legal : ((o : List ℕ) × T (legal h o)) ↔ AcyclicSelection (polygraph h e pruning)
    selection_exactly_when_legal = serializable h fit e pruning encoding

  module _ (e : ℕ) where
    -- Pruning changes neither which orders respect the polygraph ..
    pub pruning_keeps_orders : (o : List ℕ) → Respects o (unpruned h e) ↔ Respects o (polygraph h e 1)
    pruning_keeps_orders o = polygraph_iff h fit e 1 o

    -- .. nor whether there is an acyclic selection.
    pub pruning_keeps_selections : AcyclicSelection (unpruned h e) ↔ AcyclicSelection (polygraph h e 1)
    pruning_keeps_selections = selections_kept h fit e

    -- Passes are repeated until one drops none: a further pass would drop none.
    pub passes_end : let p = polygraph h e 1 in length (pass p.known p.choices).choices ≡ length p.choices
    passes_end = polygraph_done h e

    -- Reachability is paths of one or more edges, here of the known edges; `reach_way` and `way_reach` say it of any row words.
    pub reached_exactly_by_paths : (u v : ℕ) → T (has (reach (rows h e)) u v) ↔ Way (rows h e) u v
    reached_exactly_by_paths u v = rows_reached h fit e u v

  module _ (bytes : Bytes b) (k g : ℕ) (head : T (is_head h k g)) where
    -- A chain runs by links from a head to a tail, and a tail has no successor.
    pub chain_from_head_to_tail : (tail h k g ≡ g) ⊎ Linked h k g (tail h k g)
    chain_from_head_to_tail = tail_linked h k (size h) g

    pub tail_has_no_successor : successor h k (tail h k g) < size h → ⊥
    tail_has_no_successor = tail_final h (well_formed_timed b ts taken bytes) k g head

    -- Links in a ring have no head and give no chain: the head is in no ring, and its chain comes to none.
    pub head_in_no_ring : Linked h k g g → ⊥
    head_in_no_ring r = ring_no_head h k g r head

    pub chain_to_no_ring : (w : ℕ) → Linked h k g w → Linked h k w w → ⊥
    chain_to_no_ring w c r = ring_no_chain h k (well_formed_timed b ts taken bytes) g w head c r

  -- The successor of a write is the lowest-numbered of the other transactions that write the key and have a good read of it from the write.
  pub successor_is_lowest : (k u v : ℕ) → v ≢ u → T (writes h v k) → T (good_read h k v u) → successor h k u ≤ v
  successor_is_lowest k u v = successor_lowest h k u v

-- ---- how many constraints there are, before pruning

module _ (b : List ℕ) (ts : Times) (taken : timed_number b ts ≡ 0) where
  abbrev held : History
  held = timed_history b ts

  counted : Countable held
  counted = counted_timed b (timed_log b ts taken) ts

  -- Every operation is on one of the 32 keys.
  pub operations_key_by_key : operation_count held ≡ total (count_on held) (up_to 32)
  operations_key_by_key = all_operations_lem held 32 counted.loads.keys

  module _ (e : ℕ) where
    -- A key's constraints are at most 16 for each of its operations, in every encoding. Those of the 32 keys are as many as all, and in encodings 1 and 2 the
    -- list is theirs, one key after another ..
    pub sixteen_for_each_operation_of_a_key : (k : ℕ) → length (constraints_on held e k) ≤ per_operation * count_on held k
    sixteen_for_each_operation_of_a_key k = key_bound held counted k e

    pub constraints_key_by_key : length (constraints held e) ≡ total (λ k. length (constraints_on held e k)) (up_to 32)
    constraints_key_by_key = all_constraints held counted.loads e

    pub listed_key_by_key : e ≢ 0 → constraints held e ≡ each (constraints_on held e) (up_to 32)
    listed_key_by_key f = listed_by_key held e f

    -- .. so they are at most 16 for each operation of the log, and at most 4,096.
    pub sixteen_for_each_operation : length (constraints held e) ≤ per_operation * operation_count held
    sixteen_for_each_operation = constraints_bound held counted e

    pub at_most_4096_constraints : length (constraints held e) ≤ 4096
    at_most_4096_constraints = constraints_timed b (timed_log b ts taken) e ts

-- (How many there are at the most in each encoding, and that as many occur: crate `largest`.)
