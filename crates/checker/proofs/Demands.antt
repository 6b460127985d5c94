-- Demands 1, 2 and 3 of the calls, in the demands' own words, over what each call gives and leaves (`specs/`). The contracts in `src/lib.rt` are
-- equations with these definitions, so that what is said here is said of the calls. Each theorem cites the law that proves it. Assumes nothing.
use Prim.Native.Nat.{ℕ, ◌-◌, ◌≤◌, ◌<◌}
use native.Mathlib.Omega.{arith}
use mathlib.Core.Path.{◌≡◌, refl, sym, ap, subst, ◌∙◌}
use mathlib.Core.Logic.{◌⊎◌, ⊎_elim, ◌↔◌, ◌≢◌}
use mathlib.Core.Bool.{Bool, true, false, cond, ◌&&◌}
use mathlib.Core.List.{List, [], ◌++◌}
use lib.Dec.{eqb, leb, ltb}
use lib.IntN.{pos, ◌+ℤ◌, ◌-ℤ◌}
use lib.ListN.{length, get_or, take, drop, replicate}
use Rattle.model.specs.Lists.{fold, total, up_to}
use Rattle.model.specs.declared.Constraint.{Constraint}
use Rattle.model.specs.History.{History, start, legal, last_writer, replay, value_of}
use Rattle.model.specs.Log.{load_number, history_of}
use Rattle.model.specs.Times.{times, no_times, timed_history}
use Rattle.model.specs.Refusals.{Mismatched, Untimely}
use Rattle.model.specs.Window.{Window, window, window_number, window_history, zeros, from_zeros}
use Rattle.model.specs.Lent.{encoded_list, encoded_rows}
use Rattle.model.specs.Polygraph.{constraints, polygraph}
use Rattle.model.specs.Search.{first_legal}
use Rattle.model.specs.Untimed.{untimed_polygraph, untimed_legal, untimed_first}
use Rattle.model.proofs.Basics.{true_eq, eq-eqb}
use Rattle.model.proofs.Windows.{lists_iff, untimely_iff, number_of_log, table_iff, taken_long, taken_timed}
use Rattle.model.proofs.Times.{number_none, timed_none, log_untimed, untimed_polygraph_lem, untimed_legal_lem, untimed_first_lem}
use Rattle.model.proofs.Demands.{every_read_sees_the_value_it_names_lem}
use Rattle.model.proofs.Loaded.{Bytes}
use Rattle.wear.specs.Wear.{cost, moves, mills, cents, travel}
use Rattle.wear.specs.Bills.{bill_of, no_bill}
use Rattle.wear.specs.declared.Bill.{Bill}
use Rattle.answers.specs.declared.Stage.TheVariants.{Fresh, Loaded, Ordered, NoOrder}
use Rattle.answers.specs.Stages.{is_fresh, holds_window, claims_order, counted, refused_by}
use Rattle.answers.specs.Settings.{setting_refusal}
use Rattle.answers.specs.declared.Clock.{Clock}
use Rattle.answers.specs.Clocks.{times_in, no_clock, in_clock, clock_of}
use Rattle.checker.specs.declared.Case.{Case}
use Rattle.checker.specs.Cases.{contents, window_in, history_in, order_in, stage_of, fresh_case, loaded_case, with_starting, Holds}
use Rattle.checker.specs.Calls.{load_refusal, case_after_load, check_refusal, check_yes}
use Rattle.checker.specs.Encodings.{encode_refusal, encode_list, encode_rows}
use Rattle.checker.specs.Decisions.{decide_refusal, refused_decision, deciding, list_after_decide}
use Rattle.checker.specs.Results.{order_refused, table_refused, bills_refused, order_left, table_left, bills_left}
use Rattle.checker.specs.Demand.{SettlesWithBills, Demand3, Demand3WithBills}
use Rattle.checker.specs.Starting.{Indifferent, AsBefore}
use Rattle.checker.proofs.Chain.{taken, refused}
use Rattle.checker.proofs.Encodes.{tests_fresh, tests_setting, tests_places, enough_places}
use Rattle.checker.proofs.Writing.{table_stage, table_room}
use Rattle.checker.proofs.Loads.{refusal_fresh, refusal_other, refusal_none}
use Rattle.checker.proofs.Starting.{decided_clock, same_answers, load_replaces, decided_alike, decided_keeps, load_number_alike, load_alike, zeros_number, zeros_case, zeros_start, table_from, table_at}
use Rattle.checker.proofs.Timing.{holds_out, holds_in, exactly, load_clock, history_as_before, stage_as_before}
use Rattle.checker.proofs.Charging.{bill_at_lem, bills_behind, bills_as_long, mills_together, travel_together}
use Rattle.checker.proofs.Whole.{lists_hold, lists_select, decide_lists, decision_settles, same_window, again_settles, again_same, load_counts, after_load_holds}

-- ---- Demand 1: each call ends and is safe (the gate proves that of every function); a refusal bears its number, and case and lent lists are
-- the same bytes after it.

pub load_refused_changes_nothing : (c : Case) (w : Window) → load_refusal c w ≢ 0 → case_after_load c w ≡ c
unfolding case_after_load
load_refused_changes_nothing c w f = refused (load_refusal c w) (loaded_case w) c f

pub encode_refused_changes_nothing : (c : Case) (e pruning : ℕ) (ys : List Constraint) (ws : List ℕ) → encode_refusal c e pruning (length ys) (length ws) ≢ 0
    → (encode_list c e pruning ys (length ws) ≡ ys) × (encode_rows c e pruning (length ys) ws ≡ ws)
unfolding encode_list encode_rows
encode_refused_changes_nothing c e pruning ys ws f = (
  refused (encode_refusal c e pruning (length ys) (length ws)) (encoded_list (history_in c) e pruning ys) ys f,
  refused (encode_refusal c e pruning (length ys) (length ws)) (encoded_rows (history_in c) e pruning ws) ws f,
)

pub decide_refused_changes_nothing : (c : Case) (e pruning : ℕ) (ys : List Constraint) → decide_refusal c e pruning (length ys) ≢ 0
    → (list_after_decide c e pruning ys ≡ ys) × (deciding c e pruning (length ys) ≡ refused_decision c (decide_refusal c e pruning (length ys)))
unfolding list_after_decide deciding
decide_refused_changes_nothing c e pruning ys f = (
  refused (decide_refusal c e pruning (length ys)) (encoded_list (history_in c) e pruning ys) ys f,
  refused (decide_refusal c e pruning (length ys)) _ (refused_decision c (decide_refusal c e pruning (length ys))) f,
)

pub order_refused_changes_nothing : (c : Case) (ys : List ℕ) → order_refused c (length ys) ≢ 0 → order_left c ys ≡ ys
unfolding order_left
order_refused_changes_nothing c ys f = refused (order_refused c (length ys)) _ ys f

pub table_refused_changes_nothing : (c : Case) (ys : List ℕ) → table_refused c (length ys) ≢ 0 → table_left c ys ≡ ys
unfolding table_left
table_refused_changes_nothing c ys f = refused (table_refused c (length ys)) _ ys f

pub bills_refused_changes_nothing : (c : Case) (ys : List Bill) → bills_refused c (length ys) ≢ 0 → bills_left c ys ≡ ys
unfolding bills_left
bills_refused_changes_nothing c ys f = refused (bills_refused c (length ys)) _ ys f

-- Encode and Decide (with 32 row words) test 22, a fresh case, before 12, a setting out of range, whatever the lists; and 12 before 25, a list that is too short.
pub tests_22_12_25 : (c : Case) (e pruning places words : ℕ) →
    (is_fresh (stage_of c) ≡ true → encode_refusal c e pruning places words ≡ 22)
    × (is_fresh (stage_of c) ≡ false → setting_refusal e pruning ≢ 0 → encode_refusal c e pruning places words ≡ 12)
    × (is_fresh (stage_of c) ≡ false → setting_refusal e pruning ≡ 0 → encode_refusal c e pruning places words ≡ cond (ltb places (length (constraints (history_in c) e))) 25 (cond (ltb words 32) 25 0))
tests_22_12_25 c e pruning places words = (tests_fresh c e pruning places words, tests_setting c e pruning places words, tests_places c e pruning places words)

-- No case has more constraints than 4,096 places hold: on a list that long, with 32 row words, Encode and Decide refuse a case that isn't fresh only for its setting.
pub four_thousand_ninety_six_places_are_enough : (c : Case) (e pruning places words : ℕ) → is_fresh (stage_of c) ≡ false → 4096 ≤ places → 32 ≤ words
    → (encode_refusal c e pruning places words ≡ setting_refusal e pruning) × (decide_refusal c e pruning places ≡ setting_refusal e pruning)
four_thousand_ninety_six_places_are_enough c e pruning places words f l m =
    (enough_places c e pruning places words f l m, enough_places c e pruning places 32 f l (omega arith))

-- A window that is not refused is taken into a case that counts as fresh, and the case then holds it: the log and the times, with their history, and the starting
-- table, of 32 values. Which logs are taken say the model's `load_takes_only_well_formed`, `load_takes_only_laid_out` and `load_takes_every_well_formed`, which times `times_taken_exactly_when_good`.
pub good_window_is_loaded : (c : Case) (w : Window) → load_refusal c w ≡ 0
    → (window_in (case_after_load c w) ≡ w) × (history_in (case_after_load c w) ≡ timed_history w.bytes w.clock) × (length w.starting ≡ 32)
good_window_is_loaded c w e =
    let is = after_load_holds c w e in (is, ap window_history is, taken_long w (refusal_none c w e))

-- 36 is given exactly where the case counts as fresh and the starting table isn't 32 values, whatever the log and the times.
pub thirty_six_after_21_and_before_the_log : (c : Case) (w : Window) → (load_refusal c w ≡ 36) ↔ ((is_fresh (stage_of c) ≡ true) × (length w.starting ≢ 32))
thirty_six_after_21_and_before_the_log c w = (
  (λ e. go (is_fresh (stage_of c)) refl e),
  λ x. refusal_fresh c w x.0 ∙ (table_iff w).1 x.1,
)
  where
    go : (b : Bool) → is_fresh (stage_of c) ≡ b → load_refusal c w ≡ 36 → (b ≡ true) × (length w.starting ≢ 32)
    go true f e = (refl, (table_iff w).0 (sym (refusal_fresh c w f) ∙ e))
    go false f e = absurd (omega (arith, e, refusal_other c w f))

-- 37 and 38 are given exactly where the case counts as fresh, the starting table is 32 values and the log is taken: 37 to lists of times that don't match, 38, of
-- lists that do, to a begin after its end or a drift over 3,600. So they follow 21, 36 and the log's numbers.
pub thirty_seven_after_the_log : (c : Case) (w : Window) → (load_refusal c w ≡ 37) ↔ ((is_fresh (stage_of c) ≡ true) × (length w.starting ≡ 32) × Mismatched w.bytes w.clock)
thirty_seven_after_the_log c w =
    exactly c w 37 (Mismatched w.bytes w.clock) (λ (e : 37 ≡ 21). omega (arith, e)) (λ (e : 37 ≡ 36). omega (arith, e)) (lists_iff w.bytes w.clock)

pub thirty_eight_after_37 : (c : Case) (w : Window) → (load_refusal c w ≡ 38) ↔ ((is_fresh (stage_of c) ≡ true) × (length w.starting ≡ 32) × Untimely w.bytes w.clock)
thirty_eight_after_37 c w =
    exactly c w 38 (Untimely w.bytes w.clock) (λ (e : 38 ≡ 21). omega (arith, e)) (λ (e : 38 ≡ 36). omega (arith, e)) (untimely_iff w.bytes w.clock)

-- ---- Demand 2: the polygraph handed out is the papers', edge for edge and constraint for constraint; a proposed order is accepted exactly
-- when it is legal.

pub encode_hands_out_the_polygraph : (c : Case) (e pruning : ℕ) (ys : List Constraint) (ws : List ℕ) → encode_refusal c e pruning (length ys) (length ws) ≡ 0
    → (encode_list c e pruning ys (length ws) ≡ encoded_list (history_in c) e pruning ys) × (encode_rows c e pruning (length ys) ws ≡ encoded_rows (history_in c) e pruning ws)
unfolding encode_list encode_rows
encode_hands_out_the_polygraph c e pruning ys ws f = (
  taken (encode_refusal c e pruning (length ys) (length ws)) (encoded_list (history_in c) e pruning ys) ys f,
  taken (encode_refusal c e pruning (length ys) (length ws)) (encoded_rows (history_in c) e pruning ws) ws f,
)

pub check_accepts_exactly_the_legal : (c : Case) (o : List ℕ) → check_refusal c o ≡ 0 → check_yes c o ≡ legal (history_in c) o
unfolding check_yes
check_accepts_exactly_the_legal c o e = ap (λ b. b && legal (history_in c) o) (true_eq (eqb (check_refusal c o) 0) (eq-eqb e))

-- ---- Demand 3, in one piece: `Demand3` in specs/Demand.antt says it. What Encode hands out is the polygraph, and has an acyclic selection exactly
-- when a legal order exists; Decide says 'no order' exactly where none exists, and else gives the legal order that has, against every other legal
-- one, the lower number at the first place where the two differ; Order and Table then write it and the table which its replay leaves. In all six
-- settings, whatever was decided before and whatever the lists held, and from the log's bytes, the starting table and the times on.

settled : (c : Case) (w : Window) → load_refusal c w ≡ 0 → (e pruning places : ℕ) → decide_refusal (case_after_load c w) e pruning places ≡ 0
    → SettlesWithBills w (deciding (case_after_load c w) e pruning places)
settled c w runs e pruning places r =
    subst (λ (v : Window). SettlesWithBills v (deciding (case_after_load c w) e pruning places)) (after_load_holds c w runs) (decision_settles (case_after_load c w) e pruning places r)

pub demand_3 : Demand3
demand_3 = record {
  whole = λ c e pruning ys ws. record {
    handed_out = lists_hold c e pruning ys ws;
    selection = lists_select c e pruning ys ws;
    listed = decide_lists c e pruning ys;
    settles = λ runs. (decision_settles c e pruning (length ys) runs).settles;
    again = λ runs e' pruning' places runs'. (same_window c e pruning (length ys) runs, (again_settles c e pruning (length ys) runs e' pruning' places runs').settles, again_same c e pruning (length ys) runs e' pruning' places runs');
  };
  bytes = λ c w runs. record {
    loaded = load_counts c w runs;
    holds = after_load_holds c w runs;
    settles = λ e pruning places r. (settled c w runs e pruning places r).settles;
    values = λ e pruning places r said.
        let n = refusal_none c w runs in
        every_read_sees_the_value_it_names_lem w.bytes w.clock (taken_timed w n) _ w.starting (taken_long w n) ((settled c w runs e pruning places r).settles.first said).0;
  };
}

-- and Bills then writes the bills of the moves in that replay
pub demand_3_with_bills : Demand3WithBills
demand_3_with_bills = record { whole = decision_settles; again = again_settles; bytes = settled }

-- ---- Card 5: the starting table decides nothing but Table's values and, since card 8, Bills', and 32 zeros give what Load gave before it took a table. `Indifferent` and
-- `AsBefore` in specs/Starting.antt say it.

pub starting_table_decides_nothing : Indifferent
starting_table_decides_nothing = record { answers = same_answers; decided = decided_alike; replaced = load_replaces; number = load_number_alike; loaded = load_alike }

pub thirty_two_zeros_as_before : (c : Case) (b : List ℕ) → AsBefore c b
unfolding loaded_case no_clock clock_of in_clock
thirty_two_zeros_as_before c b = record {
  number = zeros_number c b;
  case = zeros_case c b;
  table = λ runs e pruning places ys. table_from (deciding (case_after_load c (from_zeros b)) e pruning places).case zeros (zeros_start c b runs e pruning places) ys;
}

-- What Table writes of any case, decided by Decide or put together outside, is the replay of its order from its own starting table; and Decide leaves that as it was.
pub table_starts_from_the_table_of_the_case : (c : Case) (ys : List ℕ)
    → table_left c ys ≡ cond (eqb (table_refused c (length ys)) 0) (replay (history_in c) c.starting (order_in c) ++ drop 32 ys) ys
table_starts_from_the_table_of_the_case c ys = table_from c c.starting refl ys

pub decide_keeps_the_starting_table : (c : Case) (e pruning places : ℕ) → (deciding c e pruning places).case.starting ≡ c.starting
decide_keeps_the_starting_table c e pruning places = decided_keeps c e pruning places

-- A case put together outside counts as fresh where Load would refuse the window that it holds: with 32 values, as every case has them, that is what `stage_of` asks of
-- its log and its times. A length over the room of either is more than it holds.
pub counts_by_what_load_would_say : (c : Case) → length c.starting ≡ 32
    → holds_window c.bytes c.length c.clock ≡ (leb c.length (length c.bytes) && (leb c.clock.count 32 && eqb (window_number (window_in c)) 0))
unfolding holds_window
counts_by_what_load_would_say c long = ap (λ n. leb c.length (length c.bytes) && (leb c.clock.count 32 && eqb n 0)) (sym (number_of_log (window_in c) long))

-- So where Table isn't refused a key that no transaction of the order writes has its starting value, and any other what its last writer wrote: by `last_writer`, of
-- which the model's `replay_at_a_key` says that it gives the start exactly where none writes the key.
pub a_key_in_the_table : (c : Case) → length c.starting ≡ 32 → (ys : List ℕ) → table_refused c (length ys) ≡ 0 → (k : ℕ) → k < 32
    → get_or (table_left c ys) k 0 ≡ value_of (history_in c) c.starting k (last_writer (history_in c) k start (order_in c))
a_key_in_the_table c long ys runs k low = table_at c (table_stage c (length ys) runs) long ys (table_room c (length ys) runs) k low

-- ---- Card 7: the times of a case

-- A case counts as loaded or decided exactly where it says so and holds, field by field, a log and times that Load takes. The arrays have the lengths of their types.
pub counts_by_its_fields : (c : Case) → length c.clock.begin ≡ 32 → length c.clock.end ≡ 32 → (is_fresh (stage_of c) ≡ false) ↔ ((is_fresh c.stage ≡ false) × Holds c)
counts_by_its_fields c begins ends = (holds_out c begins ends, holds_in c begins ends)

-- A fresh case, which Clear gives too, counts as fresh and has no times, with drift 0 ..
pub fresh_has_no_times : (is_fresh (stage_of fresh_case) ≡ true) × (times_in fresh_case.clock ≡ no_times)
unfolding fresh_case stage_of counted no_clock
fresh_has_no_times = (refl, refl)

-- .. Load leaves the lists that it took, with zeros behind them, and the drift ..
pub load_keeps_the_times : (c : Case) (w : Window) → load_refusal c w ≡ 0 → let k = (case_after_load c w).clock in
    (k.count ≡ length w.clock.begins) × (k.begin ≡ w.clock.begins ++ replicate (32 - length w.clock.begins) 0)
    × (k.end ≡ w.clock.ends ++ replicate (32 - length w.clock.ends) 0) × (k.drift ≡ w.clock.drift)
unfolding clock_of in_clock
load_keeps_the_times c w runs =
    let is = load_clock c w runs in
    (ap (λ (k : Clock). k.count) is, ap (λ (k : Clock). k.begin) is, ap (λ (k : Clock). k.end) is, ap (λ (k : Clock). k.drift) is)

-- .. and Decide leaves them as they are.
pub decide_keeps_the_times : (c : Case) (e pruning places : ℕ) → (deciding c e pruning places).case.clock ≡ c.clock
decide_keeps_the_times c e pruning places = decided_clock c e pruning places

-- A window without times gives what it gave before Load took any: Load's number is 21, then 36, then the log's, and the case holds the log's history.
pub without_times_the_log_alone : (c : Case) (b s : List ℕ) (drift : ℕ) → drift ≤ 3600 → let w = window b s (times [] [] drift) in
    (load_refusal c w ≡ cond (is_fresh (stage_of c)) (cond (eqb (length s) 32) (load_number b) 36) 21) × (load_refusal c w ≡ 0 → history_in (case_after_load c w) ≡ history_of b)
unfolding load_refusal window_number
without_times_the_log_alone c b s drift low =
    let w = window b s (times [] [] drift) in (
      ap (λ n. cond (is_fresh (stage_of c)) (cond (eqb (length s) 32) n 36) 21) (number_none b drift low),
      λ runs. ap window_history (after_load_holds c w runs) ∙ timed_none b drift,
    )

-- So does every case without times, loaded or put together outside: it counts by its log and its order as it did, and the history of which Encode, Decide and Check
-- speak is the log's, with the polygraph, the legal orders and the first of them that it had.
pub a_case_without_times_as_before : (c : Case) → c.clock.count ≡ 0 → c.clock.drift ≤ 3600 → let h = history_of (contents c) in
    (stage_of c ≡ counted c.stage (leb c.length (length c.bytes) && eqb (load_number (contents c)) 0) (claims_order c.bytes c.length c.order))
    × (history_in c ≡ h) × ((e pruning : ℕ) → polygraph (history_in c) e pruning ≡ untimed_polygraph h e pruning)
    × ((o : List ℕ) → legal (history_in c) o ≡ untimed_legal h o) × (first_legal (history_in c) ≡ untimed_first h)
a_case_without_times_as_before c none low =
    let h = history_of (contents c) in
    let is = history_as_before c none low in
    let bare = log_untimed (contents c) in (
      stage_as_before c none low,
      is,
      (λ e pruning. ap (λ (g : History). polygraph g e pruning) is ∙ untimed_polygraph_lem h bare e pruning),
      (λ o. ap (λ (g : History). legal g o) is ∙ untimed_legal_lem h bare o),
      ap first_legal is ∙ untimed_first_lem h bare,
    )

-- ---- Card 8: Bills. `demand_3_with_bills` says of it, as of Order and Table, that after Decide it writes the bills of the moves in the replay of the first legal order.

-- Its refusals are Table's: 23 for a case that isn't decided, 24 after 'no order', then 25, here for fewer than sixteen places.
pub bills_test_23_24_25 : (c : Case) (places : ℕ)
    → ((stage_of c ≡ Fresh) ⊎ (stage_of c ≡ Loaded) → bills_refused c places ≡ 23)
    × (stage_of c ≡ NoOrder → bills_refused c places ≡ 24)
    × (stage_of c ≡ Ordered → bills_refused c places ≡ cond (ltb places 16) 25 0)
unfolding bills_refused refused_by
bills_test_23_24_25 c places = (
  ⊎_elim (λ e. ap (λ s. refused_by s 16 places) e) (λ e. ap (λ s. refused_by s 16 places) e),
  λ e. ap (λ s. refused_by s 16 places) e,
  λ e. ap (λ s. refused_by s 16 places) e,
)

-- Where it isn't refused, the case decided by Decide or put together outside, place k below sixteen has the bill of cabinet k, of the moves in the replay of the case's
-- order from its starting table; the places behind are as they were, and there are as many.
pub a_bill_in_the_list : (c : Case) (ys : List Bill) → bills_refused c (length ys) ≡ 0 → let ms = moves (history_in c) c.starting (order_in c) in
    ((k : ℕ) → k < 16 → get_or (bills_left c ys) k no_bill ≡ record { mills = mills k ms; cents = cents k ms; travel = travel k ms })
    × (drop 16 (bills_left c ys) ≡ drop 16 ys) × (length (bills_left c ys) ≡ length ys)
unfolding bill_of
a_bill_in_the_list c ys runs = (bill_at_lem c ys runs, bills_behind c ys runs, bills_as_long c ys runs)

-- Over the sixteen bills the mills are the cost of all moves in the replay, and the travel is the sum over the gates of final value less starting value. Asked: the log is
-- bytes and, for travel, the starting table has 32 values. Both hold of every case, by its types.
pub the_bills_together : (c : Case) (ys : List Bill) → bills_refused c (length ys) ≡ 0 → Bytes (contents c)
    → (total (λ (b : Bill). b.mills) (take 16 (bills_left c ys)) ≡ total cost (moves (history_in c) c.starting (order_in c)))
    × (length c.starting ≡ 32 → fold (λ z (b : Bill). z +ℤ b.travel) (pos 0) (take 16 (bills_left c ys))
    ≡ fold (λ z k. z +ℤ (pos (get_or (replay (history_in c) c.starting (order_in c)) k 0) -ℤ pos (get_or c.starting k 0))) (pos 0) (up_to 16))
the_bills_together c ys runs bytes = (mills_together c ys runs bytes, travel_together c ys runs bytes)

-- The starting table changes no refusal of Bills.
pub bills_refused_alike : (c : Case) (table : List ℕ) (places : ℕ) → bills_refused (with_starting c table) places ≡ bills_refused c places
unfolding bills_refused stage_of
bills_refused_alike c table places = refl
