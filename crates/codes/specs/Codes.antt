-- What each function for C gives and leaves, of the case that a window is loaded into: 0, 255 or the refusal's number, and what is written where it is 0.
-- The numbers of Load come first, then those of the call. Assumes nothing.
use Rattle.std.specs.Prelude.{ℕ, ◌+◌, ◌*◌, Bool, cond, ◌&&◌, ◌||◌, List, eqb, ltb, length, replicate, Some, Result, Ok, Err}
use Rattle.refusals.specs.declared.Refusal.{Refusal}
use Rattle.refusals.specs.Numbers.{code, number_of}
use Rattle.model.specs.Lists.{implies}
use Rattle.model.specs.History.{History}
use Rattle.model.specs.Polygraph.{polygraph}
use Rattle.model.specs.Log.{transactions_in, load_number, or_else}
use Rattle.model.specs.Times.{times, no_times}
use Rattle.model.specs.Window.{Window, window, window_number, zeros, from_zeros}
use Rattle.model.specs.Lent.{no_constraint, encoded_list, encoded_count}
use Rattle.checker.specs.declared.Case.{Case}
use Rattle.checker.specs.declared.Decision.{Decision}
use Rattle.checker.specs.declared.Encoding.{Encoding}
use Rattle.answers.specs.declared.Judgement.{Judgement}
use Rattle.answers.specs.declared.Judgement.TheVariants.{Legal, Illegal}
use Rattle.answers.specs.declared.Verdict.{Verdict}
use Rattle.answers.specs.declared.Verdict.TheVariants.{Order, NoOrder}
use Rattle.finding.specs.declared.Outcome.{Outcome}
use Rattle.checker.specs.Cases.{loaded_case}
use Rattle.checker.specs.Calls.{checking}
use Rattle.checker.specs.Decisions.{deciding}
use Rattle.checker.specs.Preparing.{storing, answering}
use Rattle.checker.specs.Encodings.{encode_answer, encode_list, encode_rows}
use Rattle.checker.specs.Results.{order_refused, order_left, table_left, bills_refused, bills_left}
use Rattle.wear.specs.Bills.{no_bill}
use Rattle.codes.specs.Images.{filled, value_in, values_in, seconds_in, polygraph_in, bill_in}

-- 0 legal, 255 not legal, else the refusal's number
abbrev pub judgement_code : Result Judgement Refusal → ℕ
judgement_code (Ok Legal) = 0
judgement_code (Ok Illegal) = 255
judgement_code (Err r) = code r

-- 255 for 'no order', the refusal's number, or, where there is an order, what is given
abbrev pub verdict_code : Result Verdict Refusal → ℕ → ℕ
verdict_code (Ok Order) n = n
verdict_code (Ok NoOrder) n = 255
verdict_code (Err r) n = code r

-- what stands where there is an order, and else
abbrev pub where_ordered : {X : Type 0} → Result Verdict Refusal → X → X → X
where_ordered (Ok Order) x y = x
where_ordered (Ok NoOrder) x y = y
where_ordered (Err r) x y = y

-- what stands where Load takes the window, and else
abbrev pub where_loaded : {X : Type 0} → Window → X → X → X
where_loaded w x y = cond (eqb (window_number w) 0) x y

-- ---- of a window

unfoldable pub check_window : Window → List ℕ → ℕ
check_window w order = where_loaded w (judgement_code (checking (loaded_case w) order).judgement) (window_number w)

-- Of a case that is decided with an order: 25 where the table has fewer than 64 bytes, or the order fewer than T.
unfoldable pub room_code : Case → ℕ → ℕ → ℕ
room_code c order table = cond (ltb table 64) 25 (order_refused c order)

-- the order by Order, and the table by Table, as bytes; both as they were where there is no room for one of them
unfoldable pub order_of : Case → List ℕ → ℕ → List ℕ
order_of c order table = cond (eqb (room_code c (length order) table) 0) (order_left c order) order

unfoldable pub table_of : Case → ℕ → List ℕ → List ℕ
table_of c order table = cond (eqb (room_code c order (length table)) 0) (filled (value_in (table_left c (replicate 32 0))) 32 table) table

-- the places of a list that has room for the constraints of any log (theorem `a_taken_window_is_decided`), and the decision on it
abbrev pub decide_places : ℕ
decide_places = 4096

abbrev pub decision_of : Window → ℕ → ℕ → Decision
decision_of w e pruning = deciding (loaded_case w) e pruning decide_places

-- the code of a decision, and the two lists after it
abbrev pub said_code : Decision → ℕ → ℕ → ℕ
said_code d order table = verdict_code d.verdict (room_code d.case order table)

abbrev pub said_order : Decision → List ℕ → ℕ → List ℕ
said_order d order table = where_ordered d.verdict (order_of d.case order table) order

abbrev pub said_table : Decision → ℕ → List ℕ → List ℕ
said_table d order table = where_ordered d.verdict (table_of d.case order table) table

-- the case that stands for a window with the numbers of an order, and the decision that stands for what is found over its log, with any count of constraints left
abbrev pub ordered_case : Window → List ℕ → Case
ordered_case w numbers = storing (loaded_case w) (Some numbers)

abbrev pub found_decision : Window → Result Outcome Refusal → ℕ → Decision
found_decision w (Err r) left = record { case = loaded_case w; verdict = Err r; order = replicate 32 0; left = 0 }
found_decision w (Ok o) left = answering (storing (loaded_case w) o.order) o.order left

unfoldable pub window_code : Window → ℕ → ℕ → ℕ → ℕ → ℕ
window_code w e pruning order table = where_loaded w (said_code (decision_of w e pruning) order table) (window_number w)

unfoldable pub window_order : Window → ℕ → ℕ → List ℕ → ℕ → List ℕ
window_order w e pruning order table = where_loaded w (said_order (decision_of w e pruning) order table) order

unfoldable pub window_table : Window → ℕ → ℕ → ℕ → List ℕ → List ℕ
window_table w e pruning order table = where_loaded w (said_table (decision_of w e pruning) order table) table

-- Of Encode's answer: 25 where there are fewer bytes than the polygraph takes.
unfoldable pub polygraph_code : Encoding → ℕ → ℕ
polygraph_code r room = cond (eqb (number_of r.reply) 0) (cond (ltb room (130 + 10 * r.left)) 25 0) (number_of r.reply)

-- the polygraph by Encode, on lists that have room for any (theorem `a_taken_window_is_encoded`), as bytes
unfoldable pub polygraph_after : Case → ℕ → ℕ → List ℕ → List ℕ
polygraph_after c e pruning out =
    let r = encode_answer c e pruning 4096 32 in
    cond (eqb (polygraph_code r (length out)) 0)
    (polygraph_in r.left (encode_rows c e pruning 4096 (replicate 32 0)) (encode_list c e pruning (replicate 4096 no_constraint) 32) out)
    out

-- The same of a history's polygraph in a setting that is taken, without a case.
unfoldable pub sent_code : History → ℕ → ℕ → ℕ → ℕ
sent_code h e pruning room = cond (ltb room (130 + 10 * encoded_count h e pruning)) 25 0

unfoldable pub sent_after : History → ℕ → ℕ → List ℕ → List ℕ
sent_after h e pruning out =
    cond (eqb (sent_code h e pruning (length out)) 0)
    (polygraph_in (encoded_count h e pruning) (polygraph h e pruning).known (encoded_list h e pruning (replicate 4096 no_constraint)) out)
    out

unfoldable pub encode_window : Window → ℕ → ℕ → ℕ → ℕ
encode_window w e pruning room = where_loaded w (polygraph_code (encode_answer (loaded_case w) e pruning 4096 32) room) (window_number w)

unfoldable pub encode_window_after : Window → ℕ → ℕ → List ℕ → List ℕ
encode_window_after w e pruning out = where_loaded w (polygraph_after (loaded_case w) e pruning out) out

-- Bills decides a window in one setting: chained, with pruning. Any other that is taken gives the same.
abbrev pub bills_encoding : ℕ
bills_encoding = 2

abbrev pub bills_pruning : ℕ
bills_pruning = 1

-- Of a case that is decided with an order: 25 where there are fewer bytes than twelve for each of sixteen bills.
unfoldable pub case_bills_code : Case → ℕ → ℕ
case_bills_code c room = cond (ltb room 192) 25 (bills_refused c 16)

-- the sixteen bills by Bills, as bytes; as it was where there is no room
unfoldable pub case_bills_after : Case → List ℕ → List ℕ
case_bills_after c out = cond (eqb (case_bills_code c (length out)) 0) (filled (bill_in (bills_left c (replicate 16 no_bill))) 16 out) out

-- the code of a decision, and the list after it
abbrev pub said_bills_code : Decision → ℕ → ℕ
said_bills_code d room = verdict_code d.verdict (case_bills_code d.case room)

abbrev pub said_bills_after : Decision → List ℕ → List ℕ
said_bills_after d out = where_ordered d.verdict (case_bills_after d.case out) out

unfoldable pub window_bills_code : Window → ℕ → ℕ
window_bills_code w room = where_loaded w (said_bills_code (decision_of w bills_encoding bills_pruning) room) (window_number w)

unfoldable pub window_bills_after : Window → List ℕ → List ℕ
window_bills_after w out = where_loaded w (said_bills_after (decision_of w bills_encoding bills_pruning) out) out

-- ---- of a log alone: it starts from 32 zeros, and has no times

abbrev pub check_code : List ℕ → List ℕ → ℕ
check_code log = check_window (from_zeros log)

abbrev pub encode_code : List ℕ → ℕ → ℕ → ℕ → ℕ
encode_code log = encode_window (from_zeros log)

abbrev pub encode_after : List ℕ → ℕ → ℕ → List ℕ → List ℕ
encode_after log = encode_window_after (from_zeros log)

abbrev pub decide_code : List ℕ → ℕ → ℕ → ℕ → ℕ → ℕ
decide_code log = window_code (from_zeros log)

abbrev pub order_after : List ℕ → ℕ → ℕ → List ℕ → ℕ → List ℕ
order_after log = window_order (from_zeros log)

abbrev pub table_after : List ℕ → ℕ → ℕ → ℕ → List ℕ → List ℕ
table_after log = window_table (from_zeros log)

-- ---- of a log and 64 bytes, the 32 values that it starts from; a start of any other length is 36 and nothing

abbrev pub start_window : List ℕ → List ℕ → Window
start_window log start = window log (values_in start) no_times

unfoldable pub decide_from_code : List ℕ → List ℕ → ℕ → ℕ → ℕ → ℕ → ℕ
decide_from_code log start e pruning order table = cond (eqb (length start) 64) (window_code (start_window log start) e pruning order table) 36

unfoldable pub decide_from_order : List ℕ → List ℕ → ℕ → ℕ → List ℕ → ℕ → List ℕ
decide_from_order log start e pruning order table = cond (eqb (length start) 64) (window_order (start_window log start) e pruning order table) order

unfoldable pub decide_from_table : List ℕ → List ℕ → ℕ → ℕ → ℕ → List ℕ → List ℕ
decide_from_table log start e pruning order table = cond (eqb (length start) 64) (window_table (start_window log start) e pruning order table) table

-- ---- of a log and the bytes of its times: a begin and an end for each transaction, four bytes each

-- both lists have so many bytes
abbrev pub bytes_each : ℕ → List ℕ → List ℕ → Bool
bytes_each n begin end = eqb (length begin) n && eqb (length end) n

-- both are empty, or both have four bytes for each of n transactions
abbrev pub four_each : ℕ → List ℕ → List ℕ → Bool
four_each n begin end = bytes_each 0 begin end || bytes_each (4 * n) begin end

-- What stands where a log that is taken has lists of such lengths, and else. Of a log that is refused no length is asked: it has its number.
abbrev pub where_timed : {X : Type 0} → List ℕ → List ℕ → List ℕ → X → X → X
where_timed log begin end x y = cond (implies (eqb (load_number log) 0) (four_each (transactions_in log) begin end)) x y

-- the number for which the bytes are not read: of lists that are not both empty the log's, then 37
unfoldable pub lengths_number : List ℕ → List ℕ → List ℕ → ℕ
lengths_number log begin end =
    cond (bytes_each 0 begin end) 0 (or_else (load_number log) (cond (bytes_each (4 * transactions_in log) begin end) 0 37))

-- the window: the log, the table that it starts from, and the seconds in the two lists
abbrev pub strict_window : List ℕ → List ℕ → List ℕ → List ℕ → ℕ → Window
strict_window log starting begin end drift = window log starting (times (seconds_in begin) (seconds_in end) drift)

-- It starts from 32 zeros. Beside a log that is taken, lists that are neither both empty nor both of four bytes for each transaction are 37, and nothing is written.
unfoldable pub check_strict_code : List ℕ → List ℕ → List ℕ → ℕ → List ℕ → ℕ
check_strict_code log begin end drift order = where_timed log begin end (check_window (strict_window log zeros begin end drift) order) 37

unfoldable pub encode_strict_code : List ℕ → List ℕ → List ℕ → ℕ → ℕ → ℕ → ℕ → ℕ
encode_strict_code log begin end drift e pruning room = where_timed log begin end (encode_window (strict_window log zeros begin end drift) e pruning room) 37

unfoldable pub encode_strict_after : List ℕ → List ℕ → List ℕ → ℕ → ℕ → ℕ → List ℕ → List ℕ
encode_strict_after log begin end drift e pruning out = where_timed log begin end (encode_window_after (strict_window log zeros begin end drift) e pruning out) out

-- and from 64 bytes: first 36, then as above
unfoldable pub decide_strict_code : List ℕ → List ℕ → List ℕ → List ℕ → ℕ → ℕ → ℕ → ℕ → ℕ → ℕ
decide_strict_code log start begin end drift e pruning order table =
    cond (eqb (length start) 64) (where_timed log begin end (window_code (strict_window log (values_in start) begin end drift) e pruning order table) 37) 36

unfoldable pub decide_strict_order : List ℕ → List ℕ → List ℕ → List ℕ → ℕ → ℕ → ℕ → List ℕ → ℕ → List ℕ
decide_strict_order log start begin end drift e pruning order table =
    cond (eqb (length start) 64) (where_timed log begin end (window_order (strict_window log (values_in start) begin end drift) e pruning order table) order) order

unfoldable pub decide_strict_table : List ℕ → List ℕ → List ℕ → List ℕ → ℕ → ℕ → ℕ → ℕ → List ℕ → List ℕ
decide_strict_table log start begin end drift e pruning order table =
    cond (eqb (length start) 64) (where_timed log begin end (window_table (strict_window log (values_in start) begin end drift) e pruning order table) table) table

-- the bills likewise
unfoldable pub bills_code : List ℕ → List ℕ → List ℕ → List ℕ → ℕ → ℕ → ℕ
bills_code log start begin end drift room =
    cond (eqb (length start) 64) (where_timed log begin end (window_bills_code (strict_window log (values_in start) begin end drift) room) 37) 36

unfoldable pub bills_after : List ℕ → List ℕ → List ℕ → List ℕ → ℕ → List ℕ → List ℕ
bills_after log start begin end drift out =
    cond (eqb (length start) 64) (where_timed log begin end (window_bills_after (strict_window log (values_in start) begin end drift) out) out) out
