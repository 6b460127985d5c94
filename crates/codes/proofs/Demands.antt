-- What a caller in C relies on beside the equations: nothing is written unless 0 is returned; a start changes Decide's table and the bills alone, and a table that was written can be
-- one; 25 speaks of the caller's buffers alone; without times the strict functions are the others, where exactly they give 37 and 36, and that they go by the window
-- whose seconds the bytes are; what Encode writes, read back; that Decide writes the first legal order and the table which its replay leaves; and that Bills answers as
-- Decide does and writes the bills of that order. Assumes nothing.
use mathlib.Core.Path.{◌≡◌, refl, sym, ap, subst, ◌∙◌}
use mathlib.Core.Logic.{◌⊎◌, ⊎_elim, ◌↔◌, ◌≢◌}
use Prim.Native.Nat.{ℕ, ◌+◌, ◌*◌, ◌<◌, ◌≤◌}
use native.Mathlib.Omega.{arith}
use mathlib.Core.Bool.{Bool, true, false, not, cond}
use mathlib.Core.List.{List, []}
use lib.Dec.{T, eqb, ltb, nltb→le}
use lib.ListN.{length, drop, get_or, replicate}
use borrow.Author.Tests.{eq-eqb, ne_eqb, le-ltb}
use Rattle.model.specs.Lists.{implies}
use Rattle.model.specs.History.{History, is_order, legal}
use Rattle.model.specs.Log.{pair_at, load_number, transactions_in, history_of}
use Rattle.model.specs.Times.{times, no_times, timed_history}
use Rattle.model.specs.Window.{Window, window, window_number, window_history, zeros, from_zeros}
use Rattle.model.specs.Lent.{no_constraint, encoded_count}
use Rattle.model.specs.Search.{first_legal}
use Rattle.model.proofs.Basics.{same?, not_intro, false_eq}
use Rattle.model.proofs.Loaded.{Bytes}
use Rattle.model.proofs.Times.{timed_none}
use Rattle.model.proofs.Windows.{number_by_log, number_of_log, number_of_zeros, table_iff}
use Rattle.decision.specs.Answer.{is_some}
use Rattle.answers.specs.Settings.{setting_refusal}
use Rattle.answers.proofs.Answering.{setting_either}
use Rattle.checker.specs.Cases.{loaded_case}
use Rattle.checker.specs.Calls.{checking}
use Rattle.checker.specs.Encodings.{encode_answer, encode_list, encode_rows}
use Rattle.checker.specs.Results.{table_left}
use Rattle.codes.specs.Images.{polygraph_in, values_in, seconds_in, second_bytes}
use Rattle.codes.specs.Codes.{judgement_code, where_loaded, decision_of, said_code, polygraph_code, polygraph_after}
use Rattle.codes.specs.Codes.{check_window, window_code, window_order, window_table, encode_window, encode_window_after}
use Rattle.codes.specs.Codes.{check_code, decide_code, order_after, table_after, start_window, decide_from_code, decide_from_order, decide_from_table, encode_code, encode_after}
use Rattle.codes.specs.Codes.{bills_encoding, bills_pruning, window_bills_code, window_bills_after, bills_code, bills_after}
use Rattle.codes.specs.Told.{Ordered, Billed}
use Rattle.codes.specs.Codes.{four_each, where_timed, strict_window, check_strict_code, decide_strict_code, decide_strict_order, decide_strict_table, encode_strict_code, encode_strict_after}
use Rattle.codes.specs.Read.{Polygraphed}
use Rattle.codes.proofs.Taking.{chosen_kept, chosen_done, chosen_never}
use Rattle.codes.proofs.Timing.{Told, four_out, four_in, where_unasked, where_untimed, thirty_seven}
use Rattle.codes.proofs.Room.{decided_code, decided_refused, encoded_code, encoded_refused, checked_code, decided_never_25, encoded_never_25, decided_told, encoded_told, checked_told}
use Rattle.codes.proofs.Starting.{start_refused, start_taken, start_same, values_32, values_fit, code_same, order_same, written_start}
use Rattle.codes.proofs.Ordering.{ordered, window_writes_with_0_alone, check_alike, encode_alike, sent_alike, code_alike, lists_alike, untimed_number, untimed_history}
use Rattle.codes.proofs.Bytes.{checked, encoded, encoded_list_lem, decided, decided_order, decided_table, billed, billed_list, seconds_back}
use Rattle.codes.proofs.Reading.{written}
use Rattle.codes.proofs.Charging.{room192, then_room, charges_refused, charges_code, charges_as_decide, charges_with_0_alone, charged, beside_0}

-- a setting that is taken, and one that is refused
by_setting : (e pruning n x : ℕ) → (setting_refusal e pruning ≡ 0 → n ≡ x) → (setting_refusal e pruning ≡ 12 → n ≡ 12) → n ≡ cond (eqb (setting_refusal e pruning) 0) x 12
by_setting e pruning n x taken refused =
    ⊎_elim (λ (s : setting_refusal e pruning ≡ 0). taken s ∙ sym (ap (λ b. cond b x 12) (eq-eqb (setting_refusal e pruning) 0 s)))
    (λ (s : setting_refusal e pruning ≡ 12). refused s ∙ sym (ap (λ b. cond b x 12) (ne_eqb (setting_refusal e pruning) 0 (λ z. omega (arith, z, s))))) (setting_either e pruning)

-- what is given from 32 values is never 36
not_36 : (w : Window) → length w.starting ≡ 32 → (x : ℕ) → (window_number w ≡ 0 → Told x) → where_loaded w x (window_number w) ≢ 36
not_36 w long x told q =
    ⊎_elim
    (λ (z : window_number w ≡ 0).
    let is : x ≡ 36 = sym (ap (λ b. cond b x (window_number w)) (eq-eqb (window_number w) 0 z)) ∙ q in
    ⊎_elim (λ l. omega (arith, l, is)) (λ l. omega (arith, l, is)) (told z))
    (λ (f : window_number w ≢ 0). (table_iff w).0 (sym (ap (λ b. cond b x (window_number w)) (ne_eqb (window_number w) 0 f)) ∙ q) long)
    (same? (window_number w) 0)

pub decide_writes_with_0_alone : (log : List ℕ) (e pruning : ℕ) (order table : List ℕ) → decide_code log e pruning (length order) (length table) ≢ 0
    → (order_after log e pruning order (length table) ≡ order) × (table_after log e pruning (length order) table ≡ table)
decide_writes_with_0_alone log = window_writes_with_0_alone (from_zeros log)

pub decide_from_writes_with_0_alone : (log start : List ℕ) (e pruning : ℕ) (order table : List ℕ) → decide_from_code log start e pruning (length order) (length table) ≢ 0
    → (decide_from_order log start e pruning order (length table) ≡ order) × (decide_from_table log start e pruning (length order) table ≡ table)
unfolding decide_from_code decide_from_order decide_from_table
decide_from_writes_with_0_alone log start e pruning order table f =
    let w = start_window log start in
    let b = eqb (length start) 64 in
    let n = window_code w e pruning (length order) (length table) in
    let kept = window_writes_with_0_alone w e pruning order table in
    (chosen_kept n 36 _ order b (λ g. (kept g).0) f, chosen_kept n 36 _ table b (λ g. (kept g).1) f)

-- `beaconcrumb_decide` is `beaconcrumb_decide_from` with 64 zeros.
pub decide_starts_from_64_zeros : (log : List ℕ) (e pruning : ℕ) (order table : List ℕ)
    → (decide_from_code log (replicate 64 0) e pruning (length order) (length table) ≡ decide_code log e pruning (length order) (length table))
    × (decide_from_order log (replicate 64 0) e pruning order (length table) ≡ order_after log e pruning order (length table))
    × (decide_from_table log (replicate 64 0) e pruning (length order) table ≡ table_after log e pruning (length order) table)
unfolding decide_from_code decide_from_order decide_from_table values_in pair_at
decide_starts_from_64_zeros log e pruning order table = (refl, refl, refl)

-- The start changes the table alone: from any two starts of 64 bytes code and order are the same.
pub start_changes_the_table_alone : (log s s' : List ℕ) → length s ≡ 64 → length s' ≡ 64 → (e pruning : ℕ) (order table : List ℕ)
    → (decide_from_code log s' e pruning (length order) (length table) ≡ decide_from_code log s e pruning (length order) (length table))
    × (decide_from_order log s' e pruning order (length table) ≡ decide_from_order log s e pruning order (length table))
unfolding decide_from_code decide_from_order
start_changes_the_table_alone log s s' l l' e pruning order table = (
  start_same (λ vs. window_code (window log vs no_times) e pruning (length order) (length table)) 36 s s' l l'
      (code_same log (values_in s) (values_in s') no_times (values_32 s) (values_32 s') e pruning (length order) (length table)),
  start_same (λ vs. window_order (window log vs no_times) e pruning order (length table)) order s s' l l'
      (order_same log (values_in s) (values_in s') no_times (values_32 s) (values_32 s') e pruning order (length table)),
)

-- Where 0 is given, the table that was written holds as a start, in its first 64 bytes, what Table writes of the decided case: what one window left can be the next
-- one's start.
pub a_written_table_is_a_start : (log start : List ℕ) (e pruning : ℕ) (order table : List ℕ) → decide_from_code log start e pruning (length order) (length table) ≡ 0
    → values_in (decide_from_table log start e pruning (length order) table) ≡ table_left (decision_of (start_window log start) e pruning).case (replicate 32 0)
unfolding decide_from_code decide_from_table
a_written_table_is_a_start log start e pruning order table z =
    let w = start_window log start in
    chosen_done (window_code w e pruning (length order) (length table)) 36 (window_table w e pruning (length order) table) table
    (λ t. values_in t ≡ table_left (decision_of w e pruning).case (replicate 32 0)) (eqb (length start) 64) (λ q. omega (arith, q))
    (written_start w (values_32 start) e pruning order table) z

encode_window_writes_with_0_alone : (w : Window) (e pruning : ℕ) (out : List ℕ) → encode_window w e pruning (length out) ≢ 0 → encode_window_after w e pruning out ≡ out
unfolding encode_window encode_window_after polygraph_after
encode_window_writes_with_0_alone w e pruning out =
    let a = encode_answer (loaded_case w) e pruning 4096 32 in
    let code = polygraph_code a (length out) in
    let image = polygraph_in a.left (encode_rows (loaded_case w) e pruning 4096 (replicate 32 0)) (encode_list (loaded_case w) e pruning (replicate 4096 no_constraint) 32) out in
    chosen_kept code (window_number w) (cond (eqb code 0) image out) out (eqb (window_number w) 0) (λ f. ap (λ x. cond x image out) (ne_eqb code 0 f))

pub encode_writes_with_0_alone : (log : List ℕ) (e pruning : ℕ) (out : List ℕ) → encode_code log e pruning (length out) ≢ 0 → encode_after log e pruning out ≡ out
encode_writes_with_0_alone log = encode_window_writes_with_0_alone (from_zeros log)

-- ---- Room: the 4,096 places that Decide and Encode for C go by are always enough. So of a log that Load takes, in a setting that is taken, Decide gives 255 where no legal
-- order exists, and else 25 or 0 by the caller's two buffers; Encode gives 25 or 0 by the caller's buffer.

pub decide_gives : (log : List ℕ) → load_number log ≡ 0 → (e pruning : ℕ) → setting_refusal e pruning ≡ 0 → (order table : ℕ)
    → decide_code log e pruning order table ≡ cond (is_some (first_legal (history_of log))) (cond (ltb table 64) 25 (cond (ltb order (transactions_in log)) 25 0)) 255
decide_gives log taken e pruning setting order table =
    decided_code (from_zeros log) (number_of_zeros log ∙ taken) e pruning order table setting
    ∙ ap (λ (h : History). cond (is_some (first_legal h)) (cond (ltb table 64) 25 (cond (ltb order (transactions_in log)) 25 0)) 255) (timed_none log 0)

pub encode_gives : (log : List ℕ) → load_number log ≡ 0 → (e pruning : ℕ) → setting_refusal e pruning ≡ 0 → (room : ℕ)
    → encode_code log e pruning room ≡ cond (ltb room (130 + 10 * encoded_count (history_of log) e pruning)) 25 0
unfolding encode_window
encode_gives log taken e pruning setting room =
    let w = from_zeros log in
    let z = number_of_zeros log ∙ taken in
    ap (λ b. cond b (polygraph_code (encode_answer (loaded_case w) e pruning 4096 32) room) (window_number w)) (eq-eqb (window_number w) 0 z)
    ∙ encoded_code w z e pruning setting room
    ∙ ap {B = ℕ} (λ (h : History). cond (ltb room (130 + 10 * encoded_count h e pruning)) 25 0) (timed_none log 0)

-- 25 is never given, of any bytes and in any setting, where the order has 32 bytes and the table 64, or the polygraph 41,090.
pub decide_never_gives_25 : (log : List ℕ) (e pruning order table : ℕ) → 32 ≤ order → 64 ≤ table → decide_code log e pruning order table ≢ 25
decide_never_gives_25 log = decided_never_25 (from_zeros log)

pub decide_from_never_gives_25 : (log start : List ℕ) (e pruning order table : ℕ) → 32 ≤ order → 64 ≤ table → decide_from_code log start e pruning order table ≢ 25
unfolding decide_from_code
decide_from_never_gives_25 log start e pruning order table long wide =
    let w = start_window log start in
    chosen_never (window_code w e pruning order table) 36 25 (eqb (length start) 64) (decided_never_25 w e pruning order table long wide) (λ z. omega (arith, z))

pub encode_never_gives_25 : (log : List ℕ) (e pruning room : ℕ) → 41090 ≤ room → encode_code log e pruning room ≢ 25
encode_never_gives_25 log = encoded_never_25 (from_zeros log)

-- ---- The strict functions. With two empty lists, and any drift up to 3,600, they are the functions without times.

pub strict_decide_without_times : (log start : List ℕ) (drift : ℕ) → drift ≤ 3600 → (e pruning : ℕ) (order table : List ℕ)
    → (decide_strict_code log start [] [] drift e pruning (length order) (length table) ≡ decide_from_code log start e pruning (length order) (length table))
    × (decide_strict_order log start [] [] drift e pruning order (length table) ≡ decide_from_order log start e pruning order (length table))
    × (decide_strict_table log start [] [] drift e pruning (length order) table ≡ decide_from_table log start e pruning (length order) table)
unfolding decide_strict_code decide_strict_order decide_strict_table decide_from_code decide_from_order decide_from_table seconds_in
strict_decide_without_times log start drift low e pruning order table =
    let vs = values_in start in
    let u = window log vs (times [] [] drift) in
    let number = untimed_number log vs drift (values_32 start) low in
    let history = untimed_history log drift in
    let lists = lists_alike log vs (times [] [] drift) no_times number history e pruning order table in (
      ap (λ x. cond (eqb (length start) 64) x 36)
          (where_untimed log (window_code u e pruning (length order) (length table)) 37
          ∙ code_alike log vs (times [] [] drift) no_times number history e pruning (length order) (length table)),
      ap (λ x. cond (eqb (length start) 64) x order) (where_untimed log (window_order u e pruning order (length table)) order ∙ lists.0),
      ap (λ x. cond (eqb (length start) 64) x table) (where_untimed log (window_table u e pruning (length order) table) table ∙ lists.1),
    )

pub strict_encode_without_times : (log : List ℕ) (drift : ℕ) → drift ≤ 3600 → (e pruning : ℕ) (out : List ℕ)
    → (encode_strict_code log [] [] drift e pruning (length out) ≡ encode_code log e pruning (length out))
    × (encode_strict_after log [] [] drift e pruning out ≡ encode_after log e pruning out)
unfolding encode_strict_code encode_strict_after seconds_in
strict_encode_without_times log drift low e pruning out =
    let ts = times [] [] drift in
    let u = window log zeros ts in
    let number = untimed_number log zeros drift refl low in
    let history = untimed_history log drift in (
      where_untimed log (encode_window u e pruning (length out)) 37 ∙ encode_alike log zeros ts no_times number history e pruning (length out),
      where_untimed log (encode_window_after u e pruning out) out ∙ sent_alike log zeros ts no_times number history e pruning out,
    )

pub strict_check_without_times : (log : List ℕ) (drift : ℕ) → drift ≤ 3600 → (order : List ℕ) → check_strict_code log [] [] drift order ≡ check_code log order
unfolding check_strict_code seconds_in
strict_check_without_times log drift low order =
    let ts = times [] [] drift in
    where_untimed log (check_window (window log zeros ts) order) 37
    ∙ check_alike log zeros ts no_times (untimed_number log zeros drift refl low) (untimed_history log drift) order

-- Nothing is written unless 0 is returned.
pub strict_decide_writes_with_0_alone : (log start begin end : List ℕ) (drift e pruning : ℕ) (order table : List ℕ)
    → decide_strict_code log start begin end drift e pruning (length order) (length table) ≢ 0
    → (decide_strict_order log start begin end drift e pruning order (length table) ≡ order) × (decide_strict_table log start begin end drift e pruning (length order) table ≡ table)
unfolding decide_strict_code decide_strict_order decide_strict_table
strict_decide_writes_with_0_alone log start begin end drift e pruning order table f =
    let w = strict_window log (values_in start) begin end drift in
    let n = window_code w e pruning (length order) (length table) in
    let kept = window_writes_with_0_alone w e pruning order table in
    let a = eqb (length start) 64 in
    let b = implies (eqb (load_number log) 0) (four_each (transactions_in log) begin end) in (
      chosen_kept (cond b n 37) 36 _ order a (chosen_kept n 37 _ order b (λ g. (kept g).0)) f,
      chosen_kept (cond b n 37) 36 _ table a (chosen_kept n 37 _ table b (λ g. (kept g).1)) f,
    )

pub strict_encode_writes_with_0_alone : (log begin end : List ℕ) (drift e pruning : ℕ) (out : List ℕ) → encode_strict_code log begin end drift e pruning (length out) ≢ 0
    → encode_strict_after log begin end drift e pruning out ≡ out
unfolding encode_strict_code encode_strict_after
strict_encode_writes_with_0_alone log begin end drift e pruning out =
    let w = strict_window log zeros begin end drift in
    chosen_kept (encode_window w e pruning (length out)) 37 (encode_window_after w e pruning out) out (implies (eqb (load_number log) 0) (four_each (transactions_in log) begin end))
    (encode_window_writes_with_0_alone w e pruning out)

-- 25 is never given with room.
pub strict_decide_never_gives_25 : (log start begin end : List ℕ) (drift e pruning order table : ℕ) → 32 ≤ order → 64 ≤ table
    → decide_strict_code log start begin end drift e pruning order table ≢ 25
unfolding decide_strict_code
strict_decide_never_gives_25 log start begin end drift e pruning order table long wide =
    let w = strict_window log (values_in start) begin end drift in
    let b = implies (eqb (load_number log) 0) (four_each (transactions_in log) begin end) in
    chosen_never (cond b (window_code w e pruning order table) 37) 36 25 (eqb (length start) 64)
    (chosen_never (window_code w e pruning order table) 37 25 b (decided_never_25 w e pruning order table long wide) (λ z. omega (arith, z))) (λ z. omega (arith, z))

pub strict_encode_never_gives_25 : (log begin end : List ℕ) (drift e pruning room : ℕ) → 41090 ≤ room → encode_strict_code log begin end drift e pruning room ≢ 25
unfolding encode_strict_code
strict_encode_never_gives_25 log begin end drift e pruning room l =
    let w = strict_window log zeros begin end drift in
    chosen_never (encode_window w e pruning room) 37 25 (implies (eqb (load_number log) 0) (four_each (transactions_in log) begin end)) (encoded_never_25 w e pruning room l) (λ z. omega (arith, z))

-- The start changes the table alone, and a table that was written can be one.
pub strict_start_changes_the_table_alone : (log s s' begin end : List ℕ) → length s ≡ 64 → length s' ≡ 64 → (drift e pruning : ℕ) (order table : List ℕ)
    → (decide_strict_code log s' begin end drift e pruning (length order) (length table) ≡ decide_strict_code log s begin end drift e pruning (length order) (length table))
    × (decide_strict_order log s' begin end drift e pruning order (length table) ≡ decide_strict_order log s begin end drift e pruning order (length table))
unfolding decide_strict_code decide_strict_order
strict_start_changes_the_table_alone log s s' begin end l l' drift e pruning order table =
    let ts = times (seconds_in begin) (seconds_in end) drift in (
      start_same (λ vs. where_timed log begin end (window_code (window log vs ts) e pruning (length order) (length table)) 37) 36 s s' l l'
          (ap (λ n. where_timed log begin end n 37) (code_same log (values_in s) (values_in s') ts (values_32 s) (values_32 s') e pruning (length order) (length table))),
      start_same (λ vs. where_timed log begin end (window_order (window log vs ts) e pruning order (length table)) order) order s s' l l'
          (ap (λ o. where_timed log begin end o order) (order_same log (values_in s) (values_in s') ts (values_32 s) (values_32 s') e pruning order (length table))),
    )

pub strict_written_table_is_a_start : (log start begin end : List ℕ) (drift e pruning : ℕ) (order table : List ℕ)
    → decide_strict_code log start begin end drift e pruning (length order) (length table) ≡ 0
    → values_in (decide_strict_table log start begin end drift e pruning (length order) table)
    ≡ table_left (decision_of (strict_window log (values_in start) begin end drift) e pruning).case (replicate 32 0)
unfolding decide_strict_code decide_strict_table
strict_written_table_is_a_start log start begin end drift e pruning order table =
    let w = strict_window log (values_in start) begin end drift in
    let n = window_code w e pruning (length order) (length table) in
    let left = window_table w e pruning (length order) table in
    let b = implies (eqb (load_number log) 0) (four_each (transactions_in log) begin end) in
    let P : List ℕ → Type 0 = λ t. values_in t ≡ table_left (decision_of w e pruning).case (replicate 32 0) in
    chosen_done (cond b n 37) 36 (cond b left table) table P (eqb (length start) 64) (λ q. omega (arith, q))
    (chosen_done n 37 left table P b (λ q. omega (arith, q)) (written_start w (values_32 start) e pruning order table))

-- 37 is given exactly beside a log that is taken where the lists are neither both empty nor both of four bytes for each transaction; Decide's start has its 64 bytes.
abbrev pub Fits : ℕ → List ℕ → List ℕ → Type 0
Fits n begin end = ((length begin ≡ 0) × (length end ≡ 0)) ⊎ ((length begin ≡ 4 * n) × (length end ≡ 4 * n))

by_lengths : (log begin end : List ℕ) {A : Type 0} → A ↔ ((load_number log ≡ 0) × (four_each (transactions_in log) begin end ≡ false))
    → A ↔ ((load_number log ≡ 0) × (Fits (transactions_in log) begin end → ⊥))
by_lengths log begin end is =
    let fit = four_each (transactions_in log) begin end in (
      λ a. let x = is.0 a in (x.0, λ l. subst T x.1 (four_in (transactions_in log) begin end l)),
      λ x. is.1 (x.0, false_eq fit (not_intro fit (λ t. x.1 (four_out (transactions_in log) begin end t)))),
    )

pub strict_check_gives_37 : (log begin end : List ℕ) (drift : ℕ) (order : List ℕ)
    → (check_strict_code log begin end drift order ≡ 37) ↔ ((load_number log ≡ 0) × (Fits (transactions_in log) begin end → ⊥))
unfolding check_strict_code check_window
strict_check_gives_37 log begin end drift order =
    let w = strict_window log zeros begin end drift in
    by_lengths log begin end (thirty_seven log zeros begin end drift _ refl (λ z. checked_told (loaded_case w) order))

pub strict_encode_gives_37 : (log begin end : List ℕ) (drift e pruning room : ℕ)
    → (encode_strict_code log begin end drift e pruning room ≡ 37) ↔ ((load_number log ≡ 0) × (Fits (transactions_in log) begin end → ⊥))
unfolding encode_strict_code encode_window
strict_encode_gives_37 log begin end drift e pruning room =
    let w = strict_window log zeros begin end drift in
    by_lengths log begin end (thirty_seven log zeros begin end drift _ refl (λ z. encoded_told w z e pruning room))

pub strict_decide_gives_37 : (log start begin end : List ℕ) (drift e pruning order table : ℕ)
    → (decide_strict_code log start begin end drift e pruning order table ≡ 37) ↔ ((length start ≡ 64) × ((load_number log ≡ 0) × (Fits (transactions_in log) begin end → ⊥)))
unfolding decide_strict_code window_code
strict_decide_gives_37 log start begin end drift e pruning order table = (
  λ q.
      ⊎_elim (λ (l : length start ≡ 64). (l, both.0 (start_taken code 36 start l code refl ∙ q)))
      (λ (f : length start ≢ 64). absurd (omega (arith, start_refused code 36 start f, q))) (same? (length start) 64),
  λ x. sym (start_taken code 36 start x.0 code refl) ∙ both.1 x.1,
)
  where
    w : Window
    w = strict_window log (values_in start) begin end drift

    code : ℕ
    code = where_timed log begin end (where_loaded w (said_code (decision_of w e pruning) order table) (window_number w)) 37

    both : (code ≡ 37) ↔ ((load_number log ≡ 0) × (Fits (transactions_in log) begin end → ⊥))
    both =
        by_lengths log begin end
        (thirty_seven log (values_in start) begin end drift (said_code (decision_of w e pruning) order table) (values_32 start) (λ z. decided_told w z e pruning order table))

-- 36 is given exactly where the start has not 64 bytes.
pub strict_decide_gives_36 : (log start begin end : List ℕ) (drift e pruning order table : ℕ)
    → (decide_strict_code log start begin end drift e pruning order table ≡ 36) ↔ (length start ≢ 64)
unfolding decide_strict_code window_code
strict_decide_gives_36 log start begin end drift e pruning order table =
    let w = strict_window log (values_in start) begin end drift in
    let said = said_code (decision_of w e pruning) order table in
    let code = where_timed log begin end (where_loaded w said (window_number w)) 37 in (
      λ q l.
          chosen_never (where_loaded w said (window_number w)) 37 36 (implies (eqb (load_number log) 0) (four_each (transactions_in log) begin end))
          (not_36 w (values_32 start) said (λ z. decided_told w z e pruning order table)) (λ z. omega (arith, z)) (start_taken code 36 start l code refl ∙ q),
      λ f. sym (start_refused code 36 start f),
    )

-- ---- Lists of seconds as bytes, four each, low byte first: each strict function gives what the window with these lists gives, whatever their lengths.

pub strict_check_goes_by_its_window : (log begins ends : List ℕ) (drift : ℕ) (order : List ℕ)
    → check_strict_code log (second_bytes begins) (second_bytes ends) drift order ≡ check_window (window log zeros (times begins ends drift)) order
strict_check_goes_by_its_window log begins ends drift order = checked log begins ends drift order

pub strict_encode_goes_by_its_window : (log begins ends : List ℕ) (drift e pruning : ℕ) (out : List ℕ)
    → (encode_strict_code log (second_bytes begins) (second_bytes ends) drift e pruning (length out) ≡ encode_window (window log zeros (times begins ends drift)) e pruning (length out))
    × (encode_strict_after log (second_bytes begins) (second_bytes ends) drift e pruning out ≡ encode_window_after (window log zeros (times begins ends drift)) e pruning out)
strict_encode_goes_by_its_window log begins ends drift e pruning out =
    (encoded log begins ends drift e pruning (length out), encoded_list_lem log begins ends drift e pruning out)

pub strict_decide_goes_by_its_window : (log start begins ends : List ℕ) (drift : ℕ) → length start ≡ 64 → (e pruning : ℕ) (order table : List ℕ)
    → (decide_strict_code log start (second_bytes begins) (second_bytes ends) drift e pruning (length order) (length table)
    ≡ window_code (window log (values_in start) (times begins ends drift)) e pruning (length order) (length table))
    × (decide_strict_order log start (second_bytes begins) (second_bytes ends) drift e pruning order (length table)
    ≡ window_order (window log (values_in start) (times begins ends drift)) e pruning order (length table))
    × (decide_strict_table log start (second_bytes begins) (second_bytes ends) drift e pruning (length order) table
    ≡ window_table (window log (values_in start) (times begins ends drift)) e pruning (length order) table)
strict_decide_goes_by_its_window log start begins ends drift l e pruning order table = (
  decided log start begins ends drift l e pruning (length order) (length table),
  decided_order log start begins ends drift l e pruning order (length table),
  decided_table log start begins ends drift l e pruning (length order) table,
)

-- A window that Load refuses has Load's number (37 and 38 among them), whatever else is wrong.
pub a_refused_window_has_its_number : (w : Window) → window_number w ≢ 0 → (o : List ℕ) (e pruning room order table : ℕ)
    → (check_window w o ≡ window_number w) × (encode_window w e pruning room ≡ window_number w) × (window_code w e pruning order table ≡ window_number w)
unfolding check_window encode_window window_code
a_refused_window_has_its_number w f o e pruning room order table =
    let number : (x : ℕ) → where_loaded w x (window_number w) ≡ window_number w = λ x. ap (λ b. cond b x (window_number w)) (ne_eqb (window_number w) 0 f) in
    (number _, number _, number _)

-- One that it takes is judged by its history, with its times: Check gives 13 for a list that is no order of its transactions, else 0 or 255; Encode and Decide give 12
-- for a setting out of range, and else what `encode_gives` and `decide_gives` say of a log.
pub a_taken_window_is_judged : (w : Window) → window_number w ≡ 0 → (o : List ℕ)
    → check_window w o ≡ cond (is_order (transactions_in w.bytes) o) (cond (legal (window_history w) o) 0 255) 13
unfolding check_window
a_taken_window_is_judged w z o =
    ap (λ b. cond b (judgement_code (checking (loaded_case w) o).judgement) (window_number w)) (eq-eqb (window_number w) 0 z) ∙ checked_code w z o

pub a_taken_window_is_encoded : (w : Window) → window_number w ≡ 0 → (e pruning room : ℕ)
    → encode_window w e pruning room ≡ cond (eqb (setting_refusal e pruning) 0) (cond (ltb room (130 + 10 * encoded_count (window_history w) e pruning)) 25 0) 12
unfolding encode_window
a_taken_window_is_encoded w z e pruning room =
    ap (λ b. cond b (polygraph_code (encode_answer (loaded_case w) e pruning 4096 32) room) (window_number w)) (eq-eqb (window_number w) 0 z)
    ∙ by_setting e pruning _ _ (λ s. encoded_code w z e pruning s room) (λ s. encoded_refused w z e pruning s room)

pub a_taken_window_is_decided : (w : Window) → window_number w ≡ 0 → (e pruning order table : ℕ)
    → window_code w e pruning order table
    ≡ cond (eqb (setting_refusal e pruning) 0) (cond (is_some (first_legal (window_history w))) (cond (ltb table 64) 25 (cond (ltb order (transactions_in w.bytes)) 25 0)) 255) 12
a_taken_window_is_decided w z e pruning order table =
    by_setting e pruning _ _ (λ s. decided_code w z e pruning order table s) (λ s. decided_refused w z e pruning order table s)

-- Beside a log that is refused each strict function gives the log's number, whatever the bytes of the times, also of odd lengths; Decide of a start of 64 bytes.
refused_number : (log starting begin end : List ℕ) (drift : ℕ) → length starting ≡ 32 → load_number log ≢ 0
    → window_number (strict_window log starting begin end drift) ≡ load_number log
refused_number log starting begin end drift long f =
    let w = strict_window log starting begin end drift in
    number_of_log w long ∙ number_by_log log w.clock f

module _ (log : List ℕ) (refused : load_number log ≢ 0) (begin end : List ℕ) (drift : ℕ) where
  pub strict_check_of_a_refused_log : (order : List ℕ) → check_strict_code log begin end drift order ≡ load_number log
  unfolding check_strict_code
  strict_check_of_a_refused_log order =
      let w = strict_window log zeros begin end drift in
      let is = refused_number log zeros begin end drift refl refused in
      where_unasked log begin end (check_window w order) 37 refused
      ∙ (a_refused_window_has_its_number w (λ z. refused (sym is ∙ z)) order 0 0 0 0 0).0 ∙ is

  pub strict_encode_of_a_refused_log : (e pruning room : ℕ) → encode_strict_code log begin end drift e pruning room ≡ load_number log
  unfolding encode_strict_code
  strict_encode_of_a_refused_log e pruning room =
      let w = strict_window log zeros begin end drift in
      let is = refused_number log zeros begin end drift refl refused in
      where_unasked log begin end (encode_window w e pruning room) 37 refused
      ∙ (a_refused_window_has_its_number w (λ z. refused (sym is ∙ z)) [] e pruning room 0 0).1 ∙ is

  pub strict_decide_of_a_refused_log : (start : List ℕ) → length start ≡ 64 → (e pruning order table : ℕ)
      → decide_strict_code log start begin end drift e pruning order table ≡ load_number log
  unfolding decide_strict_code
  strict_decide_of_a_refused_log start l e pruning order table =
      let w = strict_window log (values_in start) begin end drift in
      let is = refused_number log (values_in start) begin end drift (values_32 start) refused in
      sym
      (start_taken _ 36 start l (load_number log)
      (sym
      (where_unasked log begin end (window_code w e pruning order table) 37 refused
      ∙ (a_refused_window_has_its_number w (λ z. refused (sym is ∙ z)) [] e pruning 0 order table).2 ∙ is)))

-- ---- What Encode writes, read back. Of a window that Load takes, in a setting that is taken, in a list with room, the bytes hold the polygraph of its history: the
-- count, the row words and the constraints left, each at its place. The list is as long as it was, and behind the last constraint it is as it was.

pub a_taken_window_is_written : (w : Window) → window_number w ≡ 0 → (e pruning : ℕ) → setting_refusal e pruning ≡ 0 → (out : List ℕ)
    → 130 + 10 * encoded_count (window_history w) e pruning ≤ length out → Polygraphed (window_history w) e pruning out (encode_window_after w e pruning out)
a_taken_window_is_written w z e pruning setting out room = written w z e pruning setting out room

-- So it is wherever 0 is returned: of a window, of a log alone, and of a log with the bytes of its times.
pub a_window_with_0_is_written : (w : Window) (e pruning : ℕ) (out : List ℕ) → encode_window w e pruning (length out) ≡ 0
    → Polygraphed (window_history w) e pruning out (encode_window_after w e pruning out)
unfolding encode_window
a_window_with_0_is_written w e pruning out q =
    ⊎_elim
    (λ (z : window_number w ≡ 0).
    let code : polygraph_code (encode_answer (loaded_case w) e pruning 4096 32) (length out) ≡ 0 =
    sym (ap (λ b. cond b (polygraph_code (encode_answer (loaded_case w) e pruning 4096 32) (length out)) (window_number w)) (eq-eqb (window_number w) 0 z)) ∙ q in
    ⊎_elim
    (λ (s : setting_refusal e pruning ≡ 0).
    a_taken_window_is_written w z e pruning s out
    (go (ltb (length out) (130 + 10 * encoded_count (window_history w) e pruning)) (nltb→le (length out) (130 + 10 * encoded_count (window_history w) e pruning))
    (sym (encoded_code w z e pruning s (length out)) ∙ code)))
    (λ (s : setting_refusal e pruning ≡ 12). absurd (omega (arith, encoded_refused w z e pruning s (length out), code)))
    (setting_either e pruning))
    (λ (f : window_number w ≢ 0). absurd (f (sym (a_refused_window_has_its_number w f [] e pruning (length out) 0 0).1 ∙ q)))
    (same? (window_number w) 0)
  where
    go : {X : Type 0} (b : Bool) → (T (not b) → X) → ◌≡◌ {A = ℕ} (cond b 25 0) 0 → X
    go true f r = absurd (omega arith)
    go false f r = f tt

pub encode_with_0_writes_the_polygraph : (log : List ℕ) (e pruning : ℕ) (out : List ℕ) → encode_code log e pruning (length out) ≡ 0
    → Polygraphed (history_of log) e pruning out (encode_after log e pruning out)
encode_with_0_writes_the_polygraph log e pruning out q =
    subst (λ (h : History). Polygraphed h e pruning out (encode_after log e pruning out)) (timed_none log 0) (a_window_with_0_is_written (from_zeros log) e pruning out q)

pub strict_encode_with_0_writes_the_polygraph : (log begin end : List ℕ) (drift e pruning : ℕ) (out : List ℕ) → encode_strict_code log begin end drift e pruning (length out) ≡ 0
    → Polygraphed (window_history (strict_window log zeros begin end drift)) e pruning out (encode_strict_after log begin end drift e pruning out)
unfolding encode_strict_code encode_strict_after
strict_encode_with_0_writes_the_polygraph log begin end drift e pruning out =
    let w = strict_window log zeros begin end drift in
    chosen_done (encode_window w e pruning (length out)) 37 (encode_window_after w e pruning out) out (Polygraphed (window_history w) e pruning out)
    (implies (eqb (load_number log) 0) (four_each (transactions_in log) begin end)) (λ q. omega (arith, q)) (a_window_with_0_is_written w e pruning out)

-- ---- What Decide writes. Where it returns 0, the order that it leaves is the first legal one of the window's history, with its times, and the table the one that
-- this order's replay leaves from the window's start; no other byte of the two lists is changed.

pub a_decided_window_is_written : (w : Window) (e pruning : ℕ) (order table : List ℕ) → window_code w e pruning (length order) (length table) ≡ 0
    → Ordered (window_history w) (transactions_in w.bytes) w.starting order table
    (window_order w e pruning order (length table)) (window_table w e pruning (length order) table)
a_decided_window_is_written w e pruning order table z = ordered w e pruning order table z

-- of a log alone, from 32 zeros
pub decide_writes_the_first_legal_order : (log : List ℕ) (e pruning : ℕ) (order table : List ℕ) → decide_code log e pruning (length order) (length table) ≡ 0
    → Ordered (history_of log) (transactions_in log) zeros order table (order_after log e pruning order (length table)) (table_after log e pruning (length order) table)
decide_writes_the_first_legal_order log e pruning order table z =
    subst
    (λ (h : History). Ordered h (transactions_in log) zeros order table (order_after log e pruning order (length table)) (table_after log e pruning (length order) table))
    (timed_none log 0) (ordered (from_zeros log) e pruning order table z)

-- from a start; that it has 64 bytes is said by the 0
pub decide_from_writes_the_first_legal_order : (log start : List ℕ) (e pruning : ℕ) (order table : List ℕ) → decide_from_code log start e pruning (length order) (length table) ≡ 0
    → Ordered (history_of log) (transactions_in log) (values_in start) order table
    (decide_from_order log start e pruning order (length table)) (decide_from_table log start e pruning (length order) table)
unfolding decide_from_code decide_from_order decide_from_table
decide_from_writes_the_first_legal_order log start e pruning order table z = go (eqb (length start) 64) z
  where
    w : Window
    w = start_window log start

    order' : List ℕ
    order' = window_order w e pruning order (length table)

    table' : List ℕ
    table' = window_table w e pruning (length order) table

    go : (b : Bool) → cond b (window_code w e pruning (length order) (length table)) 36 ≡ 0
        → Ordered (history_of log) (transactions_in log) (values_in start) order table (cond b order' order) (cond b table' table)
    go true z =
        subst (λ (h : History). Ordered h (transactions_in log) (values_in start) order table order' table') (timed_none log 0) (ordered w e pruning order table z)
    go false z = absurd (omega (arith, z))

-- from a start and with times: of any bytes, by the seconds in them
pub strict_decide_writes_by_its_bytes : (log start begin end : List ℕ) (drift e pruning : ℕ) (order table : List ℕ)
    → decide_strict_code log start begin end drift e pruning (length order) (length table) ≡ 0
    → Ordered (timed_history log (times (seconds_in begin) (seconds_in end) drift)) (transactions_in log) (values_in start) order table
    (decide_strict_order log start begin end drift e pruning order (length table)) (decide_strict_table log start begin end drift e pruning (length order) table)
unfolding decide_strict_code decide_strict_order decide_strict_table
strict_decide_writes_by_its_bytes log start begin end drift e pruning order table z =
    go (eqb (length start) 64) (implies (eqb (load_number log) 0) (four_each (transactions_in log) begin end)) z
  where
    w : Window
    w = strict_window log (values_in start) begin end drift

    go : (a b : Bool) → cond a (cond b (window_code w e pruning (length order) (length table)) 37) 36 ≡ 0
        → Ordered (window_history w) (transactions_in log) (values_in start) order table
        (cond a (cond b (window_order w e pruning order (length table)) order) order) (cond a (cond b (window_table w e pruning (length order) table) table) table)
    go true true z = ordered w e pruning order table z
    go true false z = absurd (omega (arith, z))
    go false b z = absurd (omega (arith, z))

-- and of seconds as bytes, by these seconds
pub strict_decide_writes_the_first_legal_order : (log start begins ends : List ℕ) (drift : ℕ) → length start ≡ 64 → (e pruning : ℕ) (order table : List ℕ)
    → decide_strict_code log start (second_bytes begins) (second_bytes ends) drift e pruning (length order) (length table) ≡ 0
    → Ordered (timed_history log (times begins ends drift)) (transactions_in log) (values_in start) order table
    (decide_strict_order log start (second_bytes begins) (second_bytes ends) drift e pruning order (length table))
    (decide_strict_table log start (second_bytes begins) (second_bytes ends) drift e pruning (length order) table)
strict_decide_writes_the_first_legal_order log start begins ends drift l e pruning order table z =
    let w = window log (values_in start) (times begins ends drift) in
    let by = strict_decide_goes_by_its_window log start begins ends drift l e pruning order table in
    let o = ordered w e pruning order table (sym by.0 ∙ z) in
    record {
      first = o.first;
      is_first = o.is_first;
      count = o.count;
      fits = o.fits;
      order_is = by.1 ∙ o.order_is;
      wide = o.wide;
      values = ap values_in by.2 ∙ o.values;
      rest = ap (drop 64) by.2 ∙ o.rest;
      long = ap length by.2 ∙ o.long;
    }

-- ---- Bills. It gives what Decide of the window gives in its setting and with room, and where that is 0, 25 by its own list.

module _ (log start begin end : List ℕ) (drift : ℕ) where
  pub bills_answer_as_decide : (order table room : ℕ) → 32 ≤ order → 64 ≤ table
      → bills_code log start begin end drift room
      ≡ cond (eqb (decide_strict_code log start begin end drift bills_encoding bills_pruning order table) 0) (cond (ltb room 192) 25 0)
      (decide_strict_code log start begin end drift bills_encoding bills_pruning order table)
  unfolding bills_code decide_strict_code
  bills_answer_as_decide order table room long wide =
      ap (λ n. cond (eqb (length start) 64) (where_timed log begin end n 37) 36) (charges_as_decide w order table room long wide)
      ∙ go (eqb (length start) 64) (implies (eqb (load_number log) 0) (four_each (transactions_in log) begin end))
    where
      w : Window
      w = strict_window log (values_in start) begin end drift

      n : ℕ
      n = window_code w bills_encoding bills_pruning order table

      go : (a b : Bool) → cond a (cond b (then_room n room) 37) 36 ≡ then_room (cond a (cond b n 37) 36) room
      go true true = refl
      go true false = refl
      go false b = refl

  -- So each number but 25 is given exactly where Decide gives it ..
  pub bills_refuse_as_decide : (k room : ℕ) → k ≢ 0 → k ≢ 25
      → (bills_code log start begin end drift room ≡ k) ↔ (decide_strict_code log start begin end drift bills_encoding bills_pruning 32 64 ≡ k)
  bills_refuse_as_decide k room not0 not25 =
      let n = decide_strict_code log start begin end drift bills_encoding bills_pruning 32 64 in
      let is = bills_answer_as_decide 32 64 room (omega arith) (omega arith) in (
        λ q.
            ⊎_elim (λ (z : n ≡ 0). absurd (short (ltb room 192) (sym (ap (λ b. cond b (room192 room) n) (eq-eqb n 0 z)) ∙ sym is ∙ q)))
            (λ (f : n ≢ 0). sym (ap (λ b. cond b (room192 room) n) (ne_eqb n 0 f)) ∙ sym is ∙ q) (same? n 0),
        λ q. is ∙ ap (λ b. cond b (room192 room) n) (ne_eqb n 0 (λ z. not0 (sym q ∙ z))) ∙ q,
      )
    where
      short : (b : Bool) → cond b 25 0 ≡ k → ⊥
      short true e = not25 (sym e)
      short false e = not0 (sym e)

  -- .. as 36 and 37, whose conditions are those of Decide's.
  pub bills_give_36 : (room : ℕ) → (bills_code log start begin end drift room ≡ 36) ↔ (length start ≢ 64)
  bills_give_36 room =
      let by = bills_refuse_as_decide 36 room (λ z. omega (arith, z)) (λ z. omega (arith, z)) in
      let is = strict_decide_gives_36 log start begin end drift bills_encoding bills_pruning 32 64 in
      (λ q. is.0 (by.0 q), λ f. by.1 (is.1 f))

  pub bills_give_37 : (room : ℕ)
      → (bills_code log start begin end drift room ≡ 37) ↔ ((length start ≡ 64) × ((load_number log ≡ 0) × (Fits (transactions_in log) begin end → ⊥)))
  bills_give_37 room =
      let by = bills_refuse_as_decide 37 room (λ z. omega (arith, z)) (λ z. omega (arith, z)) in
      let is = strict_decide_gives_37 log start begin end drift bills_encoding bills_pruning 32 64 in
      (λ q. is.0 (by.0 q), λ x. by.1 (is.1 x))

  -- With 192 bytes 25 is never given.
  pub bills_never_give_25 : (room : ℕ) → 192 ≤ room → bills_code log start begin end drift room ≢ 25
  bills_never_give_25 room wide q =
      let n = decide_strict_code log start begin end drift bills_encoding bills_pruning 32 64 in
      chosen_never (room192 room) n 25 (eqb n 0) (λ z. omega (arith, z, ap {B = ℕ} (λ b. cond b 25 0) (le-ltb room 192 wide)))
      (strict_decide_never_gives_25 log start begin end drift bills_encoding bills_pruning 32 64 (omega arith) (omega arith))
      (sym (bills_answer_as_decide 32 64 room (omega arith) (omega arith)) ∙ q)

  -- Nothing is written unless 0 is returned.
  pub bills_write_with_0_alone : (out : List ℕ) → bills_code log start begin end drift (length out) ≢ 0 → bills_after log start begin end drift out ≡ out
  unfolding bills_code bills_after
  bills_write_with_0_alone out f =
      let w = strict_window log (values_in start) begin end drift in
      let n = window_bills_code w (length out) in
      let b = implies (eqb (load_number log) 0) (four_each (transactions_in log) begin end) in
      chosen_kept (cond b n 37) 36 _ out (eqb (length start) 64) (chosen_kept n 37 _ out b (charges_with_0_alone w out)) f

-- The start changes the bills alone: from any two starts of 64 bytes the code is the same.
pub start_changes_no_code_of_bills : (log s s' begin end : List ℕ) (drift : ℕ) → length s ≡ 64 → length s' ≡ 64 → (room : ℕ) → bills_code log s' begin end drift room ≡ bills_code log s begin end drift room
unfolding bills_code
start_changes_no_code_of_bills log s s' begin end drift l l' room =
    let ts = times (seconds_in begin) (seconds_in end) drift in
    let as-decide : (vs : List ℕ) → window_bills_code (window log vs ts) room ≡ then_room (window_code (window log vs ts) bills_encoding bills_pruning 32 64) room =
    λ vs. charges_as_decide (window log vs ts) 32 64 room (omega arith) (omega arith) in
    start_same (λ vs. where_timed log begin end (window_bills_code (window log vs ts) room) 37) 36 s s' l l'
    (ap (λ n. where_timed log begin end n 37)
    (as-decide (values_in s') ∙ ap (λ n. then_room n room) (code_same log (values_in s) (values_in s') ts (values_32 s) (values_32 s') bills_encoding bills_pruning 32 64) ∙ sym (as-decide (values_in s))))

-- Of seconds as bytes it gives and writes what the window with these lists does.
pub bills_go_by_their_window : (log start begins ends : List ℕ) (drift : ℕ) → length start ≡ 64 → (out : List ℕ)
    → (bills_code log start (second_bytes begins) (second_bytes ends) drift (length out) ≡ window_bills_code (window log (values_in start) (times begins ends drift)) (length out))
    × (bills_after log start (second_bytes begins) (second_bytes ends) drift out ≡ window_bills_after (window log (values_in start) (times begins ends drift)) out)
bills_go_by_their_window log start begins ends drift l out = (billed log start begins ends drift l (length out), billed_list log start begins ends drift l out)

-- A window that Load refuses has Load's number. One that it takes has 255 where no legal order exists, then 25, then 0.
pub a_refused_window_is_not_billed : (w : Window) → window_number w ≢ 0 → (room : ℕ) → window_bills_code w room ≡ window_number w
a_refused_window_is_not_billed w f room = charges_refused w room f

pub a_taken_window_is_billed : (w : Window) → window_number w ≡ 0 → (room : ℕ)
    → window_bills_code w room ≡ cond (is_some (first_legal (window_history w))) (cond (ltb room 192) 25 0) 255
a_taken_window_is_billed w z room = charges_code w z room

-- Where 0 is returned the list holds the bills of the sixteen cabinets, in the replay of the first legal order of the window's history, with its times, from the window's
-- start; no other byte is changed. Of the log and the start is asked that they are bytes.
pub a_billed_window_is_written : (w : Window) → Bytes w.bytes → ((j : ℕ) → get_or w.starting j 0 < 65536) → (out : List ℕ) → window_bills_code w (length out) ≡ 0
    → Billed (window_history w) w.starting out (window_bills_after w out)
a_billed_window_is_written w bytes values out z = charged w out z bytes values

pub bills_write_by_their_bytes : (log start begin end : List ℕ) (drift : ℕ) → Bytes log → Bytes start → (out : List ℕ) → bills_code log start begin end drift (length out) ≡ 0
    → Billed (timed_history log (times (seconds_in begin) (seconds_in end) drift)) (values_in start) out (bills_after log start begin end drift out)
bills_write_by_their_bytes log start begin end drift bytes start-bytes out =
    let w = strict_window log (values_in start) begin end drift in
    beside_0 log start begin end drift out (Billed (window_history w) (values_in start) out) (λ z. a_billed_window_is_written w bytes (values_fit start start-bytes) out z)

-- and of seconds as bytes, by these seconds
pub bills_write_the_bills : (log start begins ends : List ℕ) (drift : ℕ) → Bytes log → Bytes start → (out : List ℕ)
    → bills_code log start (second_bytes begins) (second_bytes ends) drift (length out) ≡ 0
    → Billed (timed_history log (times begins ends drift)) (values_in start) out (bills_after log start (second_bytes begins) (second_bytes ends) drift out)
bills_write_the_bills log start begins ends drift bytes start-bytes out z =
    subst (λ (h : History). Billed h (values_in start) out (bills_after log start (second_bytes begins) (second_bytes ends) drift out))
    (λ i. timed_history log (times (seconds_back begins i) (seconds_back ends i) drift))
    (bills_write_by_their_bytes log start (second_bytes begins) (second_bytes ends) drift bytes start-bytes out z)
