-- What the writer promises. The contracts of the calls (src/lib.rt) are equations with `fresh_notes`, `opening`, `noting`, `closing`, `writing`, `buffer_after`
-- and `noting_again` (specs/); the theorems here say of these what the card asks, each by a few lines that cite the law that proves it. Nothing is assumed but
-- what a theorem says; `Sized` holds of every value of the type `Notes`, and `Bytes` of every lent slice of bytes.
use Prim.Native.Nat.{ℕ, ◌+◌, ◌*◌, ◌≤◌, ◌<◌}
use native.Mathlib.Omega.{arith}
use mathlib.Core.Path.{◌≡◌, refl, sym, ap, subst, ◌∙◌}
use mathlib.Core.Logic.{◌⊎◌, inl, inr, ⊎_elim, ◌↔◌, ◌≢◌}
use mathlib.Core.Bool.{Bool, true, false, cond}
use mathlib.Core.List.{List, [], ◌++◌}
use borrow.Author.Tests.{eq-eqb, ne_eqb, lt-ltb, le-ltb, ltb-true, ltb-false}
use lib.Dec.{T, eqb, ltb}
use lib.ListN.{length, take, drop, length-append, length-drop}
use lib.Seq.{take-append_seam, drop-append_seam}
use Rattle.model.specs.History.{size, operations_of, operation_count, well_formed}
use Rattle.model.specs.Log.{transactions_in, count_at, load_number, history_of}
use Rattle.model.specs.Writing.{log_of, is_log, has_log}
use Rattle.model.proofs.Basics.{same?, true_eq, false_eq, not_intro}
use Rattle.model.proofs.Loaded.{loaded, Bytes}
use Rattle.model.proofs.Writing.{loads_tables}
use Rattle.model.proofs.Logs.{has_log_out, has_log_of, has_log_in, good_narrow, log_good}
use Rattle.writer.specs.Held.{held, held_log, is_open, with_transaction, with_operation, Sized}
use Rattle.writer.specs.Calls.{Noted, fresh_notes, answering, open_refusal, opened_notes, opening, note_refusal, noted_notes, noting, close_refusal, closed_notes, closing, write_refusal, writing, buffer_after}
use Rattle.writer.specs.Again.{begun_notes, again_notes, noting_again}
use Rattle.writer.specs.Runs.{Call, run, meant_by}
use Rattle.writer.specs.declared.Notes.{Notes}
use Rattle.writer.proofs.Answering.{taken, taken_notes, refused_notes}
use Rattle.writer.proofs.Holding.{held_length, room_out, room_of, open_room, note_room, write_room}
use Rattle.writer.proofs.Adding.{fresh_held, fresh_shut, held_size, close_held, close_shuts, open_held, open_opens, note_held, note_open}
use Rattle.writer.proofs.Running.{held_count, open_32, open_33, open_0, note_31, note_beyond, note_33, note_0, close_31, close_0, run_tells}
use Rattle.writer.proofs.Renoting.{opens, notes_each, closes, again_held, again_written, again_writing}

-- notes have no times: what is written of them reads back as it is
loads_held : (n : Notes) → history_of (log_of (held n)) ≡ held n
unfolding held
loads_held n = loads_tables n.transactions _ _ _

-- ---- each number under its condition, in the order of the tests; the conditions of a call leave no case out

module _ (n : Notes) where
  -- the number that a call gives
  pub number_given : (cabinet kind key argument room : ℕ) →
      ((opening n cabinet).number ≡ open_refusal n) × ((noting n kind key argument).number ≡ note_refusal n)
      × ((closing n).number ≡ close_refusal n) × ((writing n room).number ≡ write_refusal n room)
  unfolding opening noting closing writing answering
  number_given cabinet kind key argument room = (refl, refl, refl, refl)

  -- 32 when one is open; 33 a 33rd transaction
  pub numbers_of_open :
      (is_open n ≡ true → open_refusal n ≡ 32) × (is_open n ≡ false → 32 ≤ size (held n) → open_refusal n ≡ 33) × (is_open n ≡ false → size (held n) < 32 → open_refusal n ≡ 0)
  numbers_of_open = (open_32 n, open_33 n, open_0 n)

  -- 31 when none is open; 33 a 257th note. Notes beyond 32 transactions, which no calls from fresh notes make, have no room for a note.
  pub numbers_of_note :
      (is_open n ≡ false → note_refusal n ≡ 31) × (is_open n ≡ true → 32 < size (held n) → note_refusal n ≡ 33)
      × (is_open n ≡ true → 256 ≤ operation_count (held n) → note_refusal n ≡ 33)
      × (is_open n ≡ true → size (held n) ≤ 32 → operation_count (held n) < 256 → note_refusal n ≡ 0)
  numbers_of_note = (note_31 n, note_beyond n, note_33 n, note_0 n)

  -- 31 when none is open
  pub numbers_of_close : (is_open n ≡ false → close_refusal n ≡ 31) × (is_open n ≡ true → close_refusal n ≡ 0)
  numbers_of_close = (close_31 n, close_0 n)

  -- 32 when one is open; 33 content that Load would refuse; 25 a buffer shorter than the log to be written
  pub numbers_of_write : (room : ℕ) →
      (is_open n ≡ true → write_refusal n room ≡ 32) × (is_open n ≡ false → (T (is_log (held_log n)) → ⊥) → write_refusal n room ≡ 33)
      × (is_open n ≡ false → T (is_log (held_log n)) → room < length (held_log n) → write_refusal n room ≡ 25)
      × (is_open n ≡ false → T (is_log (held_log n)) → length (held_log n) ≤ room → write_refusal n room ≡ 0)
  unfolding write_refusal has_log held_log
  numbers_of_write room = (
    λ o. simp o,
    λ o none. simp (o, false_eq (is_log (held_log n)) (not_intro (is_log (held_log n)) none)),
    λ o log l. simp (o, true_eq (is_log (held_log n)) log, lt-ltb room (length (held_log n)) l),
    λ o log l. simp (o, true_eq (is_log (held_log n)) log, le-ltb room (length (held_log n)) l),
  )

-- ---- a refusal changes nothing

module _ (n : Notes) where
  pub open_refused_changes_nothing : (cabinet : ℕ) → open_refusal n ≢ 0 → (opening n cabinet).notes ≡ n
  unfolding opening
  open_refused_changes_nothing cabinet = refused_notes (open_refusal n) n (opened_notes n cabinet)

  pub note_refused_changes_nothing : (kind key argument : ℕ) → note_refusal n ≢ 0 → (noting n kind key argument).notes ≡ n
  unfolding noting
  note_refused_changes_nothing kind key argument = refused_notes (note_refusal n) n (noted_notes n kind key argument)

  pub close_refused_changes_nothing : close_refusal n ≢ 0 → (closing n).notes ≡ n
  unfolding closing
  close_refused_changes_nothing = refused_notes (close_refusal n) n (closed_notes n)

  pub write_refused_changes_nothing : (out : List ℕ) → write_refusal n (length out) ≢ 0 → (buffer_after n out ≡ out) × ((writing n (length out)).length ≡ 0)
  unfolding buffer_after writing
  write_refused_changes_nothing out f =
      let e = ne_eqb (write_refusal n (length out)) 0 f in
      (ap (λ b. cond b (held_log n ++ drop (length (held_log n)) out) out) e, ap (λ b. cond b (length (held_log n)) 0) e)

  -- a writing, refused or not, leaves the notes as found
  pub write_leaves_the_notes : (room : ℕ) → (writing n room).notes ≡ n
  unfolding writing
  write_leaves_the_notes room = refl

-- ---- what is taken is noted, at the end of what was noted before

pub fresh_notes_hold_nothing : (held fresh_notes ≡ []) × (is_open fresh_notes ≡ false)
fresh_notes_hold_nothing = (fresh_held, fresh_shut)

module _ (n : Notes) (sized : Sized n) where
  pub open_adds_a_transaction : (cabinet : ℕ) → open_refusal n ≡ 0 → let m = (opening n cabinet).notes in
      (held m ≡ with_transaction (held n) cabinet) × (is_open m ≡ true)
  unfolding opening
  open_adds_a_transaction cabinet e =
      let is = taken_notes (open_refusal n) n (opened_notes n cabinet) e in
      (ap held is ∙ open_held n cabinet sized (open_room n e), ap is_open is ∙ open_opens n cabinet)

  pub note_adds_an_operation : (kind key argument : ℕ) → note_refusal n ≡ 0 → let m = (noting n kind key argument).notes in
      (held m ≡ with_operation (held n) (record { kind = kind; key = key; argument = argument })) × (is_open m ≡ is_open n)
  unfolding noting
  note_adds_an_operation kind key argument e =
      let is = taken_notes (note_refusal n) n (noted_notes n kind key argument) e in
      (ap held is ∙ note_held n kind key argument sized (note_room n e), ap is_open is ∙ note_open n kind key argument)

pub close_adds_nothing : (n : Notes) → close_refusal n ≡ 0 → let m = (closing n).notes in (held m ≡ held n) × (is_open m ≡ false)
unfolding closing
close_adds_nothing n e =
    let is = taken_notes (close_refusal n) n (closed_notes n) e in
    (ap held is ∙ close_held n, ap is_open is ∙ close_shuts n)

-- Of every list of opens, notes and closes from fresh notes: the notes hold what the calls mean, where one that is refused means nothing (`meant`), and there
-- are at most 32 transactions and 256 operations.
pub a_run_notes_what_it_means : (calls : List Call) → let n = run calls in let s = meant_by calls in
    (held n ≡ s.history) × (is_open n ≡ s.unclosed) × (size s.history ≤ 32) × (operation_count s.history ≤ 256)
a_run_notes_what_it_means calls = run_tells calls

-- ---- loading a written log yields the notes

-- What is written is the log of what the notes hold: bytes that Load takes, with that history. `length` is the length that the call gives.
pub written_log_yields_the_notes : (n : Notes) (out : List ℕ) → write_refusal n (length out) ≡ 0
    → let b = take (writing n (length out)).length (buffer_after n out) in
    ((writing n (length out)).length ≡ length (held_log n)) × (b ≡ held_log n) × Bytes b × (load_number b ≡ 0) × (history_of b ≡ held n)
unfolding writing buffer_after held_log
written_log_yields_the_notes n out e =
    let none = eq-eqb (write_refusal n (length out)) 0 e in
    let front : take (writing n (length out)).length (buffer_after n out) ≡ held_log n =
    ap (λ b. take (cond b (length (held_log n)) 0) (cond b (held_log n ++ drop (length (held_log n)) out) out)) none
    ∙ take-append_seam (held_log n) (drop (length (held_log n)) out) in
    let log = has_log_out (held n) (write_room n (length out) e).log in
    (ap (λ b. cond b (length (held_log n)) 0) none, front, subst Bytes (sym front) log.0, ap load_number front ∙ log.1, ap history_of front ∙ loads_held n)

-- So whatever calls were made from fresh notes: what is written loads as what they mean.
pub a_written_run_loads_as_it_means : (calls : List Call) (out : List ℕ) → let n = run calls in write_refusal n (length out) ≡ 0
    → let b = take (writing n (length out)).length (buffer_after n out) in (load_number b ≡ 0) × (history_of b ≡ (meant_by calls).history)
a_written_run_loads_as_it_means calls out e =
    let w = written_log_yields_the_notes (run calls) out e in (w.3, w.4 ∙ (run_tells calls).0)

-- the bytes behind it are as they were
pub bytes_behind_the_log_stay : (n : Notes) (out : List ℕ) → let l = (writing n (length out)).length in drop l (buffer_after n out) ≡ drop l out
unfolding writing buffer_after
bytes_behind_the_log_stay n out = go (eqb (write_refusal n (length out)) 0)
  where
    go : (b : Bool) → let l = cond b (length (held_log n)) 0 in drop l (cond b (held_log n ++ drop (length (held_log n)) out) out) ≡ drop l out
    go true = drop-append_seam (held_log n) (drop (length (held_log n)) out)
    go false = refl

-- how long it is: at most 1,156 bytes where it is written
pub length_of_the_log : (n : Notes) → length (held_log n) ≡ 4 + 4 * size (held n) + 4 * operation_count (held n)
length_of_the_log n = held_length n ∙ omega (arith, held_size n, held_count n)

pub length_of_a_written_log : (n : Notes) → T (has_log (held n)) → length (held_log n) ≤ 1156
length_of_a_written_log n t = let r = room_out n (room_of n t) in omega (arith, held_length n, r.few, r.many)

-- the buffer keeps its length
pub buffer_length : (n : Notes) (out : List ℕ) → length (buffer_after n out) ≡ length out
unfolding buffer_after
buffer_length n out =
    ⊎_elim
    (λ (e : write_refusal n (length out) ≡ 0).
    ap (λ b. length (cond b (held_log n ++ drop (length (held_log n)) out) out)) (eq-eqb (write_refusal n (length out)) 0 e)
    ∙ length-append (held_log n) (drop (length (held_log n)) out)
    ∙ omega (arith, length-drop (length (held_log n)) out, (write_room n (length out) e).long))
    (λ (e : write_refusal n (length out) ≢ 0). ap length (write_refused_changes_nothing n out e).0)
    (same? (write_refusal n (length out)) 0)

-- ---- a writing is refused with 33 exactly where Load would refuse what would be written

shorter? : (m n : ℕ) → (m < n) ⊎ (n ≤ m)
shorter? m n = go (ltb m n) refl
  where
    go : (b : Bool) → ltb m n ≡ b → (m < n) ⊎ (n ≤ m)
    go true e = inl (ltb-true m n e)
    go false e = inr (ltb-false m n e)

module _ (n : Notes) (shut : is_open n ≡ false) (room : ℕ) where
  refused_with_33 : (write_refusal n room ≡ 33) ↔ (T (has_log (held n)) → ⊥)
  unfolding has_log held_log
  refused_with_33 =
      let is = numbers_of_write n room in (
        (λ e t. ⊎_elim (λ (l : room < length (held_log n)). omega (arith, is.2 shut t l)) (λ (l : length (held_log n) ≤ room). omega (arith, is.3 shut t l)) (shorter? room (length (held_log n)))),
        λ none. is.1 shut none,
      )

  -- what would be written is no list of bytes, or Load's number of it is not 0
  pub refused_with_33_exactly_where_load_refuses : (write_refusal n room ≡ 33) ↔ (Bytes (held_log n) × (load_number (held_log n) ≡ 0) → ⊥)
  unfolding held_log
  refused_with_33_exactly_where_load_refuses = (
    (λ e log. refused_with_33.0 e (subst (λ h. T (has_log h)) (loads_held n) (has_log_of (log_of (held n)) log.0 log.1))),
    λ none. refused_with_33.1 (λ t. none (has_log_out (held n) t)),
  )

  -- no log that Load takes holds what the notes hold: none at all
  pub refused_with_33_exactly_where_no_log_holds_the_notes : (write_refusal n room ≡ 33) ↔ ((b : List ℕ) → Bytes b → load_number b ≡ 0 → history_of b ≢ held n)
  refused_with_33_exactly_where_no_log_holds_the_notes = (
    (λ e b small zero_is same. refused_with_33.0 e (subst (λ h. T (has_log h)) same (has_log_of b small zero_is))),
    λ none. refused_with_33.1 (λ t. let log = has_log_out (held n) t in none (log_of (held n)) log.0 log.1 (loads_held n)),
  )

  -- so a transaction of 256 operations, whose count has no byte, is refused
  pub a_count_of_256_is_refused : (t : ℕ) → t < size (held n) → 256 ≤ length (operations_of (held n) t) → write_refusal n room ≡ 33
  a_count_of_256_is_refused t l many =
      refused_with_33.1 (λ log. omega (arith, good_narrow (held n) (log_good (held n) log) t l))

  -- what the notes hold is not well formed
  pub refused_with_33_exactly_where_not_well_formed : (write_refusal n room ≡ 33) ↔ (T (well_formed (held n)) → ⊥)
  refused_with_33_exactly_where_not_well_formed =
      ((λ e good. refused_with_33.0 e (has_log_in (held n) good)), λ none. refused_with_33.1 (λ t. none (log_good (held n) t)))

-- ---- a loaded log noted again in its own order is written as the same bytes, and every call on the way is taken

module _ (b : List ℕ) (zero_is : load_number b ≡ 0) where
  pub every_call_is_taken : (t : ℕ) → t < transactions_in b
      → (open_refusal (again_notes b t) ≡ 0)
      × (((m : ℕ) → m < count_at b t → note_refusal (begun_notes b (again_notes b t) t m) ≡ 0)
      × (close_refusal (begun_notes b (again_notes b t) t (count_at b t)) ≡ 0))
  every_call_is_taken t l =
      let ok = loaded b zero_is in (opens b ok t l, (λ m k. notes_each b ok t m l k, closes b ok t l))

  pub noted_again : noting_again b ≡ record { number = 0; notes = again_notes b (transactions_in b) }
  unfolding noting_again
  noted_again = sym (taken (load_number b) (load_number b) fresh_notes (again_notes b (transactions_in b)) refl zero_is)

  pub noted_again_holds_the_history : held (noting_again b).notes ≡ history_of b
  noted_again_holds_the_history = ap (λ (x : Noted). held x.notes) noted_again ∙ again_held b (loaded b zero_is)

  pub noted_again_yields_the_bytes : Bytes b → (out : List ℕ) → length b ≤ length out → let n = (noting_again b).notes in
      (buffer_after n out ≡ b ++ drop (length b) out) × (writing n (length out) ≡ record { number = 0; length = length b; notes = n })
  noted_again_yields_the_bytes small out l =
      let e : again_notes b (transactions_in b) ≡ (noting_again b).notes = ap (λ (x : Noted). x.notes) (sym noted_again) in (
        ap (λ n. buffer_after n out) (sym e) ∙ again_written b small zero_is out l,
        subst (λ n. writing n (length out) ≡ record { number = 0; length = length b; notes = n }) e (again_writing b small zero_is (length out) l),
      )

-- ---- a log that Load refuses is not noted: Load's number, and fresh notes

module _ (b : List ℕ) where
  pub again_gives_the_number_of_load : (noting_again b).number ≡ load_number b
  unfolding noting_again answering
  again_gives_the_number_of_load = refl

  pub refused_log_leaves_fresh_notes : load_number b ≢ 0 → (noting_again b).notes ≡ fresh_notes
  unfolding noting_again
  refused_log_leaves_fresh_notes = refused_notes (load_number b) fresh_notes (again_notes b (transactions_in b))
