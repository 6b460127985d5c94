-- A loaded log noted again: every call is taken, the notes hold its history, and they are written as the same bytes. Assumes nothing.
use Prim.Native.Nat.{ℕ, zero, suc, ◌+◌, ◌≤◌, ◌<◌}
use native.Mathlib.Omega.{arith}
use native.Mathlib.Numerals.{add-one}
use mathlib.Core.Path.{◌≡◌, refl, sym, ap, ap₂, subst, ◌∙◌}
use mathlib.Core.Logic.{◌≢◌}
use mathlib.Core.Bool.{true, false, cond}
use mathlib.Core.List.{List, [], ◌∷◌, ◌++◌, map}
use borrow.Author.Tests.{lt-ltb, le-ltb, eq-eqb, ne_eqb}
use lib.Dec.{eqb}
use lib.ListN.{length, length-append, drop}
use Rattle.model.specs.Lists.{up_to}
use Rattle.model.specs.History.{History, Transaction, Operation, untimed}
use Rattle.model.specs.Log.{transactions_in, cabinet_at, count_at, start_at, kind_at, key_at, argument_at, load_number, operation_at, history_of}
use Rattle.model.specs.Writing.{sum_of, all_operations, log_of, has_log, history_from}
use Rattle.model.proofs.Basics.{true_eq}
use Rattle.model.proofs.Words.{length_up_to}
use Rattle.model.proofs.Loops.{each_snoc, map_snoc}
use Rattle.model.proofs.Loaded.{Loaded, loaded, Bytes, body_good}
use Rattle.model.proofs.Writing.{sum_suc, sum_mono, counts_sum, from_size, from_suc, from_operations, history_from_lem, same_bytes}
use Rattle.model.proofs.Logs.{has_log_of}
use Rattle.std.specs.Prelude.{Result, IsOk}
use Rattle.refusals.specs.declared.Refusal.{Refusal}
use Rattle.logs.specs.Reading.{IsOperation}
use Rattle.writer.specs.Held.{noted_in, held, held_log, is_open, with_operation, Sized}
use Rattle.writer.specs.Calls.{Noted, noted_by, answering, fresh_notes, open_refusal, opened_notes, opening, note_refusal, noted_at, noted_notes, noting, close_refusal, closed_notes, closing, write_refusal, writing, buffer_after}
use Rattle.writer.specs.Again.{operation_noted, operations_noted, begun_notes, next_notes, again_notes, noting_again}
use Rattle.writer.specs.declared.Notes.{Notes}
use Rattle.writer.proofs.Answering.{refused, taken, taken_notes, ok_by}
use Rattle.writer.proofs.Holding.{note_room}
use Rattle.writer.proofs.Adding.{shut, with_last, fresh_held, fresh_sized, close_held, close_sized, held_size, held_noted, open_sized, open_held, note_sized, note_held}

module _ (b : List ℕ) where
  abbrev sums : ℕ → ℕ
  sums t = sum_of (count_at b) t

  -- the first t transactions of the log
  abbrev first : ℕ → History
  first t = history_from t (cabinet_at b) (count_at b) (operation_at b)

  -- transaction t with its first m operations
  abbrev begun : ℕ → ℕ → Transaction
  begun t m = untimed (cabinet_at b t) (map (λ j. operation_at b (sums t + j)) (up_to m))

  -- the first t transactions are noted, and none is open
  pub record Whole (n : Notes) (t : ℕ) : Type 0 where
    pub sized : Sized n
    pub shut : n.opened ≡ false
    pub holds : held n ≡ first t

  -- besides, transaction t is open, and its first m operations are noted
  pub record Part (n : Notes) (t m : ℕ) : Type 0 where
    pub sized : Sized n
    pub open_is : n.opened ≡ true
    pub holds : held n ≡ first t ++ (begun t m ∷ [])

  whole_fresh : Whole fresh_notes 0
  unfolding fresh_notes history_from
  whole_fresh = record { sized = fresh_sized; shut = refl; holds = fresh_held }

  module _ (n : Notes) (t : ℕ) where
    module _ (w : Whole n t) where
      whole_size : n.transactions ≡ t
      whole_size = sym (held_size n) ∙ ap length w.holds ∙ from_size t (cabinet_at b) (count_at b) (operation_at b)

      shut_is : is_open n ≡ false
      unfolding is_open
      shut_is = ap (λ o. cond (eqb n.transactions 0) false o) w.shut ∙ shut (eqb n.transactions 0)

      module _ (l : t < 32) where
        open_taken : open_refusal n ≡ 0
        unfolding open_refusal
        open_taken = simp (shut_is, lt-ltb n.transactions 32 (omega (arith, whole_size)))

        opened_part : Part (opened_notes n (cabinet_at b t)) t 0
        unfolding opened_notes
        opened_part =
            let low : n.transactions < 32 = omega (arith, whole_size) in
            record {
              sized = open_sized n (cabinet_at b t) w.sized low;
              open_is = refl;
              holds = open_held n (cabinet_at b t) w.sized low ∙ ap (λ h. h ++ (begun t 0 ∷ [])) w.holds;
            }

    module _ (m : ℕ) (p : Part n t m) where
      part_size : n.transactions ≡ suc t
      part_size =
          sym (held_size n) ∙ ap length p.holds ∙ length-append (first t) (begun t m ∷ [])
          ∙ omega (arith, from_size t (cabinet_at b) (count_at b) (operation_at b))

      part_noted : noted_in n ≡ sums t + m
      part_noted =
          sym (held_noted n) ∙ ap (λ h. length (all_operations h)) p.holds
          ∙ ap length (each_snoc (λ (x : Transaction). x.operations) (first t) (begun t m))
          ∙ length-append (all_operations (first t)) (begun t m).operations
          ∙ ap₂ (λ x y. x + y)
          (ap length (from_operations t (cabinet_at b) (count_at b) (operation_at b)) ∙ length_up_to (operation_at b) (sums t))
          (length_up_to (λ j. operation_at b (sums t + j)) m)

      open_yes : is_open n ≡ true
      unfolding is_open
      open_yes =
          ap (λ o. cond (eqb n.transactions 0) false o) p.open_is ∙ ap (λ x. cond x false true) (ne_eqb n.transactions 0 (λ z. omega (arith, part_size)))

      close_none : close_refusal n ≡ 0
      unfolding close_refusal
      close_none = simp open_yes

      module _ (l : t < 32) (k : sums t + m < 256) where
        note_none : note_refusal n ≡ 0
        unfolding note_refusal
        note_none =
            simp (open_yes, le-ltb 32 n.transactions (omega (arith, part_size)), lt-ltb (noted_in n) 256 (omega (arith, part_noted)))

        noted_part : (i : ℕ) → i ≡ sums t + m → Part (noted_notes n (kind_at b i) (key_at b i) (argument_at b i)) t (suc m)
        unfolding noted_notes noted_at
        noted_part i i-is =
            let room = note_room n note_none in
            let f : ℕ → Operation = λ j. operation_at b (sums t + j) in
            record {
              sized = note_sized n (kind_at b i) (key_at b i) (argument_at b i) p.sized room;
              open_is = p.open_is;
              holds =
                  note_held n (kind_at b i) (key_at b i) (argument_at b i) p.sized room
                  ∙ ap (λ h. with_operation h (operation_at b i)) p.holds
                  ∙ with_last (first t) (begun t m) (operation_at b i)
                  ∙ ap (λ os. first t ++ (untimed (cabinet_at b t) os ∷ []))
                  (ap (λ x. map f (up_to m) ++ (operation_at b x ∷ [])) i-is ∙ sym (map_snoc f (up_to m) m));
            }

    closed_whole : Part n t (count_at b t) → Whole (closed_notes n) (suc t)
    unfolding closed_notes
    closed_whole p =
        record {
          sized = close_sized n p.sized;
          shut = refl;
          holds = close_held n ∙ p.holds ∙ sym (from_suc t (cabinet_at b) (count_at b) (operation_at b));
        }

  -- ---- the whole log

  module _ (ok : Loaded b) where
    -- an operation of transaction t is among the 256
    below : (t m : ℕ) → t < transactions_in b → m < count_at b t → sums t + m < 256
    below t m l k =
        omega (arith, sum_suc (count_at b) t, sum_mono (count_at b) (suc t) (transactions_in b) l, counts_sum b (transactions_in b), ok.sum, ok.many)

    start_is : (t m : ℕ) → t < transactions_in b → start_at b t + m ≡ sums t + m
    start_is t m l = ap (λ x. x + m) (ok.starts t l ∙ counts_sum b t)

    begun_part : (n : Notes) (t m : ℕ) → Whole n t → t < transactions_in b → m ≤ count_at b t → Part (begun_notes b n t m) t m
    unfolding begun_notes opening operations_noted operation_noted noting
    begun_part n t zero w l k =
        let low : t < 32 = omega (arith, ok.few) in
        subst (λ x. Part x t 0) (sym (taken_notes (open_refusal n) n (opened_notes n (cabinet_at b t)) (open_taken n t w low))) (opened_part n t w low)
    begun_part n t (suc m) w l k =
        let low : t < 32 = omega (arith, ok.few) in
        let p = begun_part n t m w l (omega arith) in
        let few = below t m l (omega arith) in
        let i = start_at b t + m in
        let x = begun_notes b n t m in
        subst (λ y. Part y t (suc m)) (sym (taken_notes (note_refusal x) x (noted_notes x (kind_at b i) (key_at b i) (argument_at b i)) (note_none x t m p low few)))
        (noted_part x t m p low few i (start_is t m l))

    next_whole : (n : Notes) (t : ℕ) → Whole n t → t < transactions_in b → Whole (next_notes b n t) (suc t)
    unfolding next_notes closing
    next_whole n t w l =
        let x = begun_notes b n t (count_at b t) in
        let p = begun_part n t (count_at b t) w l (omega arith) in
        subst (λ y. Whole y (suc t)) (sym (taken_notes (close_refusal x) x (closed_notes x) (close_none x t (count_at b t) p))) (closed_whole x t p)

    again_whole : (t : ℕ) → t ≤ transactions_in b → Whole (again_notes b t) t
    unfolding again_notes
    again_whole zero l = whole_fresh
    again_whole (suc t) l = next_whole (again_notes b t) t (again_whole t (omega arith)) (omega arith)

    -- every call on the way is taken
    pub opens : (t : ℕ) → t < transactions_in b → open_refusal (again_notes b t) ≡ 0
    opens t l = open_taken (again_notes b t) t (again_whole t (omega arith)) (omega (arith, ok.few))

    pub notes_each : (t m : ℕ) → t < transactions_in b → m < count_at b t → note_refusal (begun_notes b (again_notes b t) t m) ≡ 0
    notes_each t m l k =
        note_none (begun_notes b (again_notes b t) t m) t m (begun_part (again_notes b t) t m (again_whole t (omega arith)) l (omega arith)) (omega (arith, ok.few)) (below t m l k)

    pub closes : (t : ℕ) → t < transactions_in b → close_refusal (begun_notes b (again_notes b t) t (count_at b t)) ≡ 0
    closes t l =
        close_none (begun_notes b (again_notes b t) t (count_at b t)) t (count_at b t) (begun_part (again_notes b t) t (count_at b t) (again_whole t (omega arith)) l (omega arith))

    -- the notes hold the log's history
    pub again_held : held (again_notes b (transactions_in b)) ≡ history_of b
    again_held =
        (again_whole (transactions_in b) (omega arith)).holds ∙ sym (history_from_lem b (λ s l. ok.starts s l ∙ counts_sum b s))

-- ---- written again

module _ (b : List ℕ) (small : Bytes b) (zero_is : load_number b ≡ 0) where
  abbrev again : Notes
  again = again_notes b (transactions_in b)

  -- the log to be written is the log
  pub again_log : held_log again ≡ b
  unfolding held_log
  again_log = ap log_of (again_held b (loaded b zero_is)) ∙ same_bytes b small zero_is

  again_taken : (room : ℕ) → length b ≤ room → write_refusal again room ≡ 0
  unfolding write_refusal
  again_taken room l =
      let shut = shut_is b again (transactions_in b) (again_whole b (loaded b zero_is) (transactions_in b) (omega arith)) in
      let has : has_log (held again) ≡ true =
      ap has_log (again_held b (loaded b zero_is)) ∙ true_eq (has_log (history_of b)) (has_log_of b small zero_is) in
      simp (shut, has, le-ltb room (length (held_log again)) (omega (arith, ap length again_log)))

  -- A loaded log noted again in its own order is written as the same bytes, and what stands behind them is left.
  pub again_written : (out : List ℕ) → length b ≤ length out → buffer_after again out ≡ b ++ drop (length b) out
  unfolding buffer_after
  again_written out l =
      ap (λ x. cond x (held_log again ++ drop (length (held_log again)) out) out) (eq-eqb (write_refusal again (length out)) 0 (again_taken (length out) l))
      ∙ ap (λ x. x ++ drop (length x) out) again_log

  pub again_writing : (room : ℕ) → length b ≤ room → writing again room ≡ record { number = 0; length = length b; notes = again }
  unfolding writing
  again_writing room l =
      let none = again_taken room l in
      ap (λ x. record { number = x; length = cond (eqb x 0) (length (held_log again)) 0; notes = again }) none
      ∙ ap (λ x. record { number = 0; length = x; notes = again }) (ap length again_log)

-- ---- as the code goes

-- what is no read is a write
pub is_write_lem : (b : List ℕ) (t m kind key argument : ℕ) → load_number b ≡ 0 → t < transactions_in b → m < count_at b t → IsOperation b t m kind key argument → kind ≢ 0 → 1 ≡ kind
is_write_lem b t m kind key argument loads inside l is f =
    let low = (body_good b (loaded b loads) t m inside l).kind in
    one kind (omega (arith, is.kind_is)) f
  where
    one : (k : ℕ) → k ≤ 1 → k ≢ 0 → 1 ≡ k
    one zero l f = absurd (f refl)
    one (suc k) l f = omega arith

-- a call that is taken, by what it answers and leaves
taken_call : {X : Type 0} (r : Result X Refusal) (x : Notes) (y : Noted) → noted_by r x ≡ y → y.number ≡ 0 → IsOk r × (x ≡ y.notes)
taken_call r x y e z = (ok_by r (ap (λ (w : Noted). w.number) e ∙ z), ap (λ (w : Noted). w.notes) e)

module _ (b : List ℕ) (t : ℕ) (loads : load_number b ≡ 0) (inside : t < transactions_in b) where
  abbrev before : Notes
  before = again_notes b t

  pub opened_now : {X : Type 0} (r : Result X Refusal) (n x : Notes) (cabinet : ℕ) → n ≡ before → cabinet ≡ cabinet_at b t → noted_by r x ≡ opening n cabinet
      → IsOk r × (x ≡ begun_notes b before t 0)
  unfolding begun_notes operations_noted opening answering
  opened_now r n x cabinet e f h =
      taken_call r x (opening before (cabinet_at b t)) (h ∙ ap₂ opening e f) (opens b (loaded b loads) t inside)

  pub noted_now : {X : Type 0} (r : Result X Refusal) (n x : Notes) (m kind key argument which : ℕ) → m < count_at b t → IsOperation b t m kind key argument → which ≡ kind
      → n ≡ begun_notes b before t m → noted_by r x ≡ noting n which key argument → IsOk r × (x ≡ begun_notes b before t (m + 1))
  unfolding begun_notes operations_noted operation_noted noting answering
  noted_now r n x m kind key argument which l is same e h =
      let i = start_at b t + m in
      let p = taken_call r x (noting (begun_notes b before t m) (kind_at b i) (key_at b i) (argument_at b i))
      (h ∙ ap₂ (λ y w. noting y w key argument) e (same ∙ is.kind_is) ∙ ap₂ (λ v w. noting (begun_notes b before t m) (kind_at b i) v w) is.key_is is.argument_is)
      (notes_each b (loaded b loads) t m inside l) in
      (p.0, p.1 ∙ ap (begun_notes b before t) (sym (add-one m)))

  pub closed_now : {X : Type 0} (r : Result X Refusal) (n x : Notes) (m : ℕ) → m ≡ count_at b t → n ≡ begun_notes b before t m → noted_by r x ≡ closing n
      → IsOk r × (x ≡ again_notes b (t + 1))
  unfolding again_notes next_notes closing answering
  closed_now r n x m f e h =
      let p = taken_call r x (closing (begun_notes b before t (count_at b t))) (h ∙ ap closing (e ∙ ap (begun_notes b before t) f)) (closes b (loaded b loads) t inside) in
      (p.0, p.1 ∙ ap (again_notes b) (sym (add-one t)))

module _ (b : List ℕ) where
  pub again_none : (n : Notes) → n ≡ fresh_notes → n ≡ again_notes b 0
  unfolding again_notes
  again_none n e = e

  pub again_refused : (f : Notes) (r : ℕ) → f ≡ fresh_notes → r ≡ load_number b → r ≢ 0 → record { number = r; notes = f } ≡ noting_again b
  unfolding noting_again
  again_refused f r e is g =
      ap {B = Noted} (λ x. record { number = r; notes = x }) e ∙ refused (load_number b) r fresh_notes (again_notes b (transactions_in b)) is g

  pub again_done : (x : Notes) (t r : ℕ) → x ≡ again_notes b t → t ≡ transactions_in b → r ≡ load_number b → r ≡ 0 → record { number = 0; notes = x } ≡ noting_again b
  unfolding noting_again
  again_done x t r e f is g =
      ap {B = Noted} (λ z. record { number = 0; notes = z }) (e ∙ ap (again_notes b) f) ∙ taken (load_number b) r fresh_notes (again_notes b (transactions_in b)) is g
