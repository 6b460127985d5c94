-- Laws of Bills for C as it goes by Decide: what it gives and leaves, test by test, of the code and of the order that Decide left in buffers with room. Assumes nothing.
use mathlib.Core.Path.{◌≡◌, sym, ap, subst, ◌∙◌}
use mathlib.Core.Logic.{⊎_elim, ◌≢◌}
use Prim.Native.Nat.{ℕ, ◌<◌, ◌≤◌}
use native.Mathlib.Omega.{arith}
use mathlib.Core.Bool.{cond}
use mathlib.Core.List.{List}
use lib.Dec.{T, eqb, ltb}
use lib.ListN.{length, take, drop}
use lib.Seq.{take_at}
use borrow.Author.Tests.{eq-eqb, ne_eqb, lt-ltb, le-ltb}
use Rattle.model.specs.History.{is_order, size}
use Rattle.model.specs.Log.{transactions_in, load_number, history_of}
use Rattle.model.specs.Window.{Window, window_history}
use Rattle.model.proofs.Basics.{same?}
use Rattle.model.proofs.First.{first_some, legal_order}
use Rattle.model.proofs.Times.{timed_log_size}
use Rattle.wear.specs.Wear.{moves}
use Rattle.wear.specs.Bills.{bills_of}
use Rattle.wear.specs.declared.Bill.{Bill}
use Rattle.wear.proofs.Timing.{timed_moves}
use Rattle.codes.specs.Codes.{bills_encoding, bills_pruning, strict_window, decide_strict_code, decide_strict_order, decide_strict_table, bills_code, bills_after}
use Rattle.codes.specs.Images.{filled, values_in, bill_in}
use Rattle.codes.specs.Told.{Ordered}
use Rattle.codes.proofs.Charging.{charges_list, charges_load, beside_0}
use Rattle.codes.proofs.Demands.{strict_decide_gives_36, strict_decide_of_a_refused_log, strict_decide_writes_by_its_bytes, bills_answer_as_decide, bills_write_with_0_alone}

module _ (log start begin end : List ℕ) (drift : ℕ) (order table : List ℕ) (long : 32 ≤ length order) (wide : 64 ≤ length table) (n : ℕ)
    (is : n ≡ decide_strict_code log start begin end drift bills_encoding bills_pruning (length order) (length table)) (out : List ℕ) where
  -- the code, and the list after it
  abbrev pub Bills : ℕ → List ℕ → Type 0
  Bills m out' = (m ≡ bills_code log start begin end drift (length out)) × (out' ≡ bills_after log start begin end drift out)

  abbrev w : Window
  w = strict_window log (values_in start) begin end drift

  code_is : bills_code log start begin end drift (length out) ≡ cond (eqb n 0) (cond (ltb (length out) 192) 25 0) n
  code_is = bills_answer_as_decide log start begin end drift (length order) (length table) (length out) long wide ∙ ap (λ m. cond (eqb m 0) (cond (ltb (length out) 192) 25 0) m) (sym is)

  -- a code other than 0, with the list as it was
  kept : (m : ℕ) → m ≢ 0 → bills_code log start begin end drift (length out) ≡ m → Bills m out
  kept m f e = (sym e, sym (bills_write_with_0_alone log start begin end drift out (λ z. f (sym e ∙ z))))

  pub bills_refused_lem : n ≢ 0 → Bills n out
  bills_refused_lem f = kept n f (code_is ∙ ap (λ b. cond b (cond (ltb (length out) 192) 25 0) n) (ne_eqb n 0 f))

  module _ (z : n ≡ 0) where
    room_left : bills_code log start begin end drift (length out) ≡ cond (ltb (length out) 192) 25 0
    room_left = code_is ∙ ap (λ b. cond b (cond (ltb (length out) 192) 25 0) n) (eq-eqb n 0 z)

    pub bills_short : length out < 192 → Bills 25 out
    bills_short l = kept 25 (λ e. omega (arith, e)) (room_left ∙ ap {B = ℕ} (λ b. cond b 25 0) (lt-ltb (length out) 192 l))

    -- Decide read a start of 64 bytes and a log that is taken, and left the log's first legal order
    told : Ordered (window_history w) (transactions_in log) (values_in start) order table
        (decide_strict_order log start begin end drift bills_encoding bills_pruning order (length table))
        (decide_strict_table log start begin end drift bills_encoding bills_pruning (length order) table)
    told = strict_decide_writes_by_its_bytes log start begin end drift bills_encoding bills_pruning order table (sym is ∙ z)

    pub start_64 : length start ≡ 64
    start_64 =
        ⊎_elim (λ (l : length start ≡ 64). l)
        (λ (f : length start ≢ 64).
        absurd (omega (arith, is, z, (strict_decide_gives_36 log start begin end drift bills_encoding bills_pruning (length order) (length table)).1 f)))
        (same? (length start) 64)

    pub log_taken : load_number log ≡ 0
    log_taken =
        ⊎_elim (λ (t : load_number log ≡ 0). t)
        (λ (f : load_number log ≢ 0).
        sym (strict_decide_of_a_refused_log log f begin end drift start start_64 bills_encoding bills_pruning (length order) (length table)) ∙ sym is ∙ z)
        (same? (load_number log) 0)

    module _ (order' : List ℕ) (left : order' ≡ decide_strict_order log start begin end drift bills_encoding bills_pruning order (length table)) where
      first_left : take (transactions_in log) order' ≡ told.first
      first_left = ap (take (transactions_in log)) (left ∙ told.order_is) ∙ take_at told.first (drop (transactions_in log) order) (transactions_in log) told.count

      pub orders : T (is_order (transactions_in log) (take (transactions_in log) order'))
      orders =
          let h = window_history w in
          subst (λ m. T (is_order m (take (transactions_in log) order'))) (timed_log_size log w.clock)
          (subst (λ o. T (is_order (size h) o)) (sym first_left) (legal_order h told.first (first_some h told.first told.is_first).0))

      -- the bills of its moves, which do not see the times
      pub bills_written : 192 ≤ length out → (bills : List Bill) → bills ≡ bills_of (moves (history_of log) (values_in start) (take (transactions_in log) order'))
          → (out' : List ℕ) → out' ≡ filled (bill_in bills) 16 out → Bills 0 out'
      bills_written room bills made out' put =
          let code : bills_code log start begin end drift (length out) ≡ 0 = room_left ∙ ap {B = ℕ} (λ b. cond b 25 0) (le-ltb (length out) 192 room) in
          let vs = values_in start in (
            sym code,
            put
                ∙ ap (λ bs. filled (bill_in bs) 16 out)
                (made ∙ ap (λ o. bills_of (moves (history_of log) vs o)) first_left ∙ ap bills_of (sym (timed_moves w.clock (history_of log) vs told.first)))
                ∙ sym
                (beside_0 log start begin end drift out (λ x. x ≡ filled (bill_in (bills_of (moves (window_history w) vs told.first))) 16 out)
                (λ q. charges_list w (charges_load w out q) told.first told.is_first out room) code),
          )
