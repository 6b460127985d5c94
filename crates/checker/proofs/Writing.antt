-- Order, Table and Bills by their tests: a case that none refuses is decided with an order. Assumes nothing.
use Prim.Native.Nat.{ℕ, ◌≤◌}
use mathlib.Core.Path.{◌≡◌, sym, ap, ap₂, subst, ◌∙◌}
use mathlib.Core.Logic.{◌≢◌}
use mathlib.Core.Bool.{true, cond}
use mathlib.Core.List.{List, ◌++◌}
use lib.Dec.{T, eqb}
use lib.ListN.{length, take, drop}
use borrow.Author.Tests.{eq-eqb, ne_eqb}
use Rattle.model.specs.History.{is_order, replay}
use Rattle.model.specs.Log.{transactions_in, history_of}
use Rattle.model.proofs.Times.{timed_table}
use Rattle.wear.specs.Wear.{moves}
use Rattle.wear.specs.Bills.{bills_of}
use Rattle.wear.specs.declared.Bill.{Bill}
use Rattle.wear.proofs.Timing.{timed_moves}
use Rattle.answers.specs.Clocks.{times_in}
use Rattle.model.specs.Lent.{written_order, written_table}
use Rattle.answers.specs.declared.Stage.{Stage}
use Rattle.answers.specs.declared.Stage.TheVariants.{Ordered}
use Rattle.checker.specs.declared.Case.{Case}
use Rattle.checker.specs.declared.Answer.{Answer}
use Rattle.std.specs.Prelude.{Result}
use Rattle.refusals.specs.declared.Refusal.{Refusal}
use Rattle.refusals.specs.Numbers.{number_of}
use Rattle.logs.specs.declared.times.TimedLog.{TimedLog}
use Rattle.checker.specs.Holding.{HeldBy}
use Rattle.checker.specs.Cases.{contents, history_in, order_in, stage_of}
use Rattle.answers.specs.Stages.{holds_window, claims_order, is_fresh}
use Rattle.checker.specs.Results.{order_refused, table_refused, bills_refused, replying, order_left, table_left, bills_in, bills_left}
use Rattle.answers.specs.Stages.{refused_by}
use Rattle.checker.proofs.Holding.{case_holds}
use Rattle.answers.proofs.Answering.{reply_is}
use Rattle.answers.proofs.Holding.{counted_ordered, refused_fresh, refused_none}

-- ---- a case that is decided with an order

module _ (c : Case) where
  module _ (e : stage_of c ≡ Ordered) where
    pub ordered_holds : T (holds_window c.bytes c.length c.clock)
    ordered_holds = case_holds c (ap is_fresh e)

    pub ordered_order : T (is_order (transactions_in (contents c)) (order_in c))
    unfolding stage_of claims_order
    ordered_order = counted_ordered c.stage (holds_window c.bytes c.length c.clock) (claims_order c.bytes c.length c.order) e

  -- so the order of a case is one of the log that is taken out of it
  pub order_held : (w : TimedLog) → HeldBy c w → (n : ℕ) → n ≡ transactions_in w.log.bytes.now → stage_of c ≡ Ordered → T (is_order (transactions_in w.log.bytes.now) (take n c.order))
  order_held w h n is e =
      subst (λ m. T (is_order (transactions_in w.log.bytes.now) (take m c.order))) (sym is)
      (subst (λ m. T (is_order m (take m c.order))) (sym (ap transactions_in h.log_is)) (ordered_order e))

  module _ (places : ℕ) where
    pub order_stage : order_refused c places ≡ 0 → stage_of c ≡ Ordered
    unfolding order_refused
    order_stage e = (refused_none (stage_of c) (transactions_in (contents c)) places e).ordered

    pub order_room : order_refused c places ≡ 0 → transactions_in (contents c) ≤ places
    unfolding order_refused
    order_room e = (refused_none (stage_of c) (transactions_in (contents c)) places e).room

    pub table_stage : table_refused c places ≡ 0 → stage_of c ≡ Ordered
    unfolding table_refused
    table_stage e = (refused_none (stage_of c) 32 places e).ordered

    pub table_room : table_refused c places ≡ 0 → 32 ≤ places
    unfolding table_refused
    table_room e = (refused_none (stage_of c) 32 places e).room

    pub order_fresh : is_fresh (stage_of c) ≡ true → 23 ≡ order_refused c places
    unfolding order_refused
    order_fresh e = refused_fresh (stage_of c) (transactions_in (contents c)) places e

    pub order_number : (s : Stage) (n x : ℕ) → s ≡ stage_of c → n ≡ transactions_in (contents c) → x ≡ refused_by s n places → x ≡ order_refused c places
    unfolding order_refused
    order_number s n x p q e = e ∙ ap₂ (λ u m. refused_by u m places) p q

    pub table_number : (s : Stage) (x : ℕ) → s ≡ stage_of c → x ≡ refused_by s 32 places → x ≡ table_refused c places
    unfolding table_refused
    table_number s x p e = e ∙ ap (λ u. refused_by u 32 places) p

    pub bills_stage : bills_refused c places ≡ 0 → stage_of c ≡ Ordered
    unfolding bills_refused
    bills_stage e = (refused_none (stage_of c) 16 places e).ordered

    pub bills_room : bills_refused c places ≡ 0 → 16 ≤ places
    unfolding bills_refused
    bills_room e = (refused_none (stage_of c) 16 places e).room

    pub bills_number : (s : Stage) (x : ℕ) → s ≡ stage_of c → x ≡ refused_by s 16 places → x ≡ bills_refused c places
    unfolding bills_refused
    bills_number s x p e = e ∙ ap (λ u. refused_by u 16 places) p

  -- the bills of the log are those of the log with its times
  pub bills_are : (n : ℕ) (bs : List Bill) → n ≡ transactions_in (contents c) → bs ≡ bills_of (moves (history_of (contents c)) c.starting (take n c.order)) → bs ≡ bills_in c
  unfolding bills_in
  bills_are n bs p e =
      e ∙ ap (λ k. bills_of (moves (history_of (contents c)) c.starting (take k c.order))) p
      ∙ ap bills_of (sym (timed_moves (times_in c.clock) (history_of (contents c)) c.starting (order_in c)))

  -- ---- the answers

  pub replying_is : (r : Result (Unit {0}) Refusal) (n : ℕ) → number_of r ≡ n → record { case = c; reply = r } ≡ replying c n
  unfolding replying
  replying_is r n e = ap (λ (x : Result (Unit {0}) Refusal). answer x) (reply_is r n e)
    where
      answer : Result (Unit {0}) Refusal → Answer
      answer x = record { case = c; reply = x }

  -- ---- the lent lists

  module _ (ys : List ℕ) where
    as_was : (n : ℕ) (zs : List ℕ) → n ≢ 0 → ys ≡ cond (eqb n 0) zs ys
    as_was n zs f = sym (ap (λ b. cond b zs ys) (ne_eqb n 0 f))

    written : (n : ℕ) (zs : List ℕ) → n ≡ 0 → zs ≡ cond (eqb n 0) zs ys
    written n zs e = sym (ap (λ b. cond b zs ys) (eq-eqb n 0 e))

    pub order_as_was : order_refused c (length ys) ≢ 0 → ys ≡ order_left c ys
    unfolding order_left
    order_as_was f = as_was (order_refused c (length ys)) (written_order (transactions_in (contents c)) c.order ys) f

    pub order_left_lem : (zs : List ℕ) → order_refused c (length ys) ≡ 0 → zs ≡ written_order (transactions_in (contents c)) c.order ys → zs ≡ order_left c ys
    unfolding order_left
    order_left_lem zs e p = p ∙ written (order_refused c (length ys)) (written_order (transactions_in (contents c)) c.order ys) e

    pub table_as_was : table_refused c (length ys) ≢ 0 → ys ≡ table_left c ys
    unfolding table_left
    table_as_was f = as_was (table_refused c (length ys)) (written_table (history_in c) c.starting (order_in c) ys) f

    pub table_left_lem : (zs : List ℕ) → table_refused c (length ys) ≡ 0 → zs ≡ written_table (history_in c) c.starting (order_in c) ys → zs ≡ table_left c ys
    unfolding table_left
    table_left_lem zs e p = p ∙ written (table_refused c (length ys)) (written_table (history_in c) c.starting (order_in c) ys) e

    -- what is written, as the code copies it
    pub order_written : (n : ℕ) (zs : List ℕ) → n ≡ transactions_in (contents c) → zs ≡ take n c.order ++ drop n ys → zs ≡ written_order (transactions_in (contents c)) c.order ys
    unfolding written_order
    order_written n zs p e = e ∙ ap (λ k. take k c.order ++ drop k ys) p

    -- the table of the log is that of the log with its times
    pub table_written : (n : ℕ) (zs : List ℕ) → n ≡ transactions_in (contents c) → zs ≡ written_table (history_of (contents c)) c.starting (take n c.order) ys → zs ≡ written_table (history_in c) c.starting (order_in c) ys
    unfolding written_table
    table_written n zs p e =
        e ∙ ap (λ k. replay (history_of (contents c)) c.starting (take k c.order) ++ drop 32 ys) p
        ∙ ap (λ t. t ++ drop 32 ys) (sym (timed_table (times_in c.clock) (history_of (contents c)) c.starting (order_in c)))

  -- ---- the lent list of bills, as Bills leaves it

  module _ (ys : List Bill) where
    pub bills_as_was : bills_refused c (length ys) ≢ 0 → ys ≡ bills_left c ys
    unfolding bills_left
    bills_as_was f = sym (ap (λ b. cond b (bills_in c ++ drop 16 ys) ys) (ne_eqb (bills_refused c (length ys)) 0 f))

    pub bills_left_lem : (bs : List Bill) → bills_refused c (length ys) ≡ 0 → bs ≡ bills_in c → bs ++ drop 16 ys ≡ bills_left c ys
    unfolding bills_left
    bills_left_lem bs e is =
        ap (λ (x : List Bill). x ++ drop 16 ys) is ∙ sym (ap (λ b. cond b (bills_in c ++ drop 16 ys) ys) (eq-eqb (bills_refused c (length ys)) 0 e))
