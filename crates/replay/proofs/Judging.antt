-- Whether an order is legal, by the three tests that are left of one. Assumes nothing.
use mathlib.Core.Path.{◌≡◌, sym, ap, ap₂, ◌∙◌}
use mathlib.Core.Bool.{Bool, true, false, ◌&&◌}
use mathlib.Core.List.{List}
use Prim.Native.Nat.{ℕ}
use lib.Dec.{T}
use lib.ListN.{length}
use Rattle.model.specs.Lists.{all, up_to}
use Rattle.model.specs.History.{size, is_order, every_read_explained, legal}
use Rattle.model.specs.Log.{transactions_in, history_of}
use Rattle.model.specs.Times.{Times, keeps_clock, timed_number, timed_history}
use Rattle.model.specs.Untimed.{keeps_cabinets}
use Rattle.model.proofs.Basics.{true_eq}
use Rattle.model.proofs.Places.{order_out}
use Rattle.model.proofs.Loaded.{history_size}
use Rattle.model.proofs.Times.{log_untimed, timed_legal}
use Rattle.replay.specs.Orders.{Places}
use Rattle.replay.specs.Steps.{kept_by, clock_kept}
use Rattle.replay.proofs.Placing.{keeps_is, clock_is}

module _ (b : List ℕ) (ts : Times) (taken : timed_number b ts ≡ 0) (o : List ℕ) (t : T (is_order (transactions_in b) o)) where
  abbrev explains : Bool
  explains = every_read_explained (history_of b) o

  abbrev cabinets : Bool
  cabinets = keeps_cabinets (history_of b) o

  abbrev clock : Bool
  clock = keeps_clock ts (size (history_of b)) o

  legal_is : legal (timed_history b ts) o ≡ ((cabinets && clock) && explains)
  legal_is =
      timed_legal (history_of b) (log_untimed b) ts o
      ∙ ap (λ x. x && ((cabinets && clock) && explains)) (ap (λ n. is_order n o) (history_size b) ∙ true_eq (is_order (transactions_in b) o) t)

  module _ (places : List ℕ) (p : Places o places) (kept : Bool) (e : kept ≡ all (λ u. all (kept_by b places u) (up_to (transactions_in b))) (up_to (transactions_in b))) where
    cabinets_are : cabinets ≡ kept
    cabinets_are = sym (e ∙ keeps_is b o places (order_out (transactions_in b) o t) p)

    pub legal_no : kept ≡ false → false ≡ legal (timed_history b ts) o
    legal_no f = sym (legal_is ∙ ap (λ x. (x && clock) && explains) (cabinets_are ∙ f))

    module _ (yes : kept ≡ true) (timely : Bool) (c : timely ≡ all (clock_kept ts places) (up_to (length ts.ends))) where
      clock_are : clock ≡ timely
      clock_are = sym (c ∙ clock_is b ts taken o places (order_out (transactions_in b) o t) p)

      both : legal (timed_history b ts) o ≡ (timely && explains)
      both = legal_is ∙ ap₂ (λ x y. (x && y) && explains) (cabinets_are ∙ yes) clock_are

      pub legal_late : timely ≡ false → false ≡ legal (timed_history b ts) o
      legal_late f = sym (both ∙ ap (λ x. x && explains) f)

      pub legal_by : (x : Bool) → timely ≡ true → x ≡ explains → x ≡ legal (timed_history b ts) o
      legal_by x f g = g ∙ sym (both ∙ ap (λ y. y && explains) f)
