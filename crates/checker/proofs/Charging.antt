-- What Bills writes of a case that is decided with an order, bill by bill, and what the sixteen come to together. Assumes nothing.
use Prim.Native.Nat.{ℕ, ◌+◌, ◌<◌}
use native.Mathlib.Omega.{arith}
use mathlib.Core.Path.{◌≡◌, refl, sym, ap, ◌∙◌}
use mathlib.Core.List.{List, [], ◌∷◌, ◌++◌, map}
use lib.Dec.{T}
use lib.IntN.{ℤ, pos, ◌+ℤ◌, ◌-ℤ◌}
use lib.ListN.{length, get_or, take, drop, length-append, take-append-drop, get_or-append}
use lib.Seq.{take_at, drop_at, length-take-le}
use Rattle.model.specs.Lists.{fold, total, up_to}
use Rattle.model.specs.History.{well_formed, replay}
use Rattle.model.proofs.Loaded.{Bytes}
use Rattle.model.proofs.Times.{well_formed_timed}
use Rattle.model.proofs.Words.{length_up_to, get_or_up_to}
use Rattle.answers.specs.Clocks.{times_in}
use Rattle.answers.specs.declared.Stage.TheVariants.{Ordered}
use Rattle.answers.proofs.Holding.{window_loads}
use Rattle.wear.specs.Wear.{Move, cost, moves, mills, travel}
use Rattle.wear.specs.Bills.{bill_of, bills_of, no_bill}
use Rattle.wear.specs.declared.Bill.{Bill}
use Rattle.wear.proofs.Demands.{mills_of_all_cabinets, travel_of_all_cabinets}
use Rattle.checker.specs.declared.Case.{Case}
use Rattle.checker.specs.Cases.{contents, history_in, order_in, stage_of}
use Rattle.checker.specs.Results.{bills_refused, bills_in, bills_left}
use Rattle.checker.proofs.Chain.{bills_left_lem}
use Rattle.checker.proofs.Writing.{bills_stage, bills_room, ordered_holds}

module _ (c : Case) where
  abbrev ms : List Move
  ms = moves (history_in c) c.starting (order_in c)

  bills_long : length (bills_in c) ≡ 16
  unfolding bills_in bills_of
  bills_long = length_up_to (bill_of ms) 16

  module _ (ys : List Bill) (runs : bills_refused c (length ys) ≡ 0) where
    ordered : stage_of c ≡ Ordered
    ordered = bills_stage c (length ys) runs

    written : bills_left c ys ≡ bills_in c ++ drop 16 ys
    written = bills_left_lem c ordered ys (bills_room c (length ys) runs)

    -- the bill of each cabinet in its place
    pub bill_at_lem : (k : ℕ) → k < 16 → get_or (bills_left c ys) k no_bill ≡ bill_of ms k
    unfolding bills_in bills_of
    bill_at_lem k l =
        ap (λ (zs : List Bill). get_or zs k no_bill) written ∙ get_or-append (bills_in c) (drop 16 ys) no_bill k (omega (arith, bills_long)) ∙ get_or_up_to (bill_of ms) no_bill 16 k l

    pub bills_behind : drop 16 (bills_left c ys) ≡ drop 16 ys
    bills_behind = ap (drop 16) written ∙ drop_at (bills_in c) (drop 16 ys) 16 bills_long

    pub bills_as_long : length (bills_left c ys) ≡ length ys
    bills_as_long =
        ap length written ∙ length-append (bills_in c) (drop 16 ys)
        ∙ omega (arith, bills_long, bills_room c (length ys) runs, sym (length-append (take 16 ys) (drop 16 ys)) ∙ ap length (take-append-drop 16 ys), length-take-le 16 ys (bills_room c (length ys) runs))

    bills_front : take 16 (bills_left c ys) ≡ bills_in c
    bills_front = ap (take 16) written ∙ take_at (bills_in c) (drop 16 ys) 16 bills_long

    -- ---- together

    formed : Bytes (contents c) → T (well_formed (history_in c))
    formed bytes = well_formed_timed (contents c) (times_in c.clock) (window_loads c.bytes c.length c.clock (ordered_holds c ordered)) bytes

    pub mills_together : Bytes (contents c) → total (λ (b : Bill). b.mills) (take 16 (bills_left c ys)) ≡ total cost ms
    unfolding bills_in bills_of bill_of
    mills_together bytes =
        ap (total (λ (b : Bill). b.mills)) bills_front ∙ total_map (up_to 16) ∙ mills_of_all_cabinets (history_in c) (formed bytes) c.starting (order_in c)
      where
        total_map : (xs : List ℕ) → total (λ (b : Bill). b.mills) (map (bill_of ms) xs) ≡ total (λ k. mills k ms) xs
        total_map [] = refl
        total_map (x ∷ xs) = ap (λ n. mills x ms + n) (total_map xs)

    pub travel_together : Bytes (contents c) → length c.starting ≡ 32
        → fold (λ z (b : Bill). z +ℤ b.travel) (pos 0) (take 16 (bills_left c ys))
        ≡ fold (λ z k. z +ℤ (pos (get_or (replay (history_in c) c.starting (order_in c)) k 0) -ℤ pos (get_or c.starting k 0))) (pos 0) (up_to 16)
    unfolding bills_in bills_of bill_of
    travel_together bytes long =
        ap (fold (λ z (b : Bill). z +ℤ b.travel) (pos 0)) bills_front ∙ fold_map (pos 0) (up_to 16) ∙ travel_of_all_cabinets (history_in c) (formed bytes) c.starting (order_in c) long
      where
        fold_map : (z : ℤ) (xs : List ℕ) → fold (λ z (b : Bill). z +ℤ b.travel) z (map (bill_of ms) xs) ≡ fold (λ z k. z +ℤ travel k ms) z xs
        fold_map z [] = refl
        fold_map z (x ∷ xs) = fold_map (z +ℤ travel x ms) xs
