-- What Bills for C gives of a window, and what it writes: the bills of the first legal order's moves, each number read back at its place.
--     charges_code     the code of a window that Load takes; charges_refused of another.        charges_list     what is written
--     charges_as_decide        the code is that of Decide with room, but for 25 by the list of bytes
--     bills_held       the bytes of sixteen bills, read back;        charged      so are those that Bills leaves beside 0
--     charges_with_0_alone     beside another code the list is as it was.        beside_0     the same of bytes as of the window, beside 0
-- Assumes nothing.
use Prim.Native.Nat.{ℕ, suc, ◌+◌, ◌*◌, ◌-◌, ◌<◌, ◌≤◌}
use native.Mathlib.Omega.{arith}
use mathlib.Core.Path.{◌≡◌, refl, sym, ap, ap₂, subst, ◌∙◌}
use mathlib.Core.Logic.{◌⊎◌, inl, inr, ⊎_elim, ◌≢◌}
use mathlib.Core.Bool.{Bool, true, false, not, cond}
use mathlib.Core.List.{List, append-nil}
use mathlib.Core.Option.{Option, none, some}
use lib.Dec.{T, eqb, ltb, nltb→le}
use lib.IntN.{ℤ, pos, negsuc}
use lib.ListN.{length, get_or, replicate}
use lib.Signed.{mag}
use borrow.Author.Tests.{ne_eqb, lt-ltb, le-ltb}
use Rattle.std.specs.Prelude.{Result, Ok, Err}
use Rattle.refusals.specs.declared.Refusal.{Refusal}
use Rattle.model.specs.History.{History, well_formed}
use Rattle.model.specs.Lists.{implies}
use Rattle.model.specs.Log.{transactions_in, load_number}
use Rattle.model.specs.Window.{Window, window_number, window_history}
use Rattle.model.specs.Search.{first_legal}
use Rattle.model.proofs.Basics.{same?}
use Rattle.model.proofs.First.{first_some, legal_order}
use Rattle.model.proofs.Loaded.{Bytes, loaded}
use Rattle.model.proofs.Times.{well_formed_timed}
use Rattle.model.proofs.Windows.{taken_log, taken_timed}
use Rattle.model.proofs.Words.{get_or_up_to}
use Rattle.decision.specs.Answer.{is_some}
use Rattle.answers.specs.declared.Stage.{Stage}
use Rattle.answers.specs.declared.Verdict.{Verdict}
use Rattle.answers.specs.declared.Verdict.TheVariants.{Order, NoOrder}
use Rattle.answers.specs.Settings.{setting_refusal}
use Rattle.answers.specs.Stages.{is_fresh, refused_by}
use Rattle.wear.specs.Wear.{Move, moves, travel}
use Rattle.wear.specs.Bills.{bill_of, bills_of, no_bill}
use Rattle.wear.specs.declared.Bill.{Bill}
use Rattle.wear.proofs.Demands.{travel_fits_31_bits}
use Rattle.checker.specs.declared.Case.{Case}
use Rattle.checker.specs.Cases.{loaded_case}
use Rattle.checker.specs.Decisions.{decided_case}
use Rattle.checker.specs.Results.{bills_refused, bills_in, bills_left}
use Rattle.checker.proofs.Chain.{taken as at-0, load_window, load_stage, some_order}
use Rattle.codes.specs.Codes.{verdict_code, where_ordered, bills_encoding, bills_pruning, decision_of, case_bills_code, case_bills_after, said_bills_code, window_bills_code, window_bills_after, window_code}
use Rattle.codes.specs.Codes.{four_each, strict_window, bills_code, bills_after}
use Rattle.codes.specs.Images.{word_bytes, filled, word_at, twos, signed_at, values_in, bill_bytes, bill_in}
use Rattle.codes.specs.Told.{Billed}
use Rattle.codes.proofs.Filling.{word_long, bills_long}
use Rattle.codes.proofs.Ordering.{refused_code}
use Rattle.codes.proofs.Reading.{Apart, word_there, word_here, word_same, filled_behind, filled_stands}
use Rattle.codes.proofs.Taking.{chosen_done}
use Rattle.codes.proofs.Room.{coded, legal_here, stage_here, left_by, decided_code}

-- ---- the code

-- the one setting is taken
setting : setting_refusal bills_encoding bills_pruning ≡ 0
unfolding setting_refusal
setting = refl

-- 25 or 0, by the list of bytes
abbrev pub room192 : ℕ → ℕ
room192 room = cond (ltb room 192) 25 0

pub charges_refused : (w : Window) (room : ℕ) → window_number w ≢ 0 → window_bills_code w room ≡ window_number w
unfolding window_bills_code
charges_refused w room f = ap (λ b. cond b (said_bills_code (decision_of w bills_encoding bills_pruning) room) (window_number w)) (ne_eqb (window_number w) 0 f)

module _ (w : Window) (taken : window_number w ≡ 0) where
  abbrev c : Case
  c = loaded_case w

  -- a case that is decided with an order is not refused with sixteen places
  module _ (o : List ℕ) (is : first_legal (window_history w) ≡ some o) where
    abbrev k : Case
    k = decided_case c (some o)

    not_refused : bills_refused k 16 ≡ 0
    unfolding bills_refused refused_by
    not_refused = ap (λ (s : Stage). refused_by s 16 16) (stage_here w taken bills_encoding bills_pruning o is)

    charges_of : (room : ℕ) → case_bills_code k room ≡ room192 room
    unfolding case_bills_code
    charges_of room = ap (λ n. cond (ltb room 192) 25 n) not_refused

    bills_of_lem : bills_left k (replicate 16 no_bill) ≡ bills_of (moves (window_history w) w.starting o)
    unfolding bills_left bills_in decided_case loaded_case bills_of
    bills_of_lem =
        at-0 (bills_refused k 16) _ (replicate 16 no_bill) not_refused
        ∙ append-nil (bills_in k)
        ∙ ap₂ (λ (h : History) (p : List ℕ). bills_of (moves h w.starting p)) (ap window_history (load_window w taken))
        (some_order c o (ap is_fresh (load_stage w taken)) (legal_here w taken bills_encoding bills_pruning o is))

    -- what is written
    pub charges_list : (out : List ℕ) → 192 ≤ length out → window_bills_after w out ≡ filled (bill_in (bills_of (moves (window_history w) w.starting o))) 16 out
    unfolding window_bills_after case_bills_after
    charges_list out wide =
        left_by w taken bills_encoding bills_pruning o is setting (λ k. case_bills_after k out) out
        ∙ ap (λ n. cond (eqb n 0) (filled (bill_in (bills_left k (replicate 16 no_bill))) 16 out) out) (charges_of (length out) ∙ ap {B = ℕ} (λ b. cond b 25 0) (le-ltb (length out) 192 wide))
        ∙ ap (λ bs. filled (bill_in bs) 16 out) bills_of_lem

  pub charges_code : (room : ℕ) → window_bills_code w room ≡ cond (is_some (first_legal (window_history w))) (room192 room) 255
  unfolding window_bills_code
  charges_code room = coded w taken bills_encoding bills_pruning setting (λ k. case_bills_code k room) (room192 room) (λ o is. charges_of o is room)

-- Decide's code with room for any order and for the table, and 25 behind it
abbrev pub then_room : ℕ → ℕ → ℕ
then_room n room = cond (eqb n 0) (room192 room) n

pub charges_as_decide : (w : Window) (order table room : ℕ) → 32 ≤ order → 64 ≤ table → window_bills_code w room ≡ then_room (window_code w bills_encoding bills_pruning order table) room
charges_as_decide w order table room long wide =
    ⊎_elim
    (λ (z : window_number w ≡ 0).
    charges_code w z room ∙ go (is_some (first_legal (window_history w)))
    ∙ sym
    (ap (λ n. then_room n room)
    (decided_code w z bills_encoding bills_pruning order table setting
    ∙ ap₂ (λ a b. cond (is_some (first_legal (window_history w))) (cond a 25 (cond b 25 0)) 255) (le-ltb table 64 wide)
    (le-ltb order (transactions_in w.bytes) (omega (arith, (loaded w.bytes (taken_log w z)).few))))))
    (λ (f : window_number w ≢ 0).
    charges_refused w room f
    ∙ sym (ap (λ n. then_room n room) (refused_code w bills_encoding bills_pruning order table f) ∙ ap (λ b. cond b (room192 room) (window_number w)) (ne_eqb (window_number w) 0 f)))
    (same? (window_number w) 0)
  where
    go : (b : Bool) → cond b (room192 room) 255 ≡ then_room (cond b 0 255) room
    go true = refl
    go false = refl

-- beside another code than 0 the list is as it was
pub charges_with_0_alone : (w : Window) (out : List ℕ) → window_bills_code w (length out) ≢ 0 → window_bills_after w out ≡ out
unfolding window_bills_code window_bills_after case_bills_after
charges_with_0_alone w out = go (eqb (window_number w) 0) (decision_of w bills_encoding bills_pruning).verdict
  where
    k : Case
    k = (decision_of w bills_encoding bills_pruning).case

    n : ℕ
    n = case_bills_code k (length out)

    image : List ℕ
    image = filled (bill_in (bills_left k (replicate 16 no_bill))) 16 out

    go : (b : Bool) (v : Result Verdict Refusal) → cond b (verdict_code v n) (window_number w) ≢ 0 → cond b (where_ordered v (cond (eqb n 0) image out) out) out ≡ out
    go false v f = refl
    go true (Ok Order) f = ap (λ b. cond b image out) (ne_eqb n 0 f)
    go true (Ok NoOrder) f = refl
    go true (Err r) f = refl

-- ---- the twelve bytes of a bill

module _ (at : ℕ) (b : Bill) (out : List ℕ) where
  abbrev one : List ℕ
  one = word_bytes at b.mills out

  abbrev two : List ℕ
  two = word_bytes (at + 4) b.cents one

  bill_there : (j : ℕ) → Apart at 12 j → get_or (bill_bytes at b out) j 0 ≡ get_or out j 0
  unfolding bill_bytes
  bill_there j a =
      let past : (p : ℕ) → at ≤ p → p + 4 ≤ at + 12 → Apart p 4 j = λ p l m. ⊎_elim (λ (x : j < at). inl (omega arith)) (λ (x : at + 12 ≤ j). inr (omega arith)) a in
      word_there (at + 8) (twos b.travel) two j (past (at + 8) (omega arith) (omega arith))
      ∙ word_there (at + 4) b.cents one j (past (at + 4) (omega arith) (omega arith))
      ∙ word_there at b.mills out j (past at (omega arith) (omega arith))

  module _ (room : at + 12 ≤ length out) where
    travel_here : word_at (bill_bytes at b out) (at + 8) ≡ twos b.travel
    unfolding bill_bytes
    travel_here = word_here (at + 8) (twos b.travel) two (omega (arith, word_long (at + 4) b.cents one, word_long at b.mills out))

    cents_here : word_at (bill_bytes at b out) (at + 4) ≡ b.cents
    unfolding bill_bytes
    cents_here =
        word_same (bill_bytes at b out) two (at + 4) (λ j l m. word_there (at + 8) (twos b.travel) two j (inl (omega arith)))
        ∙ word_here (at + 4) b.cents one (omega (arith, word_long at b.mills out))

    mills_here : word_at (bill_bytes at b out) at ≡ b.mills
    unfolding bill_bytes
    mills_here =
        word_same (bill_bytes at b out) one at
        (λ j l m. word_there (at + 8) (twos b.travel) two j (inl (omega arith)) ∙ word_there (at + 4) b.cents one j (inl (omega arith)))
        ∙ word_here at b.mills out (omega arith)

-- two's complement reads back in 32 bits
pub signed_back : (b : List ℕ) (i : ℕ) (z : ℤ) → mag z < 2147483648 → word_at b i ≡ twos z → signed_at b i ≡ z
unfolding signed_at
signed_back b i (pos n) l is =
    ap (λ x. cond x (pos (word_at b i)) (negsuc (4294967295 - word_at b i))) (lt-ltb (word_at b i) 2147483648 (omega (arith, is, l))) ∙ ap pos is
signed_back b i (negsuc n) l is =
    let e : 4294967295 - word_at b i ≡ n = omega (arith, is, l) in
    ap (λ x. cond x (pos (word_at b i)) (negsuc (4294967295 - word_at b i))) (le-ltb (word_at b i) 2147483648 (omega (arith, is, l))) ∙ ap negsuc e

-- ---- the bytes of sixteen bills

abbrev bill_start : ℕ → ℕ
bill_start i = 12 * i

module _ (bills : List Bill) (out : List ℕ) where
  abbrev image : List ℕ
  image = filled (bill_in bills) 16 out

  bill_own : (i : ℕ) (o : List ℕ) (j : ℕ) → (j < bill_start i) ⊎ (bill_start (suc i) ≤ j) → get_or (bill_in bills i o) j 0 ≡ get_or o j 0
  bill_own i o j a = bill_there (12 * i) (get_or bills i no_bill) o j (⊎_elim (λ (l : j < 12 * i). inl l) (λ (l : 12 * suc i ≤ j). inr (omega arith)) a)

  bills_behind : (j : ℕ) → 192 ≤ j → get_or image j 0 ≡ get_or out j 0
  bills_behind j l = filled_behind bill_start (λ i k m. omega arith) (bill_in bills) bill_own 16 out j l

  module _ (room : 192 ≤ length out) (c : ℕ) (l : c < 16) where
    abbrev earlier : List ℕ
    earlier = filled (bill_in bills) c out

    abbrev b : Bill
    b = get_or bills c no_bill

    fits : 12 * c + 12 ≤ length earlier
    fits = omega (arith, bills_long bills c out)

    -- each word of the bill stands as it was written
    word : (p : ℕ) → p + 4 ≤ 12 * c + 12 → word_at image p ≡ word_at (bill_bytes (12 * c) b earlier) p
    word p k =
        word_same image (bill_bytes (12 * c) b earlier) p
        (λ j x y. filled_stands bill_start (λ i k m. omega arith) (bill_in bills) bill_own 16 out c l j (omega arith))

    pub bills_held : (word_at image (12 * c) ≡ b.mills) × ((word_at image (12 * c + 4) ≡ b.cents) × (word_at image (12 * c + 8) ≡ twos b.travel))
    bills_held = (
      word (12 * c) (omega arith) ∙ mills_here (12 * c) b earlier fits,
      (word (12 * c + 4) (omega arith) ∙ cents_here (12 * c) b earlier fits, word (12 * c + 8) (omega arith) ∙ travel_here (12 * c) b earlier fits),
    )

-- ---- what Bills leaves beside 0

pub bill_at_lem : (ms : List Move) (c : ℕ) → c < 16 → get_or (bills_of ms) c no_bill ≡ bill_of ms c
unfolding bills_of
bill_at_lem ms c l = get_or_up_to (bill_of ms) no_bill 16 c l

module _ (w : Window) (out : List ℕ) (z : window_bills_code w (length out) ≡ 0) where
  pub charges_load : window_number w ≡ 0
  charges_load = ⊎_elim (λ (t : window_number w ≡ 0). t) (λ (f : window_number w ≢ 0). sym (charges_refused w (length out) f) ∙ z) (same? (window_number w) 0)

  -- there is a legal order, and room
  given : ((o : List ℕ) × (first_legal (window_history w) ≡ some o)) × (192 ≤ length out)
  unfolding is_some
  given = go (first_legal (window_history w)) refl (ltb (length out) 192) (nltb→le (length out) 192) (sym (charges_code w charges_load (length out)) ∙ z)
    where
      go : (x : Option (List ℕ)) → first_legal (window_history w) ≡ x → (short : Bool) → (T (not short) → 192 ≤ length out) → ◌≡◌ {A = ℕ} (cond (is_some x) (cond short 25 0) 255) 0
          → ((o : List ℕ) × (first_legal (window_history w) ≡ some o)) × (192 ≤ length out)
      go none is short f q = absurd (omega (arith, q))
      go (some o) is true f q = absurd (omega (arith, q))
      go (some o) is false f q = ((o, is), f tt)

  pub charged : Bytes w.bytes → ((j : ℕ) → get_or w.starting j 0 < 65536) → Billed (window_history w) w.starting out (window_bills_after w out)
  unfolding bill_of
  charged bytes values =
      let h = window_history w in
      let o = given.0.0 in
      let is = given.0.1 in
      let ms = moves h w.starting o in
      let bs = bills_of ms in
      let formed : T (well_formed h) = well_formed_timed w.bytes w.clock (taken_timed w charges_load) bytes in
      let fits = travel_fits_31_bits h formed w.starting values o (legal_order h o (first_some h o is).0) in
      let held : (c : ℕ) (l : c < 16) → _ = bills_held bs out given.1 in
      subst (Billed h w.starting out) (sym (charges_list w charges_load o is out given.1))
      (record {
        first = o;
        is_first = is;
        wide = given.1;
        mills_at = λ c l. (held c l).0 ∙ ap (λ (b : Bill). b.mills) (bill_at_lem ms c l);
        cents_at = λ c l. (held c l).1.0 ∙ ap (λ (b : Bill). b.cents) (bill_at_lem ms c l);
        travel_at = λ c l. signed_back (filled (bill_in bs) 16 out) (12 * c + 8) (travel c ms) (omega (arith, fits c)) ((held c l).1.1 ∙ ap (λ (b : Bill). twos b.travel) (bill_at_lem ms c l));
        behind = bills_behind bs out;
        long = bills_long bs 16 out;
      })

-- ---- of bytes: what holds of a window's list beside 0

pub beside_0 : (log start begin end : List ℕ) (drift : ℕ) (out : List ℕ) (P : List ℕ → Type 0)
    → (window_bills_code (strict_window log (values_in start) begin end drift) (length out) ≡ 0 → P (window_bills_after (strict_window log (values_in start) begin end drift) out))
    → bills_code log start begin end drift (length out) ≡ 0 → P (bills_after log start begin end drift out)
unfolding bills_code bills_after
beside_0 log start begin end drift out P holds =
    let w = strict_window log (values_in start) begin end drift in
    let n = window_bills_code w (length out) in
    let left = window_bills_after w out in
    let b = implies (eqb (load_number log) 0) (four_each (transactions_in log) begin end) in
    chosen_done (cond b n 37) 36 (cond b left out) out P (eqb (length start) 64) (λ q. omega (arith, q)) (chosen_done n 37 left out P b (λ q. omega (arith, q)) holds)
