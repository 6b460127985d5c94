-- What Decide for C writes, in the model's words: the first legal order of the window's history, and the table which its replay leaves from the window's starting
-- table; and that two windows of one log and start, with one number and one history, are told alike.
--     order_is, table_is       what is left where 0 is given, by any order that is the first legal one; some_first, that there is one; ordered, the whole of it
--     window_writes_with_0_alone       beside another code the lists are as they were
--     check_alike, encode_alike, sent_alike, code_alike, lists_alike       of two such windows.        untimed_number, untimed_history      two without times are such
-- Assumes nothing.
use Prim.Native.Nat.{ℕ, zero, suc, ◌+◌, ◌*◌, ◌/◌, ◌%◌, ◌≤◌}
use native.Mathlib.Omega.{arith}
use mathlib.Core.Path.{◌≡◌, refl, sym, ap, subst, ◌∙◌}
use mathlib.Core.Logic.{⊎_elim, ◌≢◌}
use mathlib.Core.Bool.{Bool, true, false, not, cond}
use mathlib.Core.List.{List, [], ◌++◌, append-nil}
use mathlib.Core.Option.{Option, none, some}
use lib.Dec.{T, eqb, ltb, nltb→le}
use lib.ListN.{length, drop, set, get_or, replicate}
use lib.Seq.{drop-set-lt}
use borrow.Author.Tests.{eq-eqb, ne_eqb}
use Rattle.std.specs.Prelude.{Result, Ok, Err}
use Rattle.refusals.specs.declared.Refusal.{Refusal}
use Rattle.model.specs.History.{History, is_order, legal, replay}
use Rattle.model.specs.Log.{transactions_in}
use Rattle.model.specs.Times.{Times, times, no_times, timed_history}
use Rattle.model.specs.Window.{Window, window, window_number, window_history}
use Rattle.model.specs.Lent.{encoded_count}
use Rattle.model.specs.Search.{first_legal}
use Rattle.model.proofs.Basics.{same?}
use Rattle.model.proofs.First.{first_some, legal_length}
use Rattle.model.proofs.Times.{timed_log_size, timed_none, number_none}
use Rattle.model.proofs.Values.{replay_long}
use Rattle.model.proofs.Windows.{number_of_log, taken_long}
use Rattle.decision.specs.Answer.{is_some}
use Rattle.answers.specs.declared.Verdict.{Verdict}
use Rattle.answers.specs.declared.Verdict.TheVariants.{Order, NoOrder}
use Rattle.answers.specs.Settings.{setting_refusal}
use Rattle.answers.specs.Stages.{is_fresh}
use Rattle.answers.proofs.Answering.{setting_either}
use Rattle.checker.specs.declared.Case.{Case}
use Rattle.checker.specs.Cases.{history_in, stage_of, loaded_case}
use Rattle.checker.specs.Decisions.{decided_case}
use Rattle.checker.specs.Results.{order_left, table_left}
use Rattle.checker.proofs.Chain.{load_window, load_stage, order_writes, table_writes}
use Rattle.codes.specs.Codes.{verdict_code, where_ordered, where_loaded, room_code, order_of, table_of, decision_of, said_code, sent_after}
use Rattle.codes.specs.Codes.{check_window, window_code, window_order, window_table, encode_window, encode_window_after}
use Rattle.codes.specs.Images.{pair_bytes, filled, value_in, values_in}
use Rattle.codes.specs.Told.{Ordered}
use Rattle.codes.proofs.Filling.{values_long}
use Rattle.codes.proofs.Room.{left_by, legal_here, room_of, decided_code, decided_refused, encoded_code, encoded_refused, encoded_kept, encoded_list_lem, checked_code}
use Rattle.codes.proofs.Starting.{written_read}
use Rattle.codes.proofs.Writing.{kept}

-- what is filled up to a place leaves what stands behind it
pair_behind : (at v n : ℕ) (out : List ℕ) → at + 2 ≤ n → drop n (pair_bytes at v out) ≡ drop n out
unfolding pair_bytes
pair_behind at v n out l = drop-set-lt n (set out at (v % 256)) (at + 1) (v / 256) (omega arith) ∙ drop-set-lt n out at (v % 256) (omega arith)

filled_behind : (values out : List ℕ) (i n : ℕ) → 2 * i ≤ n → drop n (filled (value_in values) i out) ≡ drop n out
unfolding filled
filled_behind values out zero n l = refl
filled_behind values out (suc i) n l =
    pair_behind (2 * i) (get_or values i 0) n (filled (value_in values) i out) (omega arith) ∙ filled_behind values out i n (omega arith)

-- a window that Load refuses has Load's number
pub refused_code : (w : Window) (e pruning order table : ℕ) → window_number w ≢ 0 → window_code w e pruning order table ≡ window_number w
unfolding window_code
refused_code w e pruning order table f = ap (λ b. cond b (said_code (decision_of w e pruning) order table) (window_number w)) (ne_eqb (window_number w) 0 f)

-- so where 0 is given it takes the window
decided_loads : (w : Window) (e pruning order table : ℕ) → window_code w e pruning order table ≡ 0 → window_number w ≡ 0
decided_loads w e pruning order table z =
    ⊎_elim (λ (t : window_number w ≡ 0). t) (λ (f : window_number w ≢ 0). sym (refused_code w e pruning order table f) ∙ z) (same? (window_number w) 0)

-- a room that is not refused
room_out : (order table n : ℕ) → ◌≡◌ {A = ℕ} (cond (ltb table 64) 25 (cond (ltb order n) 25 0)) 0 → (64 ≤ table) × (n ≤ order)
room_out order table n z = go (ltb table 64) (ltb order n) refl refl z
  where
    go : (a b : Bool) → ltb table 64 ≡ a → ltb order n ≡ b → ◌≡◌ {A = ℕ} (cond a 25 (cond b 25 0)) 0 → (64 ≤ table) × (n ≤ order)
    go true b p q z = absurd (omega (arith, z))
    go false true p q z = absurd (omega (arith, z))
    go false false p q z = (nltb→le table 64 (subst (λ x. T (not x)) (sym p) tt), nltb→le order n (subst (λ x. T (not x)) (sym q) tt))

module _ (w : Window) (e pruning : ℕ) (order table : List ℕ) where
  abbrev code : ℕ
  code = window_code w e pruning (length order) (length table)

  abbrev room : ℕ
  room = cond (ltb (length table) 64) 25 (cond (ltb (length order) (transactions_in w.bytes)) 25 0)

  -- what is left in the two lists
  abbrev Left : Type 0
  Left = Ordered (window_history w) (transactions_in w.bytes) w.starting order table (window_order w e pruning order (length table)) (window_table w e pruning (length order) table)

  -- where 0 is given the setting is taken too, and there is a legal order
  module _ (z : code ≡ 0) where
    taken : window_number w ≡ 0
    taken = decided_loads w e pruning (length order) (length table) z

    setting : setting_refusal e pruning ≡ 0
    setting =
        ⊎_elim (λ (s : setting_refusal e pruning ≡ 0). s)
        (λ (s : setting_refusal e pruning ≡ 12). absurd (omega (arith, z, decided_refused w taken e pruning (length order) (length table) s))) (setting_either e pruning)

    given : cond (is_some (first_legal (window_history w))) room 255 ≡ 0
    given = sym (decided_code w taken e pruning (length order) (length table) setting) ∙ z

    pub some_first : (o : List ℕ) × (first_legal (window_history w) ≡ some o)
    unfolding is_some
    some_first = go (first_legal (window_history w)) refl given
      where
        go : (x : Option (List ℕ)) → first_legal (window_history w) ≡ x → cond (is_some x) room 255 ≡ 0 → (o : List ℕ) × (first_legal (window_history w) ≡ some o)
        go none is q = absurd (omega (arith, q))
        go (some o) is q = (o, is)

    module _ (o : List ℕ) (is : first_legal (window_history w) ≡ some o) where
      abbrev c : Case
      c = loaded_case w

      abbrev k : Case
      k = decided_case c (some o)

      held : is_fresh (stage_of c) ≡ false
      held = ap is_fresh (load_stage w taken)

      here : history_in c ≡ window_history w
      here = ap window_history (load_window w taken)

      given_room : room ≡ 0
      unfolding is_some
      given_room = sym (ap (λ x. cond (is_some x) room 255) is) ∙ given

      rooms : (64 ≤ length table) × (transactions_in w.bytes ≤ length order)
      rooms = room_out (length order) (length table) (transactions_in w.bytes) given_room

      counted : length o ≡ transactions_in w.bytes
      counted = legal_length (window_history w) o (first_some (window_history w) o is).0 ∙ timed_log_size w.bytes w.clock

      room_0 : room_code k (length order) (length table) ≡ 0
      room_0 = room_of w taken e pruning (length order) (length table) o is ∙ given_room

      pub order_is : window_order w e pruning order (length table) ≡ o ++ drop (transactions_in w.bytes) order
      unfolding window_order order_of
      order_is =
          left_by w taken e pruning o is setting (λ k. order_of k order (length table)) order
          ∙ ap (λ b. cond b (order_left k order) order) (eq-eqb (room_code k (length order) (length table)) 0 room_0)
          ∙ order_writes c o held (legal_here w taken e pruning o is) order (omega (arith, counted, rooms.1))
          ∙ ap (λ n. o ++ drop n order) counted

      pub table_is : window_table w e pruning (length order) table ≡ filled (value_in (replay (window_history w) w.starting o)) 32 table
      unfolding window_table table_of loaded_case
      table_is =
          left_by w taken e pruning o is setting (λ k. table_of k (length order) table) table
          ∙ ap (λ b. cond b (filled (value_in (table_left k (replicate 32 0))) 32 table) table) (eq-eqb (room_code k (length order) (length table)) 0 room_0)
          ∙ ap (λ vs. filled (value_in vs) 32 table)
          (table_writes c o held (legal_here w taken e pruning o is) (replicate 32 0) (omega arith) ∙ append-nil (replay (history_in c) w.starting o) ∙ ap (λ (h : History). replay h w.starting o) here)

      ordered_by : Left
      ordered_by =
          let vs = replay (window_history w) w.starting o in
          record {
            first = o;
            is_first = is;
            count = counted;
            fits = rooms.1;
            order_is = order_is;
            wide = rooms.0;
            values = ap values_in table_is ∙ written_read vs table (replay_long (window_history w) w.starting o ∙ taken_long w taken) rooms.0;
            rest = ap (drop 64) table_is ∙ filled_behind vs table 32 64 (omega arith);
            long = ap length table_is ∙ values_long vs 32 table;
          }

    pub ordered : Left
    ordered = ordered_by some_first.0 some_first.1

  -- beside another code the lists are as they were
  pub window_writes_with_0_alone : code ≢ 0 → (window_order w e pruning order (length table) ≡ order) × (window_table w e pruning (length order) table ≡ table)
  unfolding window_code window_order window_table
  window_writes_with_0_alone = go (eqb (window_number w) 0) (decision_of w e pruning).verdict
    where
      k : Case
      k = (decision_of w e pruning).case

      n : ℕ
      n = room_code k (length order) (length table)

      go : (b : Bool) (v : Result Verdict Refusal) → cond b (verdict_code v n) (window_number w) ≢ 0
          → (cond b (where_ordered v (order_of k order (length table)) order) order ≡ order) × (cond b (where_ordered v (table_of k (length order) table) table) table ≡ table)
      go false v f = (refl, refl)
      go true (Ok Order) f = let x = kept k order table f in (sym x.0, sym x.1)
      go true (Ok NoOrder) f = (refl, refl)
      go true (Err r) f = (refl, refl)

-- ---- two windows of one log and start, with one number and one history: whatever else is in their times

module _ (log starting : List ℕ) (ts us : Times) where
  abbrev u : Window
  u = window log starting ts

  abbrev v : Window
  v = window log starting us

  module _ (number : window_number u ≡ window_number v) (history : window_history u ≡ window_history v) where
    -- what stands where Load takes them, and where it does not
    loaded_alike : {X : Type 0} (x x' y y' : X) → (window_number u ≡ 0 → window_number v ≡ 0 → x ≡ x') → y ≡ y' → where_loaded u x y ≡ where_loaded v x' y'
    loaded_alike x x' y y' taken refused =
        ⊎_elim
        (λ (z : window_number u ≡ 0).
        let z' = sym number ∙ z in
        ap (λ b. cond b x y) (eq-eqb (window_number u) 0 z) ∙ taken z z' ∙ sym (ap (λ b. cond b x' y') (eq-eqb (window_number v) 0 z')))
        (λ (f : window_number u ≢ 0).
        ap (λ b. cond b x y) (ne_eqb (window_number u) 0 f) ∙ refused ∙ sym (ap (λ b. cond b x' y') (ne_eqb (window_number v) 0 (λ z. f (number ∙ z)))))
        (same? (window_number u) 0)

    pub check_alike : (o : List ℕ) → check_window u o ≡ check_window v o
    unfolding check_window
    check_alike o =
        loaded_alike _ _ (window_number u) (window_number v)
        (λ z z'. checked_code u z o ∙ ap {B = ℕ} (λ (h : History). cond (is_order (transactions_in log) o) (cond (legal h o) 0 255) 13) history ∙ sym (checked_code v z' o)) number

    module _ (e pruning : ℕ) where
      -- by the setting
      either : {X : Type 0} (x x' : X) → (setting_refusal e pruning ≡ 0 → x ≡ x') → (setting_refusal e pruning ≡ 12 → x ≡ x') → x ≡ x'
      either x x' f g = ⊎_elim f g (setting_either e pruning)

      pub encode_alike : (room : ℕ) → encode_window u e pruning room ≡ encode_window v e pruning room
      unfolding encode_window
      encode_alike room =
          loaded_alike _ _ (window_number u) (window_number v)
          (λ z z'.
          either _ _
          (λ s.
          encoded_code u z e pruning s room ∙ ap {B = ℕ} (λ (h : History). cond (ltb room (130 + 10 * encoded_count h e pruning)) 25 0) history
          ∙ sym (encoded_code v z' e pruning s room))
          (λ s. encoded_refused u z e pruning s room ∙ sym (encoded_refused v z' e pruning s room)))
          number

      pub sent_alike : (out : List ℕ) → encode_window_after u e pruning out ≡ encode_window_after v e pruning out
      unfolding encode_window_after
      sent_alike out =
          loaded_alike _ _ out out
          (λ z z'.
          either _ _
          (λ s. encoded_list_lem u z e pruning s out ∙ ap (λ (h : History). sent_after h e pruning out) history ∙ sym (encoded_list_lem v z' e pruning s out))
          (λ s. encoded_kept u z e pruning s out ∙ sym (encoded_kept v z' e pruning s out)))
          refl

      pub code_alike : (order table : ℕ) → window_code u e pruning order table ≡ window_code v e pruning order table
      code_alike order table =
          ⊎_elim
          (λ (z : window_number u ≡ 0).
          let z' = sym number ∙ z in
          either _ _
          (λ s.
          decided_code u z e pruning order table s
          ∙ ap (λ (h : History). cond (is_some (first_legal h)) (cond (ltb table 64) 25 (cond (ltb order (transactions_in log)) 25 0)) 255) history
          ∙ sym (decided_code v z' e pruning order table s))
          (λ s. decided_refused u z e pruning order table s ∙ sym (decided_refused v z' e pruning order table s)))
          (λ (f : window_number u ≢ 0). refused_code u e pruning order table f ∙ number ∙ sym (refused_code v e pruning order table (λ z. f (number ∙ z))))
          (same? (window_number u) 0)

      -- where 0 is given both write the one first legal order, and else nothing
      pub lists_alike : (order table : List ℕ)
          → (window_order u e pruning order (length table) ≡ window_order v e pruning order (length table))
          × (window_table u e pruning (length order) table ≡ window_table v e pruning (length order) table)
      lists_alike order table =
          ⊎_elim
          (λ (z : window_code u e pruning (length order) (length table) ≡ 0).
          let z' = sym same ∙ z in
          let x = some_first u e pruning order table z in
          let is = sym (ap first_legal history) ∙ x.1 in (
            order_is u e pruning order table z x.0 x.1 ∙ sym (order_is v e pruning order table z' x.0 is),
            table_is u e pruning order table z x.0 x.1 ∙ ap (λ (h : History). filled (value_in (replay h starting x.0)) 32 table) history
                ∙ sym (table_is v e pruning order table z' x.0 is),
          ))
          (λ (f : window_code u e pruning (length order) (length table) ≢ 0).
          let a = window_writes_with_0_alone u e pruning order table f in
          let b = window_writes_with_0_alone v e pruning order table (λ z. f (same ∙ z)) in
          (a.0 ∙ sym b.0, a.1 ∙ sym b.1))
          (same? (window_code u e pruning (length order) (length table)) 0)
        where
          same : window_code u e pruning (length order) (length table) ≡ window_code v e pruning (length order) (length table)
          same = code_alike (length order) (length table)

-- such are two windows without times, whatever their drifts up to 3,600
module _ (log starting : List ℕ) (drift : ℕ) (long : length starting ≡ 32) (low : drift ≤ 3600) where
  pub untimed_number : window_number (window log starting (times [] [] drift)) ≡ window_number (window log starting no_times)
  untimed_number =
      number_of_log (window log starting (times [] [] drift)) long ∙ number_none log drift low
      ∙ sym (number_of_log (window log starting no_times) long ∙ number_none log 0 (omega arith))

pub untimed_history : (log : List ℕ) (drift : ℕ) → timed_history log (times [] [] drift) ≡ timed_history log no_times
untimed_history log drift = timed_none log drift ∙ sym (timed_none log 0)
