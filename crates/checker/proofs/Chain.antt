-- From Load to Decide to Order, Table and Bills: what each call finds in the case that the one before gave back. Assumes nothing.
use Prim.Native.Nat.{ℕ, ◌-◌, ◌≤◌}
use native.Mathlib.Omega.{arith}
use mathlib.Core.Path.{◌≡◌, refl, sym, ap, ap₂, subst, ◌∙◌}
use mathlib.Core.Logic.{⊎_elim, ◌≢◌}
use mathlib.Core.Bool.{Bool, true, false, cond, ◌&&◌}
use mathlib.Core.List.{List, ◌++◌}
use mathlib.Core.Option.{Option, none, some}
use lib.Dec.{T, eqb, ltb, leb, le→leb, ltb→lt}
use lib.ListN.{length, take, drop, replicate, length-append}
use lib.Seq.{take_at}
use Rattle.model.specs.History.{size, is_order, legal, replay}
use Rattle.model.specs.Window.{Window, window, window_number}
use Rattle.model.specs.Log.{transactions_in}
use Rattle.model.specs.Times.{Times, timed_number}
use Rattle.model.specs.Lent.{order_numbers, written_order, written_table}
use Rattle.model.proofs.Basics.{true_eq, false_eq, ne_eqb, eq-eqb, not_intro, and_in}
use Rattle.model.proofs.Times.{timed_log_size, timed_times, times_short}
use Rattle.model.proofs.Windows.{taken_timed}
use Rattle.wear.specs.Wear.{moves}
use Rattle.wear.specs.Bills.{bills_of}
use Rattle.wear.specs.declared.Bill.{Bill}
use Rattle.answers.specs.Clocks.{times_in, clock_of}
use Rattle.answers.proofs.Rooms.{times_back}
use Rattle.model.proofs.First.{legal_length, legal_order}
use Rattle.answers.specs.declared.Stage.{Stage}
use Rattle.answers.specs.declared.Stage.TheVariants.{Loaded, Ordered, NoOrder}
use Rattle.checker.specs.declared.Case.{Case}
use Rattle.checker.specs.Cases.{contents, window_in, history_in, order_in, stage_of, in_room, loaded_case}
use Rattle.answers.specs.Stages.{holds_window, claims_order, counted, is_fresh}
use Rattle.checker.specs.Decisions.{decide_refusal, decided_case}
use Rattle.checker.specs.Encodings.{encode_refusal}
use Rattle.checker.specs.Results.{order_refused, table_refused, bills_refused, order_left, table_left, bills_in, bills_left}
use Rattle.answers.specs.Stages.{refused_by}
use Rattle.checker.proofs.Holding.{case_holds}
use Rattle.checker.proofs.Verdicts.{numbers_of}

-- what stands under a test of a number, where it is 0 and where it is not
pub taken : {A : Type 0} (n : ℕ) (x y : A) → n ≡ 0 → cond (eqb n 0) x y ≡ x
taken n x y e = ap (λ b. cond b x y) (true_eq (eqb n 0) (eq-eqb e))

pub refused : {A : Type 0} (n : ℕ) (x y : A) → n ≢ 0 → cond (eqb n 0) x y ≡ y
refused n x y f = ap (λ b. cond b x y) (false_eq (eqb n 0) (ne_eqb f))

-- a list with room is no 25
has_room : (n m : ℕ) → m ≤ n → ◌≡◌ {A = ℕ} (cond (ltb n m) 25 0) 0
has_room n m fits = ap {B = ℕ} (λ b. cond b 25 0) (false_eq (ltb n m) (not_intro (ltb n m) (λ t. omega (arith, ltb→lt n m t))))

-- ---- the case that Load leaves

loaded_contents : (b : List ℕ) → take (length b) (in_room b) ≡ b
unfolding in_room
loaded_contents b = take_at b (replicate (1156 - length b) 0) (length b) refl

-- it holds the window, and nothing else
pub load_holds : (w : Window) → contents (loaded_case w) ≡ w.bytes
unfolding loaded_case
load_holds w = loaded_contents w.bytes

-- with the times of a window that Load takes, whose lists have as many entries
load_times : (w : Window) → window_number w ≡ 0 → times_in (clock_of w.clock) ≡ w.clock
load_times w e =
    times_back w.clock (⊎_elim (λ l. l.0 ∙ sym l.1) (λ l. l.0 ∙ sym l.1) (timed_times w.bytes w.clock (taken_timed w e)).lengths)

pub load_window : (w : Window) → window_number w ≡ 0 → window_in (loaded_case w) ≡ w
unfolding loaded_case
load_window w e = ap₂ (λ (b : List ℕ) (ts : Times). window b w.starting ts) (loaded_contents w.bytes) (load_times w e)

pub load_stage : (w : Window) → window_number w ≡ 0 → stage_of (loaded_case w) ≡ Loaded
unfolding stage_of loaded_case counted holds_window in_room clock_of
load_stage w e =
    ap (λ (x : Bool). counted Loaded x (claims_order (in_room b) (length b) (replicate 32 0))) (true_eq (holds_window (in_room b) (length b) (clock_of ts)) holds)
  where
    b : List ℕ
    b = w.bytes

    ts : Times
    ts = w.clock

    long : length b ≤ length (in_room b)
    long = omega (arith, length-append b (replicate (1156 - length b) 0))

    number : ℕ
    number = timed_number (take (length b) (in_room b)) (times_in (clock_of ts))

    holds : T (leb (length b) (length (in_room b)) && (leb (length ts.begins) 32 && eqb number 0))
    holds =
        and_in (leb (length b) (length (in_room b))) (leb (length ts.begins) 32 && eqb number 0) (le→leb (length b) (length (in_room b)) long)
        (and_in (leb (length ts.begins) 32) (eqb number 0) (le→leb (length ts.begins) 32 (times_short b ts (taken_timed w e)).0)
        (subst (λ x. T (eqb x 0)) (sym (ap₂ timed_number (loaded_contents b) (load_times w e) ∙ taken_timed w e)) tt))

-- ---- the case that Decide leaves

-- its log is the same, and so are its window and its history
pub decided_contents : (c : Case) (answer : Option (List ℕ)) → contents (decided_case c answer) ≡ contents c
unfolding decided_case
decided_contents c answer = refl

pub decided_window : (c : Case) (answer : Option (List ℕ)) → window_in (decided_case c answer) ≡ window_in c
unfolding decided_case
decided_window c answer = refl

-- after 'no order' it counts as decided without one
pub none_stage : (c : Case) → is_fresh (stage_of c) ≡ false → stage_of (decided_case c none) ≡ NoOrder
unfolding stage_of decided_case counted
none_stage c e =
    ap (λ (x : Bool). counted NoOrder x (claims_order c.bytes c.length (order_numbers none))) (true_eq (holds_window c.bytes c.length c.clock) (case_holds c e))

-- a case that counts as decided with an order: there is 25 alone, and what Order, Table and Bills leave is the order, its table and its bills
module _ (c : Case) (ordered : stage_of c ≡ Ordered) where
  pub ordered_number : (places : ℕ) → order_refused c places ≡ cond (ltb places (transactions_in (contents c))) 25 0
  unfolding order_refused refused_by
  ordered_number places = ap (λ (s : Stage). refused_by s (transactions_in (contents c)) places) ordered

  pub order_left_lem : (ys : List ℕ) → transactions_in (contents c) ≤ length ys → order_left c ys ≡ written_order (transactions_in (contents c)) c.order ys
  unfolding order_left
  order_left_lem ys fits = taken (order_refused c (length ys)) _ ys (ordered_number (length ys) ∙ has_room (length ys) (transactions_in (contents c)) fits)

  pub table_left_lem : (ys : List ℕ) → 32 ≤ length ys → table_left c ys ≡ written_table (history_in c) c.starting (order_in c) ys
  unfolding table_left table_refused refused_by
  table_left_lem ys fits = taken (table_refused c (length ys)) _ ys (ap (λ (s : Stage). refused_by s 32 (length ys)) ordered ∙ has_room (length ys) 32 fits)

  pub bills_left_lem : (ys : List Bill) → 16 ≤ length ys → bills_left c ys ≡ bills_in c ++ drop 16 ys
  unfolding bills_left bills_refused refused_by
  bills_left_lem ys fits = taken (bills_refused c (length ys)) _ ys (ap (λ (s : Stage). refused_by s 16 (length ys)) ordered ∙ has_room (length ys) 16 fits)

module _ (c : Case) (o : List ℕ) (e : is_fresh (stage_of c) ≡ false) (l : T (legal (history_in c) o)) where
  -- the T numbers that are claimed are the order
  pub some_order : order_in (decided_case c (some o)) ≡ o
  unfolding decided_case
  some_order = ap (λ n. take n (order_numbers (some o))) (sym (timed_log_size (contents c) (times_in c.clock))) ∙ numbers_of (history_in c) o l

  -- after an order it counts as decided with it
  pub some_stage : stage_of (decided_case c (some o)) ≡ Ordered
  unfolding stage_of decided_case counted claims_order
  some_stage =
      ap₂ (counted Ordered) (true_eq (holds_window c.bytes c.length c.clock) (case_holds c e))
      (true_eq (is_order n (take n (order_numbers (some o))))
      (subst (λ m. T (is_order m (take m (order_numbers (some o))))) (timed_log_size (contents c) (times_in c.clock))
      (subst (λ p. T (is_order (size (history_in c)) p)) (sym (numbers_of (history_in c) o l)) (legal_order (history_in c) o l))))
    where
      n : ℕ
      n = transactions_in (contents c)

  -- Order writes it, and Table the table which its replay leaves
  pub order_writes : (ys : List ℕ) → length o ≤ length ys → order_left (decided_case c (some o)) ys ≡ o ++ drop (length o) ys
  unfolding written_order decided_case
  order_writes ys fits =
      order_left_lem (decided_case c (some o)) some_stage ys (omega (arith, len))
      ∙ ap₂ (λ (x : List ℕ) (m : ℕ). x ++ drop m ys) some_order (sym len)
    where
      len : length o ≡ transactions_in (contents c)
      len = legal_length (history_in c) o l ∙ timed_log_size (contents c) (times_in c.clock)

  pub table_writes : (ys : List ℕ) → 32 ≤ length ys → table_left (decided_case c (some o)) ys ≡ replay (history_in c) c.starting o ++ drop 32 ys
  unfolding written_table decided_case
  table_writes ys fits =
      table_left_lem (decided_case c (some o)) some_stage ys fits ∙ ap (λ (x : List ℕ). replay (history_in c) c.starting x ++ drop 32 ys) some_order

  pub bills_writes : (ys : List Bill) → 16 ≤ length ys → bills_left (decided_case c (some o)) ys ≡ bills_of (moves (history_in c) c.starting o) ++ drop 16 ys
  unfolding bills_in decided_case
  bills_writes ys fits =
      bills_left_lem (decided_case c (some o)) some_stage ys fits ∙ ap (λ (x : List ℕ). bills_of (moves (history_in c) c.starting x) ++ drop 16 ys) some_order

-- ---- a call that is not refused with 22 has a case that isn't fresh

pub encode_held : (c : Case) (e pruning places words : ℕ) → encode_refusal c e pruning places words ≡ 0 → is_fresh (stage_of c) ≡ false
unfolding encode_refusal
encode_held c e pruning places words r = go (is_fresh (stage_of c)) _ r
  where
    go : (b : Bool) (n : ℕ) → cond b 22 n ≡ 0 → b ≡ false
    go true n r = absurd (omega arith)
    go false n r = refl

pub not_refused : (c : Case) (e pruning places : ℕ) → decide_refusal c e pruning places ≡ 0 → is_fresh (stage_of c) ≡ false
not_refused c e pruning places r = encode_held c e pruning places 32 r
