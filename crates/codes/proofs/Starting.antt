-- Laws of a start as bytes: what stands where there are 64 and where there are not; that code and order are the same from another, with any times; and what a
-- table as it is written holds as a start. Assumes nothing.
use mathlib.Core.Path.{◌≡◌, refl, sym, ap, ap₂, subst, ◌∙◌}
use mathlib.Core.Logic.{⊎_elim, ◌≢◌}
use Prim.Native.Nat.{ℕ, zero, suc, ◌+◌, ◌*◌, ◌/◌, ◌%◌, ◌<◌, ◌≤◌}
use native.Mathlib.Nat.{not-suc-le-zero}
use native.Mathlib.Omega.{arith}
use mathlib.Core.Bool.{Bool, true, false, not, cond}
use mathlib.Core.List.{List, map, ◌++◌, append-nil}
use lib.Dec.{T, eqb, ltb, ltb→lt, nltb→le}
use lib.ListN.{length, set, get_or, drop, replicate, length-set, get_or-eq_default}
use lib.Seq.{get_or-set_same, get_or-set_other, ext_get_or}
use borrow.Author.Tests.{eq-eqb, ne_eqb}
use Rattle.std.specs.Prelude.{Result, Ok, Err}
use Rattle.refusals.specs.declared.Refusal.{Refusal}
use Rattle.refusals.proofs.Numbering.{code_some}
use Rattle.model.specs.Times.{Times}
use Rattle.model.specs.Window.{Window, window, window_number}
use Rattle.model.specs.History.{replay}
use Rattle.model.specs.Lent.{written_table}
use Rattle.model.proofs.Windows.{number_of_log}
use Rattle.model.proofs.Values.{replay_long}
use Rattle.answers.specs.declared.Verdict.{Verdict}
use Rattle.answers.specs.declared.Verdict.TheVariants.{Order, NoOrder}
use Rattle.checker.specs.declared.Case.{Case}
use Rattle.checker.specs.declared.Decision.{Decision}
use Rattle.checker.specs.Cases.{history_in, order_in, loaded_case, with_starting}
use Rattle.checker.specs.Results.{order_refused, order_left, table_refused, table_left}
use Rattle.checker.proofs.Starting.{same_answers, decided_alike, decided_keeps}
use Rattle.codes.specs.Codes.{verdict_code, where_ordered, room_code, order_of, table_of, decide_places, decision_of, said_code, said_order, window_code, window_order, window_table}
use Rattle.model.specs.Lists.{up_to}
use Rattle.model.specs.Log.{pair_at}
use Rattle.model.proofs.Basics.{decide, same?}
use Rattle.model.proofs.Loaded.{Bytes, pair_lt}
use Rattle.model.proofs.Words.{length_up_to, get_or_up_to}
use Rattle.codes.specs.Images.{pair_bytes, filled, value_in, values_in}
use Rattle.codes.proofs.Filling.{values_long}

-- what stands by a start of 64 bytes, and by any other
module _ {X : Type 0} (x y : X) (start : List ℕ) where
  pub start_refused : length start ≢ 64 → y ≡ cond (eqb (length start) 64) x y
  start_refused f = sym (ap (λ b. cond b x y) (ne_eqb (length start) 64 f))

  pub start_taken : length start ≡ 64 → (r : X) → r ≡ x → r ≡ cond (eqb (length start) 64) x y
  start_taken l r e = e ∙ sym (ap (λ b. cond b x y) (eq-eqb (length start) 64 l))

-- by two of them, the same where their values give the same
pub start_same : {X : Type 0} (f : List ℕ → X) (y : X) (s s' : List ℕ) → length s ≡ 64 → length s' ≡ 64 → f (values_in s') ≡ f (values_in s)
    → cond (eqb (length s') 64) (f (values_in s')) y ≡ cond (eqb (length s) 64) (f (values_in s)) y
start_same f y s s' l l' e = sym (start_taken (f (values_in s')) y s' l' (f (values_in s)) (sym e)) ∙ start_taken (f (values_in s)) y s l (f (values_in s)) refl

-- ---- another start: the same code and order

module _ (k : Case) (table : List ℕ) where
  room_alike : (order room : ℕ) → room_code (with_starting k table) order room ≡ room_code k order room
  unfolding room_code
  room_alike order room = ap (λ n. cond (ltb room 64) 25 n) ((same_answers k table).order_number order)

  order_alike : (order : List ℕ) (room : ℕ) → order_of (with_starting k table) order room ≡ order_of k order room
  unfolding order_of
  order_alike order room =
      ap (λ n. cond (eqb n 0) (order_left (with_starting k table) order) order) (room_alike (length order) room)
      ∙ ap (λ l. cond (eqb (room_code k (length order) room) 0) l order) ((same_answers k table).order_list order)

module _ (log vs us : List ℕ) (ts : Times) (long : length vs ≡ 32) (long' : length us ≡ 32) (e pruning : ℕ) where
  abbrev v : Window
  v = window log vs ts

  abbrev u : Window
  u = window log us ts

  abbrev dv : Decision
  dv = decision_of v e pruning

  abbrev du : Decision
  du = decision_of u e pruning

  number_alike : window_number u ≡ window_number v
  number_alike = number_of_log u long' ∙ sym (number_of_log v long)

  verdict_alike : du.verdict ≡ dv.verdict
  unfolding loaded_case
  verdict_alike = (same_answers (loaded_case v) us).verdict e pruning decide_places

  case_alike : du.case ≡ with_starting dv.case us
  unfolding loaded_case
  case_alike = decided_alike (loaded_case v) us e pruning decide_places

  pub code_same : (order table : ℕ) → window_code u e pruning order table ≡ window_code v e pruning order table
  unfolding window_code
  code_same order table =
      ap (λ n. cond (eqb n 0) (said_code du order table) n) number_alike
      ∙ ap (λ x. cond (eqb (window_number v) 0) (verdict_code x (room_code du.case order table)) (window_number v)) verdict_alike
      ∙ ap (λ x. cond (eqb (window_number v) 0) (verdict_code dv.verdict x) (window_number v)) (ap (λ (c : Case). room_code c order table) case_alike ∙ room_alike dv.case us order table)

  pub order_same : (order : List ℕ) (table : ℕ) → window_order u e pruning order table ≡ window_order v e pruning order table
  unfolding window_order
  order_same order table =
      ap (λ n. cond (eqb n 0) (said_order du order table) order) number_alike
      ∙ ap (λ x. cond (eqb (window_number v) 0) (where_ordered x (order_of du.case order table) order) order) verdict_alike
      ∙ ap (λ x. cond (eqb (window_number v) 0) (where_ordered dv.verdict x order) order) (ap (λ (c : Case). order_of c order table) case_alike ∙ order_alike dv.case us order table)

pub values_32 : (start : List ℕ) → length (values_in start) ≡ 32
unfolding values_in
values_32 start = length_up_to (λ i. pair_at start (2 * i)) 32

-- of bytes each is below 65,536
pub values_fit : (start : List ℕ) → Bytes start → (j : ℕ) → get_or (values_in start) j 0 < 65536
unfolding values_in
values_fit start bytes j =
    let f : ℕ → ℕ = λ i. pair_at start (2 * i) in
    ⊎_elim (λ (t : T (ltb j 32)). subst (λ v. v < 65536) (sym (get_or_up_to f 0 32 j (ltb→lt j 32 t))) (pair_lt start bytes (2 * j)))
    (λ (t : T (not (ltb j 32))). subst (λ v. v < 65536) (sym (get_or-eq_default (map f (up_to 32)) 0 {n = j} (omega (arith, nltb→le j 32 t, length_up_to f 32)))) (omega arith))
    (decide (ltb j 32))

-- ---- a table as it is written

-- the two bytes of a value, and those of others
pub pair_here : (at v : ℕ) (out : List ℕ) → at + 2 ≤ length out → pair_at (pair_bytes at v out) at ≡ v
unfolding pair_at pair_bytes
pair_here at v out room =
    let one = set out at (v % 256) in
    let long = length-set out at (v % 256) in
    let low : get_or (set one (at + 1) (v / 256)) at 0 ≡ v % 256 =
    get_or-set_other one (at + 1) at (v / 256) 0 (λ (e : at ≡ at + 1). omega (arith, e)) ∙ get_or-set_same out at (v % 256) 0 (omega arith) in
    let high : get_or (set one (at + 1) (v / 256)) (at + 1) 0 ≡ v / 256 = get_or-set_same one (at + 1) (v / 256) 0 (omega (arith, long)) in
    omega (arith, low, high)

pair_there : (at v j : ℕ) (out : List ℕ) → j ≢ at → j + 1 ≢ at → j ≢ at + 1 → pair_at (pair_bytes at v out) j ≡ pair_at out j
unfolding pair_at pair_bytes
pair_there at v j out f g h =
    let one = set out at (v % 256) in
    ap₂ (λ (x y : ℕ). x + 256 * y)
    (get_or-set_other one (at + 1) j (v / 256) 0 h ∙ get_or-set_other out at j (v % 256) 0 f)
    (get_or-set_other one (at + 1) (j + 1) (v / 256) 0 (λ (e : j + 1 ≡ at + 1). f (omega (arith, e))) ∙ get_or-set_other out at (j + 1) (v % 256) 0 g)

filled_pair : (values out : List ℕ) (n j : ℕ) → j < n → 2 * n ≤ length out → pair_at (filled (value_in values) n out) (2 * j) ≡ get_or values j 0
unfolding filled
filled_pair values out zero j l room = absurd (not-suc-le-zero l)
filled_pair values out (suc n) j l room =
    ⊎_elim
    (λ (e : j ≡ n).
    ap (λ i. pair_at (pair_bytes (2 * n) (get_or values n 0) before) (2 * i)) e ∙ pair_here (2 * n) (get_or values n 0) before (omega (arith, values_long values n out)) ∙ ap (λ i. get_or values i 0) (sym e))
    (λ (f : j ≢ n).
    pair_there (2 * n) (get_or values n 0) (2 * j) before (λ e. f (omega (arith, e))) (λ e. f (omega (arith, e))) (λ e. f (omega (arith, e)))
    ∙ filled_pair values out n j (omega arith) (omega arith))
    (same? j n)
  where
    before : List ℕ
    before = filled (value_in values) n out

pub written_read : (values out : List ℕ) → length values ≡ 32 → 64 ≤ length out → values_in (filled (value_in values) 32 out) ≡ values
unfolding values_in
written_read values out long room =
    ext_get_or 0 (map f (up_to 32)) values (length_up_to f 32 ∙ sym long)
    (λ j l. let low : j < 32 = omega (arith, length_up_to f 32) in get_or_up_to f 0 32 j low ∙ filled_pair values out 32 j low (omega arith))
  where
    f : ℕ → ℕ
    f i = pair_at (filled (value_in values) 32 out) (2 * i)

-- ---- what is written where 0 is given

room_of : (c : Case) (order table : ℕ) → room_code c order table ≡ 0 → 64 ≤ table
unfolding room_code
room_of c order table z = go (ltb table 64) refl z
  where
    go : (b : Bool) → ltb table 64 ≡ b → ◌≡◌ {A = ℕ} (cond b 25 (order_refused c order)) 0 → 64 ≤ table
    go true is z = absurd (omega (arith, z))
    go false is z = nltb→le table 64 (subst (λ b. T (not b)) (sym is) tt)

module _ (w : Window) (e pruning : ℕ) (order table : List ℕ) where
  abbrev d : Decision
  d = decision_of w e pruning

  abbrev code : ℕ
  code = room_code d.case (length order) (length table)

  abbrev image : List ℕ
  image = filled (value_in (table_left d.case (replicate 32 0))) 32 table

  pub table_written : window_code w e pruning (length order) (length table) ≡ 0 → (window_table w e pruning (length order) table ≡ image) × (64 ≤ length table)
  unfolding window_code window_table table_of
  table_written z = go (eqb (window_number w) 0) refl d.verdict z
    where
      go : (b : Bool) → eqb (window_number w) 0 ≡ b → (v : Result Verdict Refusal) → cond b (verdict_code v code) (window_number w) ≡ 0
          → (cond b (where_ordered v (cond (eqb code 0) image table) table) table ≡ image) × (64 ≤ length table)
      go false is v z = absurd (subst T (sym (eq-eqb (window_number w) 0 z) ∙ is) tt)
      go true is (Ok Order) z = (ap (λ b. cond b image table) (eq-eqb code 0 z), room_of d.case (length order) (length table) z)
      go true is (Ok NoOrder) z = absurd (omega (arith, z))
      go true is (Err r) z = absurd (code_some r z)

table_32 : (c : Case) → length c.starting ≡ 32 → length (table_left c (replicate 32 0)) ≡ 32
unfolding table_left written_table
table_32 c long = go (eqb (table_refused c 32) 0)
  where
    whole : List ℕ
    whole = replay (history_in c) c.starting (order_in c)

    go : (b : Bool) → length (cond b (whole ++ drop 32 (replicate 32 0)) (replicate 32 0)) ≡ 32
    go true = ap length (append-nil whole) ∙ replay_long (history_in c) c.starting (order_in c) ∙ long
    go false = refl

pub written_start : (w : Window) → length w.starting ≡ 32 → (e pruning : ℕ) (order table : List ℕ) → window_code w e pruning (length order) (length table) ≡ 0
    → values_in (window_table w e pruning (length order) table) ≡ table_left (decision_of w e pruning).case (replicate 32 0)
unfolding loaded_case
written_start w long e pruning order table z =
    let is = table_written w e pruning order table z in
    ap values_in is.0
    ∙ written_read (table_left (decision_of w e pruning).case (replicate 32 0)) table
    (table_32 (decision_of w e pruning).case (ap length (decided_keeps (loaded_case w) e pruning decide_places) ∙ long)) is.1
