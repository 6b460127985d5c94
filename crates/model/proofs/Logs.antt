-- Which histories have a log: the well_formed_lem ones. Assumes nothing.
use Prim.Native.Nat.{ℕ, zero, suc, ◌/◌, ◌%◌, ◌≤◌, ◌<◌}
use native.Mathlib.Omega.{arith}
use mathlib.Core.Path.{◌≡◌, sym, ap, subst, ◌∙◌}
use mathlib.Core.Bool.{Bool, ◌&&◌, ◌||◌}
use mathlib.Core.List.{List, [], ◌∷◌, ◌++◌}
use lib.Dec.{T, eqb, ltb, leb, eqb→eq, ltb→lt, lt→ltb, leb→le}
use lib.ListN.{length, get_or, get_or-eq_default}
use Rattle.model.specs.Lists.{All, implies, all, each, up_to}
use Rattle.model.specs.History.{History, Transaction, Operation, start, size, no_transaction, is_read, cabinet_of, operations_of, operation_count, good_operation, good_keys, good_transaction, well_formed}
use Rattle.model.specs.Log.{load_number, history_of, LaidOut}
use Rattle.model.specs.Times.{Times, no_times, timed}
use Rattle.model.specs.Writing.{sum_of, head_bytes, body_bytes, count_of, entry_of, all_operations, log_of, is_log, has_log}
use Rattle.model.proofs.Basics.{true_eq, eq-T, and_l, and_r, and_in, eq-eqb, all_in, all_out, all_up_to_out, All-imp, All-app, All-each-in, up_to_in}
use Rattle.model.proofs.Words.{length_up_to}
use Rattle.model.proofs.Loaded.{Bytes, well_formed_lem}
use Rattle.model.proofs.Times.{timed_all, timed_formed}
use Rattle.model.proofs.Takes.{takes}
use Rattle.model.proofs.Bounds.{good_short}
use Rattle.model.proofs.Writing.{sum_mono, count_all, from_operations, log_bare, every_history, every_operation, log_from, table_laid_out, loads_back, same_bytes}

-- ---- bytes that Load takes

-- every number of the list is a byte
abbrev Small : ℕ → Type 0
Small x = T (ltb x 256)

bytes_out : (b : List ℕ) → All Small b → Bytes b
bytes_out [] s i = omega (arith, get_or-eq_default {A = ℕ} [] 0 {n = i} (omega arith))
bytes_out (x ∷ b) s zero = ltb→lt x 256 s.0
bytes_out (x ∷ b) s (suc i) = bytes_out b s.1 i

bytes_in : (b : List ℕ) → Bytes b → All Small b
bytes_in [] f = tt
bytes_in (x ∷ b) f = (lt→ltb x 256 (f 0), bytes_in b (λ i. f (suc i)))

module _ (b : List ℕ) where
  abbrev bytes : Bool
  bytes = all (λ x. ltb x 256) b

  is_log_out : T (is_log b) → Bytes b × (load_number b ≡ 0)
  unfolding is_log
  is_log_out t = (
    bytes_out b (all_out (λ x. ltb x 256) b (and_l bytes (eqb (load_number b) 0) t)),
    eqb→eq (load_number b) 0 (and_r bytes (eqb (load_number b) 0) t),
  )

  is_log_in : Bytes b → load_number b ≡ 0 → T (is_log b)
  unfolding is_log
  is_log_in small e = and_in bytes (eqb (load_number b) 0) (all_in (λ x. ltb x 256) b (bytes_in b small)) (eq-eqb {m = load_number b} {n = 0} e)

  -- of bytes, Load's number alone says it
  pub is_log_by : (n : ℕ) → n ≡ load_number b → Bytes b → eqb n 0 ≡ is_log b
  unfolding is_log
  is_log_by n e small =
      ap (λ x. eqb x 0) e ∙ ap (λ x. x && eqb (load_number b) 0) (sym (true_eq bytes (all_in (λ x. ltb x 256) b (bytes_in b small))))

pub has_log_out : (h : History) → T (has_log h) → Bytes (log_of h) × (load_number (log_of h) ≡ 0)
unfolding has_log
has_log_out h t = is_log_out (log_of h) t

-- times are no part of it
pub has_log_bare : (ts : Times) (h : History) → has_log (timed ts h) ≡ has_log h
unfolding has_log
has_log_bare ts h = ap is_log (log_bare ts h)

-- the history of a log that Load takes has one
pub has_log_of : (b : List ℕ) → Bytes b → load_number b ≡ 0 → T (has_log (history_of b))
unfolding has_log
has_log_of b small e = subst (λ x. T (is_log x)) (sym (same_bytes b small e)) (is_log_in b small e)

-- ---- the log of any history

log_laid_out : (h : History) → LaidOut (log_of h)
log_laid_out h =
    let o = every_operation h in
    subst LaidOut (sym (log_from (size h) (cabinet_of h) (count_of h) o) ∙ ap log_of (every_history h) ∙ log_bare no_times h) (table_laid_out (size h) (cabinet_of h) (count_of h) o)

-- the counts of all transactions sum to that of all operations
pub counts_all : (h : History) → sum_of (count_of h) (size h) ≡ operation_count h
counts_all h =
    let o = every_operation h in
    let n = sum_of (count_of h) (size h) in
    sym (length_up_to o n)
    ∙ ap length (sym (from_operations (size h) (cabinet_of h) (count_of h) o) ∙ ap all_operations (every_history h) ∙ timed_all no_times h)
    ∙ omega (arith, count_all 0 h)

all_at : {A : Type 0} (P : A → Type 0) (d : A) (xs : List A) → ((i : ℕ) → i < length xs → P (get_or xs i d)) → All P xs
all_at P d [] f = tt
all_at P d (x ∷ xs) f = (f 0 (omega arith), all_at P d xs (λ i l. f (suc i) (omega arith)))

-- ---- well_formed_lem histories

module _ (h : History) (good : T (well_formed h)) where
  abbrev few : Bool
  few = leb (size h) 32

  abbrev many : Bool
  many = leb (operation_count h) 256

  transaction_good : (t : ℕ) → t < size h → T (good_transaction h t)
  unfolding well_formed
  transaction_good =
      all_up_to_out (good_transaction h) (size h) (and_r many (all (good_transaction h) (up_to (size h))) (and_r few (many && all (good_transaction h) (up_to (size h))) good))

  few_is : size h ≤ 32
  unfolding well_formed
  few_is = leb→le (size h) 32 (and_l few (many && all (good_transaction h) (up_to (size h))) good)

  many_is : operation_count h ≤ 256
  unfolding well_formed
  many_is = leb→le (operation_count h) 256 (and_l many (all (good_transaction h) (up_to (size h))) (and_r few (many && all (good_transaction h) (up_to (size h))) good))

  cabinet_small : (t : ℕ) → t < size h → cabinet_of h t < 16
  unfolding good_transaction
  cabinet_small t l =
      ltb→lt (cabinet_of h t) 16 (and_l (ltb (cabinet_of h t) 16) (all (good_operation (size h)) (operations_of h t) && good_keys t (operations_of h t)) (transaction_good t l))

  operations_good : (t : ℕ) → t < size h → All (λ o. T (good_operation (size h) o)) (operations_of h t)
  unfolding good_transaction
  operations_good t l =
      let ops = all (good_operation (size h)) (operations_of h t) in
      all_out (good_operation (size h)) (operations_of h t)
      (and_l ops (good_keys t (operations_of h t)) (and_r (ltb (cabinet_of h t) 16) (ops && good_keys t (operations_of h t)) (transaction_good t l)))

  keys_good : (t : ℕ) → t < size h → T (good_keys t (operations_of h t))
  unfolding good_transaction
  keys_good t l =
      let ops = all (good_operation (size h)) (operations_of h t) in
      and_r ops (good_keys t (operations_of h t)) (and_r (ltb (cabinet_of h t) 16) (ops && good_keys t (operations_of h t)) (transaction_good t l))

  -- the fields of a good operation
  kind_key : (o : Operation) → T (good_operation (size h) o) → (o.kind < 2) × (o.key < 32)
  unfolding good_operation
  kind_key o t =
      let rest = ltb o.argument 65536 && implies (is_read o) (ltb o.argument (size h) || eqb o.argument start) in (
        ltb→lt o.kind 2 (and_l (ltb o.kind 2) (ltb o.key 32 && rest) t),
        ltb→lt o.key 32 (and_l (ltb o.key 32) rest (and_r (ltb o.kind 2) (ltb o.key 32 && rest) t)),
      )

  argument_small : (o : Operation) → T (good_operation (size h) o) → o.argument < 65536
  unfolding good_operation
  argument_small o t =
      let named = implies (is_read o) (ltb o.argument (size h) || eqb o.argument start) in
      let argument = ltb o.argument 65536 in
      ltb→lt o.argument 65536 (and_l argument named (and_r (ltb o.key 32) (argument && named) (and_r (ltb o.kind 2) (ltb o.key 32 && (argument && named)) t)))

  body_small : (o : Operation) → T (good_operation (size h) o) → All Small (body_bytes o)
  body_small o t =
      let is = kind_key o t in
      let argument_is = argument_small o t in (
        lt→ltb o.kind 256 (omega (arith, is.0)),
        (lt→ltb o.key 256 (omega (arith, is.1)), (lt→ltb (o.argument % 256) 256 (omega arith), (lt→ltb (o.argument / 256) 256 (omega arith), tt))),
      )

  -- every count has its byte
  pub good_narrow : (t : ℕ) → t < size h → count_of h t < 256
  good_narrow t l =
      good_short (operations_of h t)
      (All-imp (λ o. T (good_operation (size h) o)) (λ o. (o.kind < 2) × (o.key < 32)) kind_key (operations_of h t) (operations_good t l)) t (keys_good t l)

  entry_small : (t : ℕ) → t < size h → All Small (entry_of h t)
  entry_small t l =
      let s = sum_of (count_of h) t in
      let s-is : s ≤ 256 = omega (arith, sum_mono (count_of h) t (size h) (omega arith), counts_all h, many_is) in (
        lt→ltb (cabinet_of h t) 256 (omega (arith, cabinet_small t l)),
        (lt→ltb (count_of h t) 256 (good_narrow t l), (lt→ltb (s % 256) 256 (omega arith), (lt→ltb (s / 256) 256 (omega arith), tt))),
      )

  log_small : All Small (log_of h)
  unfolding log_of
  log_small =
      let n = operation_count h in
      All-app Small (head_bytes (size h) n) (each (entry_of h) (up_to (size h)) ++ each body_bytes (all_operations h))
      (lt→ltb (size h % 256) 256 (omega arith), (lt→ltb (size h / 256) 256 (omega (arith, few_is)), (lt→ltb (n % 256) 256 (omega arith), (lt→ltb (n / 256) 256 (omega (arith, many_is)), tt))))
      (All-app Small (each (entry_of h) (up_to (size h))) (each body_bytes (all_operations h))
      (All-each-in Small (entry_of h) (up_to (size h)) (up_to_in (λ t. All Small (entry_of h t)) (size h) entry_small))
      (All-each-in Small body_bytes (all_operations h)
      (All-each-in (λ o. All Small (body_bytes o)) (λ (t : Transaction). t.operations) h
      (all_at (λ (t : Transaction). All (λ o. All Small (body_bytes o)) t.operations) no_transaction h
      (λ t l. All-imp (λ o. T (good_operation (size h) o)) (λ o. All Small (body_bytes o)) body_small (operations_of h t) (operations_good t l))))))

  pub has_log_in : T (has_log h)
  unfolding has_log
  has_log_in =
      is_log_in (log_of h) (bytes_out (log_of h) log_small)
      (takes (log_of h) (log_laid_out h) (subst (λ g. T (well_formed g)) (sym (loads_back h)) (eq-T (sym (timed_formed no_times h)) good)))

pub log_good : (h : History) → T (has_log h) → T (well_formed h)
log_good h t =
    let b = has_log_out h t in
    eq-T (timed_formed no_times h) (subst (λ g. T (well_formed g)) (loads_back h) (well_formed_lem (log_of h) b.0 b.1))
