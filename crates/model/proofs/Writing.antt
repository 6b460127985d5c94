-- Loading what is written gives the history back, and writing a loaded history gives the same bytes. Assumes nothing.
use Prim.Native.Nat.{ℕ, zero, suc, ◌+◌, ◌*◌, ◌/◌, ◌%◌, ◌≤◌, ◌<◌}
use native.Mathlib.Omega.{arith}
use native.Mathlib.Nat.{not-suc-le-zero}
use native.Mathlib.Numerals.{add-one}
use mathlib.Core.Path.{◌≡◌, refl, sym, ap, ap₂, ◌∙◌}
use mathlib.Core.Logic.{⊎_elim, ◌≢◌}
use mathlib.Core.List.{List, [], ◌∷◌, ◌++◌, map, append_assoc, append-nil}
use lib.ListN.{length, get_or, take, length-append}
use lib.Seq.{take-suc, take-length, ext_get_or, get_or-append-add}
use Rattle.model.specs.Lists.{each, fold, up_to}
use Rattle.model.specs.History.{History, Transaction, Operation, untimed, size, no_transaction, cabinet_of, operations_of, operation_count}
use Rattle.model.specs.Log.{byte_at, pair_at, transactions_in, operations_in, cabinet_at, count_at, start_at, counts_before, body_at, kind_at, key_at, argument_at, load_number, operation_at, transaction_at, history_of, LaidOut}
use Rattle.model.specs.Times.{Times, no_times, timed, without_times}
use Rattle.model.specs.Writing.{sum_of, head_bytes, entry_bytes, body_bytes, count_of, entry_of, all_operations, log_of, transaction_from, history_from}
use Rattle.model.proofs.Basics.{same?}
use Rattle.model.proofs.Words.{length_up_to, get_or_up_to}
use Rattle.model.proofs.Loops.{each_snoc, map_snoc}
use Rattle.model.proofs.Loaded.{loaded, Bytes}
use Rattle.model.proofs.Times.{timed_size, timed_cabinet, timed_operations, timed_count, timed_all, without_at}

-- ---- sums and lists over the numbers below n

pub sum_suc : (f : ℕ → ℕ) (n : ℕ) → sum_of f (suc n) ≡ sum_of f n + f n
unfolding sum_of
sum_suc f n = refl

pub sum_none : (f : ℕ → ℕ) → sum_of f 0 ≡ 0
unfolding sum_of
sum_none f = refl

pub sum_same : (f g : ℕ → ℕ) (n : ℕ) → ((i : ℕ) → i < n → f i ≡ g i) → sum_of f n ≡ sum_of g n
unfolding sum_of
sum_same f g zero e = refl
sum_same f g (suc n) e = ap₂ (λ a b. a + b) (sum_same f g n (λ i l. e i (omega arith))) (e n (omega arith))

-- the first one taken out
pub sum_shift : (f : ℕ → ℕ) (n : ℕ) → sum_of f (suc n) ≡ f 0 + sum_of (λ i. f (suc i)) n
sum_shift f zero = omega (arith, sum_suc f 0, sum_none f, sum_none (λ i. f (suc i)))
sum_shift f (suc n) = omega (arith, sum_suc f (suc n), sum_shift f n, sum_suc (λ i. f (suc i)) n)

pub sum_mono : (f : ℕ → ℕ) (m n : ℕ) → m ≤ n → sum_of f m ≤ sum_of f n
sum_mono f m zero l = let e : m ≡ 0 = omega arith in omega (arith, ap (sum_of f) e)
sum_mono f m (suc n) l =
    ⊎_elim (λ (e : m ≡ suc n). omega (arith, ap (sum_of f) e))
    (λ (e : m ≢ suc n). omega (arith, sum_mono f m n (omega arith), sum_suc f n)) (same? m (suc n))

module _ {A : Type 0} where
  pub each_same : (f g : ℕ → List A) (n : ℕ) → ((i : ℕ) → i < n → f i ≡ g i) → each f (up_to n) ≡ each g (up_to n)
  each_same f g zero e = refl
  each_same f g (suc n) e =
      each_snoc f (up_to n) n ∙ ap₂ (λ a b. a ++ b) (each_same f g n (λ i l. e i (omega arith))) (e n (omega arith)) ∙ sym (each_snoc g (up_to n) n)

  pub map_same : (f g : ℕ → A) (n : ℕ) → ((i : ℕ) → i < n → f i ≡ g i) → map f (up_to n) ≡ map g (up_to n)
  map_same f g zero e = refl
  map_same f g (suc n) e =
      map_snoc f (up_to n) n ∙ ap₂ (λ a b. a ++ (b ∷ [])) (map_same f g n (λ i l. e i (omega arith))) (e n (omega arith)) ∙ sym (map_snoc g (up_to n) n)

  -- the numbers below a + c are those below a and then c more
  pub map_add : (f : ℕ → A) (a c : ℕ) → map f (up_to a) ++ map (λ m. f (a + m)) (up_to c) ≡ map f (up_to (a + c))
  map_add f a zero = let e : a ≡ a + 0 = omega arith in append-nil (map f (up_to a)) ∙ ap (λ n. map f (up_to n)) e
  map_add f a (suc c) =
      let e : suc (a + c) ≡ a + suc c = omega arith in
      ap (λ l. map f (up_to a) ++ l) (map_snoc (λ m. f (a + m)) (up_to c) c)
      ∙ sym (append_assoc (map f (up_to a)) (map (λ m. f (a + m)) (up_to c)) (f (a + c) ∷ []))
      ∙ ap (λ l. l ++ (f (a + c) ∷ [])) (map_add f a c)
      ∙ sym (map_snoc f (up_to (a + c)) (a + c))
      ∙ ap (λ n. map f (up_to n)) e

pub each_map : {A B C : Type 0} (g : B → List C) (f : A → B) (xs : List A) → each g (map f xs) ≡ each (λ x. g (f x)) xs
each_map g f [] = refl
each_map g f (x ∷ xs) = ap (λ l. g (f x) ++ l) (each_map g f xs)

-- the sum of a log's counts
pub counts_sum : (b : List ℕ) (t : ℕ) → counts_before b t ≡ sum_of (count_at b) t
unfolding counts_before sum_of
counts_sum b zero = refl
counts_sum b (suc t) = ap (λ x. x + count_at b t) (counts_sum b t)

-- ---- rows of four

module _ (f : ℕ → List ℕ) (four : (i : ℕ) → length (f i) ≡ 4) where
  pub rows_length : (n : ℕ) → length (each f (up_to n)) ≡ 4 * n
  rows_length zero = refl
  rows_length (suc n) =
      ap length (each_snoc f (up_to n) n) ∙ length-append (each f (up_to n)) (f n) ∙ omega (arith, rows_length n, four n)

  -- byte j of row i
  pub row_at : (n i j : ℕ) (ys : List ℕ) → i < n → j < 4 → get_or (each f (up_to n) ++ ys) (4 * i + j) 0 ≡ get_or (f i) j 0
  row_at zero i j ys l k = absurd (not-suc-le-zero l)
  row_at (suc n) i j ys l k =
      ap (λ r. get_or (r ++ ys) (4 * i + j) 0) (each_snoc f (up_to n) n)
      ∙ ap (λ r. get_or r (4 * i + j) 0) (append_assoc (each f (up_to n)) (f n) ys)
      ∙ ⊎_elim
      (λ (e : i ≡ n).
      let at : 4 * i + j ≡ length (each f (up_to n)) + j = omega (arith, rows_length n) in
      ap (λ p. get_or (each f (up_to n) ++ (f n ++ ys)) p 0) at
      ∙ get_or-append-add (each f (up_to n)) (f n ++ ys) j 0
      ∙ lib.ListN.get_or-append (f n) ys 0 j (omega (arith, four n))
      ∙ ap (λ x. get_or (f x) j 0) (sym e))
      (λ (e : i ≢ n). row_at n i j (f n ++ ys) (omega arith) k)
      (same? i n)

-- ---- tables and their history

module _ (n : ℕ) (cabinet count : ℕ → ℕ) (operation : ℕ → Operation) where
  pub from_size : size (history_from n cabinet count operation) ≡ n
  unfolding history_from
  from_size = length_up_to (transaction_from cabinet count operation) n

  pub from_at : (t : ℕ) → t < n → get_or (history_from n cabinet count operation) t no_transaction ≡ transaction_from cabinet count operation t
  unfolding history_from
  from_at t l = get_or_up_to (transaction_from cabinet count operation) no_transaction n t l

  pub from_cabinet : (t : ℕ) → t < n → cabinet_of (history_from n cabinet count operation) t ≡ cabinet t
  from_cabinet t l = ap (λ (x : Transaction). x.cabinet) (from_at t l)

  pub from_count : (t : ℕ) → t < n → count_of (history_from n cabinet count operation) t ≡ count t
  from_count t l = ap (λ (x : Transaction). length x.operations) (from_at t l) ∙ length_up_to (λ m. operation (sum_of count t + m)) (count t)

-- one transaction more
pub from_suc : (n : ℕ) (cabinet count : ℕ → ℕ) (operation : ℕ → Operation)
    → history_from (suc n) cabinet count operation ≡ history_from n cabinet count operation ++ (transaction_from cabinet count operation n ∷ [])
unfolding history_from
from_suc n cabinet count operation = map_snoc (transaction_from cabinet count operation) (up_to n) n

-- the operations of all transactions stand one after another
pub from_operations : (n : ℕ) (cabinet count : ℕ → ℕ) (operation : ℕ → Operation)
    → all_operations (history_from n cabinet count operation) ≡ map operation (up_to (sum_of count n))
unfolding history_from sum_of
from_operations zero cabinet count operation = refl
from_operations (suc n) cabinet count operation =
    let tr = transaction_from cabinet count operation in
    ap all_operations (map_snoc tr (up_to n) n)
    ∙ each_snoc (λ (t : Transaction). t.operations) (map tr (up_to n)) (tr n)
    ∙ ap (λ l. l ++ map (λ m. operation (sum_of count n + m)) (up_to (count n))) (from_operations n cabinet count operation)
    ∙ map_add operation (sum_of count n) (count n)

-- the same tables hold the same history
pub from_same : (n : ℕ) (c c' k k' : ℕ → ℕ) (o o' : ℕ → Operation)
    → ((t : ℕ) → t < n → c t ≡ c' t) → ((t : ℕ) → t < n → k t ≡ k' t) → ((i : ℕ) → i < sum_of k n → o i ≡ o' i)
    → history_from n c k o ≡ history_from n c' k' o'
unfolding history_from
from_same n c c' k k' o o' ec ek eo =
    map_same (transaction_from c k o) (transaction_from c' k' o') n
    (λ t l.
    let s : sum_of k t ≡ sum_of k' t = sum_same k k' t (λ i j. ek i (omega arith)) in
    let ops : map (λ m. o (sum_of k t + m)) (up_to (k t)) ≡ map (λ m. o' (sum_of k' t + m)) (up_to (k' t)) =
    map_same (λ m. o (sum_of k t + m)) (λ m. o' (sum_of k' t + m)) (k t)
    (λ m j. eo (sum_of k t + m) (omega (arith, sum_suc k t, sum_mono k (suc t) n l)) ∙ ap (λ x. o' (x + m)) s)
    ∙ ap (λ x. map (λ m. o' (sum_of k' t + m)) (up_to x)) (ek t l) in
    ap₂ {C = Transaction} untimed (ec t l) ops)

-- how many operations there are
pub count_all : (m : ℕ) (h : History) → fold (λ n (t : Transaction). n + length t.operations) m h ≡ m + length (all_operations h)
count_all m [] = omega arith
count_all m (t ∷ h) =
    count_all (m + length t.operations) h ∙ omega (arith, length-append t.operations (all_operations h))

-- ---- the log of tables

module _ (n : ℕ) (cabinet count : ℕ → ℕ) (operation : ℕ → Operation) where
  abbrev entry_row : ℕ → List ℕ
  entry_row t = entry_bytes (cabinet t) (count t) (sum_of count t)

  abbrev body_row : ℕ → List ℕ
  body_row i = body_bytes (operation i)

  -- the contents, and then the bodies
  abbrev pub table_log : List ℕ
  table_log = head_bytes n (sum_of count n) ++ (each entry_row (up_to n) ++ each body_row (up_to (sum_of count n)))

  pub log_from : log_of (history_from n cabinet count operation) ≡ table_log
  unfolding log_of
  log_from =
      let h = history_from n cabinet count operation in
      let sz : size h ≡ n = from_size n cabinet count operation in
      let ops : all_operations h ≡ map operation (up_to (sum_of count n)) = from_operations n cabinet count operation in
      let total : operation_count h ≡ sum_of count n =
      omega (arith, count_all 0 h, ap length ops, length_up_to operation (sum_of count n)) in
      let entries : each (entry_of h) (up_to n) ≡ each entry_row (up_to n) =
      each_same (entry_of h) entry_row n
      (λ t l.
      ap₂ (λ (x : ℕ) (y : ℕ). entry_bytes x y (sum_of (count_of h) t)) (from_cabinet n cabinet count operation t l) (from_count n cabinet count operation t l)
      ∙ ap (λ x. entry_bytes (cabinet t) (count t) x) (sum_same (count_of h) count t (λ i j. from_count n cabinet count operation i (omega arith)))) in
      let bodies : each body_bytes (all_operations h) ≡ each body_row (up_to (sum_of count n)) =
      ap (each body_bytes) ops ∙ each_map body_bytes operation (up_to (sum_of count n)) in
      ap₂ (λ x y. head_bytes x y ++ (each (entry_of h) (up_to x) ++ each body_bytes (all_operations h))) sz total
      ∙ ap₂ (λ x y. head_bytes n (sum_of count n) ++ (x ++ y)) entries bodies

  -- ---- reading the log of tables

  -- the fields of what is written
  pub record Fields (b : List ℕ) : Type 0 where
    pub transactions : transactions_in b ≡ n
    pub operations : operations_in b ≡ sum_of count n
    pub cabinets : (t : ℕ) → t < n → cabinet_at b t ≡ cabinet t
    pub counts : (t : ℕ) → t < n → count_at b t ≡ count t
    pub starts : (t : ℕ) → t < n → start_at b t ≡ sum_of count t
    pub bodies : (i : ℕ) → i < sum_of count n → operation_at b i ≡ operation i

  log_entry : (t j : ℕ) → t < n → j < 4 → byte_at table_log (4 + (4 * t + j)) ≡ get_or (entry_row t) j 0
  log_entry t j l k =
      get_or-append-add (head_bytes n (sum_of count n)) (each entry_row (up_to n) ++ each body_row (up_to (sum_of count n))) (4 * t + j) 0
      ∙ row_at entry_row (λ i. refl) n t j (each body_row (up_to (sum_of count n))) l k

  log_body : (i j : ℕ) → i < sum_of count n → j < 4 → byte_at table_log (4 + (4 * n + (4 * i + j))) ≡ get_or (body_row i) j 0
  log_body i j l k =
      let at : 4 * n + (4 * i + j) ≡ length (each entry_row (up_to n)) + (4 * i + j) = omega (arith, rows_length entry_row (λ i. refl) n) in
      get_or-append-add (head_bytes n (sum_of count n)) (each entry_row (up_to n) ++ each body_row (up_to (sum_of count n))) (4 * n + (4 * i + j)) 0
      ∙ ap (λ p. get_or (each entry_row (up_to n) ++ each body_row (up_to (sum_of count n))) p 0) at
      ∙ get_or-append-add (each entry_row (up_to n)) (each body_row (up_to (sum_of count n))) (4 * i + j) 0
      ∙ ap (λ r. get_or r (4 * i + j) 0) (sym (append-nil (each body_row (up_to (sum_of count n)))))
      ∙ row_at body_row (λ i. refl) (sum_of count n) i j [] l k

  pub fields : Fields table_log
  unfolding pair_at
  fields =
      let b = table_log in
      let tr : transactions_in b ≡ n = omega arith in
      let entry : (t j at : ℕ) → t < n → j < 4 → at ≡ 4 + (4 * t + j) → byte_at b at ≡ get_or (entry_row t) j 0 =
      λ t j at l k e. ap (byte_at b) e ∙ log_entry t j l k in
      let body : (i j at : ℕ) → i < sum_of count n → j < 4 → at ≡ 4 + (4 * n + (4 * i + j)) → byte_at b at ≡ get_or (body_row i) j 0 =
      λ i j at l k e. ap (byte_at b) e ∙ log_body i j l k in
      record {
        transactions = tr;
        operations = omega arith;
        cabinets = λ t l. entry t 0 (4 + 4 * t) l (omega arith) (omega arith);
        counts = λ t l. entry t 1 (5 + 4 * t) l (omega arith) (omega arith);
        starts = λ t l.
            let lo = entry t 2 (6 + 4 * t) l (omega arith) (omega arith) in
            let hi = entry t 3 (6 + 4 * t + 1) l (omega arith) (omega arith) in
            ap₂ (λ x y. x + 256 * y) lo hi ∙ omega arith;
        bodies = λ i l.
            let lo = body i 2 (body_at b i + 2) l (omega arith) (omega (arith, tr)) in
            let hi = body i 3 (body_at b i + 2 + 1) l (omega arith) (omega (arith, tr)) in
            let argument : argument_at b i ≡ (operation i).argument = ap₂ (λ x y. x + 256 * y) lo hi ∙ omega arith in
            ap₂ {C = Operation} (λ x y. record { kind = x; key = y; argument = argument_at b i }) (body i 0 (body_at b i) l (omega arith) (omega (arith, tr))) (body i 1 (body_at b i + 1) l (omega arith) (omega (arith, tr)))
            ∙ ap (λ x. record { kind = (operation i).kind; key = (operation i).key; argument = x }) argument;
      }

  -- it is laid out as Load asks
  pub table_laid_out : LaidOut table_log
  table_laid_out =
      let f = fields in
      let before : (t : ℕ) → t ≤ n → counts_before table_log t ≡ sum_of count t =
      λ t l. counts_sum table_log t ∙ sum_same (count_at table_log) count t (λ i j. f.counts i (omega arith)) in
      record {
        long =
            length-append (head_bytes n (sum_of count n)) (each entry_row (up_to n) ++ each body_row (up_to (sum_of count n)))
            ∙ omega (arith, length-append (each entry_row (up_to n)) (each body_row (up_to (sum_of count n))), rows_length entry_row (λ i. refl) n, rows_length body_row (λ i. refl) (sum_of count n), f.transactions, f.operations);
        starts = λ t l. f.starts t (omega (arith, f.transactions)) ∙ sym (before t (omega (arith, f.transactions)));
        sum = ap (counts_before table_log) f.transactions ∙ before n (omega arith) ∙ sym f.operations;
      }

-- the history of a log is that of its tables, where the starts are the sums of the counts
pub history_from_lem : (b : List ℕ) → ((t : ℕ) → t < transactions_in b → start_at b t ≡ sum_of (count_at b) t)
    → history_of b ≡ history_from (transactions_in b) (cabinet_at b) (count_at b) (operation_at b)
unfolding history_of transaction_at history_from
history_from_lem b s =
    map_same (transaction_at b) (transaction_from (cabinet_at b) (count_at b) (operation_at b)) (transactions_in b)
    (λ t l. ap (λ x. untimed (cabinet_at b t) (map (λ m. operation_at b (x + m)) (up_to (count_at b t)))) (s t l))

-- loading the log of tables gives their history
pub loads_tables : (n : ℕ) (cabinet count : ℕ → ℕ) (operation : ℕ → Operation)
    → history_of (log_of (history_from n cabinet count operation)) ≡ history_from n cabinet count operation
loads_tables n cabinet count operation =
    let b = table_log n cabinet count operation in
    let f = fields n cabinet count operation in
    let same : (t : ℕ) → t ≤ n → sum_of (count_at b) t ≡ sum_of count t = λ t l. sum_same (count_at b) count t (λ i k. f.counts i (omega arith)) in
    ap history_of (log_from n cabinet count operation)
    ∙ history_from_lem b (λ t l. f.starts t (omega (arith, f.transactions)) ∙ sym (same t (omega (arith, f.transactions))))
    ∙ ap (λ m. history_from m (cabinet_at b) (count_at b) (operation_at b)) f.transactions
    ∙ from_same n (cabinet_at b) cabinet (count_at b) count (operation_at b) operation f.cabinets f.counts
    (λ i l. f.bodies i (omega (arith, same n (omega arith))))

-- ---- every history is that of tables, but for its times: a log has none

-- times are no part of what is written
pub log_bare : (ts : Times) (h : History) → log_of (timed ts h) ≡ log_of h
unfolding log_of
log_bare ts h = λ i.
    let n = timed_size ts h i in
    let k : ℕ → ℕ = λ t. length (timed_operations ts h t i) in
    head_bytes n (timed_count ts h i)
    ++ (each (λ t. entry_bytes (timed_cabinet ts h t i) (k t) (sum_of k t)) (up_to n) ++ each body_bytes (timed_all ts h i))

abbrev no_operation : Operation
no_operation = record { kind = 0; key = 0; argument = 0 }

-- operation i among all
abbrev pub every_operation : History → ℕ → Operation
every_operation h i = get_or (all_operations h) i no_operation

-- operation m of transaction t, among all
pub all_at : (h : History) (t m : ℕ) → m < count_of h t → get_or (all_operations h) (sum_of (count_of h) t + m) no_operation ≡ get_or (operations_of h t) m no_operation
all_at [] t m l = absurd (omega (arith, ap length (ap (λ (x : Transaction). x.operations) (lib.ListN.get_or-eq_default [] no_transaction {n = t} (omega arith)))))
all_at (x ∷ h) zero m l =
    let e : sum_of (count_of (x ∷ h)) 0 + m ≡ m = omega (arith, sum_none (count_of (x ∷ h))) in
    ap (λ p. get_or (all_operations (x ∷ h)) p no_operation) e ∙ lib.ListN.get_or-append x.operations (all_operations h) no_operation m l
all_at (x ∷ h) (suc t) m l =
    let e : sum_of (count_of (x ∷ h)) (suc t) + m ≡ length x.operations + (sum_of (count_of h) t + m) = omega (arith, sum_shift (count_of (x ∷ h)) t) in
    ap (λ p. get_or (all_operations (x ∷ h)) p no_operation) e
    ∙ get_or-append-add x.operations (all_operations h) (sum_of (count_of h) t + m) no_operation
    ∙ all_at h t m l

pub every_history : (h : History) → history_from (size h) (cabinet_of h) (count_of h) (every_operation h) ≡ without_times h
every_history h =
    let o = every_operation h in
    let f = history_from (size h) (cabinet_of h) (count_of h) o in
    let sz = from_size (size h) (cabinet_of h) (count_of h) o in
    ext_get_or no_transaction f (without_times h) (sz ∙ sym (timed_size no_times h))
    (λ t l.
    let lt : t < size h = omega (arith, sz) in
    let ops : map (λ m. o (sum_of (count_of h) t + m)) (up_to (count_of h t)) ≡ operations_of h t =
    ext_get_or no_operation (map (λ m. o (sum_of (count_of h) t + m)) (up_to (count_of h t))) (operations_of h t) (length_up_to (λ m. o (sum_of (count_of h) t + m)) (count_of h t))
    (λ m k.
    let lm : m < count_of h t = omega (arith, length_up_to (λ m. o (sum_of (count_of h) t + m)) (count_of h t)) in
    get_or_up_to (λ m. o (sum_of (count_of h) t + m)) no_operation (count_of h t) m lm ∙ all_at h t m lm) in
    from_at (size h) (cabinet_of h) (count_of h) o t lt
    ∙ ap (untimed (cabinet_of h t)) ops ∙ sym (without_at h t lt))

-- Loading a written log yields the notes: the history, whatever it is, without its times.
pub loads_back : (h : History) → history_of (log_of h) ≡ without_times h
loads_back h =
    let o = every_operation h in
    let e = every_history h in
    ap history_of (sym (log_bare no_times h)) ∙ ap (λ x. history_of (log_of x)) (sym e) ∙ loads_tables (size h) (cabinet_of h) (count_of h) o ∙ e

-- ---- a loaded log is written as the same bytes

-- four bytes from a place on
abbrev four_at : List ℕ → ℕ → List ℕ
four_at b i = byte_at b i ∷ byte_at b (i + 1) ∷ byte_at b (i + 2) ∷ byte_at b (i + 3) ∷ []

take_four : (b : List ℕ) (i : ℕ) → i + 4 ≤ length b → take (i + 4) b ≡ take i b ++ four_at b i
take_four b i l =
    let one : (j : ℕ) → j < length b → take (j + 1) b ≡ take j b ++ (byte_at b j ∷ []) = λ j k. ap (λ x. take x b) (add-one j) ∙ take-suc b j 0 k in
    let more : (j : ℕ) (r : List ℕ) → i + j < length b → take (i + j) b ≡ take i b ++ r → take (i + (j + 1)) b ≡ take i b ++ (r ++ (byte_at b (i + j) ∷ [])) =
    λ j r k e.
    let at : i + (j + 1) ≡ i + j + 1 = omega arith in
    ap (λ x. take x b) at ∙ one (i + j) k ∙ ap (λ x. x ++ (byte_at b (i + j) ∷ [])) e ∙ append_assoc (take i b) r (byte_at b (i + j) ∷ []) in
    more 3 (byte_at b i ∷ byte_at b (i + 1) ∷ byte_at b (i + 2) ∷ []) (omega arith)
    (more 2 (byte_at b i ∷ byte_at b (i + 1) ∷ []) (omega arith)
    (more 1 (byte_at b i ∷ []) (omega arith)
    (one i (omega arith))))

-- rows of four bytes from a place on
rows_take : (b : List ℕ) (at n : ℕ) → at + 4 * n ≤ length b → take (at + 4 * n) b ≡ take at b ++ each (λ i. four_at b (at + 4 * i)) (up_to n)
rows_take b at zero l = let e : at + 4 * 0 ≡ at = omega arith in ap (λ x. take x b) e ∙ sym (append-nil (take at b))
rows_take b at (suc n) l =
    let e : at + 4 * suc n ≡ at + 4 * n + 4 = omega arith in
    let r : ℕ → List ℕ = λ i. four_at b (at + 4 * i) in
    ap (λ x. take x b) e
    ∙ take_four b (at + 4 * n) (omega arith)
    ∙ ap (λ x. x ++ four_at b (at + 4 * n)) (rows_take b at n (omega arith))
    ∙ append_assoc (take at b) (each r (up_to n)) (r n)
    ∙ ap (λ x. take at b ++ x) (sym (each_snoc r (up_to n) n))

-- a two-byte field, written again
pair_low : (b : List ℕ) → Bytes b → (i : ℕ) → pair_at b i % 256 ≡ byte_at b i
unfolding pair_at
pair_low b small i = omega (arith, small i)

pair_high : (b : List ℕ) → Bytes b → (i : ℕ) → pair_at b i / 256 ≡ byte_at b (i + 1)
unfolding pair_at
pair_high b small i = omega (arith, small i)

-- A loaded log noted again in its own order yields the same bytes.
pub same_bytes : (b : List ℕ) → Bytes b → load_number b ≡ 0 → log_of (history_of b) ≡ b
same_bytes b small zero_is =
    let ok = loaded b zero_is in
    let n = transactions_in b in
    let s = sum_of (count_at b) in
    let total : s n ≡ operations_in b = sym (counts_sum b n) ∙ ok.sum in
    let start : (t : ℕ) → t < n → start_at b t ≡ s t = λ t l. ok.starts t l ∙ counts_sum b t in
    let pair : (i : ℕ) (x y : ℕ) → (x ∷ y ∷ (pair_at b i % 256) ∷ (pair_at b i / 256) ∷ []) ≡ x ∷ y ∷ byte_at b i ∷ byte_at b (i + 1) ∷ [] =
    λ i x y. ap₂ (λ u v. x ∷ y ∷ u ∷ v ∷ []) (pair_low b small i) (pair_high b small i) in
    let head : head_bytes n (s n) ≡ four_at b 0 =
    ap (head_bytes n) total ∙ pair 2 (n % 256) (n / 256) ∙ ap₂ (λ u v. u ∷ v ∷ byte_at b 2 ∷ byte_at b 3 ∷ []) (pair_low b small 0) (pair_high b small 0) in
    let entries : each (λ t. entry_bytes (cabinet_at b t) (count_at b t) (s t)) (up_to n) ≡ each (λ t. four_at b (4 + 4 * t)) (up_to n) =
    each_same (λ t. entry_bytes (cabinet_at b t) (count_at b t) (s t)) (λ t. four_at b (4 + 4 * t)) n
    (λ t l.
    let e1 : 5 + 4 * t ≡ 4 + 4 * t + 1 = omega arith in
    let e2 : 6 + 4 * t ≡ 4 + 4 * t + 2 = omega arith in
    let e3 : 6 + 4 * t + 1 ≡ 4 + 4 * t + 3 = omega arith in
    ap (entry_bytes (cabinet_at b t) (count_at b t)) (sym (start t l))
    ∙ pair (6 + 4 * t) (cabinet_at b t) (count_at b t)
    ∙ ap₂ (λ u v. cabinet_at b t ∷ byte_at b u ∷ byte_at b v ∷ byte_at b (6 + 4 * t + 1) ∷ []) e1 e2
    ∙ ap (λ u. cabinet_at b t ∷ byte_at b (4 + 4 * t + 1) ∷ byte_at b (4 + 4 * t + 2) ∷ byte_at b u ∷ []) e3) in
    let bodies : each (λ i. body_bytes (operation_at b i)) (up_to (s n)) ≡ each (λ i. four_at b (4 + 4 * n + 4 * i)) (up_to (s n)) =
    each_same (λ i. body_bytes (operation_at b i)) (λ i. four_at b (4 + 4 * n + 4 * i)) (s n)
    (λ i l.
    let e3 : body_at b i + 2 + 1 ≡ body_at b i + 3 = omega arith in
    pair (body_at b i + 2) (kind_at b i) (key_at b i) ∙ ap (λ u. kind_at b i ∷ key_at b i ∷ byte_at b (body_at b i + 2) ∷ byte_at b u ∷ []) e3) in
    let whole : length b ≡ 4 + 4 * n + 4 * s n = omega (arith, ok.long, total) in
    ap log_of (history_from_lem b start)
    ∙ log_from n (cabinet_at b) (count_at b) (operation_at b)
    ∙ ap (λ x. x ++ (each (λ t. entry_bytes (cabinet_at b t) (count_at b t) (s t)) (up_to n) ++ each (λ i. body_bytes (operation_at b i)) (up_to (s n)))) head
    ∙ ap₂ (λ x y. four_at b 0 ++ (x ++ y)) entries bodies
    ∙ sym (
    ap (λ x. take x b) whole
    ∙ rows_take b (4 + 4 * n) (s n) (omega arith)
    ∙ ap (λ x. x ++ each (λ i. four_at b (4 + 4 * n + 4 * i)) (up_to (s n)))
    (rows_take b 4 n (omega arith) ∙ ap (λ x. x ++ each (λ t. four_at b (4 + 4 * t)) (up_to n)) (take_four b 0 (omega arith)))
    ∙ append_assoc (four_at b 0) (each (λ t. four_at b (4 + 4 * t)) (up_to n)) (each (λ i. four_at b (4 + 4 * n + 4 * i)) (up_to (s n))))
    ∙ take-length b
