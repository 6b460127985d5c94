-- How many constraints there are: a key's are at most 16 for each of its operations, so 256 operations give at most 4,096, in every encoding.
-- A key's constraints are pairs between two sets of at most 32: its good reads and its writers, of which each has an operation on the key of its own; or its writers
-- and themselves, where each two stand once, so that half of the pairs are enough. Assumes nothing.
--     key_bound            one key, by `pairs_few`.        all_constraints, keys_bound        the sum over the keys
--     constraints_log      at most 4,096 for every log that Load takes
use Prim.Native.Nat.{ℕ, ◌+◌, ◌*◌, ◌≤◌, ◌<◌}
use native.Mathlib.Omega.{arith}
use mathlib.Core.Path.{◌≡◌, refl, sym, ap, subst, ◌∙◌}
use mathlib.Core.Logic.{◌≢◌}
use mathlib.Core.Bool.{Bool, true, false, not, cond, ◌&&◌}
use mathlib.Core.List.{List, [], map}
use lib.Dec.{T, eqb, ltb, eqb→eq}
use lib.ListN.{length, length-map}
use Rattle.model.specs.Lists.{All, all, keep, each, total, up_to}
use Rattle.model.specs.History.{History, Operation, size, operations_of, operation_count, is_read, is_write, is_read_back, outward, outward_of, read_backs, keys_once, good_keys, writes}
use Rattle.model.specs.Log.{load_number, history_of}
use Rattle.model.specs.Times.{Times, timed_history}
use Rattle.model.specs.Writing.{count_of}
use Rattle.model.specs.Polygraph.{Constraint, good_read, plain_of, plain, between, joined_on, joined, chained_on, chained, is_head, tail, ends, only, constraints}
use Rattle.model.specs.Keys.{per_operation, of_key, count_on, plain_on, constraints_on}
use Rattle.model.proofs.Basics.{and_l, and_r, ne_eqb, All-every, All-keep-in, All-after}
use Rattle.model.proofs.Words.{digit, length_up_to}
use Rattle.model.proofs.Closed.{fewer}
use Rattle.model.proofs.Known.{Loadable, outward_keys}
use Rattle.model.proofs.Central.{head_writes}
use Rattle.model.proofs.Loaded.{history_size, keys_good, loadable_log, kinds_log, operations_few}
use Rattle.model.proofs.Times.{timed_operations, timed_loadable, timed_constraints, timed_log_size}
use Rattle.model.proofs.Bounds.{Kind, code, once}
use Rattle.model.proofs.Logs.{counts_all}
use Rattle.model.proofs.Sums.{total_le, total_mono, total_below, total_same, total_add, total_times, total_swap, total_up_to, total_by_key, length_total, length_keep, length_each, keep_le, keep_both, keep_after_lem, keep_count, keep_found, keep_apart, pairs_few, above, pairs_half}

-- an operation of t that is a good read
abbrev pub is_good : History → ℕ → Operation → Bool
is_good h t o = is_read o && good_read h o.key t o.argument

-- how many good reads of key k a transaction has
abbrev pub reads_of : History → ℕ → ℕ → ℕ
reads_of h k t = length (keep (is_good h t) (of_key k (outward_of h t)))

-- What the bound needs of a history: at most 32 transactions, keys below 32, and at most one good read of a key in a transaction.
pub record Countable (h : History) : Type 0 where
  pub loads : Loadable h
  pub one : (t k : ℕ) → t < size h → reads_of h k t ≤ 1

-- ---- one good read of a key in a transaction

module _ (h : History) (t k : ℕ) where
  abbrev looks : Operation → Bool
  looks o = is_good h t o && eqb o.key k

  -- what looks at key k is a read of it
  looks_code : (o : Operation) → T (looks o) → code o ≡ 2 * k + 0
  looks_code o l =
      omega (
        arith,
        eqb→eq o.key k (and_r (is_good h t o) (eqb o.key k) l),
        eqb→eq o.kind 0 (and_l (is_read o) (good_read h o.key t o.argument) (and_l (is_good h t o) (eqb o.key k) l)),
      )

  reads_one : All Kind (operations_of h t) → T (good_keys t (operations_of h t)) → reads_of h k t ≤ 1
  unfolding good_keys outward
  reads_one kinds good =
      let os = operations_of h t in
      let backs = keys_once [] (read_backs os) && all (λ o. eqb o.argument t) (read_backs os) in
      let own = All-after Kind (λ earlier o. not (is_read_back earlier o)) [] os kinds in
      omega (
        arith,
        ap length (keep_both (is_good h t) (λ o. eqb o.key k) (outward os)),
        keep_count looks code (2 * k + 0) looks_code (outward os),
        once [] (outward os) own (and_l (keys_once [] (outward os)) backs good) (2 * k + 0),
      )

pub counted_log : (b : List ℕ) → load_number b ≡ 0 → Countable (history_of b)
counted_log b taken = record {
  loads = loadable_log b taken;
  one = λ t k l. reads_one (history_of b) t k (kinds_log b taken t) (keys_good b taken t (subst (λ n. t < n) (history_size b) l));
}

-- so with any times beside it
pub counted_timed : (b : List ℕ) → load_number b ≡ 0 → (ts : Times) → Countable (timed_history b ts)
counted_timed b taken ts =
    let h = history_of b in
    let ops : (t : ℕ) → operations_of h t ≡ operations_of (timed_history b ts) t = λ t. sym (timed_operations ts h t) in
    record {
      loads = timed_loadable ts h (loadable_log b taken);
      one = λ t k l.
          reads_one (timed_history b ts) t k (subst (All Kind) (ops t) (kinds_log b taken t))
          (subst (λ os. T (good_keys t os)) (ops t) (keys_good b taken t (subst (λ n. t < n) (timed_log_size b ts) l)));
    }

-- ---- one key

pub length_below : (n : ℕ) → length (up_to n) ≡ n
length_below n = sym (length-map (up_to n) (λ x. x)) ∙ length_up_to (λ x. x) n

module _ (h : History) (ok : Countable h) (k : ℕ) where
  abbrev pub good_reads : ℕ
  good_reads = total (reads_of h k) (up_to (size h))

  abbrev pub is_writer : ℕ → Bool
  is_writer v = writes h v k

  -- how many transactions pass a test
  abbrev pub chosen : (ℕ → Bool) → ℕ
  chosen p = length (keep p (up_to (size h)))

  abbrev pub writers : ℕ
  writers = chosen is_writer

  pub reads_few : good_reads ≤ 32
  reads_few =
      omega (
        arith,
        total_below (reads_of h k) (λ t. 1) (size h) (λ t l. ok.one t k l),
        length_total (up_to (size h)),
        length_below (size h),
        ok.loads.few,
      )

  pub chosen_few : (p : ℕ → Bool) → chosen p ≤ 32
  chosen_few p = omega (arith, keep_le p (up_to (size h)), length_below (size h), ok.loads.few)

  writes_one : (t : ℕ) → digit (is_writer t) ≤ length (keep is_write (of_key k (operations_of h t)))
  unfolding writes
  writes_one t =
      let os = operations_of h t in
      subst (λ l. digit (is_writer t) ≤ length l) (keep_both is_write (λ o. eqb o.key k) os)
      (found (is_writer t) (length (keep (λ o. is_write o && eqb o.key k) os)) (keep_found (λ o. is_write o && eqb o.key k) os))
    where
      found : (b : Bool) (n : ℕ) → (T b → 1 ≤ n) → digit b ≤ n
      found true n f = f tt
      found false n f = omega arith

  -- leaving read-backs out adds no good read
  reads_within : (t : ℕ) → reads_of h k t ≤ length (keep (is_good h t) (of_key k (operations_of h t)))
  unfolding outward
  reads_within t =
      let os = operations_of h t in
      omega (
        arith,
        ap length (keep_both (is_good h t) (λ o. eqb o.key k) (outward os)),
        ap length (keep_both (is_good h t) (λ o. eqb o.key k) os),
        keep_after_lem (λ earlier o. not (is_read_back earlier o)) (looks h t k) [] os,
      )

  -- a good read is no write, so t has an operation on the key for each of the two
  at_least : (t : ℕ) → reads_of h k t + digit (is_writer t) ≤ length (of_key k (operations_of h t))
  at_least t =
      omega (
        arith,
        keep_apart (is_good h t) is_write
            (λ o g w. omega (arith, eqb→eq o.kind 0 (and_l (is_read o) (good_read h o.key t o.argument) g), eqb→eq o.kind 1 w))
            (of_key k (operations_of h t)),
        reads_within t,
        writes_one t,
      )

  -- each good read and each writer has an operation on the key of its own
  pub operations_many : good_reads + writers ≤ count_on h k
  operations_many =
      omega (
        arith,
        total_mono (λ t. reads_of h k t + digit (is_writer t)) (λ t. length (of_key k (operations_of h t))) at_least (up_to (size h)),
        total_add (reads_of h k) (λ t. digit (is_writer t)) (up_to (size h)),
        length_keep is_writer (up_to (size h)),
      )

  -- ---- plain: pairs of a good read and a writer

  plain_of_lem : (t : ℕ) (o : Operation) → o.key ≡ k → length (plain_of h t o) ≤ digit (is_good h t o) * writers
  unfolding plain_of
  plain_of_lem t o e = go (is_good h t o)
    where
      other : ℕ → Bool
      other v = writes h v o.key && (not (eqb v o.argument) && not (eqb v t))

      others : List ℕ
      others = keep other (up_to (size h))

      few : length others ≤ writers
      few =
          fewer other is_writer (λ v c. subst (λ x. T (writes h v x)) e (and_l (writes h v o.key) (not (eqb v o.argument) && not (eqb v t)) c)) (up_to (size h))

      of : ℕ → Constraint
      of v = record { fromA = only t; toA = v; fromB = only v; toB = o.argument }

      go : (b : Bool) → length (cond b (map of others) []) ≤ digit b * writers
      go true = omega (arith, length-map others of, few)
      go false = omega arith

  -- what holds of each operation on the key by itself holds of all of a transaction
  pub of_each : (f g : Operation → ℕ) → ((o : Operation) → o.key ≡ k → f o ≤ g o) → (os : List Operation) → total f (of_key k os) ≤ total g (of_key k os)
  of_each f g l os =
      total_le f g (of_key k os)
      (All-keep-in (λ o. f o ≤ g o) (λ o. eqb o.key k) os (All-every (λ o. T (eqb o.key k) → f o ≤ g o) (λ o c. l o (eqb→eq o.key k c)) os))

  plain_few : length (plain_on h k) ≤ per_operation * count_on h k
  plain_few =
      omega (
        arith,
        length_each (λ t. each (plain_of h t) (of_key k (outward_of h t))) (up_to (size h)),
        total_mono (λ t. length (each (plain_of h t) (of_key k (outward_of h t)))) (λ t. reads_of h k t * writers) in_one (up_to (size h)),
        total_times (reads_of h k) writers (up_to (size h)),
        pairs_few good_reads writers reads_few (chosen_few is_writer),
        operations_many,
      )
    where
      in_one : (t : ℕ) → length (each (plain_of h t) (of_key k (outward_of h t))) ≤ reads_of h k t * writers
      in_one t =
          let os = of_key k (outward_of h t) in
          omega (
            arith,
            length_each (plain_of h t) os,
            of_each (λ o. length (plain_of h t o)) (λ o. digit (is_good h t o) * writers) (plain_of_lem t) (outward_of h t),
            total_times (λ o. digit (is_good h t o)) writers os,
            ap (λ m. m * writers) (length_keep (is_good h t) os),
          )

  -- ---- joined and chained: pairs of two writers

  -- of the m that the test passes, each two
  pub between_pairs : (first : ℕ → Bool) (last : ℕ → ℕ) → 2 * length (between h k first last) + chosen first ≤ chosen first * chosen first
  unfolding between
  between_pairs first last =
      let ys = keep first (up_to (size h)) in
      omega (arith, length_each of ys, total_same (λ i. length (of i)) (above ys) of_length ys, pairs_half ys)
    where
      with : ℕ → ℕ → Constraint
      with i j = record { fromA = ends h k (last i) j; toA = j; fromB = ends h k (last j) i; toB = i }

      of : ℕ → List Constraint
      of i = map (with i) (keep (λ j. ltb i j && first j) (up_to (size h)))

      of_length : (i : ℕ) → length (of i) ≡ above (keep first (up_to (size h))) i
      of_length i = length-map (keep (λ j. ltb i j && first j) (up_to (size h))) (with i) ∙ ap length (keep_both (ltb i) first (up_to (size h)))

  between_few : (first : ℕ → Bool) (last : ℕ → ℕ) → ((g : ℕ) → T (first g) → T (is_writer g)) → length (between h k first last) ≤ per_operation * count_on h k
  between_few first last f =
      omega (
        arith,
        between_pairs first last,
        pairs_few (chosen first) (chosen first) (chosen_few first) (chosen_few first),
        fewer first is_writer f (up_to (size h)),
        operations_many,
      )

  -- A key's constraints are at most 16 for each of its operations.
  pub key_bound : (e : ℕ) → length (constraints_on h e k) ≤ per_operation * count_on h k
  unfolding constraints_on
  key_bound e = go (eqb e 0) (eqb e 1)
    where
      go : (a b : Bool) → length (cond a (plain_on h k) (cond b (joined_on h k) (chained_on h k))) ≤ per_operation * count_on h k
      go true b = plain_few
      go false true = between_few is_writer (λ w. w) (λ g t. t)
      go false false = between_few (is_head h k) (tail h k) (head_writes h k)

-- ---- all keys

module _ (h : History) where
  -- A sum over operations is the sum over the keys of those on the key: every operation has one key.
  by_key : (n : ℕ) (of : ℕ → List Operation) → ((t : ℕ) → All (λ o. o.key < n) (of t)) → (f : ℕ → Operation → ℕ)
      → total (λ t. total (f t) (of t)) (up_to (size h)) ≡ total (λ k. total (λ t. total (f t) (of_key k (of t))) (up_to (size h))) (up_to n)
  by_key n of small f =
      total_same (λ t. total (f t) (of t)) (λ t. total (λ k. total (f t) (of_key k (of t))) (up_to n))
      (λ t. total_by_key (λ (o : Operation). o.key) n (f t) (of t) (small t)) (up_to (size h))
      ∙ total_swap (λ t k. total (f t) (of_key k (of t))) (up_to (size h)) (up_to n)

  -- each operation counts for one
  length_ones : (of : ℕ → List Operation) → total (λ t. length (of t)) (up_to (size h)) ≡ total (λ t. total (λ (o : Operation). 1) (of t)) (up_to (size h))
  length_ones of = total_same (λ t. length (of t)) (λ t. total (λ (o : Operation). 1) (of t)) (λ t. length_total (of t)) (up_to (size h))

  pub all_operations_lem : (n : ℕ) → ((t : ℕ) → All (λ o. o.key < n) (operations_of h t)) → operation_count h ≡ total (count_on h) (up_to n)
  all_operations_lem n small =
      sym (counts_all h)
      ∙ sym (total_up_to (count_of h) (size h))
      ∙ length_ones (operations_of h)
      ∙ by_key n (operations_of h) small (λ t o. 1)
      ∙ total_same (λ k. total (λ t. total (λ (o : Operation). 1) (of_key k (operations_of h t))) (up_to (size h))) (count_on h)
      (λ k. sym (length_ones (λ t. of_key k (operations_of h t)))) (up_to n)

  -- each operation counts for its constraints
  length_plain : (of : ℕ → List Operation)
      → length (each (λ t. each (plain_of h t) (of t)) (up_to (size h))) ≡ total (λ t. total (λ o. length (plain_of h t o)) (of t)) (up_to (size h))
  length_plain of =
      length_each (λ t. each (plain_of h t) (of t)) (up_to (size h))
      ∙ total_same (λ t. length (each (plain_of h t) (of t))) (λ t. total (λ o. length (plain_of h t o)) (of t)) (λ t. length_each (plain_of h t) (of t)) (up_to (size h))

  all_plain : (n : ℕ) → ((t : ℕ) → All (λ o. o.key < n) (outward_of h t)) → length (plain h) ≡ total (λ k. length (plain_on h k)) (up_to n)
  unfolding plain
  all_plain n small =
      length_plain (outward_of h)
      ∙ by_key n (outward_of h) small (λ t o. length (plain_of h t o))
      ∙ total_same (λ k. total (λ t. total (λ o. length (plain_of h t o)) (of_key k (outward_of h t))) (up_to (size h))) (λ k. length (plain_on h k))
      (λ k. sym (length_plain (λ t. of_key k (outward_of h t)))) (up_to n)

  -- the constraints are those of the keys
  pub all_constraints : Loadable h → (e : ℕ) → length (constraints h e) ≡ total (λ k. length (constraints_on h e k)) (up_to 32)
  unfolding constraints constraints_on joined chained
  all_constraints ok e = go (eqb e 0) (eqb e 1)
    where
      go : (a b : Bool) → length (cond a (plain h) (cond b (joined h) (chained h)))
          ≡ total (λ k. length (cond a (plain_on h k) (cond b (joined_on h k) (chained_on h k)))) (up_to 32)
      go true b = all_plain 32 (outward_keys h ok)
      go false true = length_each (joined_on h) (up_to 32)
      go false false = length_each (chained_on h) (up_to 32)

-- in encodings 1 and 2 the list is theirs, one key after another
pub listed_by_key : (h : History) (e : ℕ) → e ≢ 0 → constraints h e ≡ each (constraints_on h e) (up_to 32)
unfolding constraints constraints_on joined chained
listed_by_key h e f = go (eqb e 0) (eqb e 1) (ne_eqb f)
  where
    go : (a b : Bool) → T (not a) → cond a (plain h) (cond b (joined h) (chained h)) ≡ each (λ k. cond a (plain_on h k) (cond b (joined_on h k) (chained_on h k))) (up_to 32)
    go true b n = absurd n
    go false true n = refl
    go false false n = refl

-- Where a key's constraints, m times, are at most c for each of its operations, the constraints are, m times, at most c for each operation.
pub keys_bound : (h : History) → Loadable h → (e m c : ℕ) → ((k : ℕ) → m * length (constraints_on h e k) ≤ c * count_on h k)
    → m * length (constraints h e) ≤ c * operation_count h
keys_bound h ok e m c few =
    subst (λ x. m * x ≤ c * operation_count h) (sym (all_constraints h ok e))
    (subst (λ x. m * total (λ k. length (constraints_on h e k)) (up_to 32) ≤ c * x) (sym (all_operations_lem h 32 ok.keys)) (sums (up_to 32)))
  where
    sums : (ks : List ℕ) → m * total (λ k. length (constraints_on h e k)) ks ≤ c * total (count_on h) ks
    sums ks =
        omega (
          arith,
          total_mono (λ k. length (constraints_on h e k) * m) (λ k. count_on h k * c) (λ k. omega (arith, few k)) ks,
          total_times (λ k. length (constraints_on h e k)) m ks,
          total_times (count_on h) c ks,
        )

-- The constraints are at most 16 for each operation ..
pub constraints_bound : (h : History) → Countable h → (e : ℕ) → length (constraints h e) ≤ per_operation * operation_count h
constraints_bound h ok e = omega (arith, keys_bound h ok.loads e 1 per_operation (λ k. omega (arith, key_bound h ok k e)))

module _ (b : List ℕ) (taken : load_number b ≡ 0) (e : ℕ) where
  -- .. and a log that Load takes has at most 256.
  pub constraints_log : length (constraints (history_of b) e) ≤ 4096
  constraints_log = omega (arith, constraints_bound (history_of b) (counted_log b taken) e, operations_few b taken)

  -- So has it with any times beside it.
  pub constraints_timed : (ts : Times) → length (constraints (timed_history b ts) e) ≤ 4096
  constraints_timed ts = omega (arith, ap (λ (f : ℕ → List Constraint). length (f e)) (timed_constraints ts (history_of b)), constraints_log)
