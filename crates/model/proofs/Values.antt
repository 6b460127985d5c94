-- Values: what replay's table has at a key is the starting table's value, where no transaction of the run writes the key, and else what the last one
-- that does wrote there. So every read sees the value of the write, or of the start, that it sees, and where it names that, the value that it names.
--     stored_at        one transaction, at a key.        replay_at      a run of them.       replay_long   as many values
--     start_iff        the run leaves a key to the start exactly where none of it writes the key
--     sees_start, start_seen       a read sees the start exactly where nothing before it writes its key, and then the starting table's value
--     writers_values, named_values     every read
-- Assumes nothing.
use Prim.Native.Nat.{ℕ, ◌≤◌, ◌<◌}
use native.Mathlib.Omega.{arith}
use mathlib.Core.Path.{◌≡◌, refl, sym, ap, subst, ◌∙◌}
use mathlib.Core.Logic.{⊎_elim, ◌↔◌, ◌≢◌}
use mathlib.Core.Bool.{Bool, true, false, not, cond, ◌&&◌, ◌||◌}
use mathlib.Core.List.{List, [], ◌∷◌}
use lib.Dec.{T, eqb, eqb→eq}
use lib.ListN.{length, get_or, set, length-set}
use lib.Seq.{get_or-set_same, get_or-set_other}
use Rattle.model.specs.Lists.{All, implies, all, any, keep, keep_after, all_after, first_or, fold, up_to_element}
use Rattle.model.specs.History.{Operation, History, start, size, operations_of, is_read, is_write, is_read_back, outward, keys_once, good_keys, writes, last_writer, sees, every_read_names_what_it_sees, stored, replay, left_at, value_written, value_of, value_seen, every_read_sees_its_writers_value, every_read_sees_the_value_it_names}
use Rattle.model.proofs.Basics.{true_eq, false_eq, eq-eqb, ne_eqb, same?, and_l, and_r, and_in, or_l, or_r, or_out, implies_in, implies_out, all_up_to_in, all_up_to_out}
use Rattle.model.proofs.Legal.{writes_small}
use Rattle.model.proofs.ReadBacks.{keep_out, written}

abbrev write_of : ℕ → Operation → Bool
write_of k o = is_write o && eqb o.key k

abbrev put : List ℕ → Operation → List ℕ
put tb o = set tb o.key o.argument

no : {A : Type 0} → true ≡ false → A
no e = absurd (subst T e tt)

-- ---- one key, one transaction

put_long : (os : List Operation) (table : List ℕ) → length (fold put table os) ≡ length table
put_long [] table = refl
put_long (o ∷ os) table = put_long os (put table o) ∙ length-set table o.key o.argument

stored_long : (h : History) (table : List ℕ) (t : ℕ) → length (stored h table t) ≡ length table
unfolding stored
stored_long h table t = put_long (keep is_write (operations_of h t)) table

module _ (k : ℕ) where
  put_at_lem : (table : List ℕ) (o : Operation) → k < length table → get_or (put table o) k 0 ≡ cond (eqb o.key k) o.argument (get_or table k 0)
  put_at_lem table o l =
      ⊎_elim
      (λ (p : o.key ≡ k). subst (λ x. get_or (set table x o.argument) k 0 ≡ o.argument) (sym p) (get_or-set_same table k o.argument 0 l)
      ∙ sym (ap (λ q. cond q o.argument (get_or table k 0)) (true_eq (eqb o.key k) (eq-eqb p))))
      (λ (p : o.key ≢ k). get_or-set_other table o.key k o.argument 0 (λ q. p (sym q))
      ∙ sym (ap (λ q. cond q o.argument (get_or table k 0)) (false_eq (eqb o.key k) (ne_eqb p)))) (same? o.key k)

  run_at : (os : List Operation) (table : List ℕ) → k < length table → get_or (fold put table (keep is_write os)) k 0 ≡ left_at k (get_or table k 0) os
  run_at [] table l = refl
  run_at (o ∷ os) table l =
      go (is_write o) (run_at os (put table o) (omega (arith, length-set table o.key o.argument)) ∙ ap (λ v. left_at k v os) (put_at_lem table o l)) (run_at os table l)
    where
      go : (w : Bool) → get_or (fold put (put table o) (keep is_write os)) k 0 ≡ left_at k (cond (eqb o.key k) o.argument (get_or table k 0)) os
          → get_or (fold put table (keep is_write os)) k 0 ≡ left_at k (get_or table k 0) os
          → get_or (fold put table (cond w (o ∷ keep is_write os) (keep is_write os))) k 0 ≡ left_at k (cond (w && eqb o.key k) o.argument (get_or table k 0)) os
      go true p q = p
      go false p q = q

  -- what a transaction leaves at the key
  pub stored_at : (h : History) (table : List ℕ) (t : ℕ) → k < length table → get_or (stored h table t) k 0 ≡ left_at k (get_or table k 0) (operations_of h t)
  unfolding stored
  stored_at h table t l = run_at (operations_of h t) table l

  -- where nothing writes it, what stood there; where something does, whatever stood there
  left_none : (os : List Operation) (v : ℕ) → any (write_of k) os ≡ false → left_at k v os ≡ v
  left_none [] v e = refl
  left_none (o ∷ os) v e = go (write_of k o) e (left_none os v)
    where
      go : (q : Bool) → (q || any (write_of k) os) ≡ false → (any (write_of k) os ≡ false → left_at k v os ≡ v) → left_at k (cond q o.argument v) os ≡ v
      go true e rest = no e
      go false e rest = rest e

  left_some : (os : List Operation) (u v : ℕ) → any (write_of k) os ≡ true → left_at k u os ≡ left_at k v os
  left_some [] u v e = no (sym e)
  left_some (o ∷ os) u v e = go (write_of k o) e (left_some os u v)
    where
      go : (q : Bool) → (q || any (write_of k) os) ≡ true → (any (write_of k) os ≡ true → left_at k u os ≡ left_at k v os)
          → left_at k (cond q o.argument u) os ≡ left_at k (cond q o.argument v) os
      go true e rest = refl
      go false e rest = rest e

-- ---- one key, a run of transactions

module _ (h : History) (k : ℕ) where
  -- f gives the value that stands for a transaction that writes the key, and for d
  replay_by : (f : ℕ → ℕ) → ((x : ℕ) → T (writes h x k) → f x ≡ value_written h x k) → (xs table : List ℕ) (d : ℕ) → k < length table → f d ≡ get_or table k 0
      → get_or (replay h table xs) k 0 ≡ f (last_writer h k d xs)
  unfolding replay last_writer writes
  replay_by f g [] table d l e = sym e
  replay_by f g (x ∷ xs) table d l e =
      replay_by f g xs (stored h table x) (cond (writes h x k) x d) (omega (arith, stored_long h table x)) (step (writes h x k) refl ∙ sym (stored_at k h table x l))
    where
      step : (b : Bool) → writes h x k ≡ b → f (cond b x d) ≡ left_at k (get_or table k 0) (operations_of h x)
      step true w = g x (subst T (sym w) tt) ∙ left_some k (operations_of h x) 0 (get_or table k 0) w
      step false w = e ∙ sym (left_none k (operations_of h x) (get_or table k 0) w)

  module _ (few : size h ≤ 32) where
    -- the starting table's value, or what the last writer wrote
    pub replay_at : (xs table : List ℕ) → k < length table → get_or (replay h table xs) k 0 ≡ value_of h table k (last_writer h k start xs)
    replay_at xs table l =
        replay_by (value_of h table k)
        (λ x w. ap (λ b. cond b (get_or table k 0) (value_written h x k)) (false_eq (eqb x start) (ne_eqb (λ (e : x ≡ start). omega (arith, few, e, writes_small h x k w)))))
        xs table start l refl

    -- ---- no writer

    last_none : (d : ℕ) (xs : List ℕ) → any (λ x. writes h x k) xs ≡ false → last_writer h k d xs ≡ d
    unfolding last_writer
    last_none d [] e = refl
    last_none d (x ∷ xs) e = go (writes h x k) e (last_none d xs)
      where
        go : (b : Bool) → (b || any (λ x. writes h x k) xs) ≡ false → (any (λ x. writes h x k) xs ≡ false → last_writer h k d xs ≡ d)
            → last_writer h k (cond b x d) xs ≡ d
        go true e rest = no e
        go false e rest = rest e

    last_some : (d : ℕ) (xs : List ℕ) → any (λ x. writes h x k) xs ≡ true → T (writes h (last_writer h k d xs) k)
    unfolding last_writer
    last_some d [] e = no (sym e)
    last_some d (x ∷ xs) e = go (writes h x k) (any (λ x. writes h x k) xs) refl refl e (λ y. last_some y xs)
      where
        go : (b r : Bool) → writes h x k ≡ b → any (λ x. writes h x k) xs ≡ r → (b || r) ≡ true
            → ((y : ℕ) → any (λ x. writes h x k) xs ≡ true → T (writes h (last_writer h k y xs) k)) → T (writes h (last_writer h k (cond b x d) xs) k)
        go b true w r e rest = rest (cond b x d) r
        go true false w r e rest = subst (λ y. T (writes h y k)) (sym (last_none x xs r)) (subst T (sym w) tt)
        go false false w r e rest = no (sym e)

    -- the start is what is found exactly where no transaction of the run writes the key
    pub start_iff : (xs : List ℕ) → (last_writer h k start xs ≡ start) ↔ (any (λ x. writes h x k) xs ≡ false)
    start_iff xs = ((λ e. go (any (λ x. writes h x k) xs) refl e), last_none start xs)
      where
        go : (b : Bool) → any (λ x. writes h x k) xs ≡ b → last_writer h k start xs ≡ start → b ≡ false
        go true is e = absurd (omega (arith, few, e, writes_small h (last_writer h k start xs) k (last_some start xs is)))
        go false is e = refl

    -- then the table has there what it had at the start
    pub start_value : (xs table : List ℕ) → k < length table → any (λ x. writes h x k) xs ≡ false → get_or (replay h table xs) k 0 ≡ get_or table k 0
    start_value xs table l none =
        replay_at xs table l ∙ ap (value_of h table k) (last_none start xs none)

-- ---- in one transaction a key is written once

write_no_read : (o : Operation) → T (is_write o) → is_read o ≡ false
write_no_read o w = false_eq (is_read o) (ne_eqb (λ (e : o.kind ≡ 0). omega (arith, eqb→eq o.kind 1 w)))

-- what stands before may have no write of a key that is written now
one_write : (k : ℕ) (e os : List Operation) → T (keys_once e os) → T (written e k) → any (write_of k) os ≡ false
unfolding keys_once
one_write k e [] once w = refl
one_write k e (p ∷ os) once w =
    go (write_of k p) refl (one_write k (p ∷ e) os (and_r now later once) (or_r (write_of k p) (written e k) w))
  where
    test : Operation → Bool
    test q = implies (eqb q.key p.key) (is_read q && is_write p)

    now : Bool
    now = all test e

    later : Bool
    later = keys_once (p ∷ e) os

    -- a write of the key among those that pass the test
    among : (xs : List Operation) → T (all test xs) → T (written xs k) → T (write_of k p) → ⊥
    among [] a v u = v
    among (q ∷ xs) a v u =
        ⊎_elim
        (λ x.
        let same : q.key ≡ p.key = eqb→eq q.key k (and_r (is_write q) (eqb q.key k) x) ∙ sym (eqb→eq p.key k (and_r (is_write p) (eqb p.key k) u)) in
        let reads = and_l (is_read q) (is_write p) (implies_out (eqb q.key p.key) (is_read q && is_write p) (and_l (test q) (all test xs) a) (eq-eqb same)) in
        subst T (write_no_read q (and_l (is_write q) (eqb q.key k) x)) reads)
        (λ x. among xs (and_r (test q) (all test xs) a) x u)
        (or_out (write_of k q) (written xs k) v)

    go : (b : Bool) → write_of k p ≡ b → any (write_of k) os ≡ false → (b || any (write_of k) os) ≡ false
    go true is rest = absurd (among e (and_l now later once) w (subst T (sym is) tt))
    go false is rest = rest

-- writes are no read-backs, so that those of a run and of what is left of it without them are the same
any_kept : (k : ℕ) (os : List Operation) → any (write_of k) os ≡ any (λ o. eqb o.key k) (keep is_write os)
any_kept k [] = refl
any_kept k (o ∷ os) = go (is_write o) (any_kept k os)
  where
    go : (w : Bool) → any (write_of k) os ≡ any (λ o. eqb o.key k) (keep is_write os)
        → ((w && eqb o.key k) || any (write_of k) os) ≡ any (λ o. eqb o.key k) (cond w (o ∷ keep is_write os) (keep is_write os))
    go true e = ap (λ x. eqb o.key k || x) e
    go false e = e

abbrev outs : List Operation → List Operation → List Operation
outs earlier os = keep_after (λ e o. not (is_read_back e o)) earlier os

one_write_out : (k : ℕ) (e earlier os : List Operation) → T (keys_once e (outs earlier os)) → T (written e k) → any (write_of k) os ≡ false
one_write_out k e earlier os once w =
    any_kept k os ∙ ap (any (λ o. eqb o.key k)) (sym (keep_out earlier os)) ∙ sym (any_kept k (outs earlier os)) ∙ one_write k e (outs earlier os) once w

-- ---- every read sees its writer's value

module _ (h : History) (few : size h ≤ 32) (table o : List ℕ) (t : ℕ) (small : t < size h) where
  abbrev its_writers : List Operation → Operation → Bool
  its_writers earlier r = implies (is_read r) (eqb (value_seen h table o t earlier r) (value_of h table r.key (sees h o t earlier r)))

  -- How a run of t's operations stands: `so_far` has what those before it leave at each key; `e` are those of them that look outward.
  pub record Standing (so_far : ℕ → ℕ) (e earlier os : List Operation) : Type 0 where
    pub whole : (k : ℕ) → left_at k (so_far k) os ≡ value_written h t k
    pub nearest : (k : ℕ) (r : Operation) → T (written earlier k) → (first_or r (write_of k) earlier).argument ≡ so_far k
    pub within : (k : ℕ) → T (written earlier k) → T (written e k)
    pub once : T (keys_once e (outs earlier os))

  -- a read-back sees what its own transaction wrote
  value_back : (so_far : ℕ → ℕ) (e earlier os : List Operation) (r : Operation) → Standing so_far e earlier (r ∷ os) → T (is_read_back earlier r)
      → (first_or r (write_of r.key) earlier).argument ≡ value_of h table r.key t
  unfolding is_read_back
  value_back so_far e earlier os r s back =
      let k = r.key in
      let wrote : T (written earlier k) = and_r (is_read r) (written earlier k) back in
      let none = one_write_out k e earlier (r ∷ os) s.once (s.within k wrote) in
      s.nearest k r wrote ∙ sym (left_none k (r ∷ os) (so_far k) none) ∙ s.whole k
      ∙ sym (ap (λ b. cond b (get_or table k 0) (value_written h t k)) (false_eq (eqb t start) (ne_eqb (λ (z : t ≡ start). omega (arith, few, small, z)))))

  value_one : (so_far : ℕ → ℕ) (e earlier os : List Operation) (r : Operation) → Standing so_far e earlier (r ∷ os) → r.key < length table → T (its_writers earlier r)
  unfolding sees value_seen
  value_one so_far e earlier os r s low =
      implies_in (is_read r) (eqb (value_seen h table o t earlier r) (value_of h table r.key (sees h o t earlier r))) (λ i. eq-eqb (go (is_read_back earlier r) refl))
    where
      go : (b : Bool) → is_read_back earlier r ≡ b
          → cond b (first_or r (write_of r.key) earlier).argument (get_or (replay h table (up_to_element t o)) r.key 0)
          ≡ value_of h table r.key (cond b t (last_writer h r.key start (up_to_element t o)))
      go true back = value_back so_far e earlier os r s (subst T (sym back) tt)
      go false back = replay_at h r.key few (up_to_element t o) table low

  -- one operation more
  stands_next : (so_far : ℕ → ℕ) (e earlier os : List Operation) (r : Operation) → Standing so_far e earlier (r ∷ os)
      → (e' : List Operation) × Standing (λ k. cond (write_of k r) r.argument (so_far k)) e' (r ∷ earlier) os
  unfolding keys_once is_read_back
  stands_next so_far e earlier os r s = go (is_read_back earlier r) refl s.once
    where
      next : (k : ℕ) (q : Operation) → T (written (r ∷ earlier) k) → (first_or q (write_of k) (r ∷ earlier)).argument ≡ cond (write_of k r) r.argument (so_far k)
      next k q w = pick (write_of k r) w
        where
          pick : (b : Bool) → T (b || written earlier k) → (cond b r (first_or q (write_of k) earlier)).argument ≡ cond b r.argument (so_far k)
          pick true x = refl
          pick false x = s.nearest k q x

      outward_in : (k : ℕ) → T (written (r ∷ earlier) k) → T (written (r ∷ e) k)
      outward_in k w = ⊎_elim (λ x. or_l (write_of k r) (written e k) x) (λ x. or_r (write_of k r) (written e k) (s.within k x)) (or_out (write_of k r) (written earlier k) w)

      back_in : T (is_read_back earlier r) → (k : ℕ) → T (written (r ∷ earlier) k) → T (written e k)
      back_in back k w =
          ⊎_elim
          (λ x. absurd (subst T (write_no_read r (and_l (is_write r) (eqb r.key k) x)) (and_l (is_read r) (written earlier r.key) back)))
          (λ x. s.within k x) (or_out (write_of k r) (written earlier k) w)

      go : (b : Bool) → is_read_back earlier r ≡ b → T (keys_once e (cond (not b) (r ∷ outs (r ∷ earlier) os) (outs (r ∷ earlier) os)))
          → (e' : List Operation) × Standing (λ k. cond (write_of k r) r.argument (so_far k)) e' (r ∷ earlier) os
      go true is once = (e, record { whole = s.whole; nearest = next; within = back_in (subst T (sym is) tt); once = once })
      go false is once = (
        r ∷ e,
        record { whole = s.whole; nearest = next; within = outward_in; once = and_r (all (λ q. implies (eqb q.key r.key) (is_read q && is_write r)) e) (keys_once (r ∷ e) (outs (r ∷ earlier) os)) once },
      )

  values_run : (so_far : ℕ → ℕ) (e earlier os : List Operation) → Standing so_far e earlier os → All (λ r. r.key < length table) os → T (all_after its_writers earlier os)
  values_run so_far e earlier [] s low = tt
  values_run so_far e earlier (r ∷ os) s low =
      let next = stands_next so_far e earlier os r s in
      and_in (its_writers earlier r) (all_after its_writers (r ∷ earlier) os) (value_one so_far e earlier os r s low.0) (values_run (λ k. cond (write_of k r) r.argument (so_far k)) next.0 (r ∷ earlier) os next.1 low.1)

  values_of : T (good_keys t (operations_of h t)) → All (λ r. r.key < length table) (operations_of h t) → T (all_after its_writers [] (operations_of h t))
  unfolding good_keys outward
  values_of good low =
      values_run (λ k. 0) [] [] (operations_of h t)
      (record {
        whole = λ k. refl;
        nearest = λ k r w. absurd w;
        within = λ k w. w;
        once = and_l (keys_once [] (outs [] (operations_of h t))) _ good;
      })
      low

pub writers_values : (h : History) → size h ≤ 32 → (table o : List ℕ) → ((t : ℕ) → t < size h → T (good_keys t (operations_of h t)))
    → ((t : ℕ) → t < size h → All (λ r. r.key < length table) (operations_of h t)) → T (every_read_sees_its_writers_value h table o)
unfolding every_read_sees_its_writers_value
writers_values h few table o good low = all_up_to_in _ (size h) (λ t l. values_of h few table o t l (good t l) (low t l))

-- ---- and so, where it names what it sees, the value that it names

both_after : {A : Type 0} (p q r : List A → A → Bool) → ((e : List A) (x : A) → T (p e x) → T (q e x) → T (r e x)) → (e xs : List A) → T (all_after p e xs) → T (all_after q e xs) → T (all_after r e xs)
both_after p q r f e [] a b = tt
both_after p q r f e (x ∷ xs) a b =
    and_in (r e x) (all_after r (x ∷ e) xs) (f e x (and_l (p e x) (all_after p (x ∷ e) xs) a) (and_l (q e x) (all_after q (x ∷ e) xs) b))
    (both_after p q r f (x ∷ e) xs (and_r (p e x) (all_after p (x ∷ e) xs) a) (and_r (q e x) (all_after q (x ∷ e) xs) b))

pub named_values : (h : History) (table o : List ℕ) → T (every_read_sees_its_writers_value h table o) → T (every_read_names_what_it_sees h o) → T (every_read_sees_the_value_it_names h table o)
unfolding every_read_sees_its_writers_value every_read_names_what_it_sees every_read_sees_the_value_it_names
named_values h table o a b =
    all_up_to_in _ (size h) (λ t l. both_after _ _ _ (one t) [] (operations_of h t) (all_up_to_out _ (size h) a t l) (all_up_to_out _ (size h) b t l))
  where
    one : (t : ℕ) (e : List Operation) (r : Operation) → T (implies (is_read r) (eqb (value_seen h table o t e r) (value_of h table r.key (sees h o t e r))))
        → T (implies (is_read r) (eqb (sees h o t e r) r.argument)) → T (implies (is_read r) (eqb (value_seen h table o t e r) (value_of h table r.key r.argument)))
    one t e r x y =
        implies_in (is_read r) (eqb (value_seen h table o t e r) (value_of h table r.key r.argument))
        (λ i.
        subst (λ u. T (eqb (value_seen h table o t e r) (value_of h table r.key u))) (eqb→eq (sees h o t e r) r.argument (implies_out (is_read r) (eqb (sees h o t e r) r.argument) y i))
        (implies_out (is_read r) (eqb (value_seen h table o t e r) (value_of h table r.key (sees h o t e r))) x i))

-- ---- a read sees the start exactly where no earlier transaction writes its key, nor its own before it

module _ (h : History) (few : size h ≤ 32) (o : List ℕ) (t : ℕ) (small : t < size h) (earlier : List Operation) (r : Operation) where
  abbrev Unwritten : Type 0
  Unwritten = (is_read_back earlier r ≡ false) × (any (λ x. writes h x r.key) (up_to_element t o) ≡ false)

  pub sees_start : (sees h o t earlier r ≡ start) ↔ Unwritten
  unfolding sees
  sees_start = ((λ e. out (is_read_back earlier r) refl e), λ u. ap (λ b. cond b t (last_writer h r.key start (up_to_element t o))) u.0 ∙ (start_iff h r.key few (up_to_element t o)).1 u.1)
    where
      out : (b : Bool) → is_read_back earlier r ≡ b → cond b t (last_writer h r.key start (up_to_element t o)) ≡ start → (b ≡ false) × (any (λ x. writes h x r.key) (up_to_element t o) ≡ false)
      out true is e = absurd (omega (arith, few, small, e))
      out false is e = (refl, (start_iff h r.key few (up_to_element t o)).0 e)

  pub start_seen : (table : List ℕ) → r.key < length table → Unwritten → value_seen h table o t earlier r ≡ get_or table r.key 0
  unfolding value_seen
  start_seen table low u =
      ap (λ b. cond b (first_or r (write_of r.key) earlier).argument (get_or (replay h table (up_to_element t o)) r.key 0)) u.0
      ∙ start_value h r.key few (up_to_element t o) table low u.1

-- ---- a replay has as many values as the table that it starts from

pub replay_long : (h : History) (table o : List ℕ) → length (replay h table o) ≡ length table
unfolding replay
replay_long h table [] = refl
replay_long h table (x ∷ o) = replay_long h (stored h table x) o ∙ stored_long h table x
