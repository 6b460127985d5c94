-- Histories with times: what one has beside the same without them, that one without times is judged as document 01 says, and what Load's numbers 37 and 38
-- leave of the times of a log. Assumes nothing.
use Prim.Native.Nat.{ℕ, zero, suc, ◌+◌, ◌≤◌, ◌<◌}
use native.Mathlib.Omega.{arith}
use native.Mathlib.Nat.{not-suc-le-zero}
use mathlib.Core.Path.{◌≡◌, refl, sym, ap, ap₂, subst, ◌∙◌}
use mathlib.Core.Logic.{◌⊎◌, inl, inr, ⊎_elim, ◌↔◌}
use mathlib.Core.Bool.{Bool, true, false, not, cond, ◌&&◌, ◌||◌, or-false}
use mathlib.Core.List.{List, [], ◌∷◌, ◌++◌, map}
use lib.Dec.{T, eqb, ltb, leb, eqb→eq, ltb→lt, lt→ltb, nltb→le, leb→le, le→leb, nleb→lt, eqb-suc-zero}
use lib.ListN.{length, get_or, drop, get_or-eq_default}
use Rattle.model.specs.Lists.{implies, All, all, any, each, keep, fold, up_to, word_of}
use Rattle.model.specs.History.{Operation, Transaction, History, untimed, size, no_transaction, cabinet_of, operations_of, begin_of, until_of, is_write, outward, good_operation, good_keys, good_transaction, well_formed, every_read_explained, is_order, before, sent_before, ends_before, must_precede, keeps_precedence, legal, replay}
use Rattle.model.specs.Polygraph.{Polygraph, good_read, next_of_cabinet, start_read, bad_read, chain_edge, edge, rows, constraints, passes, polygraph}
use Rattle.model.specs.Log.{transactions_in, load_number, transaction_at, history_of}
use Rattle.model.specs.Times.{Times, times, untils, ended_before, keeps_clock, with_times, timed, Bare, without_times, timed_history, both_of, in_turn, times_number, timed_number}
use Rattle.model.specs.Refusals.{Matching, GoodTimes, Backward}
use Rattle.model.specs.Search.{arrangements, first_of, first_legal}
use Rattle.model.specs.Untimed.{untimed_edge, untimed_polygraph, keeps_cabinets, untimed_legal, untimed_first}
use Rattle.model.proofs.Basics.{decide, clash, not_intro, All-every, All-map-in, true_eq, false_eq, iff_eq, eq-T, eq-eqb, and_l, and_r, and_in, or_out, or_l, or_r, implies_out, implies_in, all_up_to_out, all_up_to_in, not_all_up_to_out}
use Rattle.model.proofs.Known.{Loadable, kinds_out}
use Rattle.model.proofs.Twins.{Alike, nexts_same, goods_same, starts_same, bads_same, links_same, constraints_same, explained_same, table_same}
use Rattle.model.proofs.Loaded.{Bytes, loaded, need, or_else_out, history_at, history_past, history_size, well_formed_lem, loadable_log}

-- ---- the same history but for its times

drop_at : (xs : List ℕ) (t : ℕ) → get_or (drop 1 xs) t 0 ≡ get_or xs (suc t) 0
drop_at [] t = refl
drop_at (x ∷ xs) t = refl

abbrev clocked : ℕ → ℕ → Transaction → Transaction
clocked from to x = record { cabinet = x.cabinet; operations = x.operations; begin = from; until = to }

times_size : (bs us : List ℕ) (h : History) → size (with_times bs us h) ≡ size h
unfolding with_times
times_size bs us [] = refl
times_size bs us (x ∷ h) = ap suc (times_size (drop 1 bs) (drop 1 us) h)

times_cabinet : (bs us : List ℕ) (h : History) (t : ℕ) → cabinet_of (with_times bs us h) t ≡ cabinet_of h t
unfolding with_times
times_cabinet bs us [] t = refl
times_cabinet bs us (x ∷ h) zero = refl
times_cabinet bs us (x ∷ h) (suc t) = times_cabinet (drop 1 bs) (drop 1 us) h t

times_operations : (bs us : List ℕ) (h : History) (t : ℕ) → operations_of (with_times bs us h) t ≡ operations_of h t
unfolding with_times
times_operations bs us [] t = refl
times_operations bs us (x ∷ h) zero = refl
times_operations bs us (x ∷ h) (suc t) = times_operations (drop 1 bs) (drop 1 us) h t

times_count : (n : ℕ) (bs us : List ℕ) (h : History)
    → fold (λ n (t : Transaction). n + length t.operations) n (with_times bs us h) ≡ fold (λ n (t : Transaction). n + length t.operations) n h
unfolding with_times
times_count n bs us [] = refl
times_count n bs us (x ∷ h) = times_count (n + length x.operations) (drop 1 bs) (drop 1 us) h

times_all : (bs us : List ℕ) (h : History) → each (λ (t : Transaction). t.operations) (with_times bs us h) ≡ each (λ (t : Transaction). t.operations) h
unfolding with_times
times_all bs us [] = refl
times_all bs us (x ∷ h) = ap (λ (os : List Operation). x.operations ++ os) (times_all (drop 1 bs) (drop 1 us) h)

times_at : (bs us : List ℕ) (h : History) (t : ℕ) → t < size h
    → get_or (with_times bs us h) t no_transaction ≡ clocked (get_or bs t 0) (get_or us t 0) (get_or h t no_transaction)
unfolding with_times
times_at bs us [] t l = absurd (not-suc-le-zero l)
times_at bs us (x ∷ h) zero l = refl
times_at bs us (x ∷ h) (suc t) l =
    times_at (drop 1 bs) (drop 1 us) h t (omega arith)
    ∙ ap₂ (λ from to. clocked from to (get_or h t no_transaction)) (drop_at bs t) (drop_at us t)

-- no times change nothing where there are none
times_none : (h : History) → All Bare h → with_times [] [] h ≡ h
unfolding with_times
times_none [] a = refl
times_none (x ∷ h) a = ap₂ (λ (y : Transaction) (g : History). y ∷ g) (λ i. clocked (sym a.0.0 i) (sym a.0.1 i) x) (times_none h a.1)

module _ (ts : Times) (h : History) where
  abbrev given : History
  given = timed ts h

  abbrev bs : List ℕ
  bs = ts.begins

  abbrev us : List ℕ
  us = untils ts

  pub timed_size : size given ≡ size h
  unfolding timed
  timed_size = times_size bs us h

  pub timed_cabinet : (t : ℕ) → cabinet_of given t ≡ cabinet_of h t
  unfolding timed
  timed_cabinet = times_cabinet bs us h

  pub timed_operations : (t : ℕ) → operations_of given t ≡ operations_of h t
  unfolding timed
  timed_operations = times_operations bs us h

  pub timed_count : fold (λ n (t : Transaction). n + length t.operations) 0 given ≡ fold (λ n (t : Transaction). n + length t.operations) 0 h
  unfolding timed
  timed_count = times_count 0 bs us h

  pub timed_all : each (λ (t : Transaction). t.operations) given ≡ each (λ (t : Transaction). t.operations) h
  unfolding timed
  timed_all = times_all bs us h

  -- constraints, explained reads and the table need no more than this
  pub timed_alike : Alike given h
  timed_alike =
      record {
        sizes = timed_size;
        cabinets = timed_cabinet;
        stores = λ t. ap (keep is_write) (timed_operations t);
        outs = λ t. ap outward (timed_operations t);
      }

  pub timed_constraints : constraints given ≡ constraints h
  timed_constraints = constraints_same given h timed_alike

  pub timed_table : (table o : List ℕ) → replay given table o ≡ replay h table o
  timed_table = table_same given h timed_alike

  -- times are no part of what is well formed
  pub timed_formed : well_formed given ≡ well_formed h
  unfolding well_formed good_transaction
  timed_formed = λ i.
      leb (timed_size i) 32 && (leb (timed_count i) 256
      && all (λ t. ltb (timed_cabinet t i) 16
      && (all (good_operation (timed_size i)) (timed_operations t i) && good_keys t (timed_operations t i))) (up_to (timed_size i)))

  pub timed_loadable : Loadable h → Loadable given
  timed_loadable ok =
      record {
        few = subst (λ n. n ≤ 32) (sym timed_size) ok.few;
        keys = λ t. subst (All (λ r. r.key < 32)) (sym (timed_operations t)) (ok.keys t);
      }

  pub timed_ends : (u v : ℕ) → u < size h → v < size h → ends_before given u v ≡ ended_before ts u v
  unfolding timed ended_before
  timed_ends u v hu hv = λ i. ltb (times_at bs us h u hu i).until (times_at bs us h v hv i).begin

-- ---- a history without times

-- without its times a transaction is its cabinet and its operations
pub without_at : (h : History) (t : ℕ) → t < size h → get_or (without_times h) t no_transaction ≡ untimed (cabinet_of h t) (operations_of h t)
unfolding timed untils
without_at h t l = times_at [] [] h t l

pub without_none : (h : History) → All Bare h → without_times h ≡ h
unfolding timed untils
without_none h a = times_none h a

-- every transaction begins at 0, so that none ended before another began
abbrev pub Untimed : History → Type 0
Untimed h = (t : ℕ) → begin_of h t ≡ 0

module _ (h : History) (none : Untimed h) where
  pub never : (u v : ℕ) → ends_before h u v ≡ false
  never u v =
      false_eq (ends_before h u v)
      (not_intro (ends_before h u v) (λ t. absurd (omega (arith, ltb→lt (until_of h u) (begin_of h v) t, none v))))

  -- only a cabinet's own order must be kept
  pub untimed_must : (u v : ℕ) → must_precede h u v ≡ sent_before h u v
  untimed_must u v = ap (λ x. sent_before h u v || x) (never u v) ∙ or-false (sent_before h u v)

  -- its known edges, its polygraph and its legal orders are document 01's
  pub untimed_edges : (e u v : ℕ) → edge h e u v ≡ untimed_edge h e u v
  unfolding edge untimed_edge
  untimed_edges e u v = λ i.
      ltb u (size h) && (ltb v (size h)
      && ((ap (λ x. next_of_cabinet h u v || x) (never u v) ∙ or-false (next_of_cabinet h u v)) i
      || (any (λ k. good_read h k v u) (up_to 32) || (start_read h u v || ((eqb u v && bad_read h u) || (eqb e 2 && chain_edge h u v))))))

  pub untimed_polygraph_lem : (e pruning : ℕ) → polygraph h e pruning ≡ untimed_polygraph h e pruning
  unfolding polygraph rows untimed_polygraph
  untimed_polygraph_lem e pruning = λ i.
      let start : Polygraph = record { known = map (λ u. word_of 32 (λ v. untimed_edges e u v i)) (up_to 32); choices = constraints h e } in
      cond (eqb pruning 1) (passes (length (constraints h e)) start) start

  pub untimed_legal_lem : (o : List ℕ) → legal h o ≡ untimed_legal h o
  unfolding legal keeps_precedence untimed_legal
  untimed_legal_lem o = λ i.
      is_order (size h) o
      && (all (λ u. all (λ v. implies (untimed_must u v i) (before o u v)) (up_to (size h))) (up_to (size h)) && every_read_explained h o)

  pub untimed_first_lem : first_legal h ≡ untimed_first h
  unfolding first_legal untimed_first
  untimed_first_lem = λ i. first_of (keep (λ o. untimed_legal_lem o i) (arrangements (size h) (up_to (size h))))

  -- ---- with times given to it

  module _ (ts : Times) where
    abbrev g : History
    g = timed ts h

    same : Alike g h
    same = timed_alike ts h

    -- every pair by the clock is one more edge
    pub timed_edge : (e u v : ℕ) → edge g e u v ≡ (edge h e u v || (ltb u (size h) && (ltb v (size h) && ended_before ts u v)))
    unfolding edge
    timed_edge e u v =
        (λ i.
        ltb u (same.sizes i) && (ltb v (same.sizes i)
        && ((nexts_same g h same i u v || ends_before g u v) || (any (λ k. goods_same g h same i k v u) (up_to 32)
        || (starts_same g h same i u v || ((eqb u v && bads_same g h same i u) || (eqb e 2 && links_same g h same i u v)))))))
        ∙ go (ltb u (size h)) (ltb v (size h)) (next_of_cabinet h u v) (ends_before g u v) (ends_before h u v) (ended_before ts u v)
        (any (λ k. good_read h k v u) (up_to 32) || (start_read h u v || ((eqb u v && bad_read h u) || (eqb e 2 && chain_edge h u v))))
        (λ a b. timed_ends ts h u v (ltb→lt u (size h) a) (ltb→lt v (size h) b)) (never u v)
      where
        join : (n c r : Bool) → ((n || c) || r) ≡ (((n || false) || r) || c)
        join true c r = refl
        join false true true = refl
        join false true false = refl
        join false false true = refl
        join false false false = refl

        go : (a b n x y c r : Bool) → (T a → T b → x ≡ c) → y ≡ false → (a && (b && ((n || x) || r))) ≡ ((a && (b && ((n || y) || r))) || (a && (b && c)))
        go false b n x y c r f q = refl
        go true false n x y c r f q = refl
        go true true n x y c r f q = ap (λ z. (n || z) || r) (f tt tt) ∙ join n c r ∙ ap (λ z. ((n || z) || r) || c) (sym q)

    pub timed_rows : (e : ℕ)
        → rows g e ≡ map (λ u. word_of 32 (λ v. edge h e u v || (ltb u (size h) && (ltb v (size h) && ended_before ts u v)))) (up_to 32)
    unfolding rows
    timed_rows e = λ i. map (λ u. word_of 32 (λ v. timed_edge e u v i)) (up_to 32)

    -- the two parts of what a legal order keeps besides its reads
    kept_parts : (o : List ℕ) → keeps_precedence g o ≡ (keeps_cabinets h o && keeps_clock ts (size h) o)
    unfolding keeps_precedence
    kept_parts o =
        (λ i. all (λ u. all (λ v. implies (sent u v i || ends_before g u v) (before o u v)) (up_to (same.sizes i))) (up_to (same.sizes i)))
        ∙ iff_eq (all (λ u. all (λ v. implies (sent_before h u v || ends_before g u v) (before o u v)) (up_to n)) (up_to n)) (keeps_cabinets h o && keeps_clock ts n o)
        (λ k.
        and_in (keeps_cabinets h o) (keeps_clock ts n o)
        (pairs_in_lem (λ u v. implies (sent_before h u v) (before o u v)) n
        (λ u v hu hv.
        implies_in (sent_before h u v) (before o u v)
        (λ s. implies_out (sent_before h u v || ends_before g u v) (before o u v) (pairs_out both n k u v hu hv) (or_l (sent_before h u v) (ends_before g u v) s))))
        (pairs_in_lem (λ u v. implies (ended_before ts u v) (before o u v)) n
        (λ u v hu hv.
        implies_in (ended_before ts u v) (before o u v)
        (λ c.
        implies_out (sent_before h u v || ends_before g u v) (before o u v) (pairs_out both n k u v hu hv)
        (or_r (sent_before h u v) (ends_before g u v) (eq-T (sym (timed_ends ts h u v hu hv)) c))))))
        (λ x.
        let k = and_l (keeps_cabinets h o) (keeps_clock ts n o) x in
        let c = and_r (keeps_cabinets h o) (keeps_clock ts n o) x in
        pairs_in_lem both n
        (λ u v hu hv.
        implies_in (sent_before h u v || ends_before g u v) (before o u v)
        (λ p.
        ⊎_elim (λ s. implies_out (sent_before h u v) (before o u v) (pairs_out (λ u v. implies (sent_before h u v) (before o u v)) n k u v hu hv) s)
        (λ s.
        implies_out (ended_before ts u v) (before o u v) (pairs_out (λ u v. implies (ended_before ts u v) (before o u v)) n c u v hu hv)
        (eq-T (timed_ends ts h u v hu hv) s))
        (or_out (sent_before h u v) (ends_before g u v) p))))
      where
        n : ℕ
        n = size h

        both : ℕ → ℕ → Bool
        both u v = implies (sent_before h u v || ends_before g u v) (before o u v)

        sent : (u v : ℕ) → sent_before g u v ≡ sent_before h u v
        sent u v = λ i. ltb u v && eqb (same.cabinets u i) (same.cabinets v i)

        pairs_in_lem : (p : ℕ → ℕ → Bool) (n : ℕ) → ((u v : ℕ) → u < n → v < n → T (p u v)) → T (all (λ u. all (p u) (up_to n)) (up_to n))
        pairs_in_lem p n f = all_up_to_in (λ u. all (p u) (up_to n)) n (λ u hu. all_up_to_in (p u) n (λ v hv. f u v hu hv))

        pairs_out : (p : ℕ → ℕ → Bool) (n : ℕ) → T (all (λ u. all (p u) (up_to n)) (up_to n)) → (u v : ℕ) → u < n → v < n → T (p u v)
        pairs_out p n t u v hu hv = all_up_to_out (p u) n (all_up_to_out (λ u. all (p u) (up_to n)) n t u hu) v hv

    -- a legal order: an order that keeps both, with every read explained
    pub timed_legal : (o : List ℕ) → legal g o ≡ (is_order (size h) o && ((keeps_cabinets h o && keeps_clock ts (size h) o) && every_read_explained h o))
    unfolding legal
    timed_legal o = λ i. is_order (same.sizes i) o && (kept_parts o i && explained_same g h same i o)

-- ---- what Load's numbers leave

matching_out : (n : ℕ) (ts : Times) → T (both_of 0 ts || both_of n ts) → Matching n ts
matching_out n ts t = ⊎_elim (λ x. inl (both 0 x)) (λ x. inr (both n x)) (or_out (both_of 0 ts) (both_of n ts) t)
  where
    both : (m : ℕ) → T (both_of m ts) → (length ts.begins ≡ m) × (length ts.ends ≡ m)
    both m t = (
      eqb→eq (length ts.begins) m (and_l (eqb (length ts.begins) m) (eqb (length ts.ends) m) t),
      eqb→eq (length ts.ends) m (and_r (eqb (length ts.begins) m) (eqb (length ts.ends) m) t),
    )

matching_in : (n : ℕ) (ts : Times) → Matching n ts → T (both_of 0 ts || both_of n ts)
matching_in n ts m = ⊎_elim (λ l. or_l (both_of 0 ts) (both_of n ts) (both 0 l)) (λ l. or_r (both_of 0 ts) (both_of n ts) (both n l)) m
  where
    both : (m : ℕ) → (length ts.begins ≡ m) × (length ts.ends ≡ m) → T (both_of m ts)
    both m l = and_in (eqb (length ts.begins) m) (eqb (length ts.ends) m) (eq-eqb l.0) (eq-eqb l.1)

pub good_times : (n : ℕ) (ts : Times) → times_number n ts ≡ 0 → GoodTimes n ts
unfolding times_number
good_times n ts e =
    let fine = in_turn ts in
    let p = need (both_of 0 ts || both_of n ts) 36 (cond (fine && leb ts.drift 3600) 0 38) e in
    let q = (need (fine && leb ts.drift 3600) 37 0 p.1).0 in
    record {
      lengths = matching_out n ts p.0;
      ordered = λ t l.
          leb→le (get_or ts.begins t 0) (get_or ts.ends t 0)
          (all_up_to_out (λ t. leb (get_or ts.begins t 0) (get_or ts.ends t 0)) (length ts.begins) (and_l fine (leb ts.drift 3600) q) t l);
      short = leb→le ts.drift 3600 (and_r fine (leb ts.drift 3600) q);
    }

-- the number by its two tests
module _ (n : ℕ) (ts : Times) where
  abbrev sound : Bool
  sound = in_turn ts && leb ts.drift 3600

  abbrev by_tests : Bool → Bool → ℕ
  by_tests lists fine = cond lists (cond fine 0 38) 37

  number_by : (lists fine : Bool) → (both_of 0 ts || both_of n ts) ≡ lists → sound ≡ fine → times_number n ts ≡ by_tests lists fine
  unfolding times_number
  number_by lists fine p q = ap₂ by_tests p q

  fine_in : ((t : ℕ) → t < length ts.begins → get_or ts.begins t 0 ≤ get_or ts.ends t 0) → ts.drift ≤ 3600 → T sound
  fine_in f low =
      and_in (in_turn ts) (leb ts.drift 3600)
      (all_up_to_in (λ t. leb (get_or ts.begins t 0) (get_or ts.ends t 0)) (length ts.begins) (λ t l. le→leb (get_or ts.begins t 0) (get_or ts.ends t 0) (f t l)))
      (le→leb ts.drift 3600 low)

  -- good times have the number 0
  pub times_good : GoodTimes n ts → times_number n ts ≡ 0
  times_good ok = number_by true true (true_eq (both_of 0 ts || both_of n ts) (matching_in n ts ok.lengths)) (true_eq sound (fine_in ok.ordered ok.short))

  pub times_37 : (Matching n ts → ⊥) → times_number n ts ≡ 37
  unfolding times_number
  times_37 f = number_by false sound (false_eq (both_of 0 ts || both_of n ts) (not_intro (both_of 0 ts || both_of n ts) (λ t. f (matching_out n ts t)))) refl

  pub times_38 : Matching n ts → Backward ts ⊎ (3600 < ts.drift) → times_number n ts ≡ 38
  times_38 m why =
      number_by true false (true_eq (both_of 0 ts || both_of n ts) (matching_in n ts m))
      (false_eq sound
      (not_intro sound
      (λ x.
      ⊎_elim
      (λ (late : Backward ts).
      let low =
      leb→le (get_or ts.begins late.0 0) (get_or ts.ends late.0 0)
      (all_up_to_out (λ t. leb (get_or ts.begins t 0) (get_or ts.ends t 0)) (length ts.begins) (and_l (in_turn ts) (leb ts.drift 3600) x) late.0 late.1) in
      omega (arith, low, late.2))
      (λ (far : 3600 < ts.drift). omega (arith, far, leb→le ts.drift 3600 (and_r (in_turn ts) (leb ts.drift 3600) x)))
      why)))

  -- and there are no others: one of the three holds
  pub times_cases : GoodTimes n ts ⊎ ((Matching n ts → ⊥) ⊎ (Matching n ts × (Backward ts ⊎ (3600 < ts.drift))))
  times_cases =
      ⊎_elim
      (λ (m : T (both_of 0 ts || both_of n ts)).
      ⊎_elim
      (λ (turn : T (in_turn ts)).
      ⊎_elim
      (λ (low : T (leb ts.drift 3600)).
      inl (record {
        lengths = matching_out n ts m;
        ordered = λ t l.
            leb→le (get_or ts.begins t 0) (get_or ts.ends t 0) (all_up_to_out (λ t. leb (get_or ts.begins t 0) (get_or ts.ends t 0)) (length ts.begins) turn t l);
        short = leb→le ts.drift 3600 low;
      }))
      (λ (far : T (not (leb ts.drift 3600))). inr (inr (matching_out n ts m, inr (nleb→lt ts.drift 3600 far))))
      (decide (leb ts.drift 3600)))
      (λ (late : T (not (in_turn ts))).
      let x = not_all_up_to_out (λ t. leb (get_or ts.begins t 0) (get_or ts.ends t 0)) (length ts.begins) late in
      inr (inr (matching_out n ts m, inl (x.0, x.2, nleb→lt (get_or ts.begins x.0 0) (get_or ts.ends x.0 0) x.1))))
      (decide (in_turn ts)))
      (λ (no : T (not (both_of 0 ts || both_of n ts))). inr (inl (λ m. clash (both_of 0 ts || both_of n ts) (matching_in n ts m) no)))
      (decide (both_of 0 ts || both_of n ts))

-- an end with the drift added
until_at : (drift : ℕ) (ends : List ℕ) (t : ℕ) → t < length ends → get_or (map (λ end. end + drift) ends) t 0 ≡ get_or ends t 0 + drift
until_at drift [] t l = absurd (not-suc-le-zero l)
until_at drift (x ∷ xs) zero l = refl
until_at drift (x ∷ xs) (suc t) l = until_at drift xs t (omega arith)

-- with an entry for u, the clock's order is its end plus the drift against v's begin
pub ended_is : (ts : Times) (u v : ℕ) → u < length ts.ends → ended_before ts u v ≡ ltb (get_or ts.ends u 0 + ts.drift) (get_or ts.begins v 0)
unfolding ended_before untils
ended_is ts u v l = ap (λ x. ltb x (get_or ts.begins v 0)) (until_at ts.drift ts.ends u l)

-- a list of begins without an entry for v orders nothing before v
pub ended_past : (ts : Times) (u v : ℕ) → length ts.begins ≤ v → ended_before ts u v ≡ false
unfolding ended_before
ended_past ts u v l =
    false_eq (ended_before ts u v)
    (not_intro (ended_before ts u v)
    (λ t. absurd (omega (arith, ltb→lt (get_or (untils ts) u 0) (get_or ts.begins v 0) t, get_or-eq_default ts.begins 0 {n = v} l))))

-- ---- the times of a log

-- a log has no times
pub log_untimed : (b : List ℕ) → Untimed (history_of b)
unfolding transaction_at
log_untimed b t =
    ⊎_elim (λ l. ap (λ (x : Transaction). x.begin) (history_at b t (ltb→lt t (transactions_in b) l)))
    (λ l. ap (λ (x : Transaction). x.begin) (history_past b t (nltb→le t (transactions_in b) l))) (decide (ltb t (transactions_in b)))

-- two empty lists leave the log's history as it is, whatever the drift
pub timed_none : (b : List ℕ) (drift : ℕ) → timed_history b (times [] [] drift) ≡ history_of b
unfolding timed untils history_of transaction_at
timed_none b drift =
    times_none (history_of b)
    (All-map-in Bare (transaction_at b) (up_to (transactions_in b)) (All-every (λ t. Bare (transaction_at b t)) (λ t. (refl, refl)) (up_to (transactions_in b))))

-- and have the log's number, with a drift that is taken
pub number_none : (b : List ℕ) (drift : ℕ) → drift ≤ 3600 → timed_number b (times [] [] drift) ≡ load_number b
unfolding timed_number
number_none b drift low = ap (λ n. cond (eqb (load_number b) 0) n (load_number b)) (times_good (transactions_in b) (times [] [] drift) good) ∙ last (load_number b)
  where
    good : GoodTimes (transactions_in b) (times [] [] drift)
    good = record { lengths = inl (refl, refl); ordered = λ t l. absurd (not-suc-le-zero l); short = low }

    last : (n : ℕ) → cond (eqb n 0) 0 n ≡ n
    last zero = refl
    last (suc n) = ap (λ b. cond b 0 (suc n)) (eqb-suc-zero n)

module _ (b : List ℕ) (ts : Times) where
  pub timed_log_size : size (timed_history b ts) ≡ transactions_in b
  timed_log_size = timed_size ts (history_of b) ∙ history_size b

  module _ (taken : timed_number b ts ≡ 0) where
    parts : (load_number b ≡ 0) × (times_number (transactions_in b) ts ≡ 0)
    unfolding timed_number
    parts = or_else_out (load_number b) (times_number (transactions_in b) ts) taken

    pub timed_log : load_number b ≡ 0
    timed_log = parts.0

    pub timed_times : GoodTimes (transactions_in b) ts
    timed_times = good_times (transactions_in b) ts parts.1

    -- neither list has more entries than a log has transactions
    pub times_short : (length ts.begins ≤ 32) × (length ts.ends ≤ 32)
    times_short =
        let few = (loaded b timed_log).few in
        ⊎_elim (λ l. (omega (arith, l.0), omega (arith, l.1))) (λ l. (omega (arith, l.0, few), omega (arith, l.1, few))) timed_times.lengths

    pub loadable_timed : Loadable (timed_history b ts)
    loadable_timed = timed_loadable ts (history_of b) (loadable_log b timed_log)

    pub well_formed_timed : Bytes b → T (well_formed (timed_history b ts))
    well_formed_timed bytes = eq-T (sym (timed_formed ts (history_of b))) (well_formed_lem b bytes timed_log)

    -- the order of the clock, in seconds
    pub log_ends : (u v : ℕ) → u < transactions_in b → v < transactions_in b
        → T (ends_before (timed_history b ts) u v) ↔ (get_or ts.ends u 0 + ts.drift < get_or ts.begins v 0)
    log_ends u v hu hv =
        let same = timed_ends ts (history_of b) u v (omega (arith, history_size b)) (omega (arith, history_size b)) in
        ⊎_elim
        (λ l.
        let zero : get_or ts.begins v 0 ≡ 0 = get_or-eq_default ts.begins 0 {n = v} (omega (arith, l.0)) in (
          (λ t. absurd (eq-T (same ∙ ended_past ts u v (omega (arith, l.0))) t)),
          λ t. absurd (omega (arith, t, zero)),
        ))
        (λ l.
        let is = same ∙ ended_is ts u v (omega (arith, l.1)) in (
          (λ t. ltb→lt (get_or ts.ends u 0 + ts.drift) (get_or ts.begins v 0) (eq-T is t)),
          λ t. eq-T (sym is) (lt→ltb (get_or ts.ends u 0 + ts.drift) (get_or ts.begins v 0) t),
        ))
        timed_times.lengths

    -- and a known edge of every encoding
    pub log_edge : (e u v : ℕ) → u < transactions_in b → v < transactions_in b → get_or ts.ends u 0 + ts.drift < get_or ts.begins v 0 → T (edge (timed_history b ts) e u v)
    log_edge e u v hu hv l =
        let h = timed_history b ts in
        (kinds_out h loadable_timed e (λ u v. T (edge h e u v)) (λ u v t. t)).times u v (omega (arith, timed_log_size)) (omega (arith, timed_log_size))
        ((log_ends u v hu hv).1 l)

    -- the known edges in seconds: the log's own, and these
    pub log_edges : (e u v : ℕ) → u < transactions_in b → v < transactions_in b
        → T (edge (timed_history b ts) e u v) ↔ (T (edge (history_of b) e u v) ⊎ (get_or ts.ends u 0 + ts.drift < get_or ts.begins v 0))
    log_edges e u v hu hv = (out, back)
      where
        g : History
        g = history_of b

        below : (t : ℕ) → t < transactions_in b → t < size g
        below t l = omega (arith, history_size b)

        clocked : Bool
        clocked = ltb u (size g) && (ltb v (size g) && ended_before ts u v)

        is : edge (timed_history b ts) e u v ≡ (edge g e u v || clocked)
        is = timed_edge g (log_untimed b) ts e u v

        out : T (edge (timed_history b ts) e u v) → T (edge g e u v) ⊎ (get_or ts.ends u 0 + ts.drift < get_or ts.begins v 0)
        out t =
            ⊎_elim (λ (a : T (edge g e u v)). inl a)
            (λ (c : T clocked). inr ((log_ends u v hu hv).0 (eq-T (sym (timed_ends ts g u v (below u hu) (below v hv))) (and_r (ltb v (size g)) (ended_before ts u v) (and_r (ltb u (size g)) (ltb v (size g) && ended_before ts u v) c)))))
            (or_out (edge g e u v) clocked (eq-T is t))

        back : T (edge g e u v) ⊎ (get_or ts.ends u 0 + ts.drift < get_or ts.begins v 0) → T (edge (timed_history b ts) e u v)
        back (inl a) = eq-T (sym is) (or_l (edge g e u v) clocked a)
        back (inr l) = log_edge e u v hu hv l
