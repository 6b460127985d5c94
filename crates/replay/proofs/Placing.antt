-- The places of an order's numbers, and each cabinet's own order and that of the office clock by them. Assumes nothing.
use Prim.Native.Nat.{ℕ, zero, suc, ◌+◌, ◌≤◌, ◌<◌}
use native.Mathlib.Omega.{arith}
use native.Mathlib.Nat.{not-suc-le-zero}
use mathlib.Core.Path.{◌≡◌, refl, sym, ap, ap₂, subst, ◌∙◌}
use mathlib.Core.Logic.{⊎_elim, ◌≢◌}
use mathlib.Core.Bool.{Bool, ◌&&◌}
use mathlib.Core.List.{List, [], ◌∷◌}
use lib.Dec.{T, ltb, eqb}
use lib.ListN.{length, get_or, set}
use lib.Seq.{get_or-set_same, get_or-set_other}
use Rattle.model.specs.Lists.{implies, all, up_to, count, place}
use Rattle.model.specs.History.{size, cabinet_of, is_order, before, sent_before}
use Rattle.model.specs.Log.{transactions_in, load_number, history_of}
use Rattle.model.specs.Times.{Times, ended_before, keeps_clock, timed_number}
use Rattle.model.specs.Untimed.{keeps_cabinets}
use Rattle.model.proofs.Basics.{same?, true_eq, false_eq, not_intro, all_up_to_in}
use Rattle.model.proofs.Places.{Once, once_tail, Order, order_out, order_once, order_place, order_length, count_here, count_there, place_here, place_there}
use Rattle.model.proofs.Loaded.{loaded, history_size}
use Rattle.model.proofs.Times.{ended_is, ended_past, timed_times}
use Rattle.replay.specs.Orders.{Ordered, Places}
use Rattle.replay.specs.Steps.{kept_by, stands_after, clock_kept}
use Rattle.replay.proofs.Alls.{all_up_to_same}
use Rattle.replay.proofs.Ordering.{small_at}

-- ---- places and elements

pub at_place : (t : ℕ) (o : List ℕ) → place t o < length o → get_or o (place t o) 0 ≡ t
at_place t [] l = absurd (not-suc-le-zero l)
at_place t (x ∷ o) l =
    ⊎_elim (λ (e : x ≡ t). ap (λ i. get_or (x ∷ o) i 0) (place_here x t o e) ∙ e)
    (λ (f : x ≢ t). ap (λ i. get_or (x ∷ o) i 0) (place_there x t o f) ∙ at_place t o (omega (arith, place_there x t o f))) (same? x t)

count_at_lem : (o : List ℕ) (i : ℕ) → i < length o → 1 ≤ count (get_or o i 0) o
count_at_lem [] i l = absurd (not-suc-le-zero l)
count_at_lem (x ∷ o) zero l = omega (arith, count_here x x o refl)
count_at_lem (x ∷ o) (suc i) l =
    ⊎_elim (λ (e : x ≡ get_or o i 0). omega (arith, count_here x (get_or o i 0) o e))
    (λ (f : x ≢ get_or o i 0). omega (arith, count_there x (get_or o i 0) o f, count_at_lem o i (omega arith))) (same? x (get_or o i 0))

pub place_at : (o : List ℕ) → Once o → (i : ℕ) → i < length o → place (get_or o i 0) o ≡ i
place_at [] once i l = absurd (not-suc-le-zero l)
place_at (x ∷ o) once zero l = place_here x x o refl
place_at (x ∷ o) once (suc i) l =
    place_there x (get_or o i 0) o (λ e. omega (arith, once (get_or o i 0), count_here x (get_or o i 0) o e, count_at_lem o i (omega arith)))
    ∙ ap suc (place_at o (once_tail x o once) i (omega arith))

-- ---- the loop that fills the places

-- the numbers of the first i places have theirs
pub record Upto (o r : List ℕ) (i : ℕ) : Type 0 where
  pub at : (t : ℕ) → place t o < i → get_or r t 0 ≡ place t o

pub upto_none : (o r : List ℕ) → Upto o r 0
upto_none o r = record { at = λ t l. absurd (not-suc-le-zero l) }

pub upto_next : (o r : List ℕ) (i : ℕ) → Once o → i < length o → get_or o i 0 < length r → Upto o r i → Upto o (set r (get_or o i 0) i) (i + 1)
upto_next o r i once l m u = record {
  at = λ t k.
      ⊎_elim (λ (e : get_or o i 0 ≡ t). subst (λ x. get_or (set r (get_or o i 0) i) x 0 ≡ place x o) e (get_or-set_same r (get_or o i 0) i 0 m ∙ sym (place_at o once i l)))
      (λ (f : get_or o i 0 ≢ t). get_or-set_other r (get_or o i 0) t i 0 (λ e. f (sym e)) ∙ u.at t (less t k f)) (same? (get_or o i 0) t);
}
  where
    less : (t : ℕ) → place t o < i + 1 → get_or o i 0 ≢ t → place t o < i
    less t k f =
        let g : place t o ≢ i = λ e. f (ap (λ j. get_or o j 0) (sym e) ∙ at_place t o (omega arith)) in
        omega arith

pub upto_all : (o r : List ℕ) (i : ℕ) → i ≡ length o → Upto o r i → Places o r
upto_all o r i e u = record { at = λ t l. u.at t (omega arith) }

-- ---- each cabinet's own order

-- nothing before u in the contents must stand behind it
pub kept_back : (b places : List ℕ) (u v : ℕ) → v ≤ u → T (kept_by b places u v)
unfolding kept_by
kept_back b places u v l =
    subst (λ x. T (implies (x && eqb (cabinet_of (history_of b) u) (cabinet_of (history_of b) v)) (ltb (get_or places u 0) (get_or places v 0))))
    (sym (false_eq (ltb u v) (not_intro (ltb u v) (λ t. omega (arith, lib.Dec.ltb→lt u v t))))) tt

pub keeps_is : (b o places : List ℕ) → Order (transactions_in b) o → Places o places
    → all (λ u. all (kept_by b places u) (up_to (transactions_in b))) (up_to (transactions_in b)) ≡ keeps_cabinets (history_of b) o
unfolding kept_by
keeps_is b o places r p =
    all_up_to_same (λ u. all (kept_by b places u) (up_to (transactions_in b))) (λ u. all (λ v. implies (sent_before (history_of b) u v) (before o u v)) (up_to (transactions_in b))) (transactions_in b)
    (λ u hu.
    all_up_to_same (kept_by b places u) (λ v. implies (sent_before (history_of b) u v) (before o u v)) (transactions_in b)
    (λ v hv. ap₂ (λ x y. implies (sent_before (history_of b) u v) (ltb x y)) (p.at u (inside u hu)) (p.at v (inside v hv))))
    ∙ ap (λ n. all (λ u. all (λ v. implies (sent_before (history_of b) u v) (before o u v)) (up_to n)) (up_to n)) (sym (history_size b))
  where
    inside : (t : ℕ) → t < transactions_in b → place t o < length o
    inside t l = omega (arith, order_place r t l, order_length r)

-- ---- the order of the office clock

module _ (b : List ℕ) (ts : Times) (taken : timed_number b ts ≡ 0) (o places : List ℕ) (r : Order (transactions_in b) o) (p : Places o places) where
  -- the model's test of u and v, and the code's of those that have times
  abbrev by_clock : ℕ → ℕ → Bool
  by_clock u v = implies (ended_before ts u v) (before o u v)

  abbrev n : ℕ
  n = transactions_in b

  pair_is : (u v : ℕ) → u < length ts.ends → u < n → v < n → stands_after (get_or ts.ends u 0 + ts.drift) (get_or ts.begins v 0) places u v ≡ by_clock u v
  unfolding stands_after
  pair_is u v has hu hv =
      ap₂ (λ x y. implies x y) (sym (ended_is ts u v has)) (ap₂ ltb (p.at u (inside u hu)) (p.at v (inside v hv)))
    where
      inside : (t : ℕ) → t < n → place t o < length o
      inside t l = omega (arith, order_place r t l, order_length r)

  none : length ts.begins ≡ 0 → (u v : ℕ) → T (by_clock u v)
  none e u v = subst (λ x. T (implies x (before o u v))) (sym (ended_past ts u v (omega (arith, e)))) tt

  pub clock_is : all (clock_kept ts places) (up_to (length ts.ends)) ≡ keeps_clock ts (size (history_of b)) o
  unfolding clock_kept
  clock_is =
      ⊎_elim
      (λ (z : (length ts.begins ≡ 0) × (length ts.ends ≡ 0)).
      ap (λ m. all (clock_kept ts places) (up_to m)) z.1
      ∙ sym (true_eq (all (λ u. all (by_clock u) (up_to n)) (up_to n)) (all_up_to_in (λ u. all (by_clock u) (up_to n)) n (λ u hu. all_up_to_in (by_clock u) n (λ v hv. none z.0 u v)))))
      (λ (z : (length ts.begins ≡ n) × (length ts.ends ≡ n)).
      ap (λ m. all (clock_kept ts places) (up_to m)) z.1
      ∙ all_up_to_same (clock_kept ts places) (λ u. all (by_clock u) (up_to n)) n
      (λ u hu.
      ap (λ m. all (λ v. stands_after (get_or ts.ends u 0 + ts.drift) (get_or ts.begins v 0) places u v) (up_to m)) z.0
      ∙ all_up_to_same (λ v. stands_after (get_or ts.ends u 0 + ts.drift) (get_or ts.begins v 0) places u v) (by_clock u) n
      (λ v hv. pair_is u v (omega (arith, hu, z.1)) hu hv)))
      (timed_times b ts taken).lengths
      ∙ ap (λ m. all (λ u. all (by_clock u) (up_to m)) (up_to m)) (sym (history_size b))

-- ---- an order of a log's transactions

-- each of its numbers is one
pub order_in_log : (b o : List ℕ) → T (is_order (transactions_in b) o) → (i : ℕ) → i < length o → get_or o i 0 < transactions_in b
order_in_log b o t i l = small_at (transactions_in b) o (order_out (transactions_in b) o t).small i l

pub order_places : (b o : List ℕ) → load_number b ≡ 0 → T (is_order (transactions_in b) o) → Ordered o
order_places b o ok t =
    let order = order_out (transactions_in b) o t in
    record {
      few = omega (arith, order_length order, (loaded b ok).few);
      once = order_once order;
      small = λ i l. omega (arith, order_in_log b o t i l, (loaded b ok).few);
    }
