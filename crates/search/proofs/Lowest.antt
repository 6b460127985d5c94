-- Where there is no constraint, the lowest number each time that nothing unplaced precedes: the first order of all. Assumes nothing.
-- The proof keeps the words that `fill` would keep, in which what is placed comes before all else; over the unplaced numbers they have the edges of the words as they were.
use Prim.Native.Nat.{ℕ, ◌+◌, ◌^◌, ◌≤◌, ◌<◌}
use native.Mathlib.Omega.{arith}
use mathlib.Core.Path.{◌≡◌, refl, sym, ap, subst, ◌∙◌}
use mathlib.Core.Bool.{Bool, true, false, not, ◌&&◌}
use mathlib.Core.List.{List, [], map}
use lib.Dec.{T, eqb}
use lib.Bits.{bit_or}
use lib.Count.{count_trailing_zeros}
use lib.ListN.{length, get_or, set, take}
use Rattle.model.specs.Lists.{all, bit, up_to}
use Rattle.model.specs.Polygraph.{has}
use Rattle.model.specs.RowWords.{Within}
use Rattle.model.proofs.Basics.{clash, eq-T, iff_eq, and_l, and_r, and_in, eqb_ne}
use Rattle.model.proofs.Masks.{bit_none}
use Rattle.model.proofs.Words.{length_up_to, get_or_up_to}
use Rattle.graph.proofs.Rows.{bit_below}
use Rattle.search.specs.Constraints.{con_at, is_open}
use Rattle.search.specs.Steps.{PartialOrder, Narrowed}
use Rattle.search.specs.Orders.{Sure, Under, led_row, Placed, Picked, Begins, First}
use Rattle.search.proofs.Leads.{some_under, closed_small, placed, placed_same}
use Rattle.search.proofs.Picks.{Picking, picking_none, candidate, picked_free}
use Rattle.search.proofs.Fills.{Filling, filling_none, filling_open, filling_narrowed, filling_end}

-- no constraint is open among none
none_open : (i : ℕ) → T (not (is_open [] i))
unfolding is_open
none_open i = subst (λ (b : Bool). T (not b)) (sym (bit_none _)) tt

narrowed_none : (c : List ℕ) → PartialOrder c → Narrowed [] 0 c [] c []
narrowed_none c p =
    record {
      grown = record { partial = p; more = λ u v x. x; keeps = λ o r k. r; within = λ m w a. w };
      fewer = λ i x. x;
      settled = λ i x y. absurd (clash (is_open [] i) x (none_open i));
    }

module _ (t : ℕ) (g : List ℕ) where
  pub record Lowest (k set₀ : ℕ) (out : List ℕ) : Type 0 where
    pub small : set₀ < 2 ^ 32
    pub words : List ℕ
    pub filling : Filling t [] 0 g k words [] words set₀ out
    pub more : (x y : ℕ) → T (has g x y) → T (has words x y)
    pub same : (x y : ℕ) → T (bit set₀ x) → T (bit set₀ y) → T (has words x y) → T (has g x y)

  pub lowest_none : (set₀ : ℕ) (out : List ℕ) → set₀ < 2 ^ 32 → Begins t [] 0 g [] g set₀ → length out ≡ 32 → T (all (λ x. eqb x 0) out) → Lowest 0 set₀ out
  lowest_none set₀ out l b e z = record { small = l; words = g; filling = filling_none t [] 0 g [] g set₀ out b e z; more = λ x y h. h; same = λ x y a b h. h }

  -- one place more: the set has the unplaced numbers, m those that nothing unplaced precedes
  module _ (k set₀ : ℕ) (out : List ℕ) (f : Lowest k set₀ out) (h : k < t) (under : ℕ) (un : Under g set₀ 32 under)
      (m : ℕ) (m-small : m < 2 ^ 32) (is_m : (x : ℕ) → bit m x ≡ (bit set₀ x && not (bit under x))) where
    small : set₀ < 2 ^ 32
    small = f.small

    abbrev c : List ℕ
    c = f.words

    partial : PartialOrder c
    partial = f.filling.begun.progress.ready.partial

    now : (r : ℕ) × Under c set₀ 32 r × (r < 2 ^ 32)
    now = some_under c set₀ (closed_small c partial) 32

    -- the same of the set have a predecessor in it
    cand : (x : ℕ) → bit m x ≡ (bit set₀ x && not (bit now.0 x))
    cand x = is_m x ∙ go (bit set₀ x) (λ b. b)
      where
        go : (b : Bool) → (T b → T (bit set₀ x)) → (b && not (bit under x)) ≡ (b && not (bit now.0 x))
        go false s = refl
        go true s =
            ap not (iff_eq (bit under x) (bit now.0 x)
            (λ a. let u = un.sound x a in now.1.whole u.0 x (bit_below set₀ u.0 small u.1) u.1 (f.more u.0 x u.2))
            (λ a. let u = now.1.sound x a in un.whole u.0 x (bit_below set₀ u.0 small u.1) u.1 (f.same u.0 x u.1 (s tt) u.2)))

    twice : (x : ℕ) → bit m x ≡ (bit m x && not (bit now.0 x))
    twice x = iff_eq (bit m x) (bit m x && not (bit now.0 x)) (λ a. and_in (bit m x) (not (bit now.0 x)) a (and_r (bit set₀ x) (not (bit now.0 x)) (eq-T (cand x) a))) (and_l (bit m x) (not (bit now.0 x)))

    abbrev v : ℕ
    v = count_trailing_zeros 32 m

    picking : Picking t [] 0 c [] c set₀ now.0 now.0 m v m
    picking =
        let b = f.filling.begun in
        picking_none t [] 0 c [] c b.progress set₀ small (λ x a. (b.inside x a).0) (filling_open t [] 0 g k c [] c set₀ out f.filling h) now.0 now.0 now.1 now.1 m m-small cand m m-small twice

    chosen : (v < 32) × T (bit set₀ v) × T (not (bit now.0 v)) × (v < t)
    chosen = candidate t [] 0 c [] c set₀ now.0 now.0 m v m picking v picking.free_in

    pub lowest_small : v < 32
    lowest_small = chosen.0

    module _ (set' : ℕ) (small' : set' < 2 ^ 32) (cleared : (y : ℕ) → bit set' y ≡ (bit set₀ y && not (eqb y v))) where
      abbrev d : List ℕ
      d = map (λ j. led_row (bit_or set' now.0) v j (get_or c j 0)) (up_to 32)

      long : length d ≡ 32
      long = length_up_to (λ j. led_row (bit_or set' now.0) v j (get_or c j 0)) 32

      done : (j : ℕ) → j < 32 → get_or d j 0 ≡ led_row (bit_or set' now.0) v j (get_or c j 0)
      done j l = get_or_up_to (λ j. led_row (bit_or set' now.0) v j (get_or c j 0)) 0 32 j l

      here : Placed c set₀ v d
      here = placed c partial set₀ now.0 now.1 v chosen.0 chosen.1 chosen.2 set' cleared small' now.2 small d long done

      picked : Picked t [] 0 c set₀ v d d
      picked = picked_free t [] 0 c [] c set₀ now.0 now.0 m v m picking (omega arith) d d here here

      pub lowest_next_lem : Lowest (k + 1) set' (set out k v)
      lowest_next_lem =
          record {
            small = small';
            words = d;
            filling = filling_narrowed t [] 0 g k c [] c set₀ out f.filling h v d d picked d [] (narrowed_none d here.partial) set' cleared;
            more = λ x y a. here.more x y (f.more x y a);
            same = λ x y a b e.
                let p = eq-T (cleared x) a in
                let q = eq-T (cleared y) b in
                let i = and_l (bit set₀ x) (not (eqb x v)) p in
                f.same x y i (and_l (bit set₀ y) (not (eqb y v)) q)
                (placed_same c partial set₀ now.0 now.1 v chosen.0 chosen.1 chosen.2 set' cleared small' now.2 small d long done x y i (eqb_ne {m = x} {n = v} (and_r (bit set₀ x) (not (eqb x v)) p)) e);
          }

  pub lowest_end : (k set₀ : ℕ) (out : List ℕ) → Lowest k set₀ out → k ≡ t → First t [] 0 g out
  lowest_end k set₀ out f e = filling_end t [] 0 g k f.words [] f.words set₀ out f.filling e

-- ---- constraints of which every order has one side change nothing

pub begins_none : (t : ℕ) → t ≤ 32 → (g : List ℕ) → PartialOrder g → Within g t → (all : ℕ) → ((x : ℕ) → T (bit all x) → x < t) → ((x : ℕ) → x < t → T (bit all x)) → Begins t [] 0 g [] g all
begins_none t few g p wi all i w =
    record {
      progress =
          record {
            few = few;
            aimed = λ i h. absurd (omega arith);
            ready = record { given = record { there = omega arith; few = omega arith; nodes = λ i h. absurd (omega arith) }; partial = p; fit = λ i x. absurd (clash (is_open [] i) x (none_open i)) };
            settled = λ i h. absurd (omega arith);
            within = wi;
            witness = record { partial = p; within = wi; back = λ o y r. r; sure = λ i h. absurd (omega arith) };
          };
      inside = i;
      whole = w;
    }

pub first_sure : (t : ℕ) (w : List ℕ) (n : ℕ) (g out : List ℕ) → ((i : ℕ) → i < n → Sure t g (con_at w i)) → First t [] 0 g out → First t w n g out
first_sure t w n g out s f =
    let y = f.solves in
    record {
      long = f.long;
      solves = record { order = y.order; known = y.known; keeps = λ i h. s i h (take t out) y.order y.known };
      lowest = λ o x. f.lowest o (record { order = x.order; known = x.known; keeps = λ i h. absurd (omega arith) });
      zeros = f.zeros;
    }
