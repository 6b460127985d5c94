-- The candidates for a place: which can't come next, and what is known of the one that is taken. Assumes nothing.
use Prim.Native.Nat.{ℕ, zero, suc, ◌^◌, ◌≤◌, ◌<◌}
use native.Mathlib.Omega.{arith}
use native.Mathlib.Nat.{not-suc-le-zero}
use mathlib.Core.Path.{◌≡◌, sym, subst}
use mathlib.Core.Logic.{inl, inr, ⊎_elim, ◌≢◌}
use mathlib.Core.Bool.{Bool, not, ◌&&◌}
use mathlib.Core.List.{List}
use lib.Dec.{T, eqb, eqb→eq, ltb, ltb→lt, nltb→le}
use lib.Count.{count_trailing_zeros}
use Rattle.model.specs.Lists.{implies, any, up_to, bit, place}
use Rattle.model.specs.History.{is_order}
use Rattle.model.specs.Polygraph.{has, RespectsKnown, RespectsSide, RespectsOne}
use Rattle.model.specs.RowWords.{Within, side_in, held}
use Rattle.model.proofs.Basics.{clash, decide, same?, eq-T, not_intro, and_l, and_r, and_in, eq-eqb, ne_eqb, implies_out, all_up_to_out, any_up_to_out, any_up_to_in}
use Rattle.model.proofs.Masks.{bit_none, bit_one}
use Rattle.model.proofs.Places.{order_out, order_total}
use Rattle.model.proofs.Loops.{any_bit}
use Rattle.model.proofs.Topology.{topological}
use Rattle.model.proofs.Sides.{cyclic_out}
use Rattle.search.specs.Constraints.{con_at, is_open, Keeps, AimedAll}
use Rattle.search.specs.Steps.{Ready, Chosen, Hopeless}
use Rattle.model.specs.declared.Constraint.{Constraint}
use Rattle.search.specs.Orders.{Sure, opposed, Under, Placed, Witness, Progress, Never, Below, Picked}
use Rattle.graph.proofs.Rows.{bit_below}
use Rattle.search.proofs.Words.{Scan, scan_before, scan_none, scan_low, scan_next, low_set}
use Rattle.search.proofs.Steps.{closed_tidy, held_out}

-- ---- an order that respects words in which a constraint is held respects one of its sides

pub held_one : (t : ℕ) → t ≤ 32 → (w : List ℕ) (n : ℕ) → AimedAll t w n → (d o : List ℕ) → RespectsKnown o d → (i : ℕ) → i < n → T (held d (con_at w i)) → RespectsOne o (con_at w i)
unfolding side_in
held_one t few w n aimed d o r i h x =
    let k = con_at w i in
    let m = aimed i h in
    let side : (from to : ℕ) → to < t → T (side_in d from to) → RespectsSide o from to =
    λ from to l y u hu b. r u to hu (omega arith) (implies_out (bit from u) (has d u to) (all_up_to_out (λ u. implies (bit from u) (has d u to)) 32 y u hu) b) in
    ⊎_elim (λ y. inl (side k.fromA k.toA m.toA-small y)) (λ y. inr (side k.fromB k.toB m.toB-small y)) (held_out d k x)

-- so it is sure; what is sure stays so as edges are added; and what is opposed is sure
pub held_sure : (t : ℕ) → t ≤ 32 → (w : List ℕ) (n : ℕ) → AimedAll t w n → (d : List ℕ) (i : ℕ) → i < n → T (held d (con_at w i)) → Sure t d (con_at w i)
held_sure t few w n aimed d i h x o y r = held_one t few w n aimed d o r i h x

pub sure_more : (t : ℕ) (c d : List ℕ) (k : Constraint) → ((u v : ℕ) → T (has c u v) → T (has d u v)) → Sure t c k → Sure t d k
sure_more t c d k m s o y r = s o y (λ u v hu hv x. r u v hu hv (m u v x))

pub opposed_sure : (t : ℕ) (c : List ℕ) (k : Constraint) → k.toA < t → k.toB < t → T (opposed k) → Sure t c k
unfolding opposed
opposed_sure t c k ha hb x o y r =
    let edges = eqb k.fromA (2 ^ k.toB) && eqb k.fromB (2 ^ k.toA) in
    let both = and_l edges (not (eqb k.toA k.toB)) x in
    let apart = and_r edges (not (eqb k.toA k.toB)) x in
    let one : (from to other : ℕ) → T (eqb from (2 ^ other)) → place other o < place to o → RespectsSide o from to =
    λ from to other e l s hs b. subst (λ (z : ℕ). place z o < place to o) (sym (eqb→eq s other (eq-T (bit_one other s) (subst (λ (z : ℕ). T (bit z s)) (eqb→eq from (2 ^ other) e) b)))) l in
    ⊎_elim (λ l. inr (one k.fromB k.toB k.toA (and_r (eqb k.fromA (2 ^ k.toB)) (eqb k.fromB (2 ^ k.toA)) both) l))
    (λ l. inl (one k.fromA k.toA k.toB (and_l (eqb k.fromA (2 ^ k.toB)) (eqb k.fromB (2 ^ k.toA)) both) l))
    (order_total (order_out t o y) k.toA k.toB ha (λ e. clash (eqb k.toA k.toB) (eq-eqb e) apart))

-- the order of a witness
pub witness_order : (t : ℕ) → t ≤ 32 → (w : List ℕ) (n : ℕ) → AimedAll t w n → (c sel : List ℕ) → Witness t w n c sel → (o : List ℕ) × T (is_order t o) × RespectsKnown o sel × Keeps o w n
witness_order t few w n aimed c sel x =
    let o = topological sel t few x.within (cyclic_out sel x.partial.acyclic (closed_tidy sel x.partial.closed)) in
    (o.0, o.1, o.2, λ i h. x.sure i h o.0 o.1 o.2)

-- ---- the lowest by a measure

least : (t : ℕ) (p : ℕ → Bool) (f : ℕ → ℕ) → (x : ℕ) → x < t → T (p x) → (y : ℕ) × (y < t) × T (p y) × ((z : ℕ) → z < t → T (p z) → f y ≤ f z)
least zero p f x h a = absurd (not-suc-le-zero h)
least (suc t) p f x h a =
    ⊎_elim
    (λ (b : T (any p (up_to t))).
    let w = any_up_to_out p t b in
    let y = least t p f w.0 w.2 w.1 in
    ⊎_elim
    (λ c.
    ⊎_elim (λ (l : T (ltb (f t) (f y.0))). at_top c (λ z hz e. omega (arith, ltb→lt (f t) (f y.0) l, y.3 z hz e)))
    (λ l. (
      y.0,
      omega (arith, y.1),
      y.2,
      λ z hz e. ⊎_elim (λ (i : z ≡ t). subst (λ (k : ℕ). f y.0 ≤ f k) (sym i) (nltb→le (f t) (f y.0) l)) (λ (i : z ≢ t). y.3 z (omega arith) e) (same? z t),
    ))
    (decide (ltb (f t) (f y.0))))
    (λ c. (
      y.0,
      omega (arith, y.1),
      y.2,
      λ z hz e. ⊎_elim (λ (i : z ≡ t). absurd (clash (p t) (subst (λ (k : ℕ). T (p k)) i e) c)) (λ (i : z ≢ t). y.3 z (omega arith) e) (same? z t),
    ))
    (decide (p t)))
    (λ b.
    let none : (z : ℕ) → z < t → T (p z) → ⊥ = λ z hz e. clash (any p (up_to t)) (any_up_to_in p t z hz e) b in
    at_top (⊎_elim (λ (i : x ≡ t). subst (λ (k : ℕ). T (p k)) i a) (λ (i : x ≢ t). absurd (none x (omega arith) a)) (same? x t)) (λ z hz e. absurd (none z hz e)))
    (decide (any p (up_to t)))
  where
    at_top : T (p t) → ((z : ℕ) → z < t → T (p z) → f t ≤ f z) → (y : ℕ) × (y < suc t) × T (p y) × ((z : ℕ) → z < suc t → T (p z) → f y ≤ f z)
    at_top c k = (
      t,
      omega arith,
      c,
      λ z hz e. ⊎_elim (λ (i : z ≡ t). subst (λ (q : ℕ). f t ≤ f q) (sym i) (omega arith)) (λ (i : z ≢ t). k z (omega arith) e) (same? z t),
    )

-- ---- some number can come next in the selection too

module _ (t : ℕ) (w : List ℕ) (n : ℕ) (c l sel : List ℕ) (g : Progress t w n c l sel) (set : ℕ) (small : set < 2 ^ 32) (low : Below set t) where
  -- nothing of the set precedes the first of the set in an order that respects the words
  first_under : (d : List ℕ) (r : ℕ) → Within d t → Under d set 32 r → (o : List ℕ) → RespectsKnown o d → (x : ℕ) → ((z : ℕ) → z < t → T (bit set z) → place x o ≤ place z o) → T (not (bit r x))
  first_under d r wi u o k x f =
      not_intro (bit r x)
      (λ b.
      let z = u.sound x b in
      let h = wi z.0 x z.2 in
      let a = k z.0 x (omega (arith, h.0, g.few)) (omega (arith, h.1, g.few)) z.2 in
      omega (arith, f z.0 (low z.0 z.1) z.1))

  some_free : set ≢ 0 → (under over : ℕ) → Under c set 32 under → Under sel set 32 over → (m : ℕ) → ((x : ℕ) → bit m x ≡ (bit set x && not (bit under x)))
      → (r : ℕ) → ((x : ℕ) → bit r x ≡ (bit m x && not (bit over x))) → r ≢ 0
  some_free ne under over u v m is_m r is-r e =
      let k = witness_order t g.few w n g.aimed c sel g.witness in
      let o = k.0 in
      let z = any_up_to_out (bit set) 32 (eq-T (sym (any_bit 32 set small)) (ne_eqb {m = set} {n = 0} ne)) in
      let y = least t (bit set) (λ x. place x o) z.0 (low z.0 z.1) z.1 in
      let x = y.0 in
      let a = first_under c under g.within u o (g.witness.back o k.1 k.2) x y.3 in
      let b = first_under sel over g.witness.within v o k.2 x y.3 in
      let t = eq-T (sym (is-r x)) (and_in (bit m x) (not (bit over x)) (eq-T (sym (is_m x)) (and_in (bit set x) (not (bit under x)) y.2 a)) b) in
      subst (λ (q : Bool). T q) (bit_none x) (subst (λ (q : ℕ). T (bit q x)) e t)

  -- ---- those that something unplaced precedes can't come next
  never_under : (under : ℕ) → Under c set 32 under → (v : ℕ) → T (bit under v) → Never w n c set v
  never_under under u v x o k y f =
      let z = u.sound v x in
      let a = z.0 in
      let h = closed_tidy c g.ready.partial.closed a v z.2 in
      let b = k a v h.0 h.1 z.2 in
      ⊎_elim (λ (i : a ≡ v). let q = subst (λ (j : ℕ). place j o < place v o) i b in omega arith)
      (λ (i : a ≢ v). let q = f a h.0 z.1 i in omega arith) (same? a v)

  -- ---- a candidate that is placed
  module _ (v : ℕ) (hv : v < t) (d : List ℕ) (p : Placed c set v d) where
    ready_after : Ready w n d l
    ready_after = record { given = g.ready.given; partial = p.partial; fit = g.ready.fit }

    within_after : Within d t
    within_after = p.within t g.within hv low

    -- a walk says no
    walk_never : Hopeless w n d → Never w n c set v
    walk_never x o k y f = x o (p.keeps o k f) y

    -- a walk says yes
    walk_witness : (e : List ℕ) → Chosen w n d l e → Witness t w n d e
    walk_witness e z =
        record {
          partial = z.partial;
          within = z.within t within_after g.aimed;
          back = λ o y r a b ha hb q. r a b ha hb (z.more a b q);
          sure = λ i h.
              ⊎_elim (λ q. held_sure t g.few w n g.aimed e i h (z.held i q)) (λ q. sure_more t c e (con_at w i) (λ a b y. z.more a b (p.more a b y)) (g.settled i h q)) (decide (is_open l i));
        }

    -- the last selection allows it
    free_witness : (e : List ℕ) → Placed sel set v e → Witness t w n d e
    free_witness e y =
        let x = g.witness in
        record {
          partial = y.partial;
          within = y.within t x.within hv low;
          back = λ o s k.
              p.keeps o (x.back o s (λ a b ha hb z. k a b ha hb (y.more a b z)))
              (λ a ha b i. k v a (omega (arith, g.few)) ha (y.first a b i));
          sure = λ i h. sure_more t sel e (con_at w i) y.more (x.sure i h);
        }

-- ---- the loop over the candidates: m has those that are left, `free` the lowest that the selection allows too

pub record Picking (t : ℕ) (w : List ℕ) (n : ℕ) (c l sel : List ℕ) (set under over cand free m : ℕ) : Type 0 where
  pub progress : Progress t w n c l sel
  pub small : set < 2 ^ 32
  pub low : Below set t
  pub un : Under c set 32 under
  pub ov : Under sel set 32 over
  pub is_cand : (x : ℕ) → bit cand x ≡ (bit set x && not (bit under x))
  pub free_in : T (bit cand free)
  pub free_over : T (not (bit over free))
  pub scan : Scan (Never w n c set) cand m
  pub stays : T (bit m free)

pub picking_none : (t : ℕ) (w : List ℕ) (n : ℕ) (c l sel : List ℕ) → Progress t w n c l sel → (set : ℕ) → set < 2 ^ 32 → Below set t → set ≢ 0 → (under over : ℕ) → Under c set 32 under → Under sel set 32 over
    → (cand : ℕ) → cand < 2 ^ 32 → ((x : ℕ) → bit cand x ≡ (bit set x && not (bit under x))) → (r : ℕ) → r < 2 ^ 32 → ((x : ℕ) → bit r x ≡ (bit cand x && not (bit over x)))
    → Picking t w n c l sel set under over cand (count_trailing_zeros 32 r) cand
picking_none t w n c l sel g set small low ne under over u v cand cand-small is_cand r r_small is-r =
    let x = count_trailing_zeros 32 r in
    let b = eq-T (is-r x) (low_set r (some_free t w n c l sel g set small low ne under over u v cand is_cand r is-r) r_small) in
    record {
      progress = g;
      small = small;
      low = low;
      un = u;
      ov = v;
      is_cand = is_cand;
      free_in = and_l (bit cand x) (not (bit over x)) b;
      free_over = and_r (bit cand x) (not (bit over x)) b;
      scan = scan_none (Never w n c set) cand cand-small;
      stays = and_l (bit cand x) (not (bit over x)) b;
    }

module _ (t : ℕ) (w : List ℕ) (n : ℕ) (c l sel : List ℕ) (set under over cand free m : ℕ) (p : Picking t w n c l sel set under over cand free m) where
  -- what a candidate is
  pub candidate : (x : ℕ) → T (bit cand x) → (x < 32) × T (bit set x) × T (not (bit under x)) × (x < t)
  candidate x b =
      let z = eq-T (p.is_cand x) b in
      let m = and_l (bit set x) (not (bit under x)) z in
      (bit_below set x p.small m, m, and_r (bit set x) (not (bit under x)) z, p.low x m)

  pub left_over : m ≢ 0
  left_over e = subst (λ (q : Bool). T q) (bit_none free) (subst (λ (q : ℕ). T (bit q free)) e p.stays)

  -- the lowest that is left
  lowest_in : T (bit m (count_trailing_zeros 32 m))
  lowest_in = scan_low (Never w n c set) cand m p.scan left_over

  pub lowest_cand : T (bit cand (count_trailing_zeros 32 m))
  lowest_cand = p.scan.part (count_trailing_zeros 32 m) lowest_in

  -- those below it can't come next
  lower_never : (v : ℕ) → v ≤ count_trailing_zeros 32 m → (x : ℕ) → x < v → T (bit set x) → Never w n c set x
  lower_never v h x k b =
      ⊎_elim (λ q. never_under t w n c l sel p.progress set p.small p.low under p.un x q)
      (λ q. scan_before (Never w n c set) cand m p.scan x (omega arith) (eq-T (sym (p.is_cand x)) (and_in (bit set x) (not (bit under x)) b q)))
      (decide (bit under x))

  -- the selection allows it
  pub picked_free : free ≤ count_trailing_zeros 32 m → (d e : List ℕ) → Placed c set free d → Placed sel set free e → Picked t w n c set free d e
  picked_free h d e x y =
      let k = candidate free p.free_in in
      record {
        member = k.1;
        placed = x;
        witness = free_witness t w n c l sel p.progress set p.small p.low free k.3 d x e y;
        lowest = lower_never free h;
      }

  module _ (d : List ℕ) (x : Placed c set (count_trailing_zeros 32 m) d) where
    pub picking_ready : Ready w n d l
    picking_ready = ready_after t w n c l sel p.progress set p.small p.low (count_trailing_zeros 32 m) (candidate (count_trailing_zeros 32 m) lowest_cand).3 d x

    -- a walk says yes
    pub picked_walk : (e : List ℕ) → Chosen w n d l e → Picked t w n c set (count_trailing_zeros 32 m) d e
    picked_walk e y =
        let k = candidate (count_trailing_zeros 32 m) lowest_cand in
        record {
          member = k.1;
          placed = x;
          witness = walk_witness t w n c l sel p.progress set p.small p.low (count_trailing_zeros 32 m) k.3 d x e y;
          lowest = lower_never (count_trailing_zeros 32 m) (omega arith);
        }

    -- a walk says no
    pub picking_next : count_trailing_zeros 32 m < free → Hopeless w n d → (r : ℕ) → r < m
        → ((b : ℕ) → bit r b ≡ (bit m b && not (eqb b (count_trailing_zeros 32 m)))) → Picking t w n c l sel set under over cand free r
    picking_next h y r less is-r =
        let k = candidate (count_trailing_zeros 32 m) lowest_cand in
        let ne : free ≢ count_trailing_zeros 32 m = omega arith in
        record {
          progress = p.progress;
          small = p.small;
          low = p.low;
          un = p.un;
          ov = p.ov;
          is_cand = p.is_cand;
          free_in = p.free_in;
          free_over = p.free_over;
          scan = scan_next (Never w n c set) cand m p.scan left_over (walk_never t w n c l sel p.progress set p.small p.low (count_trailing_zeros 32 m) k.3 d x y) r less is-r;
          stays = eq-T (sym (is-r free)) (and_in (bit m free) (not (eqb free (count_trailing_zeros 32 m))) p.stays (ne_eqb {m = free} {n = count_trailing_zeros 32 m} ne));
        }
