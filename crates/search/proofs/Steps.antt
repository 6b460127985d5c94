-- Taking a side over closed row words, and how the steps of pruning go together. Assumes nothing.
use Prim.Native.Nat.{ℕ, ◌+◌, ◌*◌, ◌<◌, ◌≤◌}
use native.Mathlib.Omega.{arith}
use mathlib.Core.Path.{◌≡◌, refl, sym, ap₂, subst, ◌∙◌}
use mathlib.Core.Logic.{◌⊎◌, inl, inr, ⊎_elim}
use mathlib.Core.Bool.{Bool, true, false, not, ◌&&◌, ◌||◌}
use mathlib.Core.List.{List}
use lib.Dec.{T, eqb}
use lib.ListN.{length}
use Rattle.model.specs.Lists.{implies, bit}
use Rattle.model.specs.Polygraph.{has, with_side, reach, closed_off, Way, Acyclic, RespectsKnown, RespectsSide}
use Rattle.model.specs.declared.Constraint.{Constraint}
use Rattle.model.specs.RowWords.{Tidy, Within, side_in, held}
use Rattle.model.proofs.Basics.{clash, not_intro, true_eq, and_in, or_out, or_l, or_r, eq-eqb, implies_out, implies_in, all_up_to_out, all_up_to_in, any_up_to_in}
use Rattle.model.proofs.Reach.{way_join, way_small, way_reach, reach_way, reach_old}
use Rattle.model.proofs.Pruning.{way_forward, side_in_lem, side_within, closed}
use Rattle.model.proofs.Closed.{old_edge, side_way}
use Rattle.model.proofs.Sides.{cyclic_out, cyclic_in}
use Rattle.model.proofs.Sides.{side_adds}
use Rattle.graph.proofs.Rows.{reach_tidy, side_tidy, reach_idem}
use Rattle.search.specs.Constraints.{con_at, Given}
use Rattle.search.specs.Steps.{PartialOrder, shut, Taken, Last, Grown, Hopeless}

pub no_true : {A : Type 0} → ◌≡◌ {A = Bool} false true → A
no_true q = absurd (subst (λ (b : Bool). T (not b)) q tt)

pub is_true : (a b : Bool) → a ≡ b → a ≡ true → T b
is_true a b e q = subst (λ (x : Bool). T x) (sym q ∙ e) tt

pub is_false : (a b : Bool) → a ≡ b → a ≡ false → T (not b)
is_false a b e q = subst (λ (x : Bool). T (not x)) (sym q ∙ e) tt

pub not-true : (a : Bool) → not a ≡ true → a ≡ false
not-true true q = no_true q
not-true false q = refl

pub not-false : (a : Bool) → not a ≡ false → a ≡ true
not-false true q = refl
not-false false q = no_true (sym q)

pub closed_tidy : (c : List ℕ) → reach c ≡ c → Tidy c
closed_tidy c e = subst Tidy e (reach_tidy c)

-- a way is an edge of closed words
pub way_has : (c : List ℕ) → reach c ≡ c → (u v : ℕ) → Way c u v → T (has c u v)
way_has c e u v w = subst (λ (x : List ℕ). T (has x u v)) e (way_reach c (closed_tidy c e) u v w)

-- ---- what is held

-- more edges hold what was held
side_more : (c d : List ℕ) (f t : ℕ) → ((u v : ℕ) → T (has c u v) → T (has d u v)) → T (side_in c f t) → T (side_in d f t)
unfolding side_in
side_more c d f t m x =
    all_up_to_in (λ s. implies (bit f s) (has d s t)) 32
    (λ s h. implies_in (bit f s) (has d s t) (λ b. m s t (implies_out (bit f s) (has c s t) (all_up_to_out (λ s. implies (bit f s) (has c s t)) 32 x s h) b)))

pub held-A : (d : List ℕ) (k : Constraint) → T (side_in d k.fromA k.toA) → T (held d k)
unfolding held
held-A d k x = or_l (side_in d k.fromA k.toA) (side_in d k.fromB k.toB) x

pub held-B : (d : List ℕ) (k : Constraint) → T (side_in d k.fromB k.toB) → T (held d k)
unfolding held
held-B d k x = or_r (side_in d k.fromA k.toA) (side_in d k.fromB k.toB) x

pub held_out : (d : List ℕ) (k : Constraint) → T (held d k) → T (side_in d k.fromA k.toA) ⊎ T (side_in d k.fromB k.toB)
unfolding held
held_out d k x = or_out (side_in d k.fromA k.toA) (side_in d k.fromB k.toB) x

pub held_more : (c d : List ℕ) (k : Constraint) → ((u v : ℕ) → T (has c u v) → T (has d u v)) → T (held c k) → T (held d k)
held_more c d k m x =
    ⊎_elim (λ a. held-A d k (side_more c d k.fromA k.toA m a)) (λ a. held-B d k (side_more c d k.fromB k.toB m a)) (held_out c k x)

-- one side after the other
pub held_first : (d : List ℕ) (k : Constraint) (a : Bool) → a ≡ side_in d k.fromA k.toA → a ≡ true → true ≡ held d k
held_first d k a e q = sym (true_eq (held d k) (held-A d k (is_true a (side_in d k.fromA k.toA) e q)))

pub held_second : (d : List ℕ) (k : Constraint) (a b : Bool) → a ≡ side_in d k.fromA k.toA → a ≡ false → b ≡ side_in d k.fromB k.toB → b ≡ held d k
unfolding held
held_second d k a b e q f = ap₂ (λ (x y : Bool). x || y) (sym q ∙ e) f

-- ---- what is closed off

pub off_in : (c : List ℕ) (from to s : ℕ) → s < 32 → T (bit from s) → (s ≡ to) ⊎ T (has (reach c) to s) → T (closed_off c from to)
unfolding closed_off
off_in c from to s h b x =
    any_up_to_in (λ s. bit from s && (eqb s to || has (reach c) to s)) 32 s h
    (and_in (bit from s) (eqb s to || has (reach c) to s) b
    (⊎_elim (λ e. or_l (eqb s to) (has (reach c) to s) (eq-eqb {m = s} {n = to} e)) (λ e. or_r (eqb s to) (has (reach c) to s) e) x))

pub shut_is : (c : List ℕ) (k : Constraint) (a b : Bool) → a ≡ closed_off c k.fromA k.toA → b ≡ closed_off c k.fromB k.toB → (a || b) ≡ shut c k
unfolding shut
shut_is c k a b e f = ap₂ (λ (x y : Bool). x || y) e f

pub shut-A : (c : List ℕ) (k : Constraint) → T (not (shut c k)) → T (not (closed_off c k.fromA k.toA))
unfolding shut
shut-A c k n =
    not_intro (closed_off c k.fromA k.toA)
    (λ t. clash (shut c k) (or_l (closed_off c k.fromA k.toA) (closed_off c k.fromB k.toB) t) n)

pub shut-B : (c : List ℕ) (k : Constraint) → T (not (shut c k)) → T (not (closed_off c k.fromB k.toB))
unfolding shut
shut-B c k n =
    not_intro (closed_off c k.fromB k.toB)
    (λ t. clash (shut c k) (or_r (closed_off c k.fromA k.toA) (closed_off c k.fromB k.toB) t) n)

-- A is not closed off, so B is
pub shut_other : (c : List ℕ) (k : Constraint) → T (shut c k) → T (not (closed_off c k.fromA k.toA)) → T (closed_off c k.fromB k.toB)
unfolding shut
shut_other c k t n =
    ⊎_elim (λ a. absurd (clash (closed_off c k.fromA k.toA) a n)) (λ b. b) (or_out (closed_off c k.fromA k.toA) (closed_off c k.fromB k.toB) t)

-- constraint i is there
pub room_at : (w : List ℕ) (n i : ℕ) → Given w n → i < n → 4 * i + 4 ≤ length w
room_at w n i g h = omega (arith, g.there)

-- the targets of constraint i
pub nodes_of : (w : List ℕ) (n i : ℕ) (k : Constraint) → Given w n → i < n → k ≡ con_at w i → (k.toA < 32) × (k.toB < 32)
nodes_of w n i k g h e =
    let x = g.nodes i h in
    (subst (λ (y : Constraint). y.toA < 32) (sym e) x.0, subst (λ (y : Constraint). y.toB < 32) (sym e) x.1)

-- ---- a side is taken

pub way_within : (g : List ℕ) (m : ℕ) → Within g m → (u v : ℕ) → Way g u v → (u < m) × (v < m)
way_within g m w u v (Way.step t) = w u v t
way_within g m w u v (Way.more {v = x} t p) = ((w u x t).0, (way_within g m w x v p).1)

module _ (c : List ℕ) (from to : ℕ) (p : PartialOrder c) (off : T (not (closed_off c from to))) where
  ti : Tidy c
  ti = closed_tidy c p.closed

  not_off : (s : ℕ) → s < 32 → T (bit from s) → (s ≡ to) ⊎ Way c to s → ⊥
  not_off s h b x =
      clash (closed_off c from to) (off_in c from to s h b (⊎_elim (λ e. inl e) (λ w. inr (way_reach c ti to s w)) x)) off

  -- a side that is not closed off makes no cycle
  no_cycle : Acyclic (with_side c from to)
  no_cycle u w =
      ⊎_elim (λ x. cyclic_out c p.acyclic ti u x) (λ x. go x.0 x.1) (side_way c from to u u w)
    where
      hu : u < 32
      hu = (way_small (with_side c from to) (side_tidy c from to) u u w).0

      go : T (bit from u) ⊎ ((s : ℕ) × T (bit from s) × Way c u s) → (u ≡ to) ⊎ Way c to u → ⊥
      go (inl b) x = not_off u hu b x
      go (inr b) (inl e) = not_off b.0 (way_small c ti u b.0 b.2).1 b.1 (inr (subst (λ (y : ℕ). Way c y b.0) e b.2))
      go (inr b) (inr x) = not_off b.0 (way_small c ti u b.0 b.2).1 b.1 (inr (way_join c to u b.0 x b.2))

  pub taken : (d : List ℕ) → to < 32 → d ≡ reach (with_side c from to) → Taken c d from to
  taken d l q =
      record {
        is = q;
        partial = record { closed = is_closed; acyclic = cyclic_in d (λ u w. no_cycle u (back u u (way_has d is_closed u u w))) };
        more = λ u v t. subst (λ (x : List ℕ). T (has x u v)) (sym q) (old u v t);
        there = subst (λ (x : List ℕ). T (side_in x from to)) (sym q) (side_more g (reach g) from to into (side_adds c from to l));
        keeps = λ o r s. subst (RespectsKnown o) (sym q) (λ u v hu hv t. way_forward o g (side_tidy c from to) (side_in_lem c from to o r s) u v (reach_way g u v t));
        within = λ m w f k. subst (λ (x : List ℕ). Within x m) (sym q) (λ u v t. way_within g m (side_within c from to m w f k) u v (reach_way g u v t));
      }
    where
      g : List ℕ
      g = with_side c from to

      is_closed : reach d ≡ d
      is_closed = subst (λ (x : List ℕ). reach x ≡ x) (sym q) (reach_idem g (side_tidy c from to))

      back : (u v : ℕ) → T (has d u v) → Way g u v
      back u v t = reach_way g u v (subst (λ (x : List ℕ). T (has x u v)) q t)

      into : (u v : ℕ) → T (has g u v) → T (has (reach g) u v)
      into u v t = let s = side_tidy c from to u v t in reach_old g u v s.0 s.1 t

      old : (u v : ℕ) → T (has c u v) → T (has (reach g) u v)
      old u v t = let s = ti u v t in into u v (old_edge c from to u v s.0 s.1 t)

pub last_node : (c : List ℕ) (k : Constraint) (from to : ℕ) → (k.toA < 32) × (k.toB < 32) → Last c k from to → to < 32
last_node c k from to h (Last.side_b t e f) = subst (λ (s : ℕ). s < 32) (sym f) h.1
last_node c k from to h (Last.side_a s t e f) = subst (λ (s : ℕ). s < 32) (sym f) h.0

-- ---- growing

module _ (w : List ℕ) (n : ℕ) where
  pub grown_none : (c : List ℕ) → PartialOrder c → Grown w n c c
  grown_none c p = record { partial = p; more = λ u v t. t; keeps = λ o r k. r; within = λ m x a. x }

  pub grown_then : (a b c : List ℕ) → Grown w n a b → Grown w n b c → Grown w n a c
  grown_then a b c x y =
      record {
        partial = y.partial;
        more = λ u v t. y.more u v (x.more u v t);
        keeps = λ o r k. y.keeps o (x.keeps o r k) k;
        within = λ m q f. y.within m (x.within m q f) f;
      }

  module _ (c : List ℕ) (p : PartialOrder c) (i : ℕ) (l : i < n) where
    abbrev con : Constraint
    con = con_at w i

    no-A : T (closed_off c con.fromA con.toA) → (o : List ℕ) → RespectsKnown o c → RespectsSide o con.fromA con.toA → ⊥
    no-A t o r y = closed c con.fromA con.toA o (closed_tidy c p.closed) r t y

    no-B : T (closed_off c con.fromB con.toB) → (o : List ℕ) → RespectsKnown o c → RespectsSide o con.fromB con.toB → ⊥
    no-B t o r y = closed c con.fromB con.toB o (closed_tidy c p.closed) r t y

    -- its last side is taken, and is there whole
    pub forced : (d : List ℕ) (from to : ℕ) → Last c con from to → Taken c d from to → Grown w n c d × T (held d con)
    forced d from to (Last.side_b t e f) y =
        let x = subst (Taken c d con.fromB) f (subst (λ (s : ℕ). Taken c d s to) e y) in (
          record {
            partial = x.partial;
            more = x.more;
            keeps = λ o r f. x.keeps o r (⊎_elim (λ y. absurd (no-A t o r y)) (λ y. y) (f i l));
            within = λ m z f. x.within m z (f i l).fromB-small (f i l).toB-small;
          },
          held-B d con x.there,
        )
    forced d from to (Last.side_a s t e f) y =
        let x = subst (Taken c d con.fromA) f (subst (λ (k : ℕ). Taken c d k to) e y) in (
          record {
            partial = x.partial;
            more = x.more;
            keeps = λ o r f. x.keeps o r (⊎_elim (λ y. y) (λ y. absurd (no-B t o r y)) (f i l));
            within = λ m z f. x.within m z (f i l).fromA-small (f i l).toA-small;
          },
          held-A d con x.there,
        )

    -- the last is closed off too
    pub forced_none : (from to : ℕ) → Last c con from to → T (closed_off c from to) → Hopeless w n c
    forced_none from to (Last.side_b t e f) y =
        let x = subst (λ (s : ℕ). T (closed_off c con.fromB s)) f (subst (λ (s : ℕ). T (closed_off c s to)) e y) in
        λ o r k. ⊎_elim (no-A t o r) (no-B x o r) (k i l)
    forced_none from to (Last.side_a s t e f) y =
        let x = subst (λ (s : ℕ). T (closed_off c con.fromA s)) f (subst (λ (s : ℕ). T (closed_off c s to)) e y) in
        λ o r k. ⊎_elim (no-A x o r) (no-B t o r) (k i l)

-- ---- what the calls of `graph` say of closed words

pub off_is : (c : List ℕ) (f t : ℕ) (r : Bool) → reach c ≡ c → ((g : List ℕ) → c ≡ reach g → r ≡ closed_off g f t) → r ≡ closed_off c f t
off_is c f t r e k = k c (sym e)

pub grew : (c d : List ℕ) (f t : ℕ) → reach c ≡ c → ((g : List ℕ) → c ≡ reach g → Tidy g → d ≡ reach (with_side g f t)) → d ≡ reach (with_side c f t)
grew c d f t e k = k c (sym e) (closed_tidy c e)
