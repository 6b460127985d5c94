-- Row words that are kept transitively closed: what a side adds to them; and the measure of a search, how many constraints are open.
-- Assumes nothing.
use Prim.Native.Nat.{ℕ, zero, suc, ◌≤◌, ◌<◌}
use native.Mathlib.Omega.{arith}
use native.Mathlib.Nat.{not-suc-le-zero}
use mathlib.Core.Path.{◌≡◌, sym, subst}
use mathlib.Core.Logic.{◌⊎◌, inl, inr, ⊎_elim}
use mathlib.Core.Bool.{Bool, true, false, not, cond, ◌&&◌, ◌||◌}
use mathlib.Core.List.{List, [], ◌∷◌}
use lib.Dec.{T, eqb, eqb→eq, eqb_refl}
use lib.ListN.{length, get_or}
use Rattle.model.specs.Lists.{any, keep, up_to, bit}
use Rattle.model.specs.Polygraph.{has, with_side, reach, Way}
use Rattle.model.specs.RowWords.{Tidy}
use Rattle.model.proofs.Basics.{eq-T, iff_eq, and_l, and_r, and_in, or_out, or_l, or_r, eq-eqb, any_up_to_out, any_up_to_in}
use Rattle.model.proofs.Words.{bit_rows, rows_small}
use Rattle.model.proofs.Reach.{way_join, way_reach, reach_way}

-- the edges of g with a side
module _ (g : List ℕ) (from to : ℕ) where
  abbrev test : ℕ → ℕ → Bool
  test u v = has g u v || (bit from u && eqb v to)

  pub side_edge : (u v : ℕ) → T (has (with_side g from to) u v) → T (has g u v) ⊎ (T (bit from u) × (v ≡ to))
  unfolding with_side
  side_edge u v t =
      let s = rows_small test u v t in
      ⊎_elim (λ a. inl a) (λ a. inr (and_l (bit from u) (eqb v to) a, eqb→eq v to (and_r (bit from u) (eqb v to) a)))
      (or_out (has g u v) (bit from u && eqb v to) (eq-T (bit_rows test u v s.0 s.1) t))

  pub old_edge : (u v : ℕ) → u < 32 → v < 32 → T (has g u v) → T (has (with_side g from to) u v)
  unfolding with_side
  old_edge u v hu hv t = eq-T (sym (bit_rows test u v hu hv)) (or_l (has g u v) (bit from u && eqb v to) t)

  pub new_edge : (u : ℕ) → u < 32 → to < 32 → T (bit from u) → T (has (with_side g from to) u to)
  unfolding with_side
  new_edge u hu ht t =
      eq-T (sym (bit_rows test u to hu ht)) (or_r (has g u to) (bit from u && eqb to to) (and_in (bit from u) (eqb to to) t (eqb_refl to)))

  -- u is a source, or reaches one
  abbrev Enters : ℕ → Type 0
  Enters u = T (bit from u) ⊎ ((s : ℕ) × T (bit from s) × Way g u s)

  -- v is the target, or is reached from it
  abbrev Leaves : ℕ → Type 0
  Leaves v = (v ≡ to) ⊎ Way g to v

  pub side_way : (u v : ℕ) → Way (with_side g from to) u v → Way g u v ⊎ (Enters u × Leaves v)
  side_way u v (Way.step t) =
      ⊎_elim (λ a. inl (Way.step a)) (λ a. inr (inl a.0, inl a.1)) (side_edge u v t)
  side_way u v (Way.more {v = w} t p) = go (side_edge u w t) (side_way w v p)
    where
      go : T (has g u w) ⊎ (T (bit from u) × (w ≡ to)) → Way g w v ⊎ (Enters w × Leaves v) → Way g u v ⊎ (Enters u × Leaves v)
      go (inl a) (inl b) = inl (Way.more a b)
      go (inl a) (inr b) =
          inr (⊎_elim (λ x. inr (w, x, Way.step a)) (λ x. inr (x.0, x.1, Way.more a x.2)) b.0, b.1)
      go (inr a) (inl b) = inr (inl a.0, inr (subst (λ y. Way g y v) a.1 b))
      go (inr a) (inr b) = inr (inl a.0, b.1)

  module _ (tidy : Tidy g) (ht : to < 32) (hf : (s : ℕ) → T (bit from s) → s < 32) where
    old_way : (u v : ℕ) → Way g u v → Way (with_side g from to) u v
    old_way u v (Way.step t) = let s = tidy u v t in Way.step (old_edge u v s.0 s.1 t)
    old_way u v (Way.more {v = w} t p) = let s = tidy u w t in Way.more (old_edge u w s.0 s.1 t) (old_way w v p)

    pub way_side : (u v : ℕ) → Way g u v ⊎ (Enters u × Leaves v) → Way (with_side g from to) u v
    way_side u v (inl p) = old_way u v p
    way_side u v (inr q) = leave q.1 (enter q.0)
      where
        enter : Enters u → Way (with_side g from to) u to
        enter (inl b) = Way.step (new_edge u (hf u b) ht b)
        enter (inr x) = way_join (with_side g from to) u x.0 to (old_way u x.0 x.2) (Way.step (new_edge x.0 (hf x.0 x.1) ht x.1))

        leave : Leaves v → Way (with_side g from to) u to → Way (with_side g from to) u v
        leave (inl e) p = subst (Way (with_side g from to) u) (sym e) p
        leave (inr y) p = way_join (with_side g from to) u to v p (old_way to v y)

    -- the closed words after a side is added, from the closed words before: code adds r[to] | 1 << to to each row u with u in from or r[u] & from
    pub reach_side : (u v : ℕ) → u < 32 → v < 32
        → has (reach (with_side g from to)) u v
        ≡ (has (reach g) u v || ((bit from u || any (λ s. bit from s && has (reach g) u s) (up_to 32)) && (eqb v to || has (reach g) to v)))
    reach_side u v hu hv =
        iff_eq (has (reach (with_side g from to)) u v) (old || (ent && lea)) fwd bwd
      where
        old : Bool
        old = has (reach g) u v

        some : Bool
        some = any (λ s. bit from s && has (reach g) u s) (up_to 32)

        ent : Bool
        ent = bit from u || some

        lea : Bool
        lea = eqb v to || has (reach g) to v

        new_tidy : Tidy (with_side g from to)
        new_tidy x y t =
            ⊎_elim (λ a. tidy x y a) (λ a. (hf x a.0, subst (λ z. z < 32) (sym a.1) ht)) (side_edge x y t)

        fwd : T (has (reach (with_side g from to)) u v) → T (old || (ent && lea))
        fwd t =
            ⊎_elim (λ p. or_l old (ent && lea) (way_reach g tidy u v p))
            (λ q.
            or_r old (ent && lea)
            (and_in ent lea
            (⊎_elim (λ b. or_l (bit from u) some b)
            (λ x.
            or_r (bit from u) some
            (any_up_to_in (λ s. bit from s && has (reach g) u s) 32 x.0 (hf x.0 x.1)
            (and_in (bit from x.0) (has (reach g) u x.0) x.1 (way_reach g tidy u x.0 x.2)))) q.0)
            (⊎_elim (λ e. or_l (eqb v to) (has (reach g) to v) (eq-eqb e)) (λ p. or_r (eqb v to) (has (reach g) to v) (way_reach g tidy to v p)) q.1)))
            (side_way u v (reach_way (with_side g from to) u v t))

        bwd : T (old || (ent && lea)) → T (has (reach (with_side g from to)) u v)
        bwd t =
            way_reach (with_side g from to) new_tidy u v
            (way_side u v
            (⊎_elim (λ a. inl (reach_way g u v a))
            (λ a.
            inr (
              ⊎_elim (λ b. inl b)
                  (λ b.
                  let z = any_up_to_out (λ s. bit from s && has (reach g) u s) 32 b in
                  inr (
                    z.0,
                    and_l (bit from z.0) (has (reach g) u z.0) z.1,
                    reach_way g u z.0 (and_r (bit from z.0) (has (reach g) u z.0) z.1),
                  ))
                  (or_out (bit from u) some (and_l ent lea a)),
              ⊎_elim (λ b. inl (eqb→eq v to b)) (λ b. inr (reach_way g to v b)) (or_out (eqb v to) (has (reach g) to v) (and_r ent lea a)),
            ))
            (or_out old (ent && lea) t)))

-- ---- how many elements pass a test

module _ {A : Type 0} (p q : A → Bool) (imp : (x : A) → T (p x) → T (q x)) where
  one : (a b : Bool) (x : A) (xs ys : List A) → (T a → T b) → length xs ≤ length ys → length (cond a (x ∷ xs) xs) ≤ length (cond b (x ∷ ys) ys)
  one true true x xs ys f l = omega arith
  one true false x xs ys f l = absurd (f tt)
  one false true x xs ys f l = omega arith
  one false false x xs ys f l = l

  pub fewer : (xs : List A) → length (keep p xs) ≤ length (keep q xs)
  fewer [] = omega arith
  fewer (x ∷ xs) = one (p x) (q x) x (keep p xs) (keep q xs) (imp x) (fewer xs)

  pub fewer_at : (xs : List A) (i : ℕ) (d : A) → i < length xs → T (not (p (get_or xs i d))) → T (q (get_or xs i d)) → length (keep p xs) < length (keep q xs)
  fewer_at [] i d l n t = absurd (not-suc-le-zero l)
  fewer_at (x ∷ xs) zero d l n t = go (p x) (q x) n t (fewer xs)
    where
      go : (a b : Bool) → T (not a) → T b → length (keep p xs) ≤ length (keep q xs)
          → length (cond a (x ∷ keep p xs) (keep p xs)) < length (cond b (x ∷ keep q xs) (keep q xs))
      go true b n t l = absurd n
      go false true n t l = omega arith
      go false false n t l = absurd t
  fewer_at (x ∷ xs) (suc i) d l n t = go (p x) (q x) (imp x) (fewer_at xs i d (omega arith) n t)
    where
      go : (a b : Bool) → (T a → T b) → length (keep p xs) < length (keep q xs)
          → length (cond a (x ∷ keep p xs) (keep p xs)) < length (cond b (x ∷ keep q xs) (keep q xs))
      go true true f l = omega arith
      go true false f l = absurd (f tt)
      go false true f l = omega arith
      go false false f l = l
