-- Pruning in the model's words: the loop goes through the model's passes, constraint by constraint, to where a pass drops none. Assumes nothing.
use Prim.Native.Nat.{ℕ, zero, suc, ◌+◌, ◌-◌, ◌≤◌, ◌<◌}
use native.Mathlib.Omega.{arith}
use mathlib.Core.Path.{◌≡◌, refl, sym, ap, ap₂, subst, ◌∙◌}
use mathlib.Core.Logic.{⊎_elim, ◌≢◌}
use mathlib.Core.Bool.{Bool, true, false, not, cond, ◌&&◌, ◌||◌}
use mathlib.Core.List.{List, [], ◌∷◌, ◌++◌, map, append_assoc, append-nil}
use lib.Dec.{T, eqb, eqb→eq}
use lib.ListN.{length}
use Rattle.model.specs.Lists.{All, any, keep, up_to, bit}
use Rattle.model.specs.Polygraph.{Polygraph, has, with_side, reach, closed_off, pass, passes, Way}
use Rattle.model.specs.declared.Constraint.{Constraint}
use Rattle.model.specs.RowWords.{Tidy, cyclic}
use Rattle.model.proofs.Basics.{decide, same?, eq-T, true_eq, false_eq, iff_eq, and_l, and_r, and_in, or_out, eq-eqb, ne_eqb, eqb_ne, any_up_to_out}
use Rattle.model.proofs.Loops.{map_snoc, keep_snoc, pass-A, pass-B, pass_holds}
use Rattle.model.proofs.Reach.{way_join, way_reach, reach_way, reach_old}
use Rattle.model.proofs.Closed.{side_edge, old_edge, new_edge}
use Rattle.model.proofs.Sides.{cyclic_out}
use Rattle.graph.proofs.Rows.{reach_idem, reach_tidy, reach_length, reach_small, rows_ext, side_tidy}
use Rattle.search.specs.Constraints.{con_at, is_open, open_list, Dropped}
use Rattle.search.specs.Steps.{shut, Last, Passed}
use Rattle.search.proofs.Steps.{no_true, shut-A, shut-B}

abbrev graph : List ℕ → List Constraint → Polygraph
graph g cs = record { known = g; choices = cs }

-- ---- the open constraints, as the model's list

-- the open ones among i, i + 1, .. i + k - 1
unfoldable pub opens : List ℕ → List ℕ → ℕ → ℕ → List Constraint
opens w l zero i = []
opens w l (suc k) i = cond (is_open l i) (con_at w i ∷ opens w l k (suc i)) (opens w l k (suc i))

cond_app : (b : Bool) (x : Constraint) (ys zs : List Constraint) → cond b (x ∷ (ys ++ zs)) (ys ++ zs) ≡ cond b (x ∷ ys) ys ++ zs
cond_app true x ys zs = refl
cond_app false x ys zs = refl

module _ (w l : List ℕ) where
  opens_split : (d k i : ℕ) → opens w l (d + k) i ≡ opens w l d i ++ opens w l k (i + d)
  unfolding opens
  opens_split zero k i =
      let e : zero + k ≡ k = omega arith in
      let f : i ≡ i + zero = omega arith in
      ap (λ (x : ℕ). opens w l x i) e ∙ ap (opens w l k) f
  opens_split (suc d) k i =
      let e : suc d + k ≡ suc (d + k) = omega arith in
      let f : suc i + d ≡ i + suc d = omega arith in
      ap (λ (x : ℕ). opens w l x i) e
      ∙ ap (λ (x : List Constraint). cond (is_open l i) (con_at w i ∷ x) x) (opens_split d k (suc i) ∙ ap (λ (x : ℕ). opens w l d (suc i) ++ opens w l k x) f)
      ∙ cond_app (is_open l i) (con_at w i) (opens w l d (suc i)) (opens w l k (i + suc d))

  opens_yes : (k i : ℕ) → T (is_open l i) → opens w l (suc k) i ≡ con_at w i ∷ opens w l k (suc i)
  unfolding opens
  opens_yes k i t = ap (λ (b : Bool). cond b (con_at w i ∷ opens w l k (suc i)) (opens w l k (suc i))) (true_eq (is_open l i) t)

  opens_no : (k i : ℕ) → T (not (is_open l i)) → opens w l (suc k) i ≡ opens w l k (suc i)
  unfolding opens
  opens_no k i t = ap (λ (b : Bool). cond b (con_at w i ∷ opens w l k (suc i)) (opens w l k (suc i))) (false_eq (is_open l i) t)

  opens_last : (i : ℕ) → T (not (is_open l i)) → opens w l (suc 0) i ≡ []
  unfolding opens
  opens_last i t = opens_no 0 i t

  -- the same constraints are open
  opens_same : (m : List ℕ) (k i : ℕ) → ((j : ℕ) → i ≤ j → j < i + k → is_open l j ≡ is_open m j) → opens w l k i ≡ opens w m k i
  unfolding opens
  opens_same m zero i f = refl
  opens_same m (suc k) i f =
      ap (λ (b : Bool). cond b (con_at w i ∷ opens w l k (suc i)) (opens w l k (suc i))) (f i (omega arith) (omega arith))
      ∙ ap (λ (x : List Constraint). cond (is_open m i) (con_at w i ∷ x) x) (opens_same m k (suc i) (λ j a b. f j (omega arith) (omega arith)))

  opens_all : (P : Constraint → Type 0) (k i : ℕ) → ((j : ℕ) → i ≤ j → j < i + k → T (is_open l j) → P (con_at w j)) → All P (opens w l k i)
  unfolding opens
  opens_all P zero i f = tt
  opens_all P (suc k) i f = go (is_open l i) (λ t. f i (omega arith) (omega arith) t) (opens_all P k (suc i) (λ j a b. f j (omega arith) (omega arith)))
    where
      go : (b : Bool) → (T b → P (con_at w i)) → All P (opens w l k (suc i)) → All P (cond b (con_at w i ∷ opens w l k (suc i)) (opens w l k (suc i)))
      go true x y = (x tt, y)
      go false x y = y

  pub opens_list : (n : ℕ) → opens w l n 0 ≡ open_list w l n
  unfolding opens open_list
  opens_list zero = refl
  opens_list (suc n) =
      let e : suc n ≡ n + 1 = omega arith in
      let f : 0 + n ≡ n = omega arith in
      ap (λ (x : ℕ). opens w l x 0) e ∙ opens_split n 1 0 ∙ ap₂ (λ (x : List Constraint) (y : ℕ). x ++ opens w l 1 y) (opens_list n) f ∙ sym (go (is_open l n))
      ∙ ap (map (con_at w)) (sym (keep_snoc (is_open l) (up_to n) n))
    where
      go : (b : Bool) → map (con_at w) (keep (is_open l) (up_to n) ++ cond b (n ∷ []) []) ≡ map (con_at w) (keep (is_open l) (up_to n)) ++ cond b (con_at w n ∷ []) []
      go true = map_snoc (con_at w) (keep (is_open l) (up_to n)) n
      go false = ap (map (con_at w)) (append-nil (keep (is_open l) (up_to n))) ∙ sym (append-nil (map (con_at w) (keep (is_open l) (up_to n))))

-- ---- closed words say the same as those that they are closed from

module _ (h : List ℕ) (ti : Tidy h) where
  closed_same : (f t : ℕ) → closed_off (reach h) f t ≡ closed_off h f t
  unfolding closed_off
  closed_same f t = ap (λ (x : List ℕ). any (λ s. bit f s && (eqb s t || has x t s)) (up_to 32)) (reach_idem h ti)

  shut_same : (k : Constraint) → shut (reach h) k ≡ shut h k
  unfolding shut
  shut_same k = ap₂ (λ (x y : Bool). x || y) (closed_same k.fromA k.toA) (closed_same k.fromB k.toB)

  module _ (f t : ℕ) where
    lift : (u v : ℕ) → Way h u v → Way (with_side h f t) u v
    lift u v (Way.step x) = let s = ti u v x in Way.step (old_edge h f t u v s.0 s.1 x)
    lift u v (Way.more {v = y} x p) = let s = ti u y x in Way.more (old_edge h f t u y s.0 s.1 x) (lift y v p)

    side : (g : List ℕ) (u v : ℕ) → u < 32 → v < 32 → T (bit f u) × (v ≡ t) → T (has (with_side g f t) u v)
    side g u v hu hv x =
        subst (λ (y : ℕ). T (has (with_side g f t) u y)) (sym x.1) (new_edge g f t u hu (subst (λ (y : ℕ). y < 32) x.1 hv) x.0)

    one_in : (u v : ℕ) → T (has (with_side (reach h) f t) u v) → Way (with_side h f t) u v
    one_in u v x =
        let s = side_tidy (reach h) f t u v x in
        ⊎_elim (λ a. lift u v (reach_way h u v a)) (λ a. Way.step (side h u v s.0 s.1 a)) (side_edge (reach h) f t u v x)

    all_in : (u v : ℕ) → Way (with_side (reach h) f t) u v → Way (with_side h f t) u v
    all_in u v (Way.step x) = one_in u v x
    all_in u v (Way.more {v = y} x p) = way_join (with_side h f t) u y v (one_in u y x) (all_in y v p)

    one_out : (u v : ℕ) → T (has (with_side h f t) u v) → T (has (with_side (reach h) f t) u v)
    one_out u v x =
        let s = side_tidy h f t u v x in
        ⊎_elim (λ a. old_edge (reach h) f t u v s.0 s.1 (reach_old h u v s.0 s.1 a)) (λ a. side (reach h) u v s.0 s.1 a) (side_edge h f t u v x)

    all_out : (u v : ℕ) → Way (with_side h f t) u v → Way (with_side (reach h) f t) u v
    all_out u v (Way.step x) = Way.step (one_out u v x)
    all_out u v (Way.more {v = y} x p) = Way.more (one_out u y x) (all_out y v p)

    -- a side added to the closed words gives the same closed words
    side_same : reach (with_side (reach h) f t) ≡ reach (with_side h f t)
    side_same =
        rows_ext (reach (with_side (reach h) f t)) (reach (with_side h f t)) (reach_length (with_side (reach h) f t)) (reach_length (with_side h f t))
        (reach_small (with_side (reach h) f t)) (reach_small (with_side h f t))
        (λ u v hu hv.
        iff_eq (has (reach (with_side (reach h) f t)) u v) (has (reach (with_side h f t)) u v)
        (λ x. way_reach (with_side h f t) (side_tidy h f t) u v (all_in u v (reach_way (with_side (reach h) f t) u v x)))
        (λ x. way_reach (with_side (reach h) f t) (side_tidy (reach h) f t) u v (all_out u v (reach_way (with_side h f t) u v x))))

    -- a side that is closed off makes a cycle
    closed_cycle : T (closed_off h f t) → Way (with_side h f t) t t
    unfolding closed_off
    closed_cycle x =
        let z = any_up_to_out (λ s. bit f s && (eqb s t || has (reach h) t s)) 32 x in
        let s = z.0 in
        let b = and_l (bit f s) (eqb s t || has (reach h) t s) z.1 in
        ⊎_elim
        (λ a.
        let e = eqb→eq s t a in
        Way.step (side h t t (subst (λ (y : ℕ). y < 32) e z.2) (subst (λ (y : ℕ). y < 32) e z.2) (subst (λ (y : ℕ). T (bit f y)) e b, refl)))
        (λ a.
        let k = reach_tidy h t s a in
        way_join (with_side h f t) t s t (lift t s (reach_way h t s a)) (Way.step (side h s t k.1 k.0 (b, refl))))
        (or_out (eqb s t) (has (reach h) t s) (and_r (bit f s) (eqb s t || has (reach h) t s) z.1))

-- ---- a pass

-- neither side is closed off
abbrev Stays : List ℕ → Constraint → Type 0
Stays g c = T (not (closed_off g c.fromA c.toA)) × T (not (closed_off g c.fromB c.toB))

stays_of : (g : List ℕ) (k : Constraint) → T (not (shut g k)) → Stays g k
stays_of g k n = (shut-A g k n, shut-B g k n)

-- constraints that stay are passed over
pass_skip : (g : List ℕ) (xs ys : List Constraint) → All (Stays g) xs → pass g (xs ++ ys) ≡ graph (pass g ys).known (xs ++ (pass g ys).choices)
pass_skip g [] ys a = refl
pass_skip g (c ∷ xs) ys a =
    pass_holds g c (xs ++ ys) a.0.0 a.0.1
    ∙ ap (λ (p : Polygraph). graph p.known (c ∷ p.choices)) (pass_skip g xs ys a.1)

pass_none : (g : List ℕ) (xs : List Constraint) → All (Stays g) xs → pass g xs ≡ graph g xs
unfolding pass
pass_none g xs a =
    ap (pass g) (sym (append-nil xs)) ∙ pass_skip g xs [] a ∙ ap (graph g) (append-nil xs)

-- the three cases of the first constraint
cases : (g : List ℕ) (c : Constraint) (cs : List Constraint) (P : Polygraph → Type 0) → P (pass (with_side g c.fromB c.toB) cs) → P (pass (with_side g c.fromA c.toA) cs)
    → P (graph (pass g cs).known (c ∷ (pass g cs).choices)) → P (pass g (c ∷ cs))
cases g c cs P x y z =
    ⊎_elim (λ a. subst P (sym (pass-A g c cs a)) x)
    (λ a. ⊎_elim (λ b. subst P (sym (pass-B g c cs a b)) y) (λ b. subst P (sym (pass_holds g c cs a b)) z) (decide (closed_off g c.fromB c.toB)))
    (decide (closed_off g c.fromA c.toA))

pass_length : (cs : List Constraint) (g : List ℕ) → length (pass g cs).choices ≤ length cs
unfolding pass
pass_length [] g = omega arith
pass_length (c ∷ cs) g =
    cases g c cs (λ p. length p.choices ≤ suc (length cs)) (omega (arith, pass_length cs (with_side g c.fromB c.toB))) (omega (arith, pass_length cs (with_side g c.fromA c.toA)))
    (omega (arith, pass_length cs g))

pass_same : (cs : List Constraint) (g : List ℕ) → length (pass g cs).choices ≡ length cs → pass g cs ≡ graph g cs
unfolding pass
pass_same [] g = λ e. refl
pass_same (c ∷ cs) g =
    cases g c cs (λ p. length p.choices ≡ suc (length cs) → p ≡ graph g (c ∷ cs))
    (λ e. absurd (omega (arith, pass_length cs (with_side g c.fromB c.toB))))
    (λ e. absurd (omega (arith, pass_length cs (with_side g c.fromA c.toA))))
    (λ e. ap (λ (p : Polygraph). graph p.known (c ∷ p.choices)) (pass_same cs g (omega arith)))

-- a pass takes no edge away
abbrev Grows : List ℕ → List ℕ → Type 0
Grows g h = Tidy h × ((u v : ℕ) → T (has g u v) → T (has h u v))

pass_grows : (cs : List Constraint) (g : List ℕ) → Tidy g → Grows g (pass g cs).known
unfolding pass
pass_grows [] g ti = (ti, λ u v x. x)
pass_grows (c ∷ cs) g ti =
    cases g c cs (λ p. Grows g p.known) (step c.fromB c.toB (pass_grows cs (with_side g c.fromB c.toB) (side_tidy g c.fromB c.toB)))
    (step c.fromA c.toA (pass_grows cs (with_side g c.fromA c.toA) (side_tidy g c.fromA c.toA))) (pass_grows cs g ti)
  where
    step : (f t : ℕ) → Grows (with_side g f t) (pass (with_side g f t) cs).known → Grows g (pass (with_side g f t) cs).known
    step f t x = (x.0, λ u v y. let s = ti u v y in x.1 u v (old_edge g f t u v s.0 s.1 y))

-- ---- passes to the end

abbrev pass_of : Polygraph → Polygraph
pass_of p = pass p.known p.choices

-- pass after pass, p comes to q, which a pass leaves as it is
pub data Ends : Polygraph → Polygraph → Type 0 where
  stop : {p q : Polygraph} → pass_of p ≡ p → p ≡ q → Ends p q
  more : {p q : Polygraph} → Ends (pass_of p) q → Ends p q

passes_stop : (m : ℕ) (p : Polygraph) → length (pass_of p).choices ≡ length p.choices → passes (suc m) p ≡ pass_of p
unfolding passes
passes_stop m p e =
    ap (λ (b : Bool). cond b (pass_of p) (passes m (pass_of p)))
    (true_eq (eqb (length (pass_of p).choices) (length p.choices)) (eq-eqb {m = length (pass_of p).choices} {n = length p.choices} e))

passes_step : (m : ℕ) (p : Polygraph) → length (pass_of p).choices ≢ length p.choices → passes (suc m) p ≡ passes m (pass_of p)
unfolding passes
passes_step m p ne =
    ap (λ (b : Bool). cond b (pass_of p) (passes m (pass_of p)))
    (false_eq (eqb (length (pass_of p).choices) (length p.choices)) (ne_eqb {m = length (pass_of p).choices} {n = length p.choices} ne))

stable : (n : ℕ) (p : Polygraph) → pass_of p ≡ p → passes n p ≡ p
unfolding passes
stable zero p e = refl
stable (suc n) p e = passes_stop n p (ap (λ (x : Polygraph). length x.choices) e) ∙ e

ends_passes : (n : ℕ) {p q : Polygraph} → Ends p q → length p.choices ≤ n → passes n p ≡ q
ends_passes n {p = p} (Ends.stop e f) l = stable n p e ∙ f
ends_passes n {p = p} {q = q} (Ends.more x) l =
    let k = pass_length p.choices p.known in
    ⊎_elim
    (λ (e : length (pass_of p).choices ≡ length p.choices).
    let s = pass_same p.choices p.known e in
    stable n p s ∙ sym (stable n p s) ∙ ap (passes n) (sym s) ∙ ends_passes n x (omega arith))
    (λ (e : length (pass_of p).choices ≢ length p.choices). fewer n e l (λ m h. ends_passes m x (omega arith)))
    (same? (length (pass_of p).choices) (length p.choices))
  where
    fewer : (n : ℕ) → length (pass_of p).choices ≢ length p.choices → length p.choices ≤ n → ((m : ℕ) → length p.choices ≤ suc m → passes m (pass_of p) ≡ q) → passes n p ≡ q
    fewer zero e l f = absurd (e (omega (arith, pass_length p.choices p.known)))
    fewer (suc m) e l f = passes_step m p e ∙ f m l

ends_some : (n : ℕ) (p : Polygraph) → length p.choices ≤ n → (q : Polygraph) × Ends p q
ends_some zero p l = (p, Ends.stop (pass_same p.choices p.known (omega (arith, pass_length p.choices p.known))) refl)
ends_some (suc n) p l =
    let k = pass_length p.choices p.known in
    ⊎_elim (λ (e : length (pass_of p).choices ≡ length p.choices). (p, Ends.stop (pass_same p.choices p.known e) refl))
    (λ (e : length (pass_of p).choices ≢ length p.choices). let z = ends_some n (pass_of p) (omega arith) in (z.0, Ends.more z.1))
    (same? (length (pass_of p).choices) (length p.choices))

ends_grow : {p q : Polygraph} → Ends p q → Tidy p.known → Grows p.known q.known
ends_grow {p = p} (Ends.stop e f) ti = subst (λ (x : Polygraph). Grows p.known x.known) f (ti, λ u v x. x)
ends_grow {p = p} (Ends.more x) ti =
    let a = pass_grows p.choices p.known ti in
    let b = ends_grow x a.0 in
    (b.0, λ u v y. b.1 u v (a.1 u v y))

way_map : (g h : List ℕ) → ((u v : ℕ) → T (has g u v) → T (has h u v)) → (u v : ℕ) → Way g u v → Way h u v
way_map g h f u v (Way.step x) = Way.step (f u v x)
way_map g h f u v (Way.more {v = y} x p) = Way.more (f u y x) (way_map g h f y v p)

-- ---- in the middle of a pass: the constraints before i are looked at, the row words are h

module _ (w : List ℕ) (n : ℕ) where
  abbrev mid : List ℕ → List ℕ → ℕ → Polygraph
  mid h l i = let q = pass h (opens w l (n - i) i) in graph q.known (opens w l i 0 ++ q.choices)

  mid_start : (g l : List ℕ) → mid g l 0 ≡ pass g (opens w l n 0)
  unfolding opens
  mid_start g l = let e : n - 0 ≡ n = omega arith in ap (λ (x : ℕ). let q = pass g (opens w l x 0) in graph q.known q.choices) e

  -- none of the rest has a side closed off
  mid_end : (h l : List ℕ) (i : ℕ) → i ≤ n → ((j : ℕ) → i ≤ j → j < n → T (is_open l j) → T (not (shut h (con_at w j)))) → mid h l i ≡ graph h (opens w l n 0)
  mid_end h l i k f =
      let e : i + (n - i) ≡ n = omega arith in
      ap (λ (q : Polygraph). graph q.known (opens w l i 0 ++ q.choices))
      (pass_none h (opens w l (n - i) i) (opens_all w l (Stays h) (n - i) i (λ j a b o. stays_of h (con_at w j) (f j a (omega arith) o))))
      ∙ ap (graph h) (sym (ap (λ (x : ℕ). opens w l x 0) (sym e) ∙ opens_split w l i (n - i) 0 ∙ ap (λ (x : ℕ). opens w l i 0 ++ opens w l (n - i) x) (zero_plus i)))
    where
      zero_plus : (i : ℕ) → 0 + i ≡ i
      zero_plus i = omega arith

  -- the next that has one is at `at`
  module _ (h l : List ℕ) (i at : ℕ) (ki : i ≤ at) (ka : at < n) (o : T (is_open l at)) (f : (j : ℕ) → i ≤ j → j < at → T (is_open l j) → T (not (shut h (con_at w j)))) where
    abbrev rest : List Constraint
    rest = opens w l (n - (at + 1)) (at + 1)

    -- up to it the pass changes nothing
    mid_at : mid h l i ≡ graph (pass h (con_at w at ∷ rest)).known (opens w l at 0 ++ (pass h (con_at w at ∷ rest)).choices)
    mid_at =
        let a : n - i ≡ (at - i) + suc (n - (at + 1)) = omega arith in
        let b : i + (at - i) ≡ at = omega arith in
        let c : suc at ≡ at + 1 = omega arith in
        let d : 0 + i ≡ i = omega arith in
        let split : opens w l (n - i) i ≡ opens w l (at - i) i ++ (con_at w at ∷ rest) =
        ap (λ (x : ℕ). opens w l x i) a ∙ opens_split w l (at - i) (suc (n - (at + 1))) i
        ∙ ap (λ (x : ℕ). opens w l (at - i) i ++ opens w l (suc (n - (at + 1))) x) b
        ∙ ap (λ (x : List Constraint). opens w l (at - i) i ++ x) (opens_yes w l (n - (at + 1)) at o ∙ ap (λ (x : ℕ). con_at w at ∷ opens w l (n - (at + 1)) x) c) in
        let join : opens w l i 0 ++ opens w l (at - i) i ≡ opens w l at 0 =
        sym (ap (λ (x : ℕ). opens w l x 0) (sym b) ∙ opens_split w l i (at - i) 0 ∙ ap (λ (x : ℕ). opens w l i 0 ++ opens w l (at - i) x) d) in
        let q = pass h (con_at w at ∷ rest) in
        ap (λ (x : List Constraint). let q = pass h x in graph q.known (opens w l i 0 ++ q.choices)) split
        ∙ ap (λ (x : Polygraph). graph x.known (opens w l i 0 ++ x.choices))
        (pass_skip h (opens w l (at - i) i) (con_at w at ∷ rest) (opens_all w l (Stays h) (at - i) i (λ j x y z. stays_of h (con_at w j) (f j x (omega arith) z))))
        ∙ ap (graph q.known) (sym (append_assoc (opens w l i 0) (opens w l (at - i) i) q.choices) ∙ ap (λ (x : List Constraint). x ++ q.choices) join)

    module _ (m : List ℕ) (drop : Dropped l at m) (from to : ℕ) (side : pass h (con_at w at ∷ rest) ≡ pass (with_side h from to) rest) where
      -- there the side is taken, and the constraint dropped
      mid_hit : mid h l i ≡ mid (with_side h from to) m (at + 1)
      mid_hit =
          let keeps : (j : ℕ) → j ≢ at → is_open l j ≡ is_open m j =
          λ j ne. iff_eq (is_open l j) (is_open m j) (λ t. eq-T (sym (drop j)) (and_in (is_open l j) (not (eqb j at)) t (ne_eqb {m = j} {n = at} ne))) (λ t. and_l (is_open l j) (not (eqb j at)) (eq-T (drop j) t)) in
          let gone : T (not (is_open m at)) = not_in (is_open m at) (λ t. eqb_ne {m = at} {n = at} (and_r (is_open l at) (not (eqb at at)) (eq-T (drop at) t)) refl) in
          let e : at + 1 ≡ at + suc 0 = omega arith in
          let z : 0 + at ≡ at = omega arith in
          let before : opens w l at 0 ≡ opens w m (at + 1) 0 =
          opens_same w l m at 0 (λ j a b. keeps j (omega arith)) ∙ sym (append-nil (opens w m at 0))
          ∙ ap (λ (x : List Constraint). opens w m at 0 ++ x) (sym (opens_last w m at gone)) ∙ ap (λ (x : ℕ). opens w m at 0 ++ opens w m (suc 0) x) (sym z)
          ∙ sym (ap (λ (x : ℕ). opens w m x 0) e ∙ opens_split w m at (suc 0) 0) in
          let after : rest ≡ opens w m (n - (at + 1)) (at + 1) = opens_same w l m (n - (at + 1)) (at + 1) (λ j a b. keeps j (omega arith)) in
          mid_at ∙ ap (λ (q : Polygraph). graph q.known (opens w l at 0 ++ q.choices)) (side ∙ ap (pass (with_side h from to)) after)
          ∙ ap (λ (x : List Constraint). let q = pass (with_side h from to) (opens w m (n - (at + 1)) (at + 1)) in graph q.known (x ++ q.choices)) before
        where
          not_in : (b : Bool) → (T b → ⊥) → T (not b)
          not_in true f = f tt
          not_in false f = tt

  -- ---- the loop of pruning

  -- from the row words g and the open constraints l the passes have come to i, with closed words d and the open constraints m
  pub record Run (g l d m : List ℕ) (i : ℕ) : Type 0 where
    pub h : List ℕ
    pub tidy : Tidy h
    pub is : d ≡ reach h
    pub steps : (q : Polygraph) → Ends (mid h m i) q → Ends (graph g (opens w l n 0)) q

  pub run_none : (g l d : List ℕ) → Tidy g → d ≡ reach g → Run g l d l 0
  run_none g l d ti e =
      record { h = g; tidy = ti; is = e; steps = λ q x. Ends.more (subst (λ (p : Polygraph). Ends p q) (mid_start g l) x) }

  module _ (g l d m : List ℕ) (i : ℕ) (r : Run g l d m i) where
    abbrev hh : List ℕ
    hh = r.h

    closed_of : (f t : ℕ) → closed_off d f t ≡ closed_off hh f t
    closed_of f t = ap (λ (x : List ℕ). closed_off x f t) r.is ∙ closed_same hh r.tidy f t

    shut_of : (k : Constraint) → T (not (shut d k)) → T (not (shut hh k))
    shut_of k n = subst (λ (b : Bool). T (not b)) (ap (λ (x : List ℕ). shut x k) r.is ∙ shut_same hh r.tidy k) n

    -- a hit at `at`
    module _ (at : ℕ) (ki : i ≤ at) (ka : at < n) (o : T (is_open m at)) (f : (j : ℕ) → i ≤ j → j < at → T (is_open m j) → T (not (shut d (con_at w j))))
        (from to : ℕ) (last : Last d (con_at w at) from to) where
      before : (j : ℕ) → i ≤ j → j < at → T (is_open m j) → T (not (shut hh (con_at w j)))
      before j a b x = shut_of (con_at w j) (f j a b x)

      abbrev after : List Constraint
      after = opens w m (n - (at + 1)) (at + 1)

      taken_side : Last d (con_at w at) from to → pass hh (con_at w at ∷ after) ≡ pass (with_side hh from to) after
      taken_side (Last.side_b t a b) =
          pass-A hh (con_at w at) after (eq-T (closed_of (con_at w at).fromA (con_at w at).toA) t) ∙ ap₂ (λ (x y : ℕ). pass (with_side hh x y) after) (sym a) (sym b)
      taken_side (Last.side_a s t a b) =
          pass-B hh (con_at w at) after (subst (λ (x : Bool). T (not x)) (closed_of (con_at w at).fromA (con_at w at).toA) s) (eq-T (closed_of (con_at w at).fromB (con_at w at).toB) t)
          ∙ ap₂ (λ (x y : ℕ). pass (with_side hh x y) after) (sym a) (sym b)

      pub run_next : (e : List ℕ) → e ≡ reach (with_side d from to) → (m' : List ℕ) → Dropped m at m' → Run g l e m' (at + 1)
      run_next e q m' drop =
          record {
            h = with_side hh from to;
            tidy = side_tidy hh from to;
            is = q ∙ ap (λ (x : List ℕ). reach (with_side x from to)) r.is ∙ side_same hh r.tidy from to;
            steps = λ q x. r.steps q (subst (λ (p : Polygraph). Ends p q) (sym (mid_hit hh m i at ki ka o before m' drop from to (taken_side last))) x);
          }

      -- its last side is closed off: the passes come to a cycle
      pub run_stuck : T (closed_off d from to) → (e m' : List ℕ) → Passed w n (passes (length (open_list w l n)) (graph g (open_list w l n))) true e m'
      run_stuck t e m' =
          let z = ends_some (length (mid hh m i).choices) (mid hh m i) (omega arith) in
          let same = ends_passes (length (open_list w l n)) (subst (λ (x : List Constraint). Ends (graph g x) z.0) (opens_list w l n) (r.steps z.0 z.1)) (omega arith) in
          let one = ends_grow z.1 (pass_grows (opens w m (n - i) i) hh r.tidy).0 in
          let two = pass_grows after (with_side hh from to) (side_tidy hh from to) in
          let is : (mid hh m i).known ≡ (pass (with_side hh from to) after).known =
          ap (λ (p : Polygraph). p.known) (mid_at hh m i at ki ka o before) ∙ ap (λ (p : Polygraph). p.known) (taken_side last) in
          let edge : (u v : ℕ) → T (has (with_side hh from to) u v) → T (has z.0.known u v) =
          λ u v x. one.1 u v (subst (λ (k : List ℕ). T (has k u v)) (sym is) (two.1 u v x)) in
          let way = way_map (with_side hh from to) z.0.known edge to to (closed_cycle hh r.tidy from to (eq-T (closed_of from to) t)) in
          record {
            rows = λ q. no_true (sym q);
            list = λ q. no_true (sym q);
            cycle = λ q. subst (λ (p : Polygraph). T (cyclic p.known)) (sym same)
                (⊎_elim (λ x. x) (λ x. absurd (cyclic_out z.0.known x one.0 to way)) (decide (cyclic z.0.known)));
          }

    -- none of the rest has a side closed off
    module _ (ki : i ≤ n) where
      pub run_again : ((j : ℕ) → i ≤ j → j < n → T (is_open m j) → T (not (shut d (con_at w j)))) → Run g l d m 0
      run_again f =
          record {
            h = hh;
            tidy = r.tidy;
            is = r.is;
            steps = λ q x.
                r.steps q
                (subst (λ (p : Polygraph). Ends p q) (sym (mid_end hh m i ki (λ j a b o. shut_of (con_at w j) (f j a b o)))) (Ends.more (subst (λ (p : Polygraph). Ends p q) (mid_start hh m) x)));
          }

      -- nor any before: that is the end
      pub run_end : ((j : ℕ) → j < n → T (is_open m j) → T (not (shut d (con_at w j)))) → Passed w n (passes (length (open_list w l n)) (graph g (open_list w l n))) false d m
      run_end f =
          let p = graph hh (opens w m n 0) in
          let done = pass_none hh (opens w m n 0) (opens_all w m (Stays hh) n 0 (λ j a b o. stays_of hh (con_at w j) (shut_of (con_at w j) (f j (omega arith) o)))) in
          let x = r.steps p (subst (λ (q : Polygraph). Ends q p) (sym (mid_end hh m i ki (λ j a b o. shut_of (con_at w j) (f j b o)))) (Ends.stop done refl)) in
          let same = ends_passes (length (open_list w l n)) (subst (λ (y : List Constraint). Ends (graph g y) p) (opens_list w l n) x) (omega arith) in
          record {
            rows = λ q. r.is ∙ ap (λ (k : Polygraph). reach k.known) (sym same);
            list = λ q. sym (opens_list w m n) ∙ ap (λ (k : Polygraph). k.choices) (sym same);
            cycle = λ q. no_true q;
          }
