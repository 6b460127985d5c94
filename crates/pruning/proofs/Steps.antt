-- What is left of a pass, step by step, and passes until one drops none. Nothing here speaks of a walk. Assumes nothing.
--     pass_stays, pass_drops       what a pass does with a constraint, by its resolution
--     rest_start       at the start it is the whole pass.    rest_stays    a constraint stays, and is moved to the front.    rest_drops    one is dropped.    rest_end      at the end
--     pruned_step      a polygraph, pruned, from one pass over it
use Prim.Native.Nat.{ℕ, zero, suc, ◌+◌, ◌-◌, ◌≤◌, ◌<◌}
use native.Mathlib.Omega.{arith}
use native.Mathlib.Numerals.{add-one}
use mathlib.Core.Path.{◌≡◌, refl, sym, ap, ap₂, subst, ◌∙◌}
use mathlib.Core.Logic.{◌≢◌}
use mathlib.Core.Bool.{Bool, true, false, not, cond, ◌||◌, true≢false}
use mathlib.Core.List.{List, [], ◌∷◌, ◌++◌, append-nil, append_assoc}
use lib.Dec.{T, eqb}
use lib.ListN.{length, get_or, set, take, drop}
use lib.Seq.{drop-cons, drop-set-lt, take-suc-set, take-set-le}
use Rattle.model.specs.declared.Constraint.{Constraint}
use Rattle.model.specs.Lent.{no_constraint}
use Rattle.model.specs.Polygraph.{Polygraph, with_side, closed_off, pass, passes}
use Rattle.model.specs.RowWords.{Tidy}
use Rattle.graph.proofs.Rows.{side_tidy}
use Rattle.model.proofs.Basics.{eqb_ne}
use Rattle.model.proofs.Loops.{pass-A, pass-B, pass_holds}
use Rattle.std.specs.Prelude.{Option, None, Some, IfSome}
use Rattle.graph.specs.declared.Side.{Side}
use Rattle.pruning.specs.Passes.{LowTargets, resolution, resolution_of, with_added, part, prepend, rest, pruned}

-- ---- the verdicts

module _ (g : List ℕ) (c : Constraint) where
  abbrev off_a : Bool
  off_a = closed_off g c.fromA c.toA

  abbrev off_b : Bool
  off_b = closed_off g c.fromB c.toB

  module _ (a b : Bool) (ea : a ≡ off_a) (eb : b ≡ off_b) where
    resolution_is : resolution a b c ≡ resolution_of g c
    unfolding resolution_of
    resolution_is = ap₂ (λ (a b : Bool). resolution a b c) ea eb

    pub judged_none : (a || b) ≡ false → None ≡ resolution_of g c
    unfolding resolution
    judged_none n = go a b n ∙ resolution_is
      where
        go : (a b : Bool) → (a || b) ≡ false → None ≡ resolution a b c
        go true b n = absurd (true≢false n)
        go false true n = absurd (true≢false n)
        go false false n = refl

    pub judged_b : a ≡ true → Some (record { from = c.fromB; to = c.toB }) ≡ resolution_of g c
    unfolding resolution
    judged_b t = sym (ap (λ (x : Bool). resolution x b c) t) ∙ resolution_is

    pub judged_a : (a || b) ≡ true → a ≡ false → Some (record { from = c.fromA; to = c.toA }) ≡ resolution_of g c
    unfolding resolution
    judged_a o n = go a b o n ∙ resolution_is
      where
        go : (a b : Bool) → (a || b) ≡ true → a ≡ false → Some (record { from = c.fromA; to = c.toA }) ≡ resolution a b c
        go true b o n = absurd (true≢false n)
        go false true o n = refl
        go false false o n = absurd (true≢false (sym o))

  -- what the resolution makes of the pass from this constraint on
  pub pass_stays : (cs : List Constraint) → resolution_of g c ≡ None → pass g (c ∷ cs) ≡ prepend (c ∷ []) (pass g cs)
  unfolding resolution_of resolution
  pass_stays cs = go off_a off_b (λ x. x) (λ x. x) (λ x. x) (λ x. x)
    where
      go : (a b : Bool) → (T a → T off_a) → (T (not a) → T (not off_a)) → (T b → T off_b) → (T (not b) → T (not off_b)) → resolution a b c ≡ None → pass g (c ∷ cs) ≡ prepend (c ∷ []) (pass g cs)
      go true b ay an by bn e = cc
      go false true ay an by bn e = cc
      go false false ay an by bn e = pass_holds g c cs (an tt) (bn tt)

  pub pass_drops : (cs : List Constraint) (s : Side) → resolution_of g c ≡ Some s → pass g (c ∷ cs) ≡ pass (with_side g s.from s.to) cs
  unfolding resolution_of resolution
  pass_drops cs s = go off_a off_b (λ x. x) (λ x. x) (λ x. x) (λ x. x)
    where
      side : (v w : Option Side) → v ≡ w → pass (with_added g v) cs ≡ pass (with_added g w) cs
      side v w e = ap (λ (x : Option Side). pass (with_added g x) cs) e

      go : (a b : Bool) → (T a → T off_a) → (T (not a) → T (not off_a)) → (T b → T off_b) → (T (not b) → T (not off_b)) → resolution a b c ≡ Some s → pass g (c ∷ cs) ≡ pass (with_side g s.from s.to) cs
      go true b ay an by bn e = pass-A g c cs (ay tt) ∙ side _ _ e
      go false true ay an by bn e = pass-B g c cs (an tt) (by tt) ∙ side _ _ e
      go false false ay an by bn e = cc

-- the target of the side that is added is a transaction's number
pub side_low : (g : List ℕ) (c : Constraint) (s : Side) → LowTargets c → resolution_of g c ≡ Some s → s.to < 32
unfolding resolution_of resolution
side_low g c s p e = subst (λ (o : Option Side). IfSome o (λ s. s.to < 32)) e (go (closed_off g c.fromA c.toA) (closed_off g c.fromB c.toB))
  where
    go : (a b : Bool) → IfSome (resolution a b c) (λ s. s.to < 32)
    go true b = p.1
    go false true = p.0
    go false false = tt

-- ---- what is left of a pass

abbrev pub graph : List ℕ → List Constraint → Polygraph
graph g cs = record { known = g; choices = cs }

part_cons : (l : List Constraint) (i end : ℕ) → i < end → i < length l → part l i end ≡ get_or l i no_constraint ∷ part l (i + 1) end
part_cons l i end h k =
    let e : end - i ≡ suc (end - (i + 1)) = omega arith in
    ap (λ (m : ℕ). take m (drop i l)) e ∙ ap (take (suc (end - (i + 1)))) (drop-cons l i no_constraint k)
    ∙ ap (λ (m : ℕ). get_or l i no_constraint ∷ take (end - (i + 1)) (drop m l)) (sym (add-one i))

pub rest_start : (g : List ℕ) (l : List Constraint) (end : ℕ) → rest g l 0 0 end ≡ pass g (take end l)
unfolding rest
rest_start g l end = let e : end - 0 ≡ end = omega arith in ap (λ (m : ℕ). pass g (take m l)) e

pub rest_stays : (g : List ℕ) (l : List Constraint) (i j end : ℕ) → j ≤ i → i < end → end ≤ length l → resolution_of g (get_or l i no_constraint) ≡ None
    → rest g (set l j (get_or l i no_constraint)) (i + 1) (j + 1) end ≡ rest g l i j end
unfolding rest
rest_stays g l i j end low h long stays =
    let c = get_or l i no_constraint in
    let p = pass g (part l (i + 1) end) in
    let front : take (j + 1) (set l j c) ≡ take j l ++ (c ∷ []) = ap (λ (m : ℕ). take m (set l j c)) (add-one j) ∙ take-suc-set l j c (omega arith) in
    let back : drop (i + 1) (set l j c) ≡ drop (i + 1) l = drop-set-lt (i + 1) l j c (omega arith) in
    ap₂ (λ (xs ys : List Constraint). prepend xs (pass g (take (end - (i + 1)) ys))) front back
    ∙ ap (graph p.known) (append_assoc (take j l) (c ∷ []) p.choices)
    ∙ sym (ap (λ (ys : List Constraint). prepend (take j l) (pass g ys)) (part_cons l i end h (omega arith)) ∙ ap (prepend (take j l)) (pass_stays g c (part l (i + 1) end) stays))

pub rest_drops : (g : List ℕ) (l : List Constraint) (i j end : ℕ) (s : Side) → i < end → end ≤ length l → resolution_of g (get_or l i no_constraint) ≡ Some s
    → rest g l i j end ≡ rest (with_side g s.from s.to) l (i + 1) j end
unfolding rest
rest_drops g l i j end s h long drops =
    ap (λ (ys : List Constraint). prepend (take j l) (pass g ys)) (part_cons l i end h (omega arith))
    ∙ ap (prepend (take j l)) (pass_drops g (get_or l i no_constraint) (part l (i + 1) end) s drops)

-- what is written among those that are passed changes nothing
pub rest_over : (g : List ℕ) (l : List Constraint) (i j end : ℕ) (c : Constraint) → j ≤ i → rest g (set l j c) (i + 1) j end ≡ rest g l (i + 1) j end
unfolding rest
rest_over g l i j end c low =
    ap₂ (λ (xs ys : List Constraint). prepend xs (pass g (take (end - (i + 1)) ys))) (take-set-le j l j c (omega arith)) (drop-set-lt (i + 1) l j c (omega arith))

pub rest_end : (g : List ℕ) (l : List Constraint) (i j end : ℕ) → end ≤ i → rest g l i j end ≡ graph g (take j l)
unfolding rest pass
rest_end g l i j end h =
    let e : end - i ≡ 0 = omega arith in
    ap (λ (m : ℕ). prepend (take j l) (pass g (take m (drop i l)))) e ∙ ap (graph g) (append-nil (take j l))

-- ---- passes until one drops none

-- a pass adds no constraint
pub pass_few : (cs : List Constraint) (g : List ℕ) → length (pass g cs).choices ≤ length cs
unfolding pass
pass_few [] g = omega arith
pass_few (c ∷ cs) g = go (closed_off g c.fromA c.toA) (closed_off g c.fromB c.toB) (pass_few cs (with_side g c.fromB c.toB)) (pass_few cs (with_side g c.fromA c.toA)) (pass_few cs g)
  where
    go : (a b : Bool) → length (pass (with_side g c.fromB c.toB) cs).choices ≤ length cs → length (pass (with_side g c.fromA c.toA) cs).choices ≤ length cs → length (pass g cs).choices ≤ length cs
        → length (cond a (pass (with_side g c.fromB c.toB) cs) (cond b (pass (with_side g c.fromA c.toA) cs) (prepend (c ∷ []) (pass g cs)))).choices ≤ suc (length cs)
    go true b x y z = omega arith
    go false true x y z = omega arith
    go false false x y z = omega arith

-- and no edge beyond the 32 nodes
pub pass_tidy : (cs : List Constraint) (g : List ℕ) → Tidy g → Tidy (pass g cs).known
unfolding pass
pass_tidy [] g ti = ti
pass_tidy (c ∷ cs) g ti =
    go (closed_off g c.fromA c.toA) (closed_off g c.fromB c.toB) (pass_tidy cs (with_side g c.fromB c.toB) (side_tidy g c.fromB c.toB))
    (pass_tidy cs (with_side g c.fromA c.toA) (side_tidy g c.fromA c.toA)) (pass_tidy cs g ti)
  where
    go : (a b : Bool) → Tidy (pass (with_side g c.fromB c.toB) cs).known → Tidy (pass (with_side g c.fromA c.toA) cs).known → Tidy (pass g cs).known
        → Tidy (cond a (pass (with_side g c.fromB c.toB) cs) (cond b (pass (with_side g c.fromA c.toA) cs) (prepend (c ∷ []) (pass g cs)))).known
    go true b x y z = x
    go false true x y z = y
    go false false x y z = z

-- more passes than constraints change nothing
enough : (m k : ℕ) (g : List ℕ) (cs : List Constraint) → length cs ≤ m → length cs ≤ k → passes m (graph g cs) ≡ passes k (graph g cs)
unfolding passes pass
enough zero zero g cs l₁ l₂ = refl
enough zero (suc k) g [] l₁ l₂ = refl
enough zero (suc k) g (c ∷ cs) l₁ l₂ = absurd (omega arith)
enough (suc m) zero g [] l₁ l₂ = refl
enough (suc m) zero g (c ∷ cs) l₁ l₂ = absurd (omega arith)
enough (suc m) (suc k) g cs l₁ l₂ =
    go (eqb (length q.choices) (length cs)) (λ t. eqb_ne t) (λ a b. enough m k q.known q.choices a b)
  where
    q : Polygraph
    q = pass g cs

    go : (b : Bool) → (T (not b) → length q.choices ≢ length cs) → (length q.choices ≤ m → length q.choices ≤ k → passes m q ≡ passes k q) → cond b q (passes m q) ≡ cond b q (passes k q)
    go true f ih = refl
    go false f ih = let d = f tt in ih (omega (arith, pass_few cs g)) (omega (arith, pass_few cs g))

pub pruned_step : (g : List ℕ) (cs : List Constraint) → pruned (graph g cs) ≡ cond (eqb (length (pass g cs).choices) (length cs)) (pass g cs) (pruned (pass g cs))
unfolding pruned passes pass
pruned_step g [] = refl
pruned_step g (c ∷ cs) = go (eqb (length q.choices) (length (c ∷ cs))) (λ t. eqb_ne t)
  where
    q : Polygraph
    q = pass g (c ∷ cs)

    go : (b : Bool) → (T (not b) → length q.choices ≢ length (c ∷ cs)) → cond b q (passes (length cs) q) ≡ cond b q (passes (length q.choices) q)
    go true f = refl
    go false f = let d = f tt in enough (length cs) (length q.choices) q.known q.choices (omega (arith, pass_few (c ∷ cs) g)) (omega arith)
