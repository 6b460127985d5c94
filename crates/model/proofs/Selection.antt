-- A polygraph has an acyclic selection if and only if some order respects it; so a history has a legal order
-- if and only if its polygraph has an acyclic selection, in each of the six settings. Assumes nothing.
use Prim.Native.Nat.{ℕ, suc, ◌≤◌, ◌<◌}
use native.Mathlib.Omega.{arith}
use mathlib.Core.Path.{◌≡◌, refl, ap}
use mathlib.Core.Logic.{inl, inr, ⊎_elim, ◌↔◌}
use mathlib.Core.Bool.{Bool, true, false}
use mathlib.Core.List.{List, [], ◌∷◌}
use lib.Dec.{T}
use lib.ListN.{length}
use Rattle.model.specs.Lists.{All}
use Rattle.model.specs.History.{History, size, is_order, legal}
use Rattle.model.specs.Polygraph.{Constraint, Polygraph, rows, has, reach, with_side, unpruned, polygraph, select, Way, AcyclicSelection, RespectsKnown, RespectsOne, Respects}
use Rattle.model.specs.RowWords.{Aimed, Within}
use Rattle.model.proofs.Reach.{within_tidy, way_reach, reach_way}
use Rattle.model.proofs.Known.{Loadable}
use Rattle.model.proofs.Pruning.{Sound, way_forward, side_in_lem, side_known, side_side, sound-A, sound-B, unpruned_sound, polygraph_sound, polygraph_iff, legal_iff}
use Rattle.model.proofs.Topology.{topological}

-- the row words of a selection lie within n
select_within : (n : ℕ) (cs : List Constraint) (g : List ℕ) (bs : List Bool) → Within g n → All (Aimed n) cs → Within (select g cs bs) n
unfolding select
select_within n [] g bs w a = w
select_within n (c ∷ cs) g [] w a = w
select_within n (c ∷ cs) g (true ∷ bs) w a = select_within n cs (with_side g c.fromA c.toA) bs (sound-A n c cs g (w, a)).0 a.1
select_within n (c ∷ cs) g (false ∷ bs) w a = select_within n cs (with_side g c.fromB c.toB) bs (sound-B n c cs g (w, a)).0 a.1

module _ (n : ℕ) (few : n ≤ 32) (o : List ℕ) where
  -- an order that respects a selection respects the polygraph
  select_out : (cs : List Constraint) (g : List ℕ) (bs : List Bool) → length bs ≡ length cs → All (Aimed n) cs
      → RespectsKnown o (select g cs bs) → RespectsKnown o g × All (RespectsOne o) cs
  unfolding select
  select_out [] g bs e a r = (r, tt)
  select_out (c ∷ cs) g [] e a r = absurd (omega arith)
  select_out (c ∷ cs) g (true ∷ bs) e a r =
      let i = select_out cs (with_side g c.fromA c.toA) bs (omega arith) a.1 r in
      (side_known g c.fromA c.toA o i.0, (inl (side_side g c.fromA c.toA o (omega (arith, a.0.toA-small)) i.0), i.1))
  select_out (c ∷ cs) g (false ∷ bs) e a r =
      let i = select_out cs (with_side g c.fromB c.toB) bs (omega arith) a.1 r in
      (side_known g c.fromB c.toB o i.0, (inr (side_side g c.fromB c.toB o (omega (arith, a.0.toB-small)) i.0), i.1))

  -- an order that respects the polygraph respects some selection
  select_in : (cs : List Constraint) (g : List ℕ) → RespectsKnown o g → All (RespectsOne o) cs
      → (bs : List Bool) × (length bs ≡ length cs) × RespectsKnown o (select g cs bs)
  unfolding select
  select_in [] g k a = ([], refl, k)
  select_in (c ∷ cs) g k a =
      ⊎_elim
      (λ s.
      let i = select_in cs (with_side g c.fromA c.toA) (side_in_lem g c.fromA c.toA o k s) a.1 in
      (true ∷ i.0, ap suc i.1, i.2))
      (λ s.
      let i = select_in cs (with_side g c.fromB c.toB) (side_in_lem g c.fromB c.toB o k s) a.1 in
      (false ∷ i.0, ap suc i.1, i.2))
      a.0

pub selection_iff : (n : ℕ) → n ≤ 32 → (p : Polygraph) → Sound n p → AcyclicSelection p ↔ ((o : List ℕ) × T (is_order n o) × Respects o p)
selection_iff n few p s = (
  λ a.
      let t = topological (select p.known p.choices a.sides) n few (select_within n p.choices p.known a.sides s.0 s.1) a.acyclic in
      (t.0, t.1, select_out n few t.0 p.choices p.known a.sides a.each_one s.1 t.2),
  λ r.
      let i = select_in n few r.0 p.choices p.known r.2.0 r.2.1 in
      record {
        sides = i.0;
        each_one = i.1;
        acyclic = λ u w.
            let l =
            way_forward r.0 (select p.known p.choices i.0)
            (within_tidy (select p.known p.choices i.0) n few (select_within n p.choices p.known i.0 s.0 s.1)) i.2 u u w in
            omega arith;
      },
)

-- a history has a legal order if and only if its polygraph has an acyclic selection
pub serializable : (h : History) → Loadable h → (e pruning : ℕ) → e < 3
    → ((o : List ℕ) × T (legal h o)) ↔ AcyclicSelection (polygraph h e pruning)
serializable h ok e pruning l =
    let i = selection_iff (size h) ok.few (polygraph h e pruning) (polygraph_sound h ok e pruning) in (
      λ r. let q = (legal_iff h ok e pruning l r.0).0 r.1 in i.1 (r.0, q.0, q.1),
      λ a. let r = i.0 a in (r.0, (legal_iff h ok e pruning l r.0).1 (r.1, r.2)),
    )

-- pruning keeps the acyclic selections
pub selections_kept : (h : History) → Loadable h → (e : ℕ) → AcyclicSelection (unpruned h e) ↔ AcyclicSelection (polygraph h e 1)
selections_kept h ok e =
    let i = selection_iff (size h) ok.few (unpruned h e) (unpruned_sound h ok e) in
    let j = selection_iff (size h) ok.few (polygraph h e 1) (polygraph_sound h ok e 1) in (
      λ a. let r = i.0 a in j.1 (r.0, r.1, (polygraph_iff h ok e 1 r.0).0 r.2),
      λ a. let r = j.0 a in i.1 (r.0, r.1, (polygraph_iff h ok e 1 r.0).1 r.2),
    )

-- the known edges' reachability is paths
pub rows_reached : (h : History) → Loadable h → (e u v : ℕ) → T (has (reach (rows h e)) u v) ↔ Way (rows h e) u v
rows_reached h ok e u v =
    (λ t. reach_way (rows h e) u v t, λ w. way_reach (rows h e) (within_tidy (rows h e) (size h) ok.few (unpruned_sound h ok e).0) u v w)
