-- The loops of a skim and of the passes, turn by turn, as facts on lists: what the proofs cite. Assumes nothing.
--     Upto, upto_none, upto_next, upto_hit, upto_stop      a skim that stands at i, with j kept
--     Stands, stands_start, stands_next, stands_end        the passes at a place
--     todo, todo_less      what is left to do falls with each turn
use Prim.Native.Nat.{ℕ, zero, suc, ◌+◌, ◌-◌, ◌≤◌, ◌<◌}
use native.Mathlib.Omega.{arith}
use mathlib.Core.Path.{◌≡◌, refl, sym, ap, ap₂, subst, ◌∙◌}
use mathlib.Core.Logic.{⊎_elim, ◌≢◌}
use mathlib.Core.Bool.{Bool, true, false, not, cond}
use mathlib.Core.List.{List}
use lib.Dec.{T, eqb, ltb, ltb→lt, nltb→le}
use lib.ListN.{length, get_or, set, take, drop, length-take, length-set}
use lib.Seq.{drop-drop, drop-set-lt, get_or-set_same, get_or-set_other}
use Rattle.model.specs.declared.Constraint.{Constraint}
use Rattle.model.specs.Lent.{no_constraint}
use Rattle.model.specs.Polygraph.{Polygraph, reach}
use Rattle.model.proofs.Basics.{true_eq, false_eq, ne_eqb, eq-eqb, same?}
use Rattle.std.specs.Prelude.{Option, None, Some, MatchOption}
use Rattle.graph.specs.declared.Side.{Side}
use Rattle.pruning.specs.declared.Place.{Place}
use Rattle.pruning.specs.declared.Hit.{Hit}
use Rattle.pruning.specs.Passes.{LowTargets, Aims, resolution_of, with_added, choose_place, first_place, next_place, PlaceWithin, rest, pruned, settled, Skimmed, Pruning}
use Rattle.pruning.proofs.Counts.{HitWithin, start_counts, skim_counts, hit_counts, new_counts, last_counts}
use Rattle.pruning.proofs.Steps.{graph, side_low, rest_start, rest_stays, rest_drops, rest_end, pruned_step}

-- ---- a skim

aims_set : (l : List Constraint) (i j end : ℕ) → j ≤ i → i < end → end ≤ length l → Aims l end → Aims (set l j (get_or l i no_constraint)) end
aims_set l i j end low h long aims k less =
    ⊎_elim
    (λ (e : k ≡ j). subst LowTargets (sym (ap (λ (m : ℕ). get_or (set l j (get_or l i no_constraint)) m no_constraint) e ∙ get_or-set_same l j (get_or l i no_constraint) no_constraint (omega arith))) (aims i h))
    (λ (e : k ≢ j). subst LowTargets (sym (get_or-set_other l j k (get_or l i no_constraint) no_constraint e)) (aims k less)) (same? k j)

module _ (closed : List ℕ) (ys : List Constraint) (at kept end : ℕ) where
  pub record Upto (i j : ℕ) (l : List Constraint) : Type 0 where
    pub low : at ≤ i
    pub high : i ≤ end
    pub behind : j ≤ i
    pub grown : j + at ≡ kept + i
    pub len : length l ≡ length ys
    pub back : drop end l ≡ drop end ys
    pub aims : Aims l end
    pub same : (g : List ℕ) → closed ≡ reach g → rest g l i j end ≡ rest g ys at kept end

  pub upto_none : kept ≤ at → at ≤ end → Aims ys end → Upto at kept ys
  upto_none a b c = record { low = omega arith; high = b; behind = a; grown = refl; len = refl; back = refl; aims = c; same = λ g e. refl }

  module _ (i j : ℕ) (l : List Constraint) (u : Upto i j l) (long : end ≤ length ys) (h : i < end) where
    pub upto_next : ((g : List ℕ) → closed ≡ reach g → None ≡ resolution_of g (get_or l i no_constraint)) → Upto (i + 1) (j + 1) (set l j (get_or l i no_constraint))
    upto_next says = record {
      low = omega (arith, u.low);
      high = omega arith;
      behind = omega (arith, u.behind);
      grown = omega (arith, u.grown);
      len = length-set l j (get_or l i no_constraint) ∙ u.len;
      back = drop-set-lt end l j (get_or l i no_constraint) (omega (arith, u.behind)) ∙ u.back;
      aims = aims_set l i j end u.behind h (omega (arith, u.len)) u.aims;
      same = λ g e. rest_stays g l i j end u.behind h (omega (arith, u.len)) (sym (says g e)) ∙ u.same g e;
    }

    pub upto_hit : (s : Side) → ((g : List ℕ) → closed ≡ reach g → Some s ≡ resolution_of g (get_or l i no_constraint))
        → (g : List ℕ) → closed ≡ reach g → Skimmed g ys at kept end (record { at = i; kept = j; side = Some s }) l
    upto_hit s says g e = record {
      low = u.low;
      high = u.high;
      behind = u.behind;
      grown = u.grown;
      same = u.same g e;
      back = u.back;
      aims = u.aims;
      ends = (h, sym (says g e));
    }

  pub upto_stop : (i j : ℕ) (l : List Constraint) → Upto i j l → i ≡ end → (g : List ℕ) → closed ≡ reach g → Skimmed g ys at kept end (record { at = end; kept = j; side = None }) l
  upto_stop i j l u over g e = record {
    low = omega (arith, u.low);
    high = omega arith;
    behind = omega (arith, u.behind);
    grown = omega (arith, u.grown);
    same = ap (λ (k : ℕ). rest g l k j end) (sym over) ∙ u.same g e;
    back = u.back;
    aims = u.aims;
    ends = omega arith;
  }

-- the target of the side that is added is a transaction's number
pub to_small : (g : List ℕ) (ys zs : List Constraint) (at kept end : ℕ) (h : Hit) → Skimmed g ys at kept end h zs → (s : Side) → h.side ≡ Some s → s.to < 32
to_small g ys zs at kept end h k s is =
    let x = subst (λ (o : Option Side). MatchOption o (end ≤ h.at) (λ s. (h.at < end) × (resolution_of g (get_or zs h.at no_constraint) ≡ Some s))) is k.ends in
    side_low g (get_or zs h.at no_constraint) s (k.aims h.at x.0) x.1

-- ---- the passes

-- the passes from a pass that stands in the middle, or is the last and over
unfoldable pub onward : Bool → List ℕ → List Constraint → ℕ → ℕ → ℕ → Polygraph
onward false g l i j end = graph g (take j l)
onward true g l i j end = cond (eqb (length (rest g l i j end).choices) end) (rest g l i j end) (pruned (rest g l i j end))

module _ (rows : List ℕ) (ys : List Constraint) (n pruning : ℕ) where
  -- what pruning is to leave
  abbrev goal : Polygraph
  goal = settled pruning (graph rows (take n ys))

  pub record Stands (g : List ℕ) (l : List Constraint) (p : Place) : Type 0 where
    pub inside : PlaceWithin n p
    pub len : length l ≡ length ys
    pub back : drop n l ≡ drop n ys
    pub aims : Aims l p.end
    pub known : goal ≡ onward p.on g l p.at p.kept p.end

  length_first : (l : List Constraint) (m : ℕ) → m ≤ length l → length (take m l) ≡ m
  length_first l m h = simp length-take (omega arith)

  -- a new pass over the first m
  onward_start : (g : List ℕ) (l : List Constraint) (m : ℕ) → m ≤ length l → pruned (graph g (take m l)) ≡ onward true g l 0 0 m
  unfolding onward
  onward_start g l m h =
      pruned_step g (take m l)
      ∙ ap₂ (λ (q : Polygraph) (k : ℕ). cond (eqb (length q.choices) k) q (pruned q)) (sym (rest_start g l m)) (length_first l m h)

  pub stands_start : n ≤ length ys → Aims ys n → Stands rows ys (first_place n pruning)
  unfolding first_place settled onward
  stands_start h aims = go (eqb pruning 1) refl
    where
      go : (b : Bool) → eqb pruning 1 ≡ b → Stands rows ys (choose_place b (record { at = 0; kept = 0; end = n; on = true }) (record { at = n; kept = n; end = n; on = false }))
      go true e = record {
        inside = start_counts n true;
        len = refl;
        back = refl;
        aims = aims;
        known = ap (λ (b : Bool). cond b (pruned (graph rows (take n ys))) (graph rows (take n ys))) e ∙ onward_start rows ys n h;
      }
      go false e = record {
        inside = start_counts n false;
        len = refl;
        back = refl;
        aims = aims;
        known = ap (λ (b : Bool). cond b (pruned (graph rows (take n ys))) (graph rows (take n ys))) e;
      }

  module _ (g : List ℕ) (l zs : List Constraint) (p : Place) (h : Hit) (s : Stands g l p) (on : p.on ≡ true) (k : Skimmed g l p.at p.kept p.end h zs)
      (len : length zs ≡ length ys) (fits : n ≤ length ys) where
    abbrev q : Polygraph
    q = rest g zs h.at h.kept p.end

    met : HitWithin p h
    met = skim_counts g l zs p h k

    stops : goal ≡ cond (eqb (length q.choices) p.end) q (pruned q)
    unfolding onward
    stops =
        s.known ∙ ap (λ (m : Bool). onward m g l p.at p.kept p.end) on
        ∙ ap (λ (x : Polygraph). cond (eqb (length x.choices) p.end) x (pruned x)) (sym k.same)

    -- the places from n on are as they were
    back_n : drop n zs ≡ drop n ys
    back_n = dropped s.inside.top k.back ∙ s.back
      where
        dropped : {m : ℕ} → m ≤ n → drop m zs ≡ drop m l → drop n zs ≡ drop n l
        dropped {m} le e =
            let d : n ≡ m + (n - m) = omega arith in
            ap (λ (x : ℕ). drop x zs) d ∙ sym (drop-drop (n - m) m zs) ∙ ap (drop (n - m)) e ∙ drop-drop (n - m) m l ∙ ap (λ (x : ℕ). drop x l) (sym d)

    abbrev Next : Place → Type 0
    Next r = Stands (with_added g h.side) zs r

    dropped_one : h.at < p.end → q ≡ rest (with_added g h.side) zs (h.at + 1) h.kept p.end
    dropped_one less = go h.side k.ends
      where
        go : (o : Option Side) → MatchOption o (p.end ≤ h.at) (λ s. (h.at < p.end) × (resolution_of g (get_or zs h.at no_constraint) ≡ Some s)) → q ≡ rest (with_added g o) zs (h.at + 1) h.kept p.end
        go None over = absurd (omega arith)
        go (Some v) x = rest_drops g zs h.at h.kept p.end v less (omega (arith, s.inside.top)) x.1

    hit_on : h.at < p.end → Next (record { at = h.at + 1; kept = h.kept; end = p.end; on = true })
    unfolding onward
    hit_on less = record {
      inside = hit_counts n p h s.inside met less;
      len = len;
      back = back_n;
      aims = k.aims;
      known = stops ∙ ap (λ (x : Polygraph). cond (eqb (length x.choices) p.end) x (pruned x)) (dropped_one less);
    }

    module _ (over : p.end ≤ h.at) where
      same_rows : with_added g h.side ≡ g
      same_rows = go h.side k.ends
        where
          go : (o : Option Side) → MatchOption o (p.end ≤ h.at) (λ s. (h.at < p.end) × (resolution_of g (get_or zs h.at no_constraint) ≡ Some s)) → with_added g o ≡ g
          go None x = refl
          go (Some v) x = absurd (omega (arith, x.0))

      passed : q ≡ graph g (take h.kept zs)
      passed = rest_end g zs h.at h.kept p.end over

      kept_in : h.kept ≤ length zs
      kept_in = omega (arith, k.behind, k.high, s.inside.top)

      stops_at : goal ≡ cond (eqb h.kept p.end) (graph g (take h.kept zs)) (pruned (graph g (take h.kept zs)))
      stops_at =
          stops ∙ ap (λ (x : Polygraph). cond (eqb (length x.choices) p.end) x (pruned x)) passed
          ∙ ap (λ (m : ℕ). cond (eqb m p.end) (graph g (take h.kept zs)) (pruned (graph g (take h.kept zs)))) (length_first zs h.kept kept_in)

      hit_new : h.kept < p.end → Next (record { at = 0; kept = 0; end = h.kept; on = true })
      hit_new fewer = record {
        inside = new_counts n p h s.inside met;
        len = len;
        back = back_n;
        aims = λ m less. k.aims m (omega arith);
        known = stops_at ∙ ap (λ (b : Bool). cond b (graph g (take h.kept zs)) (pruned (graph g (take h.kept zs)))) (false_eq (eqb h.kept p.end) (ne_eqb {m = h.kept} {n = p.end} (omega arith)))
            ∙ onward_start g zs h.kept kept_in ∙ ap (λ (x : List ℕ). onward true x zs 0 0 h.kept) (sym same_rows);
      }

      hit_last : p.end ≤ h.kept → Next (record { at = h.at; kept = h.kept; end = p.end; on = false })
      unfolding onward
      hit_last none_dropped =
          let e : h.kept ≡ p.end = omega (arith, k.behind, k.high) in
          record {
            inside = last_counts n p h s.inside met;
            len = len;
            back = back_n;
            aims = k.aims;
            known = stops_at ∙ ap (λ (b : Bool). cond b (graph g (take h.kept zs)) (pruned (graph g (take h.kept zs)))) (true_eq (eqb h.kept p.end) (eq-eqb e))
                ∙ ap (λ (x : List ℕ). graph x (take h.kept zs)) (sym same_rows);
          }

    pub stands_next : Next (next_place p h)
    unfolding next_place
    stands_next =
        go (ltb h.at p.end) (ltb h.kept p.end) (λ t. ltb→lt h.at p.end t) (λ t. nltb→le h.at p.end t) (λ t. ltb→lt h.kept p.end t) (λ t. nltb→le h.kept p.end t)
      where
        go : (a b : Bool) → (T a → h.at < p.end) → (T (not a) → p.end ≤ h.at) → (T b → h.kept < p.end) → (T (not b) → p.end ≤ h.kept)
            → Next (choose_place a (record { at = h.at + 1; kept = h.kept; end = p.end; on = true }) (choose_place b (record { at = 0; kept = 0; end = h.kept; on = true }) (record { at = h.at; kept = h.kept; end = p.end; on = false })))
        go true b ay an by bn = hit_on (ay tt)
        go false true ay an by bn = hit_new (an tt) (by tt)
        go false false ay an by bn = hit_last (an tt) (bn tt)

  pub stands_end : (g : List ℕ) (l : List Constraint) (p : Place) → Stands g l p → p.on ≡ false → n ≤ length ys → Pruning rows ys n pruning (record { rows = g; left = p.kept }) l
  unfolding onward
  stands_end g l p s off fits =
      let e : goal ≡ graph g (take p.kept l) = s.known ∙ ap (λ (m : Bool). onward m g l p.at p.kept p.end) off in
      record {
        few = omega (arith, s.inside.low, s.inside.high, s.inside.top);
        left_is = sym (ap (λ (x : Polygraph). length x.choices) e ∙ length_first l p.kept (omega (arith, s.inside.low, s.inside.high, s.inside.top, s.len)));
        rows_are = sym (ap (λ (x : Polygraph). x.known) e);
        front = sym (ap (λ (x : Polygraph). x.choices) e);
        back = s.back;
      }

-- ---- what is left to do: the rest of this pass, and passes that are shorter each time

unfoldable pub tri : ℕ → ℕ
tri zero = 0
tri (suc n) = suc (tri n + n)

tri_more : (n m : ℕ) → m < n → tri m + m < tri n
unfolding tri
tri_more zero m h = absurd (omega arith)
tri_more (suc n) m h =
    ⊎_elim (λ (e : m ≡ n). subst (λ (x : ℕ). tri x + x < suc (tri n + n)) (sym e) (omega arith)) (λ (e : m ≢ n). let l = tri_more n m (omega arith) in omega arith) (same? m n)

unfoldable pub todo_from : Bool → ℕ → ℕ → ℕ
todo_from false at end = 0
todo_from true at end = suc (tri end + (end - at))

unfoldable pub todo : Place → ℕ
todo p = todo_from p.on p.at p.end

pub todo_less : (g : List ℕ) (l zs : List Constraint) (p : Place) (h : Hit) → p.on ≡ true → Skimmed g l p.at p.kept p.end h zs → todo (next_place p h) < todo p
unfolding todo todo_from next_place
todo_less g l zs p h on k =
    subst (λ (m : Bool). todo (next_place p h) < todo_from m p.at p.end) (sym on)
    (go (ltb h.at p.end) (ltb h.kept p.end) (λ t. ltb→lt h.at p.end t) (λ t. ltb→lt h.kept p.end t))
  where
    go : (a b : Bool) → (T a → h.at < p.end) → (T b → h.kept < p.end)
        → todo (choose_place a (record { at = h.at + 1; kept = h.kept; end = p.end; on = true }) (choose_place b (record { at = 0; kept = 0; end = h.kept; on = true }) (record { at = h.at; kept = h.kept; end = p.end; on = false })))
        < suc (tri p.end + (p.end - p.at))
    go true b ay by = let less = ay tt in omega (arith, k.low)
    go false true ay by = omega (arith, tri_more p.end h.kept (by tt))
    go false false ay by = omega arith
