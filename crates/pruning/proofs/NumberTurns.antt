-- Pruning on numbers that stand for constraints, pass by pass. What a pass leaves is said by `rest`, as for a list of constraints. Assumes nothing.
--     items_at, items_first, items_set       the constraints of numbers, as a list
--     stays, drops, drops_held      one constraint is resolved
--     Passing, passing_start, passing_next, passing_end    a pass that stands at i, with j kept
--     Settling, settling_start, settling_next, settling_end    passes, with some left
use Prim.Native.Nat.{ℕ, ◌+◌, ◌^◌, ◌≤◌, ◌<◌}
use native.Mathlib.Omega.{arith}
use mathlib.Core.Path.{◌≡◌, refl, sym, ap, ap₂, subst, ◌∙◌}
use mathlib.Core.Logic.{⊎_elim, ◌≢◌}
use mathlib.Core.Bool.{Bool, true, false, cond, true≢false}
use mathlib.Core.List.{List}
use lib.Dec.{T, eqb, ltb, ltb→lt, nltb→le}
use lib.ListN.{length, get_or, set, take, length-set, get_or-eq_default}
use lib.Seq.{get_or-set_same, get_or-set_other, get_or-take, take_all, length-take-le, ext_get_or}
use Rattle.model.specs.declared.Constraint.{Constraint}
use Rattle.model.specs.Lent.{no_constraint}
use Rattle.model.specs.Polygraph.{Polygraph, with_side, reach, pass}
use Rattle.model.specs.RowWords.{Tidy, side_in}
use Rattle.model.proofs.Basics.{decide, same?, true_eq, false_eq, eq-eqb, ne_eqb}
use Rattle.model.proofs.Words.{get_or_up_to}
use Rattle.graph.proofs.Rows.{side_tidy}
use Rattle.graph.proofs.SideLaws.{held_same}
use Rattle.listing.proofs.Lists.{items_length}
use Rattle.listing.specs.Candidates.{item_by, items_by}
use Rattle.std.specs.Prelude.{Option, None, Some, is_some}
use Rattle.graph.specs.declared.Side.{Side}
use Rattle.pruning.specs.Passes.{resolution_of, with_added, rest, pruned}
use Rattle.pruning.specs.Numbers.{resolved, Resolves, PrunedTo}
use Rattle.pruning.proofs.Steps.{graph, pass_tidy, rest_start, rest_stays, rest_drops, rest_over, rest_end, pruned_step}

-- ---- the constraints of numbers

module _ (t : List ℕ) where
  pub items_at : (ks : List ℕ) (n k : ℕ) → k < n → get_or (items_by t ks n) k no_constraint ≡ item_by t (get_or ks k 0)
  unfolding items_by
  items_at ks n k h = get_or_up_to (λ i. item_by t (get_or ks i 0)) no_constraint n k h

  pub items_first : (ks : List ℕ) (r n : ℕ) → r ≤ n → items_by t ks r ≡ take r (items_by t ks n)
  items_first ks r n h =
      let long : length (take r (items_by t ks n)) ≡ r = length-take-le r (items_by t ks n) (omega (arith, items_length t ks n)) in
      ext_get_or no_constraint (items_by t ks r) (take r (items_by t ks n)) (items_length t ks r ∙ sym long)
      (λ k less.
      let kr : k < r = omega (arith, items_length t ks r) in
      items_at ks r k kr ∙ sym (get_or-take r (items_by t ks n) k no_constraint kr ∙ items_at ks n k (omega arith)))

  -- what is read behind the list is what is not written there
  moved : (ks : List ℕ) (i j : ℕ) → j ≤ i → get_or (set ks j (get_or ks i 0)) j 0 ≡ get_or ks i 0
  moved ks i j h =
      ⊎_elim (λ t. get_or-set_same ks j (get_or ks i 0) 0 (ltb→lt j (length ks) t))
      (λ t.
      let over = nltb→le j (length ks) t in
      get_or-eq_default (set ks j (get_or ks i 0)) 0 {n = j} (omega (arith, length-set ks j (get_or ks i 0))) ∙ sym (get_or-eq_default ks 0 {n = i} (omega arith)))
      (decide (ltb j (length ks)))

  pub items_set : (ks : List ℕ) (n i j : ℕ) → j ≤ i → i < n → items_by t (set ks j (get_or ks i 0)) n ≡ set (items_by t ks n) j (get_or (items_by t ks n) i no_constraint)
  items_set ks n i j low h =
      ext_get_or no_constraint (items_by t ls n) (set l j c) (items_length t ls n ∙ sym (length-set l j c ∙ items_length t ks n))
      (λ k less.
      let kn : k < n = omega (arith, items_length t ls n) in
      items_at ls n k kn
      ∙ ⊎_elim
      (λ (e : k ≡ j).
      ap (λ (m : ℕ). item_by t (get_or ls m 0)) e ∙ ap (item_by t) (moved ks i j low) ∙ sym (items_at ks n i h)
      ∙ sym (ap (λ (m : ℕ). get_or (set l j c) m no_constraint) e ∙ get_or-set_same l j c no_constraint (omega (arith, items_length t ks n))))
      (λ (e : k ≢ j). ap (item_by t) (get_or-set_other ks j k (get_or ks i 0) 0 e) ∙ sym (items_at ks n k kn) ∙ sym (get_or-set_other l j k c no_constraint e))
      (same? k j))
    where
      l : List Constraint
      l = items_by t ks n

      c : Constraint
      c = get_or l i no_constraint

      ls : List ℕ
      ls = set ks j (get_or ks i 0)

-- ---- one constraint resolved

module _ (g : List ℕ) (c : Constraint) where
  resolved_none : resolution_of g c ≡ None → resolved g c ≡ g
  unfolding resolved
  resolved_none e = ap (λ (o : Option Side). with_added g o) e

  resolved_side : (v : Side) → resolution_of g c ≡ Some v → resolved g c ≡ with_side g v.from v.to
  unfolding resolved
  resolved_side v e = ap (λ (o : Option Side). with_added g o) e

  pub stays : None ≡ resolution_of g c → (ws : List ℕ) → ws ≡ reach g → Resolves g c false ws
  stays is ws closed = record { drops_is = ap (λ (o : Option Side). is_some o) is; rows_are = closed ∙ ap reach (sym (resolved_none (sym is))) }

  module _ (v : Side) (is : Some v ≡ resolution_of g c) where
    -- the other side is added
    pub drops : (us : List ℕ) → us ≡ reach (with_side g v.from v.to) → Resolves g c true us
    drops us grown = record { drops_is = ap (λ (o : Option Side). is_some o) is; rows_are = grown ∙ ap reach (sym (resolved_side v (sym is))) }

    -- it is there already
    pub drops_held : (ws : List ℕ) → ws ≡ reach g → Tidy g → v.from < 2 ^ 32 → v.to < 32 → side_in ws v.from v.to ≡ true → Resolves g c true ws
    drops_held ws closed ti small low held =
        drops ws (closed ∙ sym (held_same g v.from v.to ti small low (subst T (sym (sym (ap (λ (x : List ℕ). side_in x v.from v.to) closed) ∙ held)) tt)))

-- ---- a pass

module _ (t ws₀ ks₀ : List ℕ) (n : ℕ) where
  -- the edges so far, from g on
  pub record Going (g : List ℕ) (i j : ℕ) (ks ws : List ℕ) : Type 0 where
    pub edges : List ℕ
    pub closed : ws ≡ reach edges
    pub tidy : Tidy edges
    pub same : rest edges (items_by t ks n) i j n ≡ pass g (items_by t ks₀ n)

  pub record Passing (i j : ℕ) (ks ws : List ℕ) : Type 0 where
    pub high : i ≤ n
    pub behind : j ≤ i
    pub going : (g : List ℕ) → ws₀ ≡ reach g → Tidy g → Going g i j ks ws

  pub passing_start : Passing 0 0 ks₀ ws₀
  passing_start = record {
    high = omega arith;
    behind = omega arith;
    going = λ g e ti. record {
      edges = g;
      closed = e;
      tidy = ti;
      same = rest_start g (items_by t ks₀ n) n ∙ ap (pass g) (take_all n (items_by t ks₀ n) (omega (arith, items_length t ks₀ n)));
    };
  }

  module _ (i j : ℕ) (ks ws : List ℕ) (low : j ≤ i) (h : i < n) (g : List ℕ) (s : Going g i j ks ws) where
    abbrev e : List ℕ
    e = s.edges

    abbrev c : Constraint
    c = item_by t (get_or ks i 0)

    abbrev l : List Constraint
    l = items_by t ks n

    abbrev moves : List ℕ
    moves = set ks j (get_or ks i 0)

    at_i : get_or l i no_constraint ≡ c
    at_i = items_at t ks n i h

    going_stays : (us : List ℕ) → Resolves e c false us → Going g (i + 1) (j + 1) moves us
    going_stays us r = go (resolution_of e c) refl r.drops_is
      where
        go : (o : Option Side) → resolution_of e c ≡ o → false ≡ is_some o → Going g (i + 1) (j + 1) moves us
        go None is f = record {
          edges = e;
          closed = r.rows_are ∙ ap reach (resolved_none e c is);
          tidy = s.tidy;
          same = ap (λ (x : List Constraint). rest e x (i + 1) (j + 1) n) (items_set t ks n i j low h)
              ∙ rest_stays e l i j n low h (omega (arith, items_length t ks n)) (ap (resolution_of e) at_i ∙ is) ∙ s.same;
        }
        go (Some v) is f = absurd (true≢false (sym f))

    going_drops : (us : List ℕ) → Resolves e c true us → Going g (i + 1) j moves us
    going_drops us r = go (resolution_of e c) refl r.drops_is
      where
        go : (o : Option Side) → resolution_of e c ≡ o → true ≡ is_some o → Going g (i + 1) j moves us
        go None is f = absurd (true≢false f)
        go (Some v) is f =
            let e' = with_side e v.from v.to in
            record {
              edges = e';
              closed = r.rows_are ∙ ap reach (resolved_side e c v is);
              tidy = side_tidy e v.from v.to;
              same = ap (λ (x : List Constraint). rest e' x (i + 1) j n) (items_set t ks n i j low h) ∙ rest_over e' l i j n (get_or l i no_constraint) low
                  ∙ sym (rest_drops e l i j n v h (omega (arith, items_length t ks n)) (ap (resolution_of e) at_i ∙ is)) ∙ s.same;
            }

  -- one step: it moves to the front, and counts unless it is dropped
  pub passing_next : (i j k : ℕ) (ks ws us : List ℕ) (r : Bool) → i < n → Passing i j ks ws → ((g : List ℕ) → ws ≡ reach g → Tidy g → Resolves g (item_by t (get_or ks i 0)) r us) → k ≡ cond r 0 1
      → Passing (i + 1) (j + k) (set ks j (get_or ks i 0)) us
  passing_next i j k ks ws us r h p judged counts = go r judged counts
    where
      go : (r : Bool) → ((g : List ℕ) → ws ≡ reach g → Tidy g → Resolves g (item_by t (get_or ks i 0)) r us) → k ≡ cond r 0 1 → Passing (i + 1) (j + k) (set ks j (get_or ks i 0)) us
      go true judged counts =
          let stays_at : j ≡ j + k = omega arith in
          record {
            high = omega arith;
            behind = omega (arith, p.behind);
            going = λ g e ti.
                (let s = p.going g e ti in
                subst (λ (m : ℕ). Going g (i + 1) m (set ks j (get_or ks i 0)) us) stays_at (going_drops i j ks ws p.behind h g s us (judged s.edges s.closed s.tidy)));
          }
      go false judged counts =
          let counted : j + 1 ≡ j + k = omega arith in
          record {
            high = omega arith;
            behind = omega (arith, p.behind);
            going = λ g e ti.
                (let s = p.going g e ti in
                subst (λ (m : ℕ). Going g (i + 1) m (set ks j (get_or ks i 0)) us) counted (going_stays i j ks ws p.behind h g s us (judged s.edges s.closed s.tidy)));
          }

  pub passing_end : (i j : ℕ) (ks ws : List ℕ) → n ≤ i → Passing i j ks ws → (g : List ℕ) → ws₀ ≡ reach g → Tidy g → PrunedTo (pass g (items_by t ks₀ n)) t ks j ws
  passing_end i j ks ws over p g e ti =
      let s = p.going g e ti in
      let ends : graph s.edges (take j (items_by t ks n)) ≡ pass g (items_by t ks₀ n) = sym (rest_end s.edges (items_by t ks n) i j n over) ∙ s.same in
      record { choices_are = items_first t ks j n (omega (arith, p.behind, p.high)) ∙ ap (λ (q : Polygraph). q.choices) ends; rows_are = s.closed ∙ ap (λ (q : Polygraph). reach q.known) ends }

-- ---- passes until one drops none

module _ (t ws₀ ks₀ : List ℕ) (n : ℕ) where
  -- the edges so far, from g on: what is left is pruned to the same
  pub record Leading (g : List ℕ) (left : ℕ) (ks ws : List ℕ) : Type 0 where
    pub edges : List ℕ
    pub closed : ws ≡ reach edges
    pub tidy : Tidy edges
    pub same : pruned (graph edges (items_by t ks left)) ≡ pruned (graph g (items_by t ks₀ n))

  pub record Settling (left : ℕ) (ks ws : List ℕ) : Type 0 where
    pub few : left ≤ n
    pub leading : (g : List ℕ) → ws₀ ≡ reach g → Tidy g → Leading g left ks ws

  pub settling_start : Settling n ks₀ ws₀
  settling_start = record { few = omega arith; leading = λ g e ti. record { edges = g; closed = e; tidy = ti; same = refl } }

  -- after a pass that leaves r
  module _ (left r : ℕ) (ks ls ws us : List ℕ) (s : Settling left ks ws) (passed : (g : List ℕ) → ws ≡ reach g → Tidy g → PrunedTo (pass g (items_by t ks left)) t ls r us) where
    module _ (g : List ℕ) (e : ws₀ ≡ reach g) (ti : Tidy g) where
      abbrev was : Leading g left ks ws
      was = s.leading g e ti

      abbrev q : Polygraph
      q = pass was.edges (items_by t ks left)

      now_is : PrunedTo q t ls r us
      now_is = passed was.edges was.closed was.tidy

      step : pruned (graph g (items_by t ks₀ n)) ≡ cond (eqb r left) q (pruned q)
      step =
          sym was.same ∙ pruned_step was.edges (items_by t ks left)
          ∙ ap₂ (λ (x y : ℕ). cond (eqb x y) q (pruned q)) (ap length (sym now_is.choices_are) ∙ items_length t ls r) (items_length t ks left)

      ends : r ≡ left → pruned (graph g (items_by t ks₀ n)) ≡ q
      ends same = step ∙ ap (λ (b : Bool). cond b q (pruned q)) (true_eq (eqb r left) (eq-eqb same))

      goes : r ≢ left → pruned (graph g (items_by t ks₀ n)) ≡ pruned q
      goes other = step ∙ ap (λ (b : Bool). cond b q (pruned q)) (false_eq (eqb r left) (ne_eqb other))

    pub settling_next : r ≤ left → r ≢ left → Settling r ls us
    settling_next fewer other = record {
      few = omega (arith, s.few);
      leading = λ g e ti. record {
        edges = (q g e ti).known;
        closed = (now_is g e ti).rows_are;
        tidy = pass_tidy (items_by t ks left) (was g e ti).edges (was g e ti).tidy;
        same = ap (λ (cs : List Constraint). pruned (graph (q g e ti).known cs)) (now_is g e ti).choices_are ∙ sym (goes g e ti other);
      };
    }

    pub settling_end : r ≡ left → (g : List ℕ) → ws₀ ≡ reach g → Tidy g → PrunedTo (pruned (graph g (items_by t ks₀ n))) t ls left us
    settling_end same g e ti = record {
      choices_are = ap (items_by t ls) (sym same) ∙ (now_is g e ti).choices_are ∙ ap (λ (p : Polygraph). p.choices) (sym (ends g e ti same));
      rows_are = (now_is g e ti).rows_are ∙ ap (λ (p : Polygraph). reach p.known) (sym (ends g e ti same));
    }
