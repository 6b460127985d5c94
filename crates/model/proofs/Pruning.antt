-- Pruning keeps the orders that respect a polygraph. Assumes nothing.
use Prim.Native.Nat.{ℕ, zero, suc, ◌≤◌, ◌<◌}
use native.Mathlib.Omega.{arith}
use mathlib.Core.Path.{◌≡◌, refl, sym, ap, subst}
use mathlib.Core.Logic.{inl, inr, ⊎_elim, ◌↔◌, ◌≢◌}
use mathlib.Core.Bool.{Bool, true, false, not, cond, ◌&&◌, ◌||◌}
use mathlib.Core.List.{List, [], ◌∷◌, map}
use lib.Dec.{T, eqb, ltb, eqb→eq, eqb_refl}
use lib.ListN.{length}
use Rattle.model.specs.Lists.{All, any, keep, each, up_to, place, bit}
use Rattle.model.specs.History.{Operation, History, size, outward_of, is_read, writes, is_order, legal}
use Rattle.model.specs.Polygraph.{good_read, edge, rows, Constraint, in_ends, only, ends, plain_of, plain, between, joined, is_head, tail, chained, constraints, Polygraph, has, with_side, reach, closed_off, pass, passes, unpruned, polygraph, Way, RespectsKnown, RespectsSide, Respects}
use Rattle.model.specs.RowWords.{Aimed, Tidy, Within}
use Rattle.model.proofs.Basics.{eq-T, cond_out, and_l, and_r, and_in, or_out, or_l, or_r, eqb_ne, All-every, All-each-in, All-map-in, All-keep-in, any_up_to_out}
use Rattle.model.proofs.Words.{bit_word, word_small, bit_rows, rows_small}
use Rattle.model.proofs.Reach.{within_tidy, reach_way}
use Rattle.model.proofs.Legal.{writes_small, reads_small, good_reads_lem, good_writes}
use Rattle.model.proofs.Known.{Loadable, edge_small}
use Rattle.model.proofs.Central.{central, head_writes, tail_small}
use Rattle.model.proofs.Closed.{old_edge}

-- a path goes forward in an order that respects the edges
pub way_forward : (o g : List ℕ) → Tidy g → RespectsKnown o g → (u v : ℕ) → Way g u v → place u o < place v o
way_forward o g tidy f u v (Way.step t) = let s = tidy u v t in f u v s.0 s.1 t
way_forward o g tidy f u v (Way.more {v = w} t p) =
    let s = tidy u w t in
    let a = f u w s.0 s.1 t in
    let b = way_forward o g tidy f w v p in
    omega arith

-- the row words with a side's edges
module _ (g : List ℕ) (from to : ℕ) where
  abbrev test : ℕ → ℕ → Bool
  test u v = has g u v || (bit from u && eqb v to)

  pub side_within : (n : ℕ) → Within g n → ((s : ℕ) → T (bit from s) → s < n) → to < n → Within (with_side g from to) n
  unfolding with_side
  side_within n f fs ft u v t =
      let s = rows_small test u v t in
      ⊎_elim (λ a. f u v a)
      (λ a. (fs u (and_l (bit from u) (eqb v to) a), subst (λ y. y < n) (sym (eqb→eq v to (and_r (bit from u) (eqb v to) a))) ft))
      (or_out (has g u v) (bit from u && eqb v to) (eq-T (bit_rows test u v s.0 s.1) t))

  pub side_in_lem : (o : List ℕ) → RespectsKnown o g → RespectsSide o from to → RespectsKnown o (with_side g from to)
  unfolding with_side
  side_in_lem o f s u v hu hv t =
      ⊎_elim (λ a. f u v hu hv a)
      (λ a.
      subst (λ y. place u o < place y o) (sym (eqb→eq v to (and_r (bit from u) (eqb v to) a))) (s u hu (and_l (bit from u) (eqb v to) a)))
      (or_out (has g u v) (bit from u && eqb v to) (eq-T (bit_rows test u v hu hv) t))

  pub side_known : (o : List ℕ) → RespectsKnown o (with_side g from to) → RespectsKnown o g
  unfolding with_side
  side_known o f u v hu hv t =
      f u v hu hv (eq-T (sym (bit_rows test u v hu hv)) (or_l (has g u v) (bit from u && eqb v to) t))

  pub side_side : (o : List ℕ) → to < 32 → RespectsKnown o (with_side g from to) → RespectsSide o from to
  unfolding with_side
  side_side o l f s hs t =
      f s to hs l (eq-T (sym (bit_rows test s to hs l)) (or_r (has g s to) (bit from s && eqb to to) (and_in (bit from s) (eqb to to) t (eqb_refl to))))

  -- no order that respects the edges respects a side that is closed off
  pub closed : (o : List ℕ) → Tidy g → RespectsKnown o g → T (closed_off g from to) → RespectsSide o from to → ⊥
  unfolding closed_off
  closed o tidy f t side =
      let w = any_up_to_out (λ s. bit from s && (eqb s to || has (reach g) to s)) 32 t in
      let s = w.0 in
      let l = side s w.2 (and_l (bit from s) (eqb s to || has (reach g) to s) w.1) in
      ⊎_elim (λ e. omega (arith, ap (λ x. place x o) (eqb→eq s to e)))
      (λ r. omega (arith, way_forward o g tidy f to s (reach_way g to s r)))
      (or_out (eqb s to) (has (reach g) to s) (and_r (bit from s) (eqb s to || has (reach g) to s) w.1))

abbrev graph : List ℕ → List Constraint → Polygraph
graph g cs = record { known = g; choices = cs }

abbrev pub Sound : ℕ → Polygraph → Type 0
Sound n p = Within p.known n × All (Aimed n) p.choices

-- one pass
module _ (g : List ℕ) (c : Constraint) (cs : List Constraint) where
  abbrev g_a : List ℕ
  g_a = with_side g c.fromA c.toA

  abbrev g_b : List ℕ
  g_b = with_side g c.fromB c.toB

  abbrev stays : Polygraph
  stays = record { known = (pass g cs).known; choices = c ∷ (pass g cs).choices }

  -- by which way a pass goes at its first constraint
  cases : (P : Polygraph → Type 0) → (T (closed_off g c.fromA c.toA) → P (pass g_b cs)) → (T (closed_off g c.fromB c.toB) → P (pass g_a cs)) → P stays → P (pass g (c ∷ cs))
  unfolding pass
  cases P a b s = go (closed_off g c.fromA c.toA) (closed_off g c.fromB c.toB) a b
    where
      go : (x y : Bool) → (T x → P (pass g_b cs)) → (T y → P (pass g_a cs)) → P (cond x (pass g_b cs) (cond y (pass g_a cs) stays))
      go true y a b = a tt
      go false true a b = b tt
      go false false a b = s

-- the polygraph after a first constraint's side A, or B, is added
module _ (n : ℕ) (c : Constraint) (cs : List Constraint) (g : List ℕ) (s : Sound n (graph g (c ∷ cs))) where
  pub sound-A : Sound n (graph (with_side g c.fromA c.toA) cs)
  sound-A = (side_within g c.fromA c.toA n s.0 s.1.0.fromA-small s.1.0.toA-small, s.1.1)

  pub sound-B : Sound n (graph (with_side g c.fromB c.toB) cs)
  sound-B = (side_within g c.fromB c.toB n s.0 s.1.0.fromB-small s.1.0.toB-small, s.1.1)

pub pass_sound : (n : ℕ) (cs : List Constraint) (g : List ℕ) → Sound n (graph g cs) → Sound n (pass g cs)
unfolding pass
pass_sound n [] g s = s
pass_sound n (c ∷ cs) g s =
    cases g c cs (Sound n)
    (λ t. pass_sound n cs (g_b g c cs) (sound-B n c cs g s))
    (λ t. pass_sound n cs (g_a g c cs) (sound-A n c cs g s))
    (let i = pass_sound n cs g (s.0, s.1.1) in (i.0, (s.1.0, i.1)))

module _ (n : ℕ) (few : n ≤ 32) (o : List ℕ) where
  pub pass_iff : (cs : List Constraint) (g : List ℕ) → Sound n (graph g cs) → Respects o (graph g cs) ↔ Respects o (pass g cs)
  unfolding pass
  pass_iff [] g s = (λ r. r, λ r. r)
  pass_iff (c ∷ cs) g s =
      let tidy = within_tidy g n few s.0 in
      let la : c.toA < 32 = omega (arith, s.1.0.toA-small) in
      let lb : c.toB < 32 = omega (arith, s.1.0.toB-small) in
      cases g c cs (λ p. Respects o (graph g (c ∷ cs)) ↔ Respects o p)
      (λ t.
      let i = pass_iff cs (g_b g c cs) (sound-B n c cs g s) in (
        λ r. i.0 (side_in_lem g c.fromB c.toB o r.0 (⊎_elim (λ a. absurd (closed g c.fromA c.toA o tidy r.0 t a)) (λ a. a) r.1.0), r.1.1),
        λ r. let q = i.1 r in (side_known g c.fromB c.toB o q.0, (inr (side_side g c.fromB c.toB o lb q.0), q.1)),
      ))
      (λ t.
      let i = pass_iff cs (g_a g c cs) (sound-A n c cs g s) in (
        λ r. i.0 (side_in_lem g c.fromA c.toA o r.0 (⊎_elim (λ a. a) (λ a. absurd (closed g c.fromB c.toB o tidy r.0 t a)) r.1.0), r.1.1),
        λ r. let q = i.1 r in (side_known g c.fromA c.toA o q.0, (inl (side_side g c.fromA c.toA o la q.0), q.1)),
      ))
      (let i = pass_iff cs g (s.0, s.1.1) in (
        λ r. let q = i.0 (r.0, r.1.1) in (q.0, (r.1.0, q.1)),
        λ r. let q = i.1 (r.0, r.1.1) in (q.0, (r.1.0, q.1)),
      ))

either : (P : Polygraph → Type 0) (b : Bool) (x y : Polygraph) → P x → P y → P (cond b x y)
either P true x y p q = p
either P false x y p q = q

pub passes_sound : (n m : ℕ) (p : Polygraph) → Sound n p → Sound n (passes m p)
unfolding passes
passes_sound n zero p s = s
passes_sound n (suc m) p s =
    let q = pass p.known p.choices in
    let t = pass_sound n p.choices p.known s in
    either (Sound n) (eqb (length q.choices) (length p.choices)) q (passes m q) t (passes_sound n m q t)

pub passes_iff : (n : ℕ) → n ≤ 32 → (o : List ℕ) (m : ℕ) (p : Polygraph) → Sound n p → Respects o p ↔ Respects o (passes m p)
unfolding passes
passes_iff n few o zero p s = (λ r. r, λ r. r)
passes_iff n few o (suc m) p s =
    let q = pass p.known p.choices in
    let i = pass_iff n few o p.choices p.known s in
    let j = passes_iff n few o m q (pass_sound n p.choices p.known s) in
    either (λ x. Respects o p ↔ Respects o x) (eqb (length q.choices) (length p.choices)) q (passes m q) i (λ r. j.0 (i.0 r), λ r. i.1 (j.1 r))

-- ---- the passes end because one drops none

-- a pass adds no constraint, and one that drops none changes nothing
pub pass_length : (cs : List Constraint) (g : List ℕ) → length (pass g cs).choices ≤ length cs
unfolding pass
pass_length [] g = omega arith
pass_length (c ∷ cs) g =
    cases g c cs (λ p. length p.choices ≤ suc (length cs)) (λ t. omega (arith, pass_length cs (g_b g c cs))) (λ t. omega (arith, pass_length cs (g_a g c cs)))
    (omega (arith, pass_length cs g))

pass_same : (cs : List Constraint) (g : List ℕ) → length (pass g cs).choices ≡ length cs → pass g cs ≡ graph g cs
unfolding pass
pass_same [] g = λ e. refl
pass_same (c ∷ cs) g =
    cases g c cs (λ p. length p.choices ≡ suc (length cs) → p ≡ graph g (c ∷ cs))
    (λ t e. absurd (omega (arith, pass_length cs (g_b g c cs))))
    (λ t e. absurd (omega (arith, pass_length cs (g_a g c cs))))
    (λ e. ap (λ (p : Polygraph). graph p.known (c ∷ p.choices)) (pass_same cs g (omega arith)))

-- a further pass would drop none
abbrev pub Done : Polygraph → Type 0
Done p = length (pass p.known p.choices).choices ≡ length p.choices

pub passes_done : (m : ℕ) (p : Polygraph) → length p.choices ≤ m → Done (passes m p)
unfolding passes
passes_done zero p l = omega (arith, pass_length p.choices p.known)
passes_done (suc m) p l =
    go (eqb (length q.choices) (length p.choices)) (λ t. eqb→eq (length q.choices) (length p.choices) t) (λ t. eqb_ne t)
    (λ k. passes_done m (pass p.known p.choices) k)
  where
    q : Polygraph
    q = pass p.known p.choices

    go : (b : Bool) → (T b → length q.choices ≡ length p.choices) → (T (not b) → length q.choices ≢ length p.choices)
        → (length q.choices ≤ m → Done (passes m q)) → Done (cond b q (passes m q))
    go true e f ih = subst Done (sym (pass_same p.choices p.known (e tt))) (e tt)
    go false e f ih = let d = f tt in ih (omega (arith, pass_length p.choices p.known))

-- ---- the polygraph of a setting

module _ (h : History) (ok : Loadable h) where
  only_small : (t : ℕ) → t < size h → (s : ℕ) → T (bit (only t) s) → s < size h
  only_small t l s b =
      let hs = word_small 32 (λ s. eqb s t) s b in
      subst (λ y. y < size h) (sym (eqb→eq s t (eq-T (bit_word 32 (λ s. eqb s t) s hs) b))) l

  ends_small : (k w x : ℕ) → w < size h → (s : ℕ) → T (bit (ends h k w x) s) → s < size h
  unfolding in_ends
  ends_small k w x l s b =
      let hs = word_small 32 (in_ends h k w x) s b in
      ⊎_elim (λ c. reads_small h s k w (good_reads_lem h k s w (and_l (good_read h k s w) (not (eqb s x)) c.1)))
      (λ c. subst (λ y. y < size h) (sym (eqb→eq s w c.1)) l)
      (cond_out (any (λ r. good_read h k r w && not (eqb r x)) (up_to (size h))) (good_read h k s w && not (eqb s x)) (eqb s w)
      (eq-T (bit_word 32 (in_ends h k w x) s hs) b))

  aimed_plain : All (Aimed (size h)) (plain h)
  unfolding plain plain_of
  aimed_plain =
      All-each-in (Aimed (size h)) (λ t. each (plain_of h t) (outward_of h t)) (up_to (size h))
      (All-every (λ t. All (Aimed (size h)) (each (plain_of h t) (outward_of h t)))
      (λ t.
      All-each-in (Aimed (size h)) (plain_of h t) (outward_of h t)
      (All-every (λ r. All (Aimed (size h)) (plain_of h t r)) (λ r. go t r (is_read r && good_read h r.key t r.argument) (λ b. b)) (outward_of h t)))
      (up_to (size h)))
    where
      at : ℕ → Operation → ℕ → Constraint
      at t r v = record { fromA = only t; toA = v; fromB = only v; toB = r.argument }

      other : ℕ → Operation → ℕ → Bool
      other t r v = writes h v r.key && (not (eqb v r.argument) && not (eqb v t))

      go : (t : ℕ) (r : Operation) (b : Bool) → (T b → T (is_read r && good_read h r.key t r.argument))
          → All (Aimed (size h)) (cond b (map (at t r) (keep (other t r) (up_to (size h)))) [])
      go t r false f = tt
      go t r true f =
          let g = and_r (is_read r) (good_read h r.key t r.argument) (f tt) in
          All-map-in (Aimed (size h)) (at t r) (keep (other t r) (up_to (size h)))
          (All-keep-in (λ v. Aimed (size h) (at t r v)) (other t r) (up_to (size h))
          (All-every (λ v. T (other t r v) → Aimed (size h) (at t r v))
          (λ v w.
          let hv = writes_small h v r.key (and_l (writes h v r.key) (not (eqb v r.argument) && not (eqb v t)) w) in
          record {
            toA-small = hv;
            toB-small = writes_small h r.argument r.key (good_writes h r.key t r.argument g);
            fromA-small = only_small t (reads_small h t r.key r.argument (good_reads_lem h r.key t r.argument g));
            fromB-small = only_small v hv;
          })
          (up_to (size h))))

  aimed_between : (k : ℕ) (first : ℕ → Bool) (last : ℕ → ℕ) → ((g : ℕ) → T (first g) → g < size h) → ((g : ℕ) → T (first g) → last g < size h)
      → All (Aimed (size h)) (between h k first last)
  unfolding between
  aimed_between k first last f l =
      All-each-in (Aimed (size h)) (λ i. map (pair i) (keep (later i) (up_to (size h)))) (keep first (up_to (size h)))
      (All-keep-in (λ i. All (Aimed (size h)) (map (pair i) (keep (later i) (up_to (size h))))) first (up_to (size h))
      (All-every (λ i. T (first i) → All (Aimed (size h)) (map (pair i) (keep (later i) (up_to (size h)))))
      (λ i fi.
      All-map-in (Aimed (size h)) (pair i) (keep (later i) (up_to (size h)))
      (All-keep-in (λ j. Aimed (size h) (pair i j)) (later i) (up_to (size h))
      (All-every (λ j. T (later i j) → Aimed (size h) (pair i j))
      (λ j t.
      let fj = and_r (ltb i j) (first j) t in
      record {
        toA-small = f j fj;
        toB-small = f i fi;
        fromA-small = ends_small k (last i) j (l i fi);
        fromB-small = ends_small k (last j) i (l j fj);
      })
      (up_to (size h)))))
      (up_to (size h))))
    where
      pair : ℕ → ℕ → Constraint
      pair i j = record { fromA = ends h k (last i) j; toA = j; fromB = ends h k (last j) i; toB = i }

      later : ℕ → ℕ → Bool
      later i j = ltb i j && first j

  aimed : (e : ℕ) → All (Aimed (size h)) (constraints h e)
  unfolding constraints joined chained
  aimed e = go (eqb e 0) (eqb e 1)
    where
      one : All (Aimed (size h)) (joined h)
      one =
          All-each-in (Aimed (size h)) (λ k. between h k (λ w. writes h w k) (λ w. w)) (up_to 32)
          (All-every (λ k. All (Aimed (size h)) (between h k (λ w. writes h w k) (λ w. w))) (λ k. aimed_between k (λ w. writes h w k) (λ w. w) (λ g w. writes_small h g k w) (λ g w. writes_small h g k w)) (up_to 32))

      two : All (Aimed (size h)) (chained h)
      two =
          All-each-in (Aimed (size h)) (λ k. between h k (is_head h k) (tail h k)) (up_to 32)
          (All-every (λ k. All (Aimed (size h)) (between h k (is_head h k) (tail h k))) (λ k. aimed_between k (is_head h k) (tail h k) (λ g w. writes_small h g k (head_writes h k g w)) (tail_small h k)) (up_to 32))

      go : (x y : Bool) → All (Aimed (size h)) (cond x (plain h) (cond y (joined h) (chained h)))
      go true y = aimed_plain
      go false true = one
      go false false = two

  pub unpruned_sound : (e : ℕ) → Sound (size h) (unpruned h e)
  unfolding rows
  unpruned_sound e = (
    λ u v t.
        let s = rows_small (edge h e) u v t in
        edge_small h e u v (eq-T (bit_rows (edge h e) u v s.0 s.1) t),
    aimed e,
  )

  pub polygraph_sound : (e pruning : ℕ) → Sound (size h) (polygraph h e pruning)
  unfolding polygraph
  polygraph_sound e pruning =
      let q = passes (length (constraints h e)) (unpruned h e) in
      either (Sound (size h)) (eqb pruning 1) q (unpruned h e) (passes_sound (size h) (length (constraints h e)) (unpruned h e) (unpruned_sound e)) (unpruned_sound e)

  pub polygraph_iff : (e pruning : ℕ) (o : List ℕ) → Respects o (unpruned h e) ↔ Respects o (polygraph h e pruning)
  unfolding polygraph
  polygraph_iff e pruning o =
      let q = passes (length (constraints h e)) (unpruned h e) in
      either (λ p. Respects o (unpruned h e) ↔ Respects o p) (eqb pruning 1) q (unpruned h e)
      (passes_iff (size h) ok.few o (length (constraints h e)) (unpruned h e) (unpruned_sound e)) (λ r. r, λ r. r)

  -- an order is legal if and only if it respects the polygraph, in each of the six settings
  pub legal_iff : (e pruning : ℕ) → e < 3 → (o : List ℕ) → T (legal h o) ↔ (T (is_order (size h) o) × Respects o (polygraph h e pruning))
  legal_iff e pruning l o =
      let c = central h ok e l o in
      let p = polygraph_iff e pruning o in
      (λ t. let r = c.0 t in (r.0, p.0 r.1), λ r. c.1 (r.0, p.1 r.1))

-- pruning ends with a pass that drops none
pub polygraph_done : (h : History) (e : ℕ) → Done (polygraph h e 1)
unfolding polygraph
polygraph_done h e = passes_done (length (constraints h e)) (unpruned h e) (omega arith)

-- and leaves no more constraints than there were
pub passes_length : (m : ℕ) (p : Polygraph) → length (passes m p).choices ≤ length p.choices
unfolding passes
passes_length zero p = omega arith
passes_length (suc m) p =
    let q = pass p.known p.choices in
    let l = pass_length p.choices p.known in
    either (λ (r : Polygraph). length r.choices ≤ length p.choices) (eqb (length q.choices) (length p.choices)) q (passes m q) l
    (omega (arith, l, passes_length m q))

pub polygraph_length : (h : History) (e pruning : ℕ) → length (polygraph h e pruning).choices ≤ length (constraints h e)
unfolding polygraph
polygraph_length h e pruning =
    let q = passes (length (constraints h e)) (unpruned h e) in
    either (λ (r : Polygraph). length r.choices ≤ length (constraints h e)) (eqb pruning 1) q (unpruned h e)
    (passes_length (length (constraints h e)) (unpruned h e)) (omega arith)

-- ---- pruning takes no known edge away

pub pass_keeps : (cs : List Constraint) (g : List ℕ) (u v : ℕ) → u < 32 → v < 32 → T (has g u v) → T (has (pass g cs).known u v)
unfolding pass
pass_keeps [] g u v hu hv t = t
pass_keeps (c ∷ cs) g u v hu hv t =
    cases g c cs (λ p. T (has p.known u v)) (λ _. pass_keeps cs (g_b g c cs) u v hu hv (old_edge g c.fromB c.toB u v hu hv t))
    (λ _. pass_keeps cs (g_a g c cs) u v hu hv (old_edge g c.fromA c.toA u v hu hv t)) (pass_keeps cs g u v hu hv t)

pub passes_keep : (m : ℕ) (p : Polygraph) (u v : ℕ) → u < 32 → v < 32 → T (has p.known u v) → T (has (passes m p).known u v)
unfolding passes
passes_keep zero p u v hu hv t = t
passes_keep (suc m) p u v hu hv t =
    let q = pass p.known p.choices in
    let l = pass_keeps p.choices p.known u v hu hv t in
    either (λ (r : Polygraph). T (has r.known u v)) (eqb (length q.choices) (length p.choices)) q (passes m q) l (passes_keep m q u v hu hv l)

pub polygraph_keeps : (h : History) (e pruning u v : ℕ) → u < 32 → v < 32 → T (edge h e u v) → T (has (polygraph h e pruning).known u v)
unfolding polygraph rows
polygraph_keeps h e pruning u v hu hv t =
    let x : T (has (rows h e) u v) = eq-T (sym (bit_rows (edge h e) u v hu hv)) t in
    either (λ (r : Polygraph). T (has r.known u v)) (eqb pruning 1) (passes (length (constraints h e)) (unpruned h e)) (unpruned h e)
    (passes_keep (length (constraints h e)) (unpruned h e) u v hu hv x) x
