-- The edges from each transaction to the next of the same cabinet, found from the last that each cabinet sent. Assumes nothing.
use Prim.Native.Nat.{ℕ, zero, suc, ◌+◌, ◌%◌, ◌<◌}
use native.Mathlib.Omega.{arith}
use native.Mathlib.Nat.{not-suc-le-zero}
use native.Mathlib.Numerals.{add-one}
use mathlib.Core.Path.{◌≡◌, refl, sym, ap, ap₂, subst, ◌∙◌}
use mathlib.Core.Logic.{◌⊎◌, inl, inr, ⊎_elim, ◌≢◌}
use mathlib.Core.Bool.{Bool, true, false, not, cond, ◌&&◌, ◌||◌, or-false}
use mathlib.Core.List.{List}
use lib.Dec.{T, eqb, ltb, eqb→eq, ltb→lt, lt→ltb, nltb→le}
use lib.ListN.{length, get_or, set, replicate, length-set, get_or-replicate}
use lib.Seq.{get_or-set_same, get_or-set_other}
use borrow.Author.Tests.{lt-ltb, le-ltb}
use Rattle.model.specs.Lists.{all, up_to, bit}
use Rattle.model.specs.History.{History, size, cabinet_of}
use Rattle.model.specs.Polygraph.{next_of_cabinet}
use Rattle.model.specs.Log.{transactions_in, cabinet_at, load_number, history_of}
use Rattle.model.proofs.Basics.{same?, decide, clash, not_intro, true_eq, false_eq, iff_eq, eq-eqb, ne_eqb, eqb_comm, and_l, and_r, and_in, all_up_to_in, all_up_to_out}
use Rattle.model.proofs.Loaded.{loaded, history_size, cabinet_at_lem}
use Rattle.graph.specs.Masks.{put_if}
use Rattle.polygraph.specs.Tables.{put_at}
use Rattle.polygraph.specs.Edges.{cabinet_word, cabinet_rows}
use Rattle.polygraph.proofs.Marks.{Sets, sets_on, sets_none, sets_put, sets_end, sets_of, single_bit, single_small}
use Rattle.polygraph.proofs.Filling.{zeros}

-- the numbers below t + 1
below_more : (s t : ℕ) (a b : Bool) → (s ≡ t → a ≡ b) → ((ltb s t && a) || (eqb s t && b)) ≡ (ltb s (t + 1) && a)
below_more s t a b q =
    ⊎_elim
    (λ (p : s ≡ t).
    ap₂ (λ x y. (x && a) || (y && b)) (le-ltb s t (omega arith)) (true_eq (eqb s t) (eq-eqb p))
    ∙ sym (q p) ∙ sym (ap (λ x. x && a) (lt-ltb s (t + 1) (omega arith))))
    (λ (p : s ≢ t).
    ⊎_elim
    (λ (k : T (ltb s t)).
    let k' = ltb→lt s t k in
    ap₂ (λ x y. (x && a) || (y && b)) (lt-ltb s t k') (false_eq (eqb s t) (ne_eqb p)) ∙ or-false a ∙ sym (ap (λ x. x && a) (lt-ltb s (t + 1) (omega arith))))
    (λ (k : T (not (ltb s t))).
    let k' = nltb→le s t k in
    ap₂ (λ x y. (x && a) || (y && b)) (le-ltb s t k') (false_eq (eqb s t) (ne_eqb p)) ∙ sym (ap (λ x. x && a) (le-ltb s (t + 1) (omega arith))))
    (decide (ltb s t)))
    (same? s t)

module _ (b : List ℕ) (u : ℕ) where
  abbrev h : History
  h = history_of b

  next_in : (v : ℕ) → u < v → v < transactions_in b → cabinet_at b v ≡ cabinet_at b u → ((w : ℕ) → u < w → w < v → cabinet_at b w ≡ cabinet_at b u → ⊥) → T (next_of_cabinet h u v)
  unfolding next_of_cabinet
  next_in v x y e f =
      and_in (ltb u v && eqb (cabinet_of h u) (cabinet_of h v)) (all (λ w. not (ltb u w && (ltb w v && eqb (cabinet_of h u) (cabinet_of h w)))) (up_to (size h)))
      (and_in (ltb u v) (eqb (cabinet_of h u) (cabinet_of h v)) (lt→ltb u v x) (eq-eqb (cabinet_at_lem b u (omega arith) ∙ sym e ∙ sym (cabinet_at_lem b v y))))
      (all_up_to_in (λ w. not (ltb u w && (ltb w v && eqb (cabinet_of h u) (cabinet_of h w)))) (size h)
      (λ w l.
      not_intro (ltb u w && (ltb w v && eqb (cabinet_of h u) (cabinet_of h w)))
      (λ z.
      let z' = and_r (ltb u w) (ltb w v && eqb (cabinet_of h u) (cabinet_of h w)) z in
      let p = ltb→lt u w (and_l (ltb u w) (ltb w v && eqb (cabinet_of h u) (cabinet_of h w)) z) in
      let q = ltb→lt w v (and_l (ltb w v) (eqb (cabinet_of h u) (cabinet_of h w)) z') in
      f w p q (sym (cabinet_at_lem b w (omega arith)) ∙ sym (eqb→eq (cabinet_of h u) (cabinet_of h w) (and_r (ltb w v) (eqb (cabinet_of h u) (cabinet_of h w)) z')) ∙ cabinet_at_lem b u (omega arith)))))

  pub next_out : (v : ℕ) → v < transactions_in b → T (next_of_cabinet h u v) → (u < v) × (cabinet_at b v ≡ cabinet_at b u) × ((w : ℕ) → u < w → w < v → cabinet_at b w ≡ cabinet_at b u → ⊥)
  unfolding next_of_cabinet
  next_out v l t =
      let A = all (λ w. not (ltb u w && (ltb w v && eqb (cabinet_of h u) (cabinet_of h w)))) (up_to (size h)) in
      let x = and_l (ltb u v && eqb (cabinet_of h u) (cabinet_of h v)) A t in
      let uv = ltb→lt u v (and_l (ltb u v) (eqb (cabinet_of h u) (cabinet_of h v)) x) in (
        uv,
        sym (cabinet_at_lem b v l) ∙ sym (eqb→eq (cabinet_of h u) (cabinet_of h v) (and_r (ltb u v) (eqb (cabinet_of h u) (cabinet_of h v)) x)) ∙ cabinet_at_lem b u (omega arith),
        λ w p q e.
            clash (ltb u w && (ltb w v && eqb (cabinet_of h u) (cabinet_of h w)))
            (and_in (ltb u w) (ltb w v && eqb (cabinet_of h u) (cabinet_of h w)) (lt→ltb u w p)
            (and_in (ltb w v) (eqb (cabinet_of h u) (cabinet_of h w)) (lt→ltb w v q) (eq-eqb (cabinet_at_lem b u (omega arith) ∙ sym e ∙ sym (cabinet_at_lem b w (omega arith))))))
            (all_up_to_out (λ w. not (ltb u w && (ltb w v && eqb (cabinet_of h u) (cabinet_of h w)))) (size h)
            (and_r (ltb u v && eqb (cabinet_of h u) (cabinet_of h v)) A t) w (omega (arith, history_size b))),
      )

-- the last transaction before t that the cabinet sent, or 32
unfoldable pub last_sent : List ℕ → ℕ → ℕ → ℕ
last_sent b c zero = 32
last_sent b c (suc t) = cond (eqb (cabinet_at b t) c) t (last_sent b c t)

-- nobody, or that one
abbrev Last : List ℕ → ℕ → ℕ → ℕ → Type 0
Last b c t l =
    ((l ≡ 32) × ((w : ℕ) → w < t → cabinet_at b w ≡ c → ⊥)) ⊎ ((l < t) × (cabinet_at b l ≡ c) × ((w : ℕ) → l < w → w < t → cabinet_at b w ≡ c → ⊥))

last_is : (b : List ℕ) (c t : ℕ) → Last b c t (last_sent b c t)
unfolding last_sent
last_is b c zero = inl (refl, λ w l e. not-suc-le-zero l)
last_is b c (suc t) = go (eqb (cabinet_at b t) c) (λ x. eqb→eq (cabinet_at b t) c x) (λ x e. clash (eqb (cabinet_at b t) c) (eq-eqb e) x) (last_is b c t)
  where
    go : (s : Bool) → (T s → cabinet_at b t ≡ c) → (T (not s) → cabinet_at b t ≡ c → ⊥) → Last b c t (last_sent b c t) → Last b c (suc t) (cond s t (last_sent b c t))
    go true f g r = inr (omega arith, f tt, λ w x y e. omega arith)
    go false f g (inl r) = inl (r.0, λ w l e. ⊎_elim (λ (p : w ≡ t). g tt (ap (cabinet_at b) (sym p) ∙ e)) (λ (p : w ≢ t). r.1 w (omega arith) e) (same? w t))
    go false f g (inr r) =
        let low = r.0 in
        inr (omega arith, r.1, λ w x y e. ⊎_elim (λ (p : w ≡ t). g tt (ap (cabinet_at b) (sym p) ∙ e)) (λ (p : w ≢ t). r.2 w x (omega arith) e) (same? w t))

-- it is the one before t
next_last : (b : List ℕ) (u t : ℕ) → u < 32 → t < transactions_in b → next_of_cabinet (history_of b) u t ≡ eqb (last_sent b (cabinet_at b t) t) u
next_last b u t ul tl =
    iff_eq (next_of_cabinet (history_of b) u t) (eqb l u)
    (λ x.
    let o = next_out b u t tl x in
    let ut = o.0 in
    eq-eqb {m = l} {n = u}
    (⊎_elim (λ (r : (l ≡ 32) × ((w : ℕ) → w < t → cabinet_at b w ≡ c → ⊥)). absurd (r.1 u ut (sym o.1)))
    (λ (r : (l < t) × (cabinet_at b l ≡ c) × ((w : ℕ) → l < w → w < t → cabinet_at b w ≡ c → ⊥)).
    ⊎_elim (λ (p : l ≡ u). p)
    (λ (p : l ≢ u).
    ⊎_elim (λ (q : T (ltb l u)). absurd (r.2 u (ltb→lt l u q) ut (sym o.1)))
    (λ (q : T (not (ltb l u))). absurd (o.2 l (omega (arith, nltb→le l u q)) r.0 (r.1 ∙ o.1)))
    (decide (ltb l u)))
    (same? l u))
    (last_is b c t)))
    (λ x.
    let p : l ≡ u = eqb→eq l u x in
    ⊎_elim (λ (r : (l ≡ 32) × ((w : ℕ) → w < t → cabinet_at b w ≡ c → ⊥)). let q = r.0 in absurd (omega arith))
    (λ (r : (l < t) × (cabinet_at b l ≡ c) × ((w : ℕ) → l < w → w < t → cabinet_at b w ≡ c → ⊥)).
    let low = r.0 in
    let here : cabinet_at b u ≡ c = ap (cabinet_at b) (sym p) ∙ r.1 in
    next_in b u t (omega arith) tl (sym here) (λ w y z e. r.2 w (omega arith) z (e ∙ here)))
    (last_is b c t))
  where
    c : ℕ
    c = cabinet_at b t

    l : ℕ
    l = last_sent b c t

-- ---- the loop

-- after the transactions below t: the last that each cabinet sent, and the edges between them
pub record CabinetsUpTo (b : List ℕ) (t : ℕ) (last out : List ℕ) : Type 0 where
  pub long : length last ≡ 16
  pub lasts : (c : ℕ) → c < 16 → get_or last c 0 ≡ last_sent b c t
  pub edges : Sets 32 (λ u v. ltb v t && next_of_cabinet (history_of b) u v) out

module _ (b : List ℕ) (e : load_number b ≡ 0) where
  pub cabinet_low : (t : ℕ) → t < transactions_in b → cabinet_at b t < 16
  cabinet_low t l = omega (arith, (loaded b e).cabinets t l)

  pub cabinets_start : (last out : List ℕ) → last ≡ replicate 16 32 → out ≡ replicate 32 0 → CabinetsUpTo b 0 last out
  unfolding last_sent
  cabinets_start last out p q =
      record {
        long = ap length p;
        lasts = λ c l. ap (λ x. get_or x c 0) p ∙ get_or-replicate 16 c 32 0 l;
        edges =
            sets_on 32 (λ u v. false) (λ u v. ltb v 0 && next_of_cabinet (history_of b) u v) out
            (λ u v l. sym (ap (λ x. x && next_of_cabinet (history_of b) u v) (le-ltb v 0 (omega arith))))
            (sets_none 32 out (ap length q) (λ i. ap (λ x. get_or x i 0) q ∙ zeros 32 i));
      }

  pub cabinets_next : (t before c mark : ℕ) (last out : List ℕ) → t < transactions_in b → c ≡ cabinet_at b t → before ≡ get_or last c 0 → mark ≡ put_if 0 t (ltb before 32) → CabinetsUpTo b t last out
      → CabinetsUpTo b (t + 1) (set last c t) (put_at out (before % 32) mark)
  unfolding last_sent
  cabinets_next t before c mark last out l p q put x =
      subst (λ z. CabinetsUpTo b (t + 1) (set last c t) (put_at out (before % 32) z)) (sym put)
      (record {
        long = length-set last c t ∙ x.long;
        lasts = λ d m.
            ⊎_elim
            (λ (r : d ≡ c).
            ap (λ z. get_or (set last c t) z 0) r ∙ get_or-set_same last c t 0 (omega (arith, x.long))
            ∙ sym (ap (λ z. cond z t (last_sent b d t)) (true_eq (eqb (cabinet_at b t) d) (eq-eqb (sym p ∙ sym r)))) ∙ more d)
            (λ (r : d ≢ c).
            get_or-set_other last c d t 0 r ∙ x.lasts d m ∙ sym (ap (λ z. cond z t (last_sent b d t)) (false_eq (eqb (cabinet_at b t) d) (ne_eqb (λ z. r (sym z ∙ sym p))))) ∙ more d)
            (same? d c);
        edges =
            sets_on 32 (λ u v. (ltb v t && next_of_cabinet (history_of b) u v) || (eqb u (before % 32) && bit (put_if 0 t (ltb before 32)) v)) (λ u v. ltb v (t + 1) && next_of_cabinet (history_of b) u v)
            (put_at out (before % 32) (put_if 0 t (ltb before 32)))
            (λ u v m.
            ap (λ z. (ltb v t && next_of_cabinet (history_of b) u v) || z) (ap (λ z. eqb u (before % 32) && z) (single_bit t v (ltb before 32)) ∙ edge u v m)
            ∙ below_more v t (next_of_cabinet (history_of b) u v) (next_of_cabinet (history_of b) u t) (λ z. ap (next_of_cabinet (history_of b) u) z))
            (sets_put 32 (λ u v. ltb v t && next_of_cabinet (history_of b) u v) out (before % 32) (put_if 0 t (ltb before 32)) (omega arith) (single_small t (ltb before 32) (omega (arith, (loaded b e).few))) x.edges);
      })
    where
      cl : c < 16
      cl = omega (arith, p, cabinet_low t l)

      more : (d : ℕ) → last_sent b d (suc t) ≡ last_sent b d (t + 1)
      more d = ap (last_sent b d) (sym (add-one t))

      at : before ≡ last_sent b (cabinet_at b t) t
      at = q ∙ x.lasts c cl ∙ ap (λ z. last_sent b z t) p

      edge : (u v : ℕ) → u < 32 → (eqb u (before % 32) && (ltb before 32 && eqb v t)) ≡ (eqb v t && next_of_cabinet (history_of b) u t)
      edge u v m =
          ⊎_elim
          (λ (k : T (ltb before 32)).
          let low = ltb→lt before 32 k in
          let same : before % 32 ≡ before = omega arith in
          ap₂ (λ y z. eqb u y && (z && eqb v t)) same (true_eq (ltb before 32) k) ∙ turn (eqb u before) (eqb v t)
          ∙ ap (λ z. eqb v t && z) (eqb_comm u before ∙ ap (λ z. eqb z u) at ∙ sym (next_last b u t m l)))
          (λ (k : T (not (ltb before 32))).
          let far = nltb→le before 32 k in
          ap (λ z. eqb u (before % 32) && (z && eqb v t)) (false_eq (ltb before 32) k) ∙ none (eqb u (before % 32))
          ∙ sym (ap (λ z. eqb v t && z) (next_last b u t m l ∙ ap (λ z. eqb z u) (sym at) ∙ false_eq (eqb before u) (ne_eqb {m = before} {n = u} (λ z. omega arith))) ∙ none (eqb v t)))
          (decide (ltb before 32))
        where
          turn : (x y : Bool) → (x && (true && y)) ≡ (y && x)
          turn true true = refl
          turn true false = refl
          turn false true = refl
          turn false false = refl

          none : (x : Bool) → (x && false) ≡ false
          none true = refl
          none false = refl

  pub cabinets_end : (t : ℕ) (last out : List ℕ) → t ≡ transactions_in b → CabinetsUpTo b t last out → out ≡ cabinet_rows (history_of b)
  unfolding cabinet_rows cabinet_word
  cabinets_end t last out p x =
      sets_end 32 (λ u v. ltb v t && next_of_cabinet (history_of b) u v) (λ u v. ltb v (size (history_of b)) && next_of_cabinet (history_of b) u v) out x.edges
      (λ u v l m. ap (λ z. ltb v z && next_of_cabinet (history_of b) u v) (p ∙ sym (history_size b)))

  -- the edges as sets
  pub cabinet_sets : Sets 32 (λ u v. ltb v (size (history_of b)) && next_of_cabinet (history_of b) u v) (cabinet_rows (history_of b))
  unfolding cabinet_rows cabinet_word
  cabinet_sets =
      sets_of 32 (λ u v. ltb v (size (history_of b)) && next_of_cabinet (history_of b) u v)
      (λ u v l. ap (λ z. z && next_of_cabinet (history_of b) u v) (le-ltb v (size (history_of b)) (omega (arith, history_size b, (loaded b e).few))))
