-- One number before all others of a set, over closed row words. Assumes nothing.
use Prim.Native.Nat.{ℕ, zero, suc, ◌+◌, ◌^◌, ◌≤◌, ◌<◌}
use native.Mathlib.Omega.{arith}
use native.Mathlib.Numerals.{add-one}
use mathlib.Core.Path.{◌≡◌, refl, sym, subst}
use mathlib.Core.Logic.{◌⊎◌, inl, inr, ⊎_elim, ◌≢◌}
use mathlib.Core.Bool.{Bool, true, false, not, cond, ◌&&◌}
use mathlib.Core.List.{List}
use lib.Dec.{T, eqb, eqb→eq}
use lib.Bits.{bit_or, or_lt}
use lib.ListN.{length, get_or, get_or-eq_default}
use Rattle.model.specs.Lists.{bit, place}
use Rattle.model.specs.Polygraph.{has, reach, Way}
use Rattle.model.specs.RowWords.{Tidy}
use Rattle.model.proofs.Basics.{clash, same?, eq-T, iff_eq, or_out, or_l, or_r, and_l, and_r, and_in, eqb_ne, ne_eqb, eq-eqb}
use Rattle.model.proofs.Masks.{bit_or_lem, bit_one, bit_none}
use Rattle.model.proofs.Reach.{reach_way, reach_old}
use Rattle.model.proofs.Sides.{cyclic_out, cyclic_in}
use Rattle.graph.proofs.Rows.{Small, below, bit_below, rows_ext, reach_length, reach_small}
use Rattle.search.specs.Steps.{PartialOrder}
use Rattle.search.specs.Orders.{Under, led_row, Placed}
use Rattle.search.proofs.Steps.{closed_tidy, way_has}

-- ---- which numbers have a predecessor in the set

pub under_none : (c : List ℕ) (set : ℕ) → Under c set 0 0
under_none c set = record { sound = λ v t. absurd (subst (λ (b : Bool). T b) (bit_none v) t); whole = λ u v l. absurd (omega arith) }

pub under_next : (c : List ℕ) (set i r x : ℕ) → Under c set i r → x ≡ cond (bit set i) (bit_or r (get_or c i 0)) r → Under c set (i + 1) x
under_next c set i r x n e = subst (Under c set (i + 1)) (sym e) (go (bit set i) (λ t. t) (λ t. t))
  where
    go : (b : Bool) → (T b → T (bit set i)) → (T (bit set i) → T b) → Under c set (i + 1) (cond b (bit_or r (get_or c i 0)) r)
    go true f g =
        record {
          sound = λ v t. ⊎_elim (λ a. n.sound v a) (λ a. (i, f tt, a)) (or_out (bit r v) (has c i v) (eq-T (bit_or_lem r (get_or c i 0) v) t));
          whole = λ u v l a b.
              eq-T (sym (bit_or_lem r (get_or c i 0) v))
              (⊎_elim (λ (q : u ≡ i). or_r (bit r v) (has c i v) (subst (λ (k : ℕ). T (has c k v)) q b))
              (λ (q : u ≢ i). or_l (bit r v) (has c i v) (n.whole u v (omega arith) a b)) (same? u i));
        }
    go false f g =
        record {
          sound = n.sound;
          whole = λ u v l a b.
              ⊎_elim (λ (q : u ≡ i). absurd (g (subst (λ (k : ℕ). T (bit set k)) q a))) (λ (q : u ≢ i). n.whole u v (omega arith) a b) (same? u i);
        }

-- there is always such a word
pub some_under : (c : List ℕ) (set : ℕ) → Small c → (i : ℕ) → (r : ℕ) × Under c set i r × (r < 2 ^ 32)
some_under c set small zero = (0, under_none c set, omega arith)
some_under c set small (suc i) =
    let r = some_under c set small i in
    let x = cond (bit set i) (bit_or r.0 (get_or c i 0)) r.0 in
    (x, subst (λ (k : ℕ). Under c set k x) (add-one i) (under_next c set i r.0 x r.1 refl), go (bit set i) (or_lt 32 r.0 (get_or c i 0) r.2 (small i)) r.2)
  where
    go : {m n : ℕ} (b : Bool) → m < 2 ^ 32 → n < 2 ^ 32 → cond b m n < 2 ^ 32
    go true p q = p
    go false p q = q

-- ---- words whose edges are transitive are closed

module _ (d : List ℕ) (trans : (u v w : ℕ) → T (has d u v) → T (has d v w) → T (has d u w)) where
  way_edge : (u v : ℕ) → Way d u v → T (has d u v)
  way_edge u v (Way.step t) = t
  way_edge u v (Way.more {v = x} t p) = trans u x v t (way_edge x v p)

  trans_partial : length d ≡ 32 → Small d → ((u : ℕ) → T (has d u u) → ⊥) → PartialOrder d
  trans_partial long small none =
      record {
        closed =
            rows_ext (reach d) d (reach_length d) long (reach_small d) small
            (λ u v hu hv. iff_eq (has (reach d) u v) (has d u v) (λ t. way_edge u v (reach_way d u v t)) (λ t. reach_old d u v hu hv t));
        acyclic = cyclic_in d (λ u w. none u (way_edge u u w));
      }

pub closed_small : (c : List ℕ) → PartialOrder c → Small c
closed_small c p j = subst (λ (x : List ℕ). get_or x j 0 < 2 ^ 32) p.closed (reach_small c j)

-- ---- v before all others of the set

module _ (c : List ℕ) (p : PartialOrder c) (set under : ℕ) (un : Under c set 32 under) (v : ℕ) (hv : v < 32) (mv : T (bit set v)) (free : T (not (bit under v)))
    (rest : ℕ) (is-rest : (y : ℕ) → bit rest y ≡ (bit set y && not (eqb y v))) (rest-small : rest < 2 ^ 32) (under-small : under < 2 ^ 32) (set-small : set < 2 ^ 32)
    (d : List ℕ) (long : length d ≡ 32) (done : (j : ℕ) → j < 32 → get_or d j 0 ≡ led_row (bit_or rest under) v j (get_or c j 0)) where
  ti : Tidy c
  ti = closed_tidy c p.closed

  join : (a b e : ℕ) → T (has c a b) → T (has c b e) → T (has c a e)
  join a b e x y = way_has c p.closed a e (Way.more x (Way.step y))

  -- nothing of the set leads to v
  no_back : (x : ℕ) → T (bit set x) → T (has c x v) → ⊥
  no_back x m t = clash (bit under v) (un.whole x v (bit_below set x set-small m) m t) free

  -- j is v or leads to v
  abbrev Into : ℕ → Type 0
  Into j = (j ≡ v) ⊎ T (has c j v)

  -- y is another of the set, or comes after one of the set
  abbrev After : ℕ → Type 0
  After y = (T (bit set y) × (y ≢ v)) ⊎ ((x : ℕ) × T (bit set x) × T (has c x y))

  after_out : (y : ℕ) → T (bit (bit_or rest under) y) → After y
  after_out y t =
      ⊎_elim
      (λ a. let q = eq-T (is-rest y) a in inl (and_l (bit set y) (not (eqb y v)) q, eqb_ne {m = y} {n = v} (and_r (bit set y) (not (eqb y v)) q)))
      (λ a. inr (un.sound y a)) (or_out (bit rest y) (bit under y) (eq-T (bit_or_lem rest under y) t))

  after_in : (y : ℕ) → After y → T (bit (bit_or rest under) y)
  after_in y x =
      eq-T (sym (bit_or_lem rest under y))
      (⊎_elim (λ a. or_l (bit rest y) (bit under y) (eq-T (sym (is-rest y)) (and_in (bit set y) (not (eqb y v)) a.0 (ne_eqb {m = y} {n = v} a.1))))
      (λ a. or_r (bit rest y) (bit under y) (un.whole a.0 y (bit_below set a.0 set-small a.1) a.1 a.2)) x)

  abbrev led : ℕ → Bool
  led j = bit (bit_or (get_or c j 0) (2 ^ j)) v

  led_out : (j : ℕ) → T (led j) → Into j
  led_out j t =
      ⊎_elim (λ a. inr a) (λ a. inl (sym (eqb→eq v j (eq-T (bit_one j v) a)))) (or_out (has c j v) (bit (2 ^ j) v) (eq-T (bit_or_lem (get_or c j 0) (2 ^ j) v) t))

  led_in : (j : ℕ) → Into j → T (led j)
  led_in j x =
      eq-T (sym (bit_or_lem (get_or c j 0) (2 ^ j) v))
      (⊎_elim (λ e. or_r (has c j v) (bit (2 ^ j) v) (eq-T (sym (bit_one j v)) (eq-eqb {m = v} {n = j} (sym e)))) (λ a. or_l (has c j v) (bit (2 ^ j) v) a) x)

  word : (j : ℕ) → j < 32 → get_or d j 0 ≡ cond (led j) (bit_or (get_or c j 0) (bit_or rest under)) (get_or c j 0)
  unfolding led_row
  word j h = done j h

  has_out : (j y : ℕ) → T (has d j y) → T (has c j y) ⊎ (Into j × After y)
  has_out j y t =
      ⊎_elim (λ (h : j < 32). go (led j) (led_out j) (subst (λ (x : ℕ). T (bit x y)) (word j h) t))
      (λ (h : 32 ≤ j). absurd (subst (λ (b : Bool). T b) (bit_none y) (subst (λ (x : ℕ). T (bit x y)) (get_or-eq_default d 0 {n = j} (omega arith)) t))) (below j)
    where
      go : (b : Bool) → (T b → Into j) → T (bit (cond b (bit_or (get_or c j 0) (bit_or rest under)) (get_or c j 0)) y) → T (has c j y) ⊎ (Into j × After y)
      go true f x =
          ⊎_elim (λ a. inl a) (λ a. inr (f tt, after_out y a)) (or_out (has c j y) (bit (bit_or rest under) y) (eq-T (bit_or_lem (get_or c j 0) (bit_or rest under) y) x))
      go false f x = inl x

  has_in : (j y : ℕ) → j < 32 → T (has c j y) ⊎ (Into j × After y) → T (has d j y)
  has_in j y h x = subst (λ (k : ℕ). T (bit k y)) (sym (word j h)) (go (led j) (led_in j) x)
    where
      go : (b : Bool) → (Into j → T b) → T (has c j y) ⊎ (Into j × After y) → T (bit (cond b (bit_or (get_or c j 0) (bit_or rest under)) (get_or c j 0)) y)
      go true f z =
          eq-T (sym (bit_or_lem (get_or c j 0) (bit_or rest under) y))
          (⊎_elim (λ a. or_l (has c j y) (bit (bit_or rest under) y) a) (λ a. or_r (has c j y) (bit (bit_or rest under) y) (after_in y a.1)) z)
      go false f z = ⊎_elim (λ a. a) (λ a. absurd (f a.0)) z

  -- those of the set but v have the edges that they had
  pub placed_same : (x y : ℕ) → T (bit set x) → x ≢ v → T (has d x y) → T (has c x y)
  placed_same x y m ne t = ⊎_elim (λ a. a) (λ a. absurd (⊎_elim ne (no_back x m) a.0)) (has_out x y t)

  into_32 : (j : ℕ) → Into j → j < 32
  into_32 j x = ⊎_elim (λ e. subst (λ (k : ℕ). k < 32) (sym e) hv) (λ t. (ti j v t).0) x

  into_before : (a b : ℕ) → T (has c a b) → Into b → Into a
  into_before a b t x = ⊎_elim (λ e. inr (subst (λ (k : ℕ). T (has c a k)) e t)) (λ y. inr (join a b v t y)) x

  after_more : (b e : ℕ) → After b → T (has c b e) → After e
  after_more b e x t = ⊎_elim (λ a. inr (b, a.0, t)) (λ a. inr (a.0, a.1, join a.0 b e a.2 t)) x

  trans : (a b e : ℕ) → T (has d a b) → T (has d b e) → T (has d a e)
  trans a b e t u = go (has_out a b t) (has_out b e u)
    where
      go : T (has c a b) ⊎ (Into a × After b) → T (has c b e) ⊎ (Into b × After e) → T (has d a e)
      go (inl x) (inl y) = has_in a e (ti a b x).0 (inl (join a b e x y))
      go (inl x) (inr y) = has_in a e (ti a b x).0 (inr (into_before a b x y.0, y.1))
      go (inr x) (inl y) = has_in a e (into_32 a x.0) (inr (x.0, after_more b e x.1 y))
      go (inr x) (inr y) = has_in a e (into_32 a x.0) (inr (x.0, y.1))

  no_loop : (a : ℕ) → T (has d a a) → ⊥
  no_loop a t =
      ⊎_elim (λ x. cyclic_out c p.acyclic ti a (Way.step x))
      (λ x.
      ⊎_elim (λ y. ⊎_elim (λ e. y.1 e) (λ e. no_back a y.0 e) x.0)
      (λ y. ⊎_elim (λ e. no_back y.0 y.1 (subst (λ (k : ℕ). T (has c y.0 k)) e y.2)) (λ e. no_back y.0 y.1 (join y.0 a v y.2 e)) x.0) x.1)
      (has_out a a t)

  small : Small d
  small j =
      ⊎_elim (λ (h : j < 32). subst (λ (x : ℕ). x < 2 ^ 32) (sym (word j h)) (go (led j)))
      (λ (h : 32 ≤ j). subst (λ (x : ℕ). x < 2 ^ 32) (sym (get_or-eq_default d 0 {n = j} (omega arith))) (omega arith)) (below j)
    where
      row_small : get_or c j 0 < 2 ^ 32
      row_small = closed_small c p j

      go : (b : Bool) → cond b (bit_or (get_or c j 0) (bit_or rest under)) (get_or c j 0) < 2 ^ 32
      go true = or_lt 32 (get_or c j 0) (bit_or rest under) row_small (or_lt 32 rest under rest-small under-small)
      go false = row_small

  pub placed : Placed c set v d
  placed =
      record {
        partial = trans_partial d trans long small no_loop;
        more = λ x y t. has_in x y (ti x y t).0 (inl t);
        first = λ x m ne. has_in v x hv (inr (inl refl, inl (m, ne)));
        keeps = λ o r f a b ha hb t.
            ⊎_elim (λ x. r a b ha hb x)
            (λ x.
            let one : place a o ≤ place v o =
            ⊎_elim (λ e. subst (λ (k : ℕ). place a o ≤ place k o) e (omega arith)) (λ e. let z = r a v ha hv e in omega arith) x.0 in
            let two : place v o < place b o =
            ⊎_elim (λ y. f b hb y.0 y.1)
            (λ y.
            ⊎_elim (λ (e : y.0 ≡ v). r v b hv hb (subst (λ (k : ℕ). T (has c k b)) e y.2))
            (λ (e : y.0 ≢ v). let h = (ti y.0 b y.2).0 in let z = f y.0 h y.1 e in let q = r y.0 b h hb y.2 in omega arith) (same? y.0 v)) x.1 in
            omega arith)
            (has_out a b t);
        within = λ m w h f a b t.
            ⊎_elim (λ x. w a b x)
            (λ x. (
              ⊎_elim (λ e. subst (λ (k : ℕ). k < m) (sym e) h) (λ e. (w a v e).0) x.0,
              ⊎_elim (λ y. f b y.0) (λ y. (w y.0 b y.2).1) x.1,
            ))
            (has_out a b t);
      }
