-- Place by place: what is placed is the beginning of the first order. And what the first order of a polygraph is to a history. Assumes nothing.
use Prim.Native.Nat.{ℕ, suc, ◌+◌, ◌≤◌, ◌<◌}
use native.Mathlib.Omega.{arith}
use native.Mathlib.Numerals.{add-one}
use mathlib.Core.Path.{◌≡◌, refl, sym, ap, subst, ◌∙◌}
use mathlib.Core.Logic.{◌⊎◌, inl, inr, ⊎_elim, ◌≢◌}
use mathlib.Core.Bool.{Bool, true, false, not, ◌&&◌}
use mathlib.Core.List.{List, [], ◌∷◌, ◌++◌, append_assoc, append-nil}
use lib.Dec.{T, eqb, ltb, ltb→lt, nltb→le}
use lib.ListN.{length, get_or, set, take, length-append, length-take, length-set}
use lib.Seq.{take-suc, take-set-le, get_or-set_same, get_or-set_other}
use Rattle.model.specs.Lists.{all, bit, place, count}
use Rattle.model.specs.History.{is_order}
use Rattle.model.specs.Polygraph.{RespectsKnown}
use Rattle.model.specs.Search.{LexLess}
use Rattle.model.proofs.Basics.{clash, decide, same?, eq-T, and_l, and_r, and_in, ne_eqb, eqb_ne}
use Rattle.model.proofs.Masks.{bit_none}
use Rattle.model.proofs.Places.{order_out, order_once, order_length, order_inj, place_here, place_there, count_here, count_there}
use Rattle.model.proofs.Topology.{count_append, place_out}
use Rattle.model.proofs.First.{All-count}
use Rattle.search.specs.Constraints.{con_at, is_open, AimedAll}
use Rattle.search.specs.Steps.{Narrowed, PrunedState}
use Rattle.search.specs.Orders.{Solution, Firsts, Witness, Progress, Picked, Begun, Begins, First}
use Rattle.search.proofs.Words.{zero_list}
use Rattle.search.proofs.Picks.{held_sure, sure_more, witness_order}

-- the number after a prefix
pub record Next (t : ℕ) (pre o : List ℕ) : Type 0 where
  pub x : ℕ
  pub rest : List ℕ
  pub split : o ≡ pre ++ (x ∷ rest)
  pub small : x < t
  pub new : count x pre ≡ 0
  pub ahead : (y : ℕ) → y < t → count y pre ≡ 0 → y ≢ x → place x o < place y o

place_at : (x : ℕ) (pre r : List ℕ) → count x pre ≡ 0 → place x (pre ++ (x ∷ r)) ≡ length pre
place_at x [] r e = place_here x x r refl
place_at x (y ∷ pre) r e =
    ⊎_elim (λ (q : y ≡ x). absurd (omega (arith, count_here y x pre q)))
    (λ (q : y ≢ x). place_there y x (pre ++ (x ∷ r)) q ∙ ap suc (place_at x pre r (sym (count_there y x pre q) ∙ e))) (same? y x)

next_of : (t : ℕ) (pre o r : List ℕ) → T (is_order t o) → o ≡ pre ++ r → length pre < t → Next t pre o
next_of t pre o [] k e l = absurd (omega (arith, ap length (e ∙ append-nil pre), order_length (order_out t o k)))
next_of t pre o (x ∷ r) k e l =
    let m = order_out t o k in
    let c = ap (count x) e ∙ count_append x pre (x ∷ r) in
    let h = count_here x x r refl in
    let once = order_once m x in
    let new : count x pre ≡ 0 = omega arith in
    let small = All-count (λ y. y < t) x o m.small (omega arith) in
    let at : place x o ≡ length pre = ap (place x) e ∙ place_at x pre r new in
    record {
      x = x;
      rest = r;
      split = e;
      small = small;
      new = new;
      ahead = λ y hy cy ne.
          let after : length pre ≤ place y o = subst (λ (z : List ℕ). length pre ≤ place y z) (sym e) (place_out y pre (x ∷ r) cy) in
          let diff : place x o ≢ place y o = λ q. ne (sym (order_inj m x y small q)) in
          omega arith;
    }

-- a common beginning does not matter
lex_after : (pre a b : List ℕ) → LexLess a b → LexLess (pre ++ a) (pre ++ b)
lex_after [] a b l = l
lex_after (x ∷ pre) a b l = inr (refl, lex_after pre a b l)

module _ (t : ℕ) (w : List ℕ) (n : ℕ) (g : List ℕ) where
  begun_none : (l sel : List ℕ) (set : ℕ) → Begins t w n g l sel set → Begun t w n g [] g l sel set
  begun_none l sel set b =
      record {
        progress = b.progress;
        back = λ o r. r;
        follows = λ o k r. (o, refl);
        leads = λ o k r e. k.known;
        lowest = λ o k. inl (o, refl);
        inside = λ x h. (b.inside x h, refl);
        whole = λ x h e. b.whole x h;
      }

  -- the order of the witness
  some_good : (pre c l sel : List ℕ) (set : ℕ) → Begun t w n g pre c l sel set → (o : List ℕ) × Solution t w n g o × RespectsKnown o c
  some_good pre c l sel set b =
      let z = witness_order t b.progress.few w n b.progress.aimed c sel b.progress.witness in
      let r = b.progress.witness.back z.0 z.1 z.2 in
      (z.0, record { order = z.1; known = b.back z.0 r; keeps = z.3 }, r)

  -- where there is a selection, pruning is not stuck
  not_stuck : t ≤ 32 → AimedAll t w n → (d l sel : List ℕ) → Witness t w n d sel → (stuck : Bool) (c' l' : List ℕ) → PrunedState w n d l stuck c' l' → stuck ≡ false
  not_stuck few aimed d l sel y false c' l' x = refl
  not_stuck few aimed d l sel y true c' l' x =
      let z = witness_order t few w n aimed d sel y in
      absurd (x.hopeless refl z.0 (y.back z.0 z.1 z.2) z.3)

  -- something is unplaced
  unplaced : (pre c l sel : List ℕ) (set : ℕ) → Begun t w n g pre c l sel set → length pre < t → set ≢ 0
  unplaced pre c l sel set b h q =
      let o = some_good pre c l sel set b in
      let f = b.follows o.0 o.1 o.2 in
      let x = next_of t pre o.0 f.0 o.1.order f.1 h in
      clash (bit set x.x) (b.whole x.x x.small x.new)
      (subst (λ (y : ℕ). T (not (bit y x.x))) (sym q) (subst (λ (y : Bool). T (not y)) (sym (bit_none x.x)) tt))

  module _ (pre c l sel : List ℕ) (set : ℕ) (b : Begun t w n g pre c l sel set) (short : length pre < t) (v : ℕ) (d sel' : List ℕ) (p : Picked t w n c set v d sel')
      (c' l' : List ℕ) (x : Narrowed w n d l c' l') (set' : ℕ) (cleared : (y : ℕ) → bit set' y ≡ (bit set y && not (eqb y v))) where
    abbrev pre' : List ℕ
    pre' = pre ++ (v ∷ [])

    at_v : (v < t) × (count v pre ≡ 0)
    at_v = b.inside v p.member

    few : t ≤ 32
    few = b.progress.few

    -- an order that begins so has its next number before all that is unplaced
    firsts : (o : List ℕ) (k : Next t pre o) → Firsts set k.x o
    firsts o k y hy m ne = let i = b.inside y m in k.ahead y i.0 i.1 ne

    -- and where it respects d, that number is v
    is_v : (o : List ℕ) → RespectsKnown o d → (k : Next t pre o) → k.x ≡ v
    is_v o r k =
        ⊎_elim (λ (e : k.x ≡ v). e)
        (λ (e : k.x ≢ v).
        let i = b.whole k.x k.small k.new in
        let one = r v k.x (omega (arith, at_v.0, few)) (omega (arith, k.small, few)) (p.placed.first k.x i e) in
        let two = k.ahead v at_v.0 at_v.1 (λ q. e (sym q)) in
        absurd (omega arith))
        (same? k.x v)

    grown : (o : List ℕ) → RespectsKnown o c' → RespectsKnown o d
    grown o r y z hy hz a = r y z hy hz (x.grown.more y z a)

    old : (o : List ℕ) → RespectsKnown o d → RespectsKnown o c
    old o r y z hy hz a = r y z hy hz (p.placed.more y z a)

    shift : (o : List ℕ) (k : Next t pre o) → k.x ≡ v → o ≡ pre' ++ k.rest
    shift o k e = k.split ∙ ap (λ (y : ℕ). pre ++ (y ∷ k.rest)) e ∙ sym (append_assoc pre (v ∷ []) k.rest)

    progress' : Progress t w n c' l' sel'
    progress' =
        let st = b.progress in
        let k = p.witness in
        record {
          few = few;
          aimed = st.aimed;
          ready = record { given = st.ready.given; partial = x.grown.partial; fit = λ i a. st.ready.fit i (x.fewer i a) };
          settled = λ i h a.
              ⊎_elim (λ y. held_sure t few w n st.aimed c' i h (x.settled i y a))
              (λ y. sure_more t c c' (con_at w i) (λ u v' z. x.grown.more u v' (p.placed.more u v' z)) (st.settled i h y)) (decide (is_open l i));
          within = x.grown.within t (p.placed.within t st.within at_v.0 (λ y m. (b.inside y m).0)) st.aimed;
          witness =
              record {
                partial = k.partial;
                within = k.within;
                back = λ o y r. x.grown.keeps o (k.back o y r) (λ i h. k.sure i h o y r);
                sure = k.sure;
              };
        }

    begun_next : Begun t w n g pre' c' l' sel' set'
    begun_next =
        record {
          progress = progress';
          back = λ o r. b.back o (old o (grown o r));
          follows = λ o k r.
              let f = b.follows o k (old o (grown o r)) in
              let y = next_of t pre o f.0 k.order f.1 short in
              (y.rest, shift o y (is_v o (grown o r) y));
          leads = λ o k r e.
              let e' = e ∙ append_assoc pre (v ∷ []) r in
              let y = next_of t pre o (v ∷ r) k.order e' short in
              x.grown.keeps o
              (p.placed.keeps o (b.leads o k (v ∷ r) e')
              (λ z hz m ne. let i = b.inside z m in head o r k e' z i.0 i.1 ne)) k.keeps;
          lowest = λ o k. ⊎_elim (λ z. low o k z.0 z.1) (λ z. inr (λ r. subst (λ y. LexLess y o) (sym (append_assoc pre (v ∷ []) r)) (z (v ∷ r)))) (b.lowest o k);
          inside = λ y m.
              let q = eq-T (cleared y) m in
              let i = b.inside y (and_l (bit set y) (not (eqb y v)) q) in
              let ne = eqb_ne {m = y} {n = v} (and_r (bit set y) (not (eqb y v)) q) in
              (i.0, omega (arith, i.1, count_append y pre (v ∷ []), count_there v y [] (λ z. ne (sym z))));
          whole = λ y h e.
              let two = count_append y pre (v ∷ []) in
              let ne : y ≢ v = λ z. omega (arith, count_here v y [] (sym z)) in
              eq-T (sym (cleared y)) (and_in (bit set y) (not (eqb y v)) (b.whole y h (omega arith)) (ne_eqb {m = y} {n = v} ne));
        }
      where
        head : (o r : List ℕ) → Solution t w n g o → o ≡ pre ++ (v ∷ r) → (z : ℕ) → z < t → count z pre ≡ 0 → z ≢ v → place v o < place z o
        head o r k e z hz cz ne =
            let m = order_out t o k.order in
            let at : place v o ≡ length pre = ap (place v) e ∙ place_at v pre r at_v.1 in
            let after : length pre ≤ place z o = subst (λ (y : List ℕ). length pre ≤ place z y) (sym e) (place_out z pre (v ∷ r) cz) in
            let diff : place v o ≢ place z o = λ q. ne (sym (order_inj m v z at_v.0 q)) in
            omega arith

        low : (o : List ℕ) → Solution t w n g o → (r : List ℕ) → o ≡ pre ++ r → ((r : List ℕ) × (o ≡ pre' ++ r)) ⊎ ((r : List ℕ) → LexLess (pre' ++ r) o)
        low o k r e =
            let y = next_of t pre o r k.order e short in
            ⊎_elim (λ (i : y.x ≡ v). inl (y.rest, shift o y i))
            (λ (i : y.x ≢ v).
            ⊎_elim
            (λ (q : T (ltb y.x v)).
            absurd (p.lowest y.x (ltb→lt y.x v q) (b.whole y.x y.small y.new) o (b.leads o k r e) k.keeps (firsts o y)))
            (λ q.
            inr (λ z.
            subst (λ a. LexLess a o) (sym (append_assoc pre (v ∷ []) z))
            (subst (LexLess (pre ++ (v ∷ z))) (sym y.split) (lex_after pre (v ∷ z) (y.x ∷ y.rest) (inl (omega (arith, nltb→le y.x v q)))))))
            (decide (ltb y.x v)))
            (same? y.x v)

  empty : (r : List ℕ) → length r ≡ 0 → r ≡ []
  empty [] l = refl
  empty (x ∷ r) l = absurd (omega arith)

  begun_end : (pre c l sel : List ℕ) (set : ℕ) → Begun t w n g pre c l sel set → length pre ≡ t → Solution t w n g pre × ((o : List ℕ) → Solution t w n g o → (o ≡ pre) ⊎ LexLess pre o)
  begun_end pre c l sel set b e =
      let o = some_good pre c l sel set b in
      let f = b.follows o.0 o.1 o.2 in (
        subst (Solution t w n g) (whole o.0 o.1 f.0 f.1) o.1,
        λ y k. ⊎_elim (λ z. inl (whole y k z.0 z.1)) (λ z. inr (subst (λ a. LexLess a y) (append-nil pre) (z []))) (b.lowest y k),
      )
    where
      whole : (o : List ℕ) → Solution t w n g o → (r : List ℕ) → o ≡ pre ++ r → o ≡ pre
      whole o k r i =
          i ∙ ap (λ (z : List ℕ). pre ++ z) (empty r (omega (arith, ap length i, length-append pre r, order_length (order_out t o k.order)))) ∙ append-nil pre

  -- ---- as the loop holds it

  pub record Filling (k : ℕ) (c l sel : List ℕ) (set : ℕ) (out : List ℕ) : Type 0 where
    pub bound : k ≤ t
    pub long : length out ≡ 32
    pub zeros : (j : ℕ) → k ≤ j → get_or out j 0 ≡ 0
    pub begun : Begun t w n g (take k out) c l sel set

  take_long : (k : ℕ) (out : List ℕ) → length out ≡ 32 → k ≤ 32 → length (take k out) ≡ k
  take_long k out e h = omega (arith, length-take k out)

  pub filling_none : (l sel : List ℕ) (set₀ : ℕ) (out : List ℕ) → Begins t w n g l sel set₀ → length out ≡ 32 → T (all (λ x. eqb x 0) out) → Filling 0 g l sel set₀ out
  filling_none l sel set₀ out b e z =
      record { bound = omega arith; long = e; zeros = λ j h. zero_list out z j; begun = begun_none l sel set₀ b }

  -- something is unplaced
  pub filling_open : (k : ℕ) (c l sel : List ℕ) (set₀ : ℕ) (out : List ℕ) → Filling k c l sel set₀ out → k < t → set₀ ≢ 0
  filling_open k c l sel set₀ out f h =
      unplaced (take k out) c l sel set₀ f.begun (omega (arith, take_long k out f.long (omega (arith, f.begun.progress.few))))

  take_next : (k v : ℕ) (out : List ℕ) → length out ≡ 32 → k < 32 → take k out ++ (v ∷ []) ≡ take (k + 1) (set out k v)
  take_next k v out e h =
      sym (ap (λ (m : ℕ). take m (set out k v)) (add-one k) ∙ take-suc (set out k v) k 0 (omega (arith, length-set out k v))
      ∙ ap (λ (y : List ℕ). y ++ (get_or (set out k v) k 0 ∷ [])) (take-set-le k out k v (omega arith))
      ∙ ap (λ (y : ℕ). take k out ++ (y ∷ [])) (get_or-set_same out k v 0 (omega arith)))

  pub filling_narrowed : (k : ℕ) (c l sel : List ℕ) (set₀ : ℕ) (out : List ℕ) → Filling k c l sel set₀ out → k < t → (v : ℕ) (d sel' : List ℕ) → Picked t w n c set₀ v d sel'
      → (c' l' : List ℕ) → Narrowed w n d l c' l' → (set' : ℕ) → ((y : ℕ) → bit set' y ≡ (bit set₀ y && not (eqb y v))) → Filling (k + 1) c' l' sel' set' (set out k v)
  filling_narrowed k c l sel set₀ out f h v d sel' p c' l' y set' cleared =
      let few = f.begun.progress.few in
      record {
        bound = omega arith;
        long = length-set out k v ∙ f.long;
        zeros = λ j q. get_or-set_other out k j v 0 (omega arith) ∙ f.zeros j (omega arith);
        begun = subst (λ (y : List ℕ). Begun t w n g y c' l' sel' set') (take_next k v out f.long (omega arith))
            (begun_next (take k out) c l sel set₀ f.begun (omega (arith, take_long k out f.long (omega arith))) v d sel' p c' l' y set' cleared);
      }

  pub filling_next : (k : ℕ) (c l sel : List ℕ) (set₀ : ℕ) (out : List ℕ) → Filling k c l sel set₀ out → k < t → (v : ℕ) (d sel' : List ℕ) → Picked t w n c set₀ v d sel'
      → (stuck : Bool) (c' l' : List ℕ) → PrunedState w n d l stuck c' l' → (set' : ℕ) → ((y : ℕ) → bit set' y ≡ (bit set₀ y && not (eqb y v))) → Filling (k + 1) c' l' sel' set' (set out k v)
  filling_next k c l sel set₀ out f h v d sel' p stuck c' l' x set' cleared =
      let st = f.begun.progress in
      filling_narrowed k c l sel set₀ out f h v d sel' p c' l' (x.narrowed (not_stuck st.few st.aimed d l sel' p.witness stuck c' l' x)) set' cleared

  pub filling_end : (k : ℕ) (c l sel : List ℕ) (set₀ : ℕ) (out : List ℕ) → Filling k c l sel set₀ out → k ≡ t → First t w n g out
  filling_end k c l sel set₀ out f e =
      let few = f.begun.progress.few in
      let b = subst (λ (m : ℕ). Begun t w n g (take m out) c l sel set₀) e f.begun in
      let r = begun_end (take t out) c l sel set₀ b (take_long t out f.long few) in
      record { long = f.long; solves = r.0; lowest = r.1; zeros = λ j h. f.zeros j (omega arith) }
