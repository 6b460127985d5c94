-- Load takes every log that is laid out right and holds a well-formed history. Assumes nothing.
use Prim.Native.Nat.{ℕ, zero, suc, ◌+◌, ◌≤◌, ◌<◌}
use native.Mathlib.Omega.{arith}
use mathlib.Core.Path.{◌≡◌, sym, ap, subst, ◌∙◌}
use mathlib.Core.Logic.{⊎_elim, ◌≢◌}
use mathlib.Core.Bool.{Bool, true, false, not, cond, ◌&&◌, ◌||◌}
use mathlib.Core.List.{List, [], ◌∷◌, map}
use lib.Dec.{T, eqb, ltb, leb, eqb→eq, ltb→lt, leb→le}
use Rattle.model.specs.Lists.{implies, all, up_to, All}
use Rattle.model.specs.History.{Operation, start, size, cabinet_of, operations_of, is_read_back, outward, read_backs, keys_once, good_operation, good_keys, good_transaction, operation_count, well_formed}
use Rattle.model.specs.Log.{transactions_in, cabinet_at, count_at, start_at, counts_before, kind_at, key_at, argument_at, entry_number, seen, back_at, seen_back, again, body_number, bodies_number, load_number, history_of, LaidOut}
use Rattle.model.proofs.Basics.{decide, clash, not_intro, and_l, and_r, and_in, implies_out, cond_out, eq-T, eq-eqb, same?, All-imp, all_out, all_up_to_out, any_up_to_out, any_up_to_in, up_to_out, All-map-out}
use Rattle.model.proofs.Loaded.{none_found, loaded, history_size, operation_of, operations_at, cabinet_at_lem, up_to_from, may_precede, kept, kept_from, back_is, count_upto}
use Rattle.model.proofs.Numbers.{past, not_lt, entry_zero, load_bodies}

-- ---- what holds of the operations that are kept by their place

-- each may stand after all that stand before it
pub before_each : (earlier os : List Operation) → T (keys_once earlier os) → All (λ o. T (all (λ q. may_precede q o) earlier)) os
unfolding keys_once
before_each earlier [] t = tt
before_each earlier (o ∷ os) t = (
  and_l (all (λ q. may_precede q o) earlier) (keys_once (o ∷ earlier) os) t,
  All-imp (λ x. T (all (λ q. may_precede q x) (o ∷ earlier))) (λ x. T (all (λ q. may_precede q x) earlier))
      (λ x u. and_r (may_precede o x) (all (λ q. may_precede q x) earlier) u) os
      (before_each (o ∷ earlier) os (and_r (all (λ q. may_precede q o) earlier) (keys_once (o ∷ earlier) os) t)),
)

module _ (p : List Operation → Operation → Bool) (f : ℕ → Operation) where
  every_kept : (P : Operation → Type 0) (a n : ℕ) → All P (kept_from p f a n) → (j : ℕ) → a ≤ j → j < a + n → T (kept p f j) → P (f j)
  every_kept P a zero h j l k t = absurd (omega arith)
  every_kept P a (suc n) h j l k t =
      let r = go (kept p f a) h in
      ⊎_elim (λ (e : j ≡ a). subst (λ x. T (kept p f x) → P (f x)) (sym e) r.0 t)
      (λ (e : j ≢ a). every_kept P (suc a) n r.1 j (omega arith) (omega arith) t) (same? j a)
    where
      go : (c : Bool) → All P (cond c (f a ∷ kept_from p f (suc a) n) (kept_from p f (suc a) n)) → (T c → P (f a)) × All P (kept_from p f (suc a) n)
      go true r = (λ t. r.0, r.1)
      go false r = (λ t. absurd t, r)

  -- of two that are kept the first may stand before the second
  two_kept : (earlier : List Operation) (a n : ℕ) → T (keys_once earlier (kept_from p f a n))
      → (i j : ℕ) → a ≤ i → i < j → j < a + n → T (kept p f i) → T (kept p f j) → T (may_precede (f i) (f j))
  unfolding keys_once
  two_kept earlier a zero h i j l k m ti tj = absurd (omega arith)
  two_kept earlier a (suc n) h i j l k m ti tj =
      ⊎_elim
      (λ (e : i ≡ a).
      let ta = subst (λ x. T (kept p f x)) e ti in
      let each = before_each (f a ∷ earlier) rest (here (kept p f a) ta h) in
      let at = every_kept (λ o. T (all (λ q. may_precede q o) (f a ∷ earlier))) (suc a) n each j (omega arith) (omega arith) tj in
      subst (λ x. T (may_precede (f x) (f j))) (sym e) (and_l (may_precede (f a) (f j)) (all (λ q. may_precede q (f j)) earlier) at))
      (λ (e : i ≢ a).
      let r = past (kept p f a) h in
      two_kept r.0 (suc a) n r.1 i j (omega arith) k (omega arith) ti tj)
      (same? i a)
    where
      rest : List Operation
      rest = kept_from p f (suc a) n

      here : (c : Bool) → T c → T (keys_once earlier (cond c (f a ∷ rest) rest)) → T (keys_once (f a ∷ earlier) rest)
      here true u h = and_r (all (λ q. may_precede q (f a)) earlier) (keys_once (f a ∷ earlier) rest) h
      here false u h = absurd u

      past : (c : Bool) → T (keys_once earlier (cond c (f a ∷ rest) rest)) → (e : List Operation) × T (keys_once e rest)
      past true h = (f a ∷ earlier, and_r (all (λ q. may_precede q (f a)) earlier) (keys_once (f a ∷ earlier) rest) h)
      past false h = (earlier, h)

-- ---- the bodies of a transaction with good keys

module _ (b : List ℕ) (t : ℕ) (good : T (good_keys t (map (operation_of b t) (up_to (count_at b t))))) where
  abbrev first : ℕ
  first = start_at b t

  abbrev out : List Operation → Operation → Bool
  out earlier o = not (is_read_back earlier o)

  abbrev outs : List Operation
  outs = kept_from out (operation_of b t) 0 (count_at b t)

  abbrev backs : List Operation
  backs = kept_from is_read_back (operation_of b t) 0 (count_at b t)

  split : T (keys_once [] outs) × T (keys_once [] backs) × T (all (λ o. eqb o.argument t) backs)
  unfolding good_keys outward read_backs
  split =
      let own = all (λ o. eqb o.argument t) backs in
      let g = subst (λ is. T (good_keys t (map (operation_of b t) is))) (up_to_from (count_at b t)) good in
      let r = and_r (keys_once [] outs) (keys_once [] backs && own) g in
      (and_l (keys_once [] outs) (keys_once [] backs && own) g, and_l (keys_once [] backs) own r, and_r (keys_once [] backs) own r)

  two_out : (i j : ℕ) → i < j → j < count_at b t → T (not (back_at b first i)) → T (not (back_at b first j))
      → T (may_precede (operation_of b t i) (operation_of b t j))
  two_out i j k m u v =
      two_kept out (operation_of b t) [] 0 (count_at b t) split.0 i j (omega arith) k (omega arith)
      (eq-T (ap not (sym (back_is b t i))) u) (eq-T (ap not (sym (back_is b t j))) v)

  two_back : (i j : ℕ) → i < j → j < count_at b t → T (back_at b first i) → T (back_at b first j)
      → T (may_precede (operation_of b t i) (operation_of b t j))
  two_back i j k m u v =
      two_kept is_read_back (operation_of b t) [] 0 (count_at b t) split.1 i j (omega arith) k (omega arith)
      (eq-T (sym (back_is b t i)) u) (eq-T (sym (back_is b t j)) v)

  back_own : (m : ℕ) → m < count_at b t → T (back_at b first m) → T (eqb (argument_at b (first + m)) t)
  back_own m k u =
      every_kept is_read_back (operation_of b t) (λ o. T (eqb o.argument t)) 0 (count_at b t)
      (all_out (λ o. eqb o.argument t) backs split.2) m (omega arith) (omega arith) (eq-T (sym (back_is b t m)) u)

  not_again : (m : ℕ) → m < count_at b t → T (not (again b first m))
  unfolding again seen_back seen back_at
  not_again m k =
      not_intro (again b first m)
      (λ x. ⊎_elim (λ y. backed y.0 y.1) (λ y. unbacked y.0 y.1) (cond_out (back_at b first m) (seen_back b first m (key m)) (seen b first m (kind m) (key m)) x))
    where
      kind : ℕ → ℕ
      kind x = kind_at b (first + x)

      key : ℕ → ℕ
      key x = key_at b (first + x)

      -- the second of two on a key is a write, and the first a read
      differ : (i : ℕ) → T (may_precede (operation_of b t i) (operation_of b t m)) → T (eqb (key i) (key m)) → (kind i ≡ 0) × (kind m ≡ 1)
      differ i p e =
          let r = implies_out (eqb (key i) (key m)) (eqb (kind i) 0 && eqb (kind m) 1) p e in
          (eqb→eq (kind i) 0 (and_l (eqb (kind i) 0) (eqb (kind m) 1) r), eqb→eq (kind m) 1 (and_r (eqb (kind i) 0) (eqb (kind m) 1) r))

      reads : (i : ℕ) → T (back_at b first i) → kind i ≡ 0
      reads i u = eqb→eq (kind i) 0 (and_l (eqb (kind i) 0) (seen b first i 1 (key i)) u)

      -- a second read-back
      backed : T (back_at b first m) → T (seen_back b first m (key m)) → ⊥
      backed u s =
          let r = any_up_to_out (λ j. back_at b first j && eqb (key j) (key m)) m s in
          let j = r.0 in
          let bj = and_l (back_at b first j) (eqb (key j) (key m)) r.1 in
          let d = differ j (two_back j m r.2 k bj u) (and_r (back_at b first j) (eqb (key j) (key m)) r.1) in
          omega (arith, d.1, reads m u)

      -- a second write, or a second read where no write stands before: the first is no read-back, or m would be one
      unbacked : T (not (back_at b first m)) → T (seen b first m (kind m) (key m)) → ⊥
      unbacked u s =
          let r = any_up_to_out (λ j. eqb (kind j) (kind m) && eqb (key j) (key m)) m s in
          let j = r.0 in
          let sk = eqb→eq (kind j) (kind m) (and_l (eqb (kind j) (kind m)) (eqb (key j) (key m)) r.1) in
          let se = and_r (eqb (kind j) (kind m)) (eqb (key j) (key m)) r.1 in
          ⊎_elim
          (λ bj.
          let w = any_up_to_out (λ i. eqb (kind i) 1 && eqb (key i) (key j)) j (and_r (eqb (kind j) 0) (seen b first j 1 (key j)) bj) in
          let i = w.0 in
          let wi = and_l (eqb (kind i) 1) (eqb (key i) (key j)) w.1 in
          let ei = eqb→eq (key i) (key j) (and_r (eqb (kind i) 1) (eqb (key i) (key j)) w.1) in
          let il : i < m = omega (arith, r.2, w.2) in
          clash (back_at b first m)
          (and_in (eqb (kind m) 0) (seen b first m 1 (key m)) (eq-eqb (sym sk ∙ reads j bj))
          (any_up_to_in (λ i. eqb (kind i) 1 && eqb (key i) (key m)) m i il
          (and_in (eqb (kind i) 1) (eqb (key i) (key m)) wi (eq-eqb (ei ∙ eqb→eq (key j) (key m) se)))))
          u)
          (λ oj. let d = differ j (two_out j m r.2 k oj u) se in omega (arith, d.0, d.1, sk))
          (decide (back_at b first j))

-- ---- the number 0, test by test

body_zero : (b : List ℕ) (t m : ℕ) → T (good_keys t (map (operation_of b t) (up_to (count_at b t)))) → m < count_at b t
    → T (good_operation (transactions_in b) (operation_of b t m)) → body_number b t (start_at b t) m ≡ 0
unfolding body_number good_operation
body_zero b t m good k g =
    let first = start_at b t in
    let i = first + m in
    let a = argument_at b i in
    let rd = eqb (kind_at b i) 0 in
    let lo = ltb a (transactions_in b) in
    let st = eqb a start in
    let itself = eqb a t in
    let back = back_at b first m in
    let named = implies rd (lo || st) in
    let g1 = and_r (ltb (kind_at b i) 2) (ltb (key_at b i) 32 && (ltb a 65536 && named)) g in
    let g2 = and_r (ltb (key_at b i) 32) (ltb a 65536 && named) g1 in
    let kind = ltb→lt (kind_at b i) 2 (and_l (ltb (kind_at b i) 2) (ltb (key_at b i) 32 && (ltb a 65536 && named)) g) in
    let key = ltb→lt (key_at b i) 32 (and_l (ltb (key_at b i) 32) (ltb a 65536 && named) g1) in
    let c11 : ℕ = cond (back && not itself) 11 0 in
    let c10 : ℕ = cond (again b first m) (cond rd 10 34) c11 in
    let c9 : ℕ = cond (rd && (not lo && not st)) 9 c10 in
    let c8 : ℕ = cond (ltb 31 (key_at b i)) 8 c9 in
    past (ltb 1 (kind_at b i)) 7 c8 (not_lt 1 (kind_at b i) (omega (arith, kind)))
    ∙ past (ltb 31 (key_at b i)) 8 c9 (not_lt 31 (key_at b i) (omega (arith, key)))
    ∙ past (rd && (not lo && not st)) 9 c10 (turn rd lo st (and_r (ltb a 65536) named g2))
    ∙ past (again b first m) (cond rd 10 34) c11 (not_again b t good m k)
    ∙ past (back && not itself) 11 0 (own back itself (back_own b t good m k))
  where
    turn : (r l s : Bool) → T (implies r (l || s)) → T (not (r && (not l && not s)))
    turn true true s t = tt
    turn true false true t = tt
    turn true false false t = absurd t
    turn false l s t = tt

    own : (c d : Bool) → (T c → T d) → T (not (c && not d))
    own true true f = tt
    own true false f = f tt
    own false d f = tt

-- what a well-formed history says of the log's fields
record Fields (b : List ℕ) : Type 0 where
  few : transactions_in b ≤ 32
  many : counts_before b (transactions_in b) ≤ 256
  cabinets : (t : ℕ) → t < transactions_in b → cabinet_at b t ≤ 15
  bodies : (t m : ℕ) → t < transactions_in b → m < count_at b t → body_number b t (start_at b t) m ≡ 0

fields : (b : List ℕ) → T (well_formed (history_of b)) → Fields b
unfolding well_formed good_transaction history_of
fields b w =
    let h = history_of b in
    let n = size h in
    let sz : n ≡ transactions_in b = history_size b in
    let cnt : operation_count h ≡ counts_before b (transactions_in b) = count_upto b (transactions_in b) in
    let w1 = and_r (leb n 32) (leb (operation_count h) 256 && all (good_transaction h) (up_to n)) w in
    let few = leb→le n 32 (and_l (leb n 32) (leb (operation_count h) 256 && all (good_transaction h) (up_to n)) w) in
    let many = leb→le (operation_count h) 256 (and_l (leb (operation_count h) 256) (all (good_transaction h) (up_to n)) w1) in
    let each : (t : ℕ) → t < transactions_in b → T (good_transaction h t) =
    λ t l. all_up_to_out (good_transaction h) n (and_r (leb (operation_count h) 256) (all (good_transaction h) (up_to n)) w1) t (omega (arith, sz)) in
    record {
      few = omega (arith, few, sz);
      many = omega (arith, many, cnt);
      cabinets = λ t l.
          let c =
          ltb→lt (cabinet_of h t) 16
          (and_l (ltb (cabinet_of h t) 16) (all (good_operation n) (operations_of h t) && good_keys t (operations_of h t)) (each t l)) in
          omega (arith, c, cabinet_at_lem b t l);
      bodies = λ t m l k.
          let os = operations_of h t in
          let is = operations_at b t l in
          let r = and_r (ltb (cabinet_of h t) 16) (all (good_operation n) os && good_keys t os) (each t l) in
          let ops = subst (λ os. T (all (good_operation n) os)) is (and_l (all (good_operation n) os) (good_keys t os) r) in
          body_zero b t m (subst (λ os. T (good_keys t os)) is (and_r (all (good_operation n) os) (good_keys t os) r)) k
          (subst (λ x. T (good_operation x (operation_of b t m))) sz
          (up_to_out (λ m. T (good_operation n (operation_of b t m))) (count_at b t)
          (All-map-out (λ x. T (good_operation n x)) (operation_of b t) (up_to (count_at b t))
          (all_out (good_operation n) (map (operation_of b t) (up_to (count_at b t))) ops))
          m k));
    }

pub takes : (b : List ℕ) → LaidOut b → T (well_formed (history_of b)) → load_number b ≡ 0
unfolding bodies_number
takes b laid w =
    let ok = fields b w in
    let n = transactions_in b in
    sym (load_bodies b (omega (arith, laid.long)) ok.few (omega (arith, ok.many, laid.sum)) laid.long
    (none_found (entry_number b) n (λ t l. entry_zero b t (ok.cabinets t l) (laid.starts t l))) laid.sum)
    ∙ none_found (bodies_number b) n (λ t l. none_found (body_number b t (start_at b t)) (count_at b t) (λ m k. ok.bodies t m l k))

-- and every log that it takes is laid out so
pub laid_out : (b : List ℕ) → load_number b ≡ 0 → LaidOut b
laid_out b e = let ok = loaded b e in record { long = ok.long; starts = ok.starts; sum = ok.sum }
