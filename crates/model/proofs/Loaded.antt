-- What the number 0 says of a log, field by field, and that its history is well formed. Assumes nothing.
use Prim.Native.Nat.{ℕ, zero, suc, ◌+◌, ◌*◌, ◌≤◌, ◌<◌}
use native.Mathlib.Omega.{arith}
use native.Mathlib.Nat.{not-suc-le-zero}
use mathlib.Core.Path.{◌≡◌, refl, sym, ap, subst, ◌∙◌}
use mathlib.Core.Logic.{⊎_elim, ◌≢◌}
use mathlib.Core.Bool.{Bool, true, false, not, cond, ◌&&◌, ◌||◌, not-not}
use mathlib.Core.List.{List, [], ◌∷◌, ◌++◌, map}
use lib.Dec.{T, eqb, ltb, leb, eqb→eq, eqb-suc-zero, ltb→lt, nltb→le, lt→ltb, le→leb}
use lib.ListN.{length, get_or, get_or-eq_default}
use Rattle.model.specs.Lists.{implies, all, keep_after, up_to, All}
use Rattle.model.specs.History.{Transaction, Operation, start, size, no_transaction, cabinet_of, operations_of, is_read, is_write, is_read_back, outward, read_backs, keys_once, good_operation, good_keys, good_transaction, operation_count, well_formed}
use Rattle.model.specs.Log.{byte_at, pair_at, transactions_in, operations_in, cabinet_at, count_at, start_at, counts_before, body_at, kind_at, key_at, argument_at, or_else, first_number, entry_number, seen, back_at, seen_back, again, body_number, bodies_number, length_said, load_number, operation_at, transaction_at, history_of}
use Rattle.model.proofs.Basics.{decide, clash, not_intro, eq-T, and_in, implies_in, eq-eqb, same?, all_in, all_up_to_in, any_up_to_in, up_to_in, All-imp, All-map-in}
use Rattle.model.proofs.Words.{length_up_to, get_or_up_to}
use Rattle.model.proofs.Loops.{map_snoc, fold_snoc}
use Rattle.model.proofs.Known.{Loadable}
use Rattle.model.proofs.ReadBacks.{behind, any_behind}

-- ---- the first number that is not 0

pub or_else_out : (m n : ℕ) → or_else m n ≡ 0 → (m ≡ 0) × (n ≡ 0)
or_else_out zero n e = (refl, e)
or_else_out (suc m) n e =
    let z : suc m ≡ 0 = sym (ap (λ b. cond b n (suc m)) (eqb-suc-zero m)) ∙ e in absurd (omega arith)

pub or_else_none : (m n : ℕ) → m ≡ 0 → or_else m n ≡ n
or_else_none m n e = ap (λ x. or_else x n) e

pub or_else_some : (m n : ℕ) → m ≢ 0 → or_else m n ≡ m
or_else_some zero n f = absurd (f refl)
or_else_some (suc m) n f = ap (λ b. cond b n (suc m)) (eqb-suc-zero m)

module _ (f : ℕ → ℕ) where
  pub first_suc : (n : ℕ) → first_number f (suc n) ≡ or_else (first_number f n) (f n)
  unfolding first_number
  first_suc n = refl

  pub first_none : first_number f 0 ≡ 0
  unfolding first_number
  first_none = refl

  -- a further round that finds nothing
  pub first_on : (n : ℕ) → first_number f n ≡ 0 → f n ≡ 0 → first_number f (suc n) ≡ 0
  first_on n e g = first_suc n ∙ or_else_none (first_number f n) (f n) e ∙ g

  -- nothing is found where every round finds nothing
  pub none_found : (n : ℕ) → ((i : ℕ) → i < n → f i ≡ 0) → first_number f n ≡ 0
  none_found zero g = first_none
  none_found (suc n) g = first_on n (none_found n (λ i l. g i (omega arith))) (g n (omega arith))

  -- what is found in round n stays
  pub first_stop : (n m : ℕ) → n < m → first_number f n ≡ 0 → f n ≢ 0 → first_number f m ≡ f n
  first_stop n zero l e g = absurd (not-suc-le-zero l)
  first_stop n (suc m) l e g =
      ⊎_elim
      (λ (p : n ≡ m). first_suc m ∙ or_else_none (first_number f m) (f m) (ap (first_number f) (sym p) ∙ e) ∙ ap f (sym p))
      (λ (p : n ≢ m).
      let r = first_stop n m (omega arith) e g in
      first_suc m ∙ or_else_some (first_number f m) (f m) (λ z. g (sym r ∙ z)) ∙ r)
      (same? n m)

  pub first_out : (n : ℕ) → first_number f n ≡ 0 → (i : ℕ) → i < n → f i ≡ 0
  first_out zero e i l = absurd (not-suc-le-zero l)
  first_out (suc n) e i l =
      let p = or_else_out (first_number f n) (f n) (sym (first_suc n) ∙ e) in
      ⊎_elim (λ (q : i ≡ n). ap f q ∙ p.1) (λ (q : i ≢ n). first_out n p.0 i (omega arith)) (same? i n)

-- ---- the tests of the load number

skip : (a : Bool) (n x : ℕ) → cond a (suc n) x ≡ 0 → T (not a) × (x ≡ 0)
skip true n x e = absurd (omega arith)
skip false n x e = (tt, e)

-- the same of one of two numbers
skip_either : (a r : Bool) (m n x : ℕ) → cond a (cond r (suc m) (suc n)) x ≡ 0 → T (not a) × (x ≡ 0)
skip_either a true m n x e = skip a m x e
skip_either a false m n x e = skip a n x e

pub need : (a : Bool) (n x : ℕ) → cond a x (suc n) ≡ 0 → T a × (x ≡ 0)
need true n x e = (tt, e)
need false n x e = absurd (omega arith)

pub neither : (a b : Bool) → T (not a) → T (not b) → T (not (a || b))
neither true b s t = absurd s
neither false b s t = t

nor : (a b : Bool) → T (not (a || b)) → T (not a) × T (not b)
nor true b t = absurd t
nor false b t = (tt, t)

nand : (a b : Bool) → T (not (a && b)) → T a → T (not b)
nand true b t s = t
nand false b t s = absurd s

pub record Loaded (b : List ℕ) : Type 0 where
  pub few : transactions_in b ≤ 32
  pub many : operations_in b ≤ 256
  pub long : length b ≡ length_said b
  pub cabinets : (t : ℕ) → t < transactions_in b → cabinet_at b t ≤ 15
  pub starts : (t : ℕ) → t < transactions_in b → start_at b t ≡ counts_before b t
  pub sum : counts_before b (transactions_in b) ≡ operations_in b
  pub bodies : (t m : ℕ) → t < transactions_in b → m < count_at b t → body_number b t (start_at b t) m ≡ 0

pub record GoodEntry (b : List ℕ) (t : ℕ) : Type 0 where
  pub cabinet : cabinet_at b t ≤ 15
  pub start_is : start_at b t ≡ counts_before b t

pub good_entry : (b : List ℕ) (t : ℕ) → entry_number b t ≡ 0 → GoodEntry b t
unfolding entry_number
good_entry b t e =
    let p = skip (ltb 15 (cabinet_at b t)) 3 (cond (eqb (start_at b t) (counts_before b t)) 0 5) e in
    let q = need (eqb (start_at b t) (counts_before b t)) 4 0 p.1 in
    record { cabinet = nltb→le 15 (cabinet_at b t) p.0; start_is = eqb→eq (start_at b t) (counts_before b t) q.0 }

pub loaded : (b : List ℕ) → load_number b ≡ 0 → Loaded b
unfolding load_number bodies_number
loaded b e =
    let n = transactions_in b in
    let c6 : ℕ = cond (eqb (counts_before b n) (operations_in b)) (first_number (bodies_number b) n) 6 in
    let c4 : ℕ = or_else (first_number (entry_number b) n) c6 in
    let c35 : ℕ = cond (ltb (length_said b) (length b)) 35 c4 in
    let c3 : ℕ = cond (ltb (length b) (length_said b)) 3 c35 in
    let p1 = skip (ltb (length b) 4) 0 (cond (ltb 32 n || ltb 256 (operations_in b)) 2 c3) e in
    let p2 = skip (ltb 32 n || ltb 256 (operations_in b)) 1 c3 p1.1 in
    let p3 = skip (ltb (length b) (length_said b)) 2 c35 p2.1 in
    let p35 = skip (ltb (length_said b) (length b)) 34 c4 p3.1 in
    let p4 = or_else_out (first_number (entry_number b) n) c6 p35.1 in
    let p6 = need (eqb (counts_before b n) (operations_in b)) 5 (first_number (bodies_number b) n) p4.1 in
    let small = nor (ltb 32 n) (ltb 256 (operations_in b)) p2.0 in
    record {
      few = nltb→le 32 n small.0;
      many = nltb→le 256 (operations_in b) small.1;
      long = omega (arith, nltb→le (length b) (length_said b) p3.0, nltb→le (length_said b) (length b) p35.0);
      cabinets = λ t l. (good_entry b t (first_out (entry_number b) n p4.0 t l)).cabinet;
      starts = λ t l. (good_entry b t (first_out (entry_number b) n p4.0 t l)).start_is;
      sum = eqb→eq (counts_before b n) (operations_in b) p6.0;
      bodies = λ t m l k. first_out (body_number b t (start_at b t)) (count_at b t) (first_out (bodies_number b) n p6.1 t l) m k;
    }

-- a body with the number 0
pub record GoodBody (b : List ℕ) (t first m : ℕ) : Type 0 where
  pub kind : kind_at b (first + m) ≤ 1
  pub key : key_at b (first + m) ≤ 31
  pub argument : T (implies (eqb (kind_at b (first + m)) 0) (ltb (argument_at b (first + m)) (transactions_in b) || eqb (argument_at b (first + m)) start))
  pub once : T (not (again b first m))
  pub own : T (back_at b first m) → argument_at b (first + m) ≡ t

pub good_body : (b : List ℕ) (t first m : ℕ) → body_number b t first m ≡ 0 → GoodBody b t first m
unfolding body_number
good_body b t first m e =
    let i = first + m in
    let rd = eqb (kind_at b i) 0 in
    let lo = ltb (argument_at b i) (transactions_in b) in
    let st = eqb (argument_at b i) start in
    let itself = eqb (argument_at b i) t in
    let c11 : ℕ = cond (back_at b first m && not itself) 11 0 in
    let c10 : ℕ = cond (again b first m) (cond rd 10 34) c11 in
    let c9 : ℕ = cond (rd && (not lo && not st)) 9 c10 in
    let c8 : ℕ = cond (ltb 31 (key_at b i)) 8 c9 in
    let p7 = skip (ltb 1 (kind_at b i)) 6 c8 e in
    let p8 = skip (ltb 31 (key_at b i)) 7 c9 p7.1 in
    let p9 = skip (rd && (not lo && not st)) 8 c10 p8.1 in
    let p10 = skip_either (again b first m) rd 9 33 c11 p9.1 in
    let p11 = skip (back_at b first m && not itself) 10 0 p10.1 in
    record {
      kind = nltb→le 1 (kind_at b i) p7.0;
      key = nltb→le 31 (key_at b i) p8.0;
      argument = turn rd lo st p9.0;
      once = p10.0;
      own = λ x. eqb→eq (argument_at b i) t (eq-T (not-not itself) (nand (back_at b first m) (not itself) p11.0 x));
    }
  where
    turn : (r l s : Bool) → T (not (r && (not l && not s))) → T (implies r (l || s))
    turn true true s t = tt
    turn true false true t = tt
    turn true false false t = absurd t
    turn false l s t = tt

-- ---- bounds

pub counts_suc : (b : List ℕ) (t : ℕ) → counts_before b (suc t) ≡ counts_before b t + count_at b t
unfolding counts_before
counts_suc b t = refl

pub counts_mono : (b : List ℕ) (s t : ℕ) → s ≤ t → counts_before b s ≤ counts_before b t
counts_mono b s zero l = let e : s ≡ 0 = omega arith in omega (arith, ap (counts_before b) e)
counts_mono b s (suc t) l =
    ⊎_elim (λ (e : s ≡ suc t). omega (arith, ap (counts_before b) e))
    (λ (e : s ≢ suc t). omega (arith, counts_mono b s t (omega arith), counts_suc b t)) (same? s (suc t))

module _ (b : List ℕ) (ok : Loaded b) where
  -- a transaction's bodies are among the N
  pub within : (t : ℕ) → t < transactions_in b → start_at b t + count_at b t ≤ operations_in b
  within t l = omega (arith, ok.starts t l, counts_suc b t, counts_mono b (suc t) (transactions_in b) l, ok.sum)

  pub body_in : (t m : ℕ) → t < transactions_in b → m < count_at b t → body_at b (start_at b t + m) + 4 ≤ length b
  body_in t m l k = omega (arith, within t l, ok.long)

  pub entry_in : (t : ℕ) → t < transactions_in b → 4 + 4 * t + 4 ≤ length b
  entry_in t l = omega (arith, ok.long)

  pub body_good : (t m : ℕ) → t < transactions_in b → m < count_at b t → GoodBody b t (start_at b t) m
  body_good t m l k = good_body b t (start_at b t) m (ok.bodies t m l k)

-- ---- the history

module _ (b : List ℕ) where
  pub history_size : size (history_of b) ≡ transactions_in b
  unfolding history_of
  history_size = length_up_to (transaction_at b) (transactions_in b)

  pub history_at : (t : ℕ) → t < transactions_in b → get_or (history_of b) t no_transaction ≡ transaction_at b t
  unfolding history_of
  history_at t l = get_or_up_to (transaction_at b) no_transaction (transactions_in b) t l

  pub history_past : (t : ℕ) → transactions_in b ≤ t → get_or (history_of b) t no_transaction ≡ no_transaction
  history_past t l = get_or-eq_default (history_of b) no_transaction {n = t} (omega (arith, history_size))

  -- operation m of transaction t
  abbrev pub operation_of : ℕ → ℕ → Operation
  operation_of t m = operation_at b (start_at b t + m)

  pub operations_at : (t : ℕ) → t < transactions_in b → operations_of (history_of b) t ≡ map (operation_of t) (up_to (count_at b t))
  unfolding transaction_at
  operations_at t l = ap (λ (x : Transaction). x.operations) (history_at t l)

  pub operations_past : (t : ℕ) → transactions_in b ≤ t → operations_of (history_of b) t ≡ []
  operations_past t l = ap (λ (x : Transaction). x.operations) (history_past t l)

  pub cabinet_at_lem : (t : ℕ) → t < transactions_in b → cabinet_of (history_of b) t ≡ cabinet_at b t
  unfolding transaction_at
  cabinet_at_lem t l = ap (λ (x : Transaction). x.cabinet) (history_at t l)

-- ---- well formed

-- a, a + 1, ..., n of them
abbrev from : ℕ → ℕ → List ℕ
from a zero = []
from a (suc n) = a ∷ from (suc a) n

from_snoc : (a n : ℕ) → from a (suc n) ≡ from a n ++ ((a + n) ∷ [])
from_snoc a zero = let e : a ≡ a + 0 = omega arith in ap (λ x. x ∷ []) e
from_snoc a (suc n) =
    let e : suc a + n ≡ a + suc n = omega arith in
    ap (λ l. a ∷ l) (from_snoc (suc a) n ∙ ap (λ x. from (suc a) n ++ (x ∷ [])) e)

pub up_to_from : (n : ℕ) → up_to n ≡ from 0 n
up_to_from zero = refl
up_to_from (suc n) = let e : n ≡ 0 + n = omega arith in ap (λ l. l ++ (n ∷ [])) (up_to_from n) ∙ ap (λ x. from 0 n ++ (x ∷ [])) e ∙ sym (from_snoc 0 n)

-- p may stand before o in a transaction
abbrev pub may_precede : Operation → Operation → Bool
may_precede p o = implies (eqb p.key o.key) (is_read p && is_write o)

-- operations kept by their place
module _ (p : List Operation → Operation → Bool) (f : ℕ → Operation) where
  abbrev pub kept : ℕ → Bool
  kept j = p (behind f j) (f j)

  abbrev pub kept_from : ℕ → ℕ → List Operation
  kept_from a n = keep_after p (behind f a) (map f (from a n))

  every_from : (P : Operation → Type 0) (a n : ℕ) → ((j : ℕ) → a ≤ j → j < a + n → T (kept j) → P (f j)) → All P (kept_from a n)
  every_from P a zero g = tt
  every_from P a (suc n) g = go (kept a) (g a (omega arith) (omega arith)) (every_from P (suc a) n (λ j l k. g j (omega arith) (omega arith)))
    where
      go : (c : Bool) → (T c → P (f a)) → All P (kept_from (suc a) n) → All P (cond c (f a ∷ kept_from (suc a) n) (kept_from (suc a) n))
      go true x r = (x tt, r)
      go false x r = r

  once_from : (earlier : List Operation) (a n : ℕ)
      → All (λ q. (j : ℕ) → a ≤ j → j < a + n → T (kept j) → T (may_precede q (f j))) earlier
      → ((i j : ℕ) → a ≤ i → i < j → j < a + n → T (kept i) → T (kept j) → T (may_precede (f i) (f j)))
      → T (keys_once earlier (kept_from a n))
  unfolding keys_once
  once_from earlier a zero g r = tt
  once_from earlier a (suc n) g r =
      go (kept a) (λ t. t)
      (λ t. once_from (f a ∷ earlier) (suc a) n ((λ j l k. r a j (omega arith) (omega arith) (omega arith) t), still) rest)
      (once_from earlier (suc a) n still rest)
    where
      still : All (λ q. (j : ℕ) → suc a ≤ j → j < suc a + n → T (kept j) → T (may_precede q (f j))) earlier
      still =
          All-imp (λ q. (j : ℕ) → a ≤ j → j < a + suc n → T (kept j) → T (may_precede q (f j)))
          (λ q. (j : ℕ) → suc a ≤ j → j < suc a + n → T (kept j) → T (may_precede q (f j))) (λ q r j l k. r j (omega arith) (omega arith)) earlier g

      rest : (i j : ℕ) → suc a ≤ i → i < j → j < suc a + n → T (kept i) → T (kept j) → T (may_precede (f i) (f j))
      rest i j l k q = r i j (omega arith) k (omega arith)

      go : (c : Bool) → (T c → T (kept a)) → (T (kept a) → T (keys_once (f a ∷ earlier) (kept_from (suc a) n))) → T (keys_once earlier (kept_from (suc a) n))
          → T (keys_once earlier (cond c (f a ∷ kept_from (suc a) n) (kept_from (suc a) n)))
      go true x y z =
          and_in (all (λ q. may_precede q (f a)) earlier) (keys_once (f a ∷ earlier) (kept_from (suc a) n))
          (all_in (λ q. may_precede q (f a)) earlier
          (All-imp (λ q. (j : ℕ) → a ≤ j → j < a + suc n → T (kept j) → T (may_precede q (f j))) (λ q. T (may_precede q (f a)))
          (λ q r. r a (omega arith) (omega arith) (x tt)) earlier g))
          (y (x tt))
      go false x y z = z

-- every element of a list of numbers below 256
abbrev pub Bytes : List ℕ → Type 0
Bytes b = (i : ℕ) → byte_at b i < 256

pub pair_lt : (b : List ℕ) → Bytes b → (i : ℕ) → pair_at b i < 65536
unfolding pair_at
pair_lt b small i = omega (arith, small i, small (i + 1))

kinds : (x : ℕ) → x ≤ 1 → T (not (eqb x 0)) → T (eqb x 1)
kinds zero l t = absurd t
kinds (suc zero) l t = tt
kinds (suc (suc x)) l t = absurd (omega arith)

yes_way : (c x y : Bool) → T (not (cond c x y)) → T c → T (not x)
yes_way true x y t u = t
yes_way false x y t u = absurd u

no_way : (c x y : Bool) → T (not (cond c x y)) → T (not c) → T (not y)
no_way true x y t u = absurd u
no_way false x y t u = t

-- operation m of a transaction is a read-back where its body is one
pub back_is : (b : List ℕ) (t m : ℕ) → is_read_back (behind (operation_of b t) m) (operation_of b t m) ≡ back_at b (start_at b t) m
unfolding is_read_back back_at seen
back_is b t m =
    ap (λ x. is_read (operation_of b t m) && x) (any_behind (λ p. is_write p && eqb p.key (operation_of b t m).key) (operation_of b t) m)

module _ (b : List ℕ) (ok : Loaded b) (t : ℕ) (l : t < transactions_in b) where
  abbrev first : ℕ
  first = start_at b t

  -- of two operations on a key that are no read-backs the first is a read and the second a write
  precede : (i j : ℕ) → i < j → j < count_at b t → T (not (back_at b first j)) → T (may_precede (operation_of b t i) (operation_of b t j))
  unfolding seen again back_at
  precede i j k m out =
      implies_in (eqb (key i) (key j)) (rd i && eqb (kind j) 1)
      (λ same.
      let hit : (x : ℕ) → T (eqb (kind i) x) → T (seen b first j x (key j)) =
      λ x e. any_up_to_in (λ p. eqb (kind p) x && eqb (key p) (key j)) j i k (and_in (eqb (kind i) x) (eqb (key i) (key j)) e same) in
      let gi = body_good b ok t i l (omega arith) in
      let gj = body_good b ok t j l m in
      let once = no_way (back_at b first j) (seen_back b first j (key j)) (seen b first j (kind j) (key j)) gj.once out in
      -- j is no read: an earlier read would be a second one, an earlier write would make it a read-back
      let wj : T (eqb (kind j) 1) = kinds (kind j) gj.kind (not_intro (rd j) (λ r.
      ⊎_elim (λ ri. clash (seen b first j (kind j) (key j)) (hit (kind j) (eq-eqb (eqb→eq (kind i) 0 ri ∙ sym (eqb→eq (kind j) 0 r)))) once)
      (λ ri. clash (back_at b first j) (and_in (rd j) (seen b first j 1 (key j)) r (hit 1 (kinds (kind i) gi.kind ri))) out)
      (decide (rd i)))) in
      and_in (rd i) (eqb (kind j) 1)
      (⊎_elim (λ ri. ri)
      (λ ri. absurd (clash (seen b first j (kind j) (key j)) (hit (kind j) (eq-eqb (eqb→eq (kind i) 1 (kinds (kind i) gi.kind ri) ∙ sym (eqb→eq (kind j) 1 wj)))) once))
      (decide (rd i)))
      wj)
    where
      kind : ℕ → ℕ
      kind x = kind_at b (first + x)

      key : ℕ → ℕ
      key x = key_at b (first + x)

      rd : ℕ → Bool
      rd x = eqb (kind x) 0

  -- two read-backs are of different keys
  backs_differ : (i j : ℕ) → i < j → j < count_at b t → T (back_at b first i) → T (back_at b first j) → T (may_precede (operation_of b t i) (operation_of b t j))
  unfolding again seen_back
  backs_differ i j k m bi bj =
      let same = eqb (key_at b (first + i)) (key_at b (first + j)) in
      implies_in same (is_read (operation_of b t i) && is_write (operation_of b t j))
      (λ e.
      absurd
      (clash (seen_back b first j (key_at b (first + j)))
      (any_up_to_in (λ p. back_at b first p && eqb (key_at b (first + p)) (key_at b (first + j))) j i k (and_in (back_at b first i) same bi e))
      (yes_way (back_at b first j) (seen_back b first j (key_at b (first + j))) (seen b first j (kind_at b (first + j)) (key_at b (first + j)))
      (body_good b ok t j l m).once bj)))

  good_keys_lem : T (good_keys t (map (operation_of b t) (up_to (count_at b t))))
  unfolding good_keys outward read_backs
  good_keys_lem =
      subst (λ is. T (good_keys t (map f is))) (sym (up_to_from n))
      (and_in (keys_once [] (kept_from out f 0 n)) (keys_once [] backs && all (λ o. eqb o.argument t) backs)
      (once_from out f [] 0 n tt (λ i j x y z u v. precede i j y (omega arith) (eq-T (ap not (back_is b t j)) v)))
      (and_in (keys_once [] backs) (all (λ o. eqb o.argument t) backs)
      (once_from is_read_back f [] 0 n tt (λ i j x y z u v. backs_differ i j y (omega arith) (eq-T (back_is b t i) u) (eq-T (back_is b t j) v)))
      (all_in (λ o. eqb o.argument t) backs
      (every_from is_read_back f (λ o. T (eqb o.argument t)) 0 n
      (λ j x y u. eq-eqb ((body_good b ok t j l (omega arith)).own (eq-T (back_is b t j) u)))))))
    where
      n : ℕ
      n = count_at b t

      f : ℕ → Operation
      f = operation_of b t

      out : List Operation → Operation → Bool
      out earlier o = not (is_read_back earlier o)

      backs : List Operation
      backs = kept_from is_read_back f 0 n

-- in the history of a log with the number 0, the keys of each transaction are good
pub keys_good : (b : List ℕ) → load_number b ≡ 0 → (t : ℕ) → t < transactions_in b → T (good_keys t (operations_of (history_of b) t))
keys_good b e t l = subst (λ os. T (good_keys t os)) (sym (operations_at b t l)) (good_keys_lem b (loaded b e) t l)

pub count_upto : (b : List ℕ) (n : ℕ) → operation_count (map (transaction_at b) (up_to n)) ≡ counts_before b n
unfolding transaction_at counts_before
count_upto b zero = refl
count_upto b (suc n) =
    ap operation_count (map_snoc (transaction_at b) (up_to n) n)
    ∙ fold_snoc (λ m (t : Transaction). m + length t.operations) 0 (map (transaction_at b) (up_to n)) (transaction_at b n)
    ∙ omega (arith, count_upto b n, length_up_to (operation_of b n) (count_at b n))

good_operation_lem : (b : List ℕ) → Bytes b → (n t first m : ℕ) → n ≡ transactions_in b → GoodBody b t first m → T (good_operation n (operation_at b (first + m)))
unfolding good_operation
good_operation_lem b small n t first m e g =
    let i = first + m in
    let a = argument_at b i in
    let named = implies (eqb (kind_at b i) 0) (ltb a n || eqb a start) in
    and_in (ltb (kind_at b i) 2) (ltb (key_at b i) 32 && (ltb a 65536 && named)) (lt→ltb (kind_at b i) 2 (omega (arith, g.kind)))
    (and_in (ltb (key_at b i) 32) (ltb a 65536 && named) (lt→ltb (key_at b i) 32 (omega (arith, g.key)))
    (and_in (ltb a 65536) named (lt→ltb a 65536 (pair_lt b small (body_at b i + 2)))
    (subst (λ (x : ℕ). T (implies (eqb (kind_at b i) 0) (ltb a x || eqb a start))) (sym e) g.argument)))

-- the number 0 gives a well_formed_lem history
pub well_formed_lem : (b : List ℕ) → Bytes b → load_number b ≡ 0 → T (well_formed (history_of b))
unfolding well_formed good_transaction history_of
well_formed_lem b small e =
    let ok = loaded b e in
    let h = history_of b in
    let n = size h in
    let sz : n ≡ transactions_in b = history_size b in
    let cnt : operation_count h ≡ counts_before b (transactions_in b) = count_upto b (transactions_in b) in
    and_in (leb n 32) (leb (operation_count h) 256 && all (good_transaction h) (up_to n)) (le→leb n 32 (omega (arith, ok.few)))
    (and_in (leb (operation_count h) 256) (all (good_transaction h) (up_to n)) (le→leb (operation_count h) 256 (omega (arith, ok.many, ok.sum)))
    (all_up_to_in (good_transaction h) n
    (λ t k.
    let l : t < transactions_in b = omega arith in
    let os = operations_of h t in
    let is = sym (operations_at b t l) in
    and_in (ltb (cabinet_of h t) 16) (all (good_operation n) os && good_keys t os) (lt→ltb (cabinet_of h t) 16 (omega (arith, cabinet_at_lem b t l, ok.cabinets t l)))
    (and_in (all (good_operation n) os) (good_keys t os)
    (subst (λ os. T (all (good_operation n) os)) is
    (all_in (good_operation n) (map (operation_of b t) (up_to (count_at b t)))
    (All-map-in (λ x. T (good_operation n x)) (operation_of b t) (up_to (count_at b t))
    (up_to_in (λ m. T (good_operation n (operation_of b t m))) (count_at b t)
    (λ m k. good_operation_lem b small n t (start_at b t) m sz (body_good b ok t m l k))))))
    (keys_good b e t l)))))

-- what holds of every body holds of every operation of the history
pub every_operation_lem : (b : List ℕ) (P : Operation → Type 0) → ((t m : ℕ) → t < transactions_in b → m < count_at b t → P (operation_of b t m)) → (t : ℕ) → All P (operations_of (history_of b) t)
every_operation_lem b P f t =
    ⊎_elim
    (λ l.
    let lt = ltb→lt t (transactions_in b) l in
    subst (All P) (sym (operations_at b t lt)) (All-map-in P (operation_of b t) (up_to (count_at b t)) (up_to_in (λ m. P (operation_of b t m)) (count_at b t) (λ m k. f t m lt k))))
    (λ l. subst (All P) (sym (operations_past b t (nltb→le t (transactions_in b) l))) tt)
    (decide (ltb t (transactions_in b)))

-- what the theorems on histories need of a loaded log: at most 32 transactions, and keys below 32
pub loadable_log : (b : List ℕ) → load_number b ≡ 0 → Loadable (history_of b)
loadable_log b e =
    let ok = loaded b e in
    record {
      few = omega (arith, ok.few, history_size b);
      keys = every_operation_lem b (λ o. o.key < 32) (λ t m l k. omega (arith, (body_good b ok t m l k).key));
    }

-- what counting operations and constraints needs besides: kinds 0 and 1, and at most 256 operations
pub kinds_log : (b : List ℕ) → load_number b ≡ 0 → (t : ℕ) → All (λ o. o.kind < 2) (operations_of (history_of b) t)
kinds_log b e = every_operation_lem b (λ o. o.kind < 2) (λ t m l k. omega (arith, (body_good b (loaded b e) t m l k).kind))

pub operations_few : (b : List ℕ) → load_number b ≡ 0 → operation_count (history_of b) ≤ 256
unfolding history_of
operations_few b e = let ok = loaded b e in omega (arith, count_upto b (transactions_in b), ok.sum, ok.many)
