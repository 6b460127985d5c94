-- The loop over all bodies of a log: the masks at a body are of the keys since its transaction began, and all bodies so far are good. Assumes nothing.
use Prim.Native.Nat.{ℕ, zero, suc, ◌+◌, ◌-◌, ◌%◌, ◌≤◌, ◌<◌}
use native.Mathlib.Omega.{arith}
use mathlib.Core.Path.{◌≡◌, sym, ap, ap₂, subst, ◌∙◌}
use mathlib.Core.Logic.{◌≢◌, ⊎_elim}
use mathlib.Core.Bool.{Bool, cond}
use mathlib.Core.List.{List}
use lib.Dec.{eqb}
use Rattle.model.specs.Log.{operations_in, count_at, start_at, counts_before, key_at, first_number, body_number, bodies_number}
use Rattle.model.proofs.Basics.{same?}
use Rattle.model.proofs.Loaded.{none_found}
use borrow.Author.Tests.{eq-eqb, ne_eqb}
use Rattle.rules.specs.Tests.{body_by, faults_by, mark_by}
use Rattle.logs.specs.Tests.{GoodEntries, GoodTo, starts_at}
use Rattle.logs.specs.Reading.{record_at, BodyIn}
use Rattle.rules.specs.declared.Body.{Body}
use Rattle.logs.proofs.Keys.{mask_at, backs_at, mask_next, masks_start}
use Rattle.logs.proofs.Numbers.{body_is}
use Rattle.logs.proofs.Placing.{placed_within, placed_entry}
use Rattle.rules.proofs.Faultless.{faults_good}
use Rattle.logs.proofs.Starts.{starts_none, starts_some, starts_whole, good_starts}

-- after i bodies, where the transactions that start before j are begun: all bodies are good, and the masks are of the keys read and written since
-- the last of them began
pub record Flat (b : List ℕ) (n j i reads writes : ℕ) : Type 0 where
  pub since : ℕ
  pub low : since ≤ i
  pub last : (t : ℕ) → t < n → start_at b t < j → start_at b t ≤ since
  pub whole : (t : ℕ) → t < n → since < start_at b t + count_at b t → since ≤ start_at b t
  pub reads_is : reads ≡ mask_at b since (i - since) 0
  pub writes_is : writes ≡ mask_at b since (i - since) 1
  pub good : (t m : ℕ) → t < n → m < count_at b t → start_at b t + m < i → body_number b t (start_at b t) m ≡ 0

pub flat_start : (b : List ℕ) (n : ℕ) → Flat b n 0 0 0 0
flat_start b n =
    record {
      since = 0;
      low = omega arith;
      last = λ t l k. absurd (omega arith);
      whole = λ t l k. omega arith;
      reads_is = masks_start b 0 0;
      writes_is = masks_start b 0 1;
      good = λ t m l k q. absurd (omega arith);
    }

module _ (b : List ℕ) (n : ℕ) (p : GoodEntries b n) (i reads writes : ℕ) where
  -- the masks are dropped where a transaction starts
  pub flat_begin : Flat b n i i reads writes → (r w : ℕ) → r ≡ cond (eqb (starts_at b n i) 0) reads 0 → w ≡ cond (eqb (starts_at b n i) 0) writes 0 → Flat b n (i + 1) i r w
  flat_begin f r w q s =
      ⊎_elim (λ (z : x ≡ 0). record {
        since = f.since;
        low = f.low;
        last = λ t l k. f.last t l (omega (arith, starts_none b n i z t l));
        whole = f.whole;
        reads_is = q ∙ ap (λ (y : Bool). cond y reads 0) (eq-eqb x 0 z) ∙ f.reads_is;
        writes_is = s ∙ ap (λ (y : Bool). cond y writes 0) (eq-eqb x 0 z) ∙ f.writes_is;
        good = f.good;
      })
      (λ (z : x ≢ 0). let h = starts_some b n i z in
      let none : i - i ≡ 0 = omega arith in
      record {
        since = i;
        low = omega arith;
        last = λ t l k. omega arith;
        whole = λ t l k. subst (λ y. y ≤ start_at b t) h.here (starts_whole b n (good_starts b n p) t h.which l h.below (subst (λ y. y < start_at b t + count_at b t) (sym h.here) k));
        reads_is = q ∙ ap (λ (y : Bool). cond y reads 0) (ne_eqb x 0 z) ∙ masks_start b i 0 ∙ ap (λ y. mask_at b i y 0) (sym none);
        writes_is = s ∙ ap (λ (y : Bool). cond y writes 0) (ne_eqb x 0 z) ∙ masks_start b i 1 ∙ ap (λ y. mask_at b i y 1) (sym none);
        good = f.good;
      }) (same? x 0)
    where
      x : ℕ
      x = starts_at b n i

  -- one body more
  pub flat_next : Flat b n (i + 1) i reads writes → (o : Body) → o ≡ record_at b i → faults_by o n reads writes ≡ 0 → (key r w : ℕ) → key ≡ o.key % 32
      → r ≡ mark_by reads o.kind 0 key → w ≡ mark_by writes o.kind 1 key → Flat b n (i + 1) (i + 1) r w
  flat_next f o is s key r w k x y =
      record {
        since = f.since;
        low = omega (arith, f.low);
        last = f.last;
        whole = f.whole;
        reads_is = x ∙ marked reads 0 f.reads_is;
        writes_is = y ∙ marked writes 1 f.writes_is;
        good = λ t m l q e. ⊎_elim (λ (z : start_at b t + m ≡ i). now t m l q z) (λ (z : start_at b t + m ≢ i). f.good t m l q (omega arith)) (same? (start_at b t + m) i);
      }
    where
      sound : (t backs : ℕ) → (o.key < 32) × (body_by o n t reads writes backs ≡ 0)
      sound t backs = faults_good o n t reads writes backs s

      small : o.key < 32
      small = (sound 0 0).0

      place : f.since + (i - f.since) ≡ i
      place = omega (arith, f.low)

      marked : (mask z : ℕ) → mask ≡ mask_at b f.since (i - f.since) z → mark_by mask o.kind z key ≡ mask_at b f.since (i + 1 - f.since) z
      marked mask z e =
          let same : key ≡ o.key = omega (arith, k, small) in
          let next : suc (i - f.since) ≡ i + 1 - f.since = omega (arith, f.low) in
          let at : o ≡ record_at b (f.since + (i - f.since)) = is ∙ ap (record_at b) (sym place) in
          let low : key_at b (f.since + (i - f.since)) < 32 = omega (arith, small, ap (λ (y : Body). y.key) at) in
          ap (mark_by mask o.kind z) same ∙ ap₂ (λ u (v : Body). mark_by u v.kind z v.key) e at ∙ mask_next b f.since (i - f.since) z low ∙ ap (λ u. mask_at b f.since u z) next

      now : (t m : ℕ) → t < n → m < count_at b t → start_at b t + m ≡ i → body_number b t (start_at b t) m ≡ 0
      now t m l q e =
          let first : f.since ≡ start_at b t = omega (arith, f.last t l (omega (arith, e)), f.whole t l (omega (arith, e, f.low))) in
          let far : i - f.since ≡ m = omega (arith, e, first) in
          let backs = backs_at b (start_at b t) m in
          sym (body_is b (start_at b t) t m)
          ∙ ap₂ (λ (v : Body) c. body_by v c t (mask_at b (start_at b t) m 0) (mask_at b (start_at b t) m 1) backs) (sym (is ∙ ap (record_at b) (sym e))) (sym p.count)
          ∙ ap₂ (λ u v. body_by o n t u v backs) (sym (f.reads_is ∙ ap₂ (λ u v. mask_at b u v 0) first far)) (sym (f.writes_is ∙ ap₂ (λ u v. mask_at b u v 1) first far))
          ∙ (sound t backs).1

-- where there is a body there is an entry 0, which starts at body 0
pub some_entry : (b : List ℕ) (n i : ℕ) → GoodEntries b n → i < operations_in b → 0 < n
unfolding counts_before
some_entry b zero i p l = absurd (omega (arith, p.sum))
some_entry b (suc n) i p l = omega arith

pub from_zero : (b : List ℕ) (n i : ℕ) → GoodEntries b n → i < operations_in b → start_at b 0 ≡ 0
unfolding counts_before
from_zero b n i p l = good_starts b n p 0 (some_entry b n i p l)

pub flat_body : (b : List ℕ) (n i : ℕ) → GoodEntries b n → i < operations_in b → BodyIn b 0 i
flat_body b n i p l =
    (placed_entry b n p 0 (some_entry b n i p l), omega (arith, p.long, p.count, from_zero b n i p l))

pub flat_record : (b : List ℕ) (n i : ℕ) → GoodEntries b n → i < operations_in b → record_at b (start_at b 0 + i) ≡ record_at b i
flat_record b n i p l = let e : start_at b 0 + i ≡ i = omega (arith, from_zero b n i p l) in ap (record_at b) e

-- where the first i bodies are good, so is each transaction that has only bodies of these
pub flat_good : (b : List ℕ) (n j i reads writes : ℕ) → Flat b n j i reads writes → GoodTo b n i
unfolding bodies_number
flat_good b n j i reads writes f t l e =
    none_found (body_number b t (start_at b t)) (count_at b t) (λ m k. f.good t m l k (omega (arith, e)))

-- where these are all bodies, each transaction is good
pub good_all : (b : List ℕ) (n : ℕ) → GoodEntries b n → (r : ℕ) → r ≡ operations_in b → GoodTo b n r → first_number (bodies_number b) n ≡ 0
good_all b n p r e g = none_found (bodies_number b) n (λ t l. g t l (omega (arith, e, placed_within b n p t l)))
