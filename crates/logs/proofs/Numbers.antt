-- The tests that the code makes are the model's; one round more of each loop. Assumes nothing.
use Prim.Native.Nat.{ℕ, zero, suc, ◌+◌, ◌≤◌, ◌<◌}
use native.Mathlib.Omega.{arith}
use native.Mathlib.Numerals.{add-one}
use mathlib.Core.Path.{◌≡◌, refl, sym, ap, ap₂, subst, ◌∙◌}
use mathlib.Core.Logic.{◌≢◌}
use mathlib.Core.Bool.{Bool, true, false, not, cond, ◌&&◌, ◌||◌}
use mathlib.Core.List.{List}
use lib.Dec.{T, eqb, ltb, eqb→eq, nltb→le}
use Rattle.model.specs.Lists.{bit}
use Rattle.model.specs.History.{start}
use Rattle.model.specs.Log.{transactions_in, operations_in, count_at, start_at, counts_before, kind_at, key_at, argument_at, first_number, entry_number, seen, back_at, seen_back, again, body_number}
use Rattle.model.proofs.Loaded.{first_on, first_stop, first_out, counts_suc, counts_mono, good_entry, good_body}
use Rattle.rules.specs.Tests.{named, back_by, read_by, write_by, body_by, after_by, mark_by, mark_back}
use Rattle.logs.specs.Tests.{entry_by}
use Rattle.logs.specs.Reading.{entry_at, record_at}
use Rattle.rules.specs.declared.Body.{Body}
use Rattle.rules.specs.declared.Seen.{Seen}
use Rattle.logs.specs.declared.view.Entry.{Entry}
use Rattle.logs.proofs.Keys.{mask_at, backs_at, masks_start, backs_start, mask_bit, backs_bit, mask_next, backs_next}

-- ---- entries

-- an entry's test, where the counts before it are summed
pub entry_tested : (b : List ℕ) (t sum x : ℕ) (e : Entry) → e ≡ entry_at b t → sum ≡ counts_before b t → x ≡ entry_by e sum → x ≡ entry_number b t
unfolding entry_by entry_number
entry_tested b t sum x e p q r = r ∙ ap₂ entry_by p q

-- the counts of none sum to 0
pub none_yet : (b : List ℕ) → 0 ≡ counts_before b 0
unfolding counts_before
none_yet b = refl

-- the sum of the counts, one entry more
pub counts_more : (b : List ℕ) (t sum : ℕ) (e : Entry) → e ≡ entry_at b t → sum ≡ counts_before b t → sum + e.count ≡ counts_before b (t + 1)
counts_more b t sum e p q =
    omega (arith, ap (λ (y : Entry). y.count) p, counts_suc b t, ap (counts_before b) (add-one t))

-- a transaction's bodies are among the N, where the entries are good and the counts sum to N
pub within : (b : List ℕ) → first_number (entry_number b) (transactions_in b) ≡ 0 → counts_before b (transactions_in b) ≡ operations_in b
    → (t : ℕ) → t < transactions_in b → start_at b t + count_at b t ≤ operations_in b
within b e s t l =
    omega (arith, (good_entry b t (first_out (entry_number b) (transactions_in b) e t l)).start_is, counts_suc b t, counts_mono b (suc t) (transactions_in b) l, s)

-- ---- a body

module _ (b : List ℕ) (first : ℕ) where
  pub body_is : (t m : ℕ) → body_by (record_at b (first + m)) (transactions_in b) t (mask_at b first m 0) (mask_at b first m 1) (backs_at b first m) ≡ body_number b t first m
  unfolding body_by body_number read_by back_by write_by named again back_at
  body_is t m =
      same (ltb 1 kind) 7 (cond (ltb 31 key) 8 by) (cond (ltb 31 key) 8 is)
      (λ s. same (ltb 31 key) 8 by is (λ t. go (eqb kind 0) (λ u. eqb→eq kind 0 u) (λ u. one kind (nltb→le 1 kind s) u) (omega (arith, nltb→le 31 key t))))
    where
      kind : ℕ
      kind = kind_at b (first + m)

      key : ℕ
      key = key_at b (first + m)

      lo : Bool
      lo = ltb (argument_at b (first + m)) (transactions_in b)

      st : Bool
      st = eqb (argument_at b (first + m)) start

      own : Bool
      own = eqb (argument_at b (first + m)) t

      -- a read after writes, read-backs and reads of its key
      reading : Bool → Bool → Bool → ℕ
      reading w k r = cond w (cond k 10 (cond own 0 11)) (cond r 10 0)

      by : ℕ
      by =
          cond (eqb kind 0) (cond (lo || st) (reading (bit (mask_at b first m 1) key) (bit (backs_at b first m) key) (bit (mask_at b first m 0) key)) 9)
          (cond (bit (mask_at b first m 1) key) 34 0)

      is : ℕ
      is =
          cond (eqb kind 0 && (not lo && not st)) 9
          (cond (cond (eqb kind 0 && seen b first m 1 key) (seen_back b first m key) (seen b first m kind key)) (cond (eqb kind 0) 10 34)
          (cond ((eqb kind 0 && seen b first m 1 key) && not own) 11 0))

      turn : (x y : Bool) (n : ℕ) → ◌≡◌ {A = ℕ} (cond (x || y) n 9) (cond (not x && not y) 9 n)
      turn true y n = refl
      turn false true n = refl
      turn false false n = refl

      same : (a : Bool) (n x y : ℕ) → (T (not a) → x ≡ y) → cond a n x ≡ cond a n y
      same true n x y f = refl
      same false n x y f = f tt

      one : (x : ℕ) → x ≤ 1 → T (not (eqb x 0)) → x ≡ 1
      one zero l t = absurd t
      one (suc zero) l t = refl
      one (suc (suc x)) l t = absurd (omega arith)

      step : (w k r o : Bool) → ◌≡◌ {A = ℕ} (cond w (cond k 10 (cond o 0 11)) (cond r 10 0)) (cond (cond w k r) 10 (cond (w && not o) 11 0))
      step true true r o = refl
      step true false r true = refl
      step true false r false = refl
      step false k true o = refl
      step false k false o = refl

      go : (r : Bool) → (T r → kind ≡ 0) → (T (not r) → kind ≡ 1) → key < 32
          → ◌≡◌ {A = ℕ} (cond r (cond (lo || st) (reading (bit (mask_at b first m 1) key) (bit (backs_at b first m) key) (bit (mask_at b first m 0) key)) 9) (cond (bit (mask_at b first m 1) key) 34 0))
          (cond (r && (not lo && not st)) 9
          (cond (cond (r && seen b first m 1 key) (seen_back b first m key) (seen b first m kind key)) (cond r 10 34) (cond ((r && seen b first m 1 key) && not own) 11 0)))
      go true f g l =
          turn lo st (reading (bit (mask_at b first m 1) key) (bit (backs_at b first m) key) (bit (mask_at b first m 0) key))
          ∙ ap {B = ℕ} (λ (x : ℕ). cond (not lo && not st) 9 x)
          (ap (λ (w : Bool). reading w (bit (backs_at b first m) key) (bit (mask_at b first m 0) key)) (mask_bit b first m 1 key l)
          ∙ ap₂ (λ (k r : Bool). reading (seen b first m 1 key) k r) (backs_bit b first m key l) (mask_bit b first m 0 key l ∙ ap (λ x. seen b first m x key) (sym (f tt)))
          ∙ step (seen b first m 1 key) (seen_back b first m key) (seen b first m kind key) own)
      go false f g l =
          ap {B = ℕ} (λ (x : Bool). cond x 34 0) (mask_bit b first m 1 key l ∙ ap (λ x. seen b first m x key) (sym (g tt)))

-- ---- the loop over a transaction's bodies

-- after m bodies of transaction t, whose first body is given: all are good, and the masks are of the keys that they read, write and read back
pub record Sofar (b : List ℕ) (t first m : ℕ) (s : Seen) : Type 0 where
  pub none : first_number (body_number b t first) m ≡ 0
  pub reads_is : s.reads ≡ mask_at b first m 0
  pub writes_is : s.writes ≡ mask_at b first m 1
  pub backs_is : s.backs ≡ backs_at b first m

pub sofar_start : (b : List ℕ) (t first : ℕ) (s : Seen) → (s.reads ≡ 0) × ((s.writes ≡ 0) × (s.backs ≡ 0)) → Sofar b t first 0 s
unfolding first_number
sofar_start b t first s z =
    record { none = refl; reads_is = z.0 ∙ masks_start b first 0; writes_is = z.1.0 ∙ masks_start b first 1; backs_is = z.1.1 ∙ backs_start b first }

module _ (b : List ℕ) (t first m n : ℕ) (s : Seen) (x : ℕ) (o : Body) (count : n ≡ transactions_in b) (p : Sofar b t first m s) (is : o ≡ record_at b (first + m))
    (e : x ≡ body_by o n t s.reads s.writes s.backs) where
  pub sofar_number : x ≡ body_number b t first m
  sofar_number =
      e ∙ ap₂ (λ y k. body_by y k t s.reads s.writes s.backs) is count
      ∙ ap₂ (λ r w. body_by (record_at b (first + m)) (transactions_in b) t r w s.backs) p.reads_is p.writes_is
      ∙ ap (body_by (record_at b (first + m)) (transactions_in b) t (mask_at b first m 0) (mask_at b first m 1)) p.backs_is ∙ body_is b first t m

  pub sofar_stop : (c : ℕ) → m < c → x ≢ 0 → x ≡ first_number (body_number b t first) c
  sofar_stop c l f =
      sofar_number ∙ sym (first_stop (body_number b t first) m c l p.none (λ z. f (sofar_number ∙ z)))

  pub sofar_key : x ≡ 0 → o.key < 32
  sofar_key z = omega (arith, (good_body b t first m (sym sofar_number ∙ z)).key, ap (λ (y : Body). y.key) is)

  pub sofar_next : x ≡ 0 → (r : Seen) → r ≡ after_by s o → Sofar b t first (m + 1) r
  sofar_next z r h =
      let key : key_at b (first + m) < 32 = omega (arith, (good_body b t first m (sym sofar_number ∙ z)).key) in
      subst (λ i. Sofar b t first i r) (sym (add-one m))
      (record {
        none = first_on (body_number b t first) m p.none (sym sofar_number ∙ z);
        reads_is = ap (λ (y : Seen). y.reads) h ∙ ap₂ (λ y (c : Body). mark_by y c.kind 0 c.key) p.reads_is is ∙ mask_next b first m 0 key;
        writes_is = ap (λ (y : Seen). y.writes) h ∙ ap₂ (λ y (c : Body). mark_by y c.kind 1 c.key) p.writes_is is ∙ mask_next b first m 1 key;
        backs_is = ap (λ (y : Seen). y.backs) h ∙ ap₂ (λ y (c : Body). mark_back y s.writes c.kind c.key) p.backs_is is
            ∙ ap (λ y. mark_back (backs_at b first m) y (kind_at b (first + m)) (key_at b (first + m))) p.writes_is ∙ backs_next b first m key;
      })

-- ---- the loop over the transactions

pub first_found : (f : ℕ → ℕ) (n m x : ℕ) → n < m → first_number f n ≡ 0 → x ≡ f n → x ≢ 0 → x ≡ first_number f m
first_found f n m x l e p g = p ∙ sym (first_stop f n m l e (λ z. g (p ∙ z)))

pub first_next : (f : ℕ → ℕ) (n x : ℕ) → first_number f n ≡ 0 → x ≡ f n → x ≡ 0 → first_number f (n + 1) ≡ 0
first_next f n x e p z = ap (first_number f) (add-one n) ∙ first_on f n e (sym p ∙ z)
