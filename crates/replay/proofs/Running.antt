-- The replay over a table: one transaction's operations, and the last writers that explain its reads. Assumes nothing.
use Prim.Native.Nat.{ℕ, ◌+◌, ◌^◌, ◌<◌}
use native.Mathlib.Omega.{arith}
use native.Mathlib.Numerals.{add-one}
use mathlib.Core.Path.{◌≡◌, refl, sym, ap, ap₂, subst, ◌∙◌}
use mathlib.Core.Logic.{⊎_elim, ◌≢◌}
use mathlib.Core.Bool.{Bool, true, false, cond, ◌&&◌, ◌||◌, or-true, or-false}
use mathlib.Core.List.{List, [], ◌∷◌, ◌++◌, map}
use lib.Dec.{T, eqb}
use lib.ListN.{length, get_or, set, take, replicate, length-set, get_or-replicate}
use lib.Seq.{get_or-set_same, get_or-set_other, set-get_or, take-suc, take_all}
use Rattle.model.specs.Lists.{implies, all, any, keep, fold, up_to, place, bit}
use Rattle.model.specs.History.{Operation, History, start, size, operations_of, is_read, is_write, is_read_back, outward, outward_of, writes, last_writer, explained, every_read_explained, stored, replay}
use Rattle.model.specs.Log.{transactions_in, count_at, load_number, history_of}
use Rattle.model.proofs.Basics.{true_eq, false_eq, eq-eqb, ne_eqb, eqb_comm, same?, iff_eq, All-imp, all_up_to_out, all_up_to_in}
use Rattle.model.proofs.Loaded.{history_size, operation_of, operations_at, loadable_log}
use Rattle.model.proofs.Known.{outward_keys}
use Rattle.model.proofs.ReadBacks.{behind, all_outward, Wrote, wrote_next, wrote_back}
use Rattle.model.proofs.Masks.{bit_or_lem, bit_one}
use Rattle.model.proofs.Loops.{map_snoc, keep_snoc, fold_snoc, before_take}
use Rattle.model.proofs.Places.{Order, order_once, order_place, order_length}
use Rattle.graph.specs.Masks.{put_if}
use Rattle.logs.specs.Reading.{as_operation}
use Rattle.rules.specs.declared.Body.{Body}
use Rattle.replay.specs.Steps.{agrees_by, reads_agree, put_by, stored_by}
use Rattle.replay.proofs.Alls.{all_same}
use Rattle.replay.proofs.Ordering.{small_at}
use Rattle.replay.proofs.Placing.{at_place}

-- ---- one transaction's reads

-- operation m of t is a read-back, or agrees with the table
unfoldable pub passes : List ℕ → List ℕ → ℕ → ℕ → Bool
passes b last t m = is_read_back (behind (operation_of b t) m) (operation_of b t m) || agrees_by last (operation_of b t m)

-- ---- as the code does it: a mask has the keys written so far, those of operation m too, which is no matter to a read

put_bit : (w v : ℕ) (put : Bool) (k : ℕ) → bit (put_if w v put) k ≡ (bit w k || (put && eqb v k))
unfolding put_if
put_bit w v true k = bit_or_lem w (2 ^ v) k ∙ ap (λ x. bit w k || x) (bit_one v k ∙ eqb_comm k v)
put_bit w v false k = sym (or-false (bit w k))

module _ (b : List ℕ) (t m w v : ℕ) (o : Body) (wrote : Wrote (operation_of b t) m (bit w)) (is : as_operation o ≡ operation_of b t m)
    (e : v ≡ put_if w o.key (is_write (as_operation o))) where
  abbrev r : Operation
  r = operation_of b t m

  marked : (k : ℕ) → bit v k ≡ (bit w k || (is_write r && eqb r.key k))
  marked k = ap (λ x. bit x k) (e ∙ ap (λ (x : Operation). put_if w x.key (is_write x)) is) ∙ put_bit w r.key (is_write r) k

  pub written_next : Wrote (operation_of b t) (m + 1) (bit v)
  written_next = wrote_next (operation_of b t) m (bit w) (bit v) wrote marked

  pub passes_by : (last : List ℕ) (x : Bool) → x ≡ (bit v o.key || agrees_by last (as_operation o)) → x ≡ passes b last t m
  unfolding passes agrees_by
  passes_by last x p =
      p ∙ ap (λ (x : Operation). bit v x.key || agrees_by last x) is
      ∙ go (is_read r) (bit v r.key) (is_read_back (behind (operation_of b t) m) r) (eqb (get_or last r.key 0) r.argument) (wrote_back (operation_of b t) m (bit v) written_next)
    where
      go : (read x y q : Bool) → (T read → x ≡ y) → (x || implies read q) ≡ (y || implies read q)
      go true x y q f = ap (λ z. z || q) (f tt)
      go false x y q f = or-true x ∙ sym (or-true y)

pub reads_are : (b last : List ℕ) (t : ℕ) → t < transactions_in b → all (passes b last t) (up_to (count_at b t)) ≡ reads_agree (history_of b) last t
unfolding passes reads_agree
reads_are b last t l = sym (all_outward (agrees_by last) (operation_of b t) (count_at b t)) ∙ ap (λ os. all (agrees_by last) (outward os)) (sym (operations_at b t l))

-- ---- one transaction's writes

-- a table after the first m operations
module _ (marks : Bool) (b table : List ℕ) (t : ℕ) where
  abbrev leaves : List ℕ → Operation → List ℕ
  leaves tb o = set tb o.key (cond marks t o.argument)

  unfoldable pub stored_to : ℕ → List ℕ
  stored_to m = fold leaves table (keep is_write (map (operation_of b t) (up_to m)))

  pub stored_none : table ≡ stored_to 0
  unfolding stored_to
  stored_none = refl

  stored_next : (m : ℕ) → put_by (stored_to m) (operation_of b t m) (cond marks t (operation_of b t m).argument) ≡ stored_to (m + 1)
  unfolding stored_to put_by
  stored_next m =
      go (is_write o)
      ∙ ap (fold leaves table) (sym (keep_snoc is_write (map (operation_of b t) (up_to m)) o) ∙ ap (keep is_write) (sym (map_snoc (operation_of b t) (up_to m) m)))
      ∙ ap (λ k. fold leaves table (keep is_write (map (operation_of b t) (up_to k)))) (sym (add-one m))
    where
      o : Operation
      o = operation_of b t m

      so_far : List Operation
      so_far = keep is_write (map (operation_of b t) (up_to m))

      go : (w : Bool) → cond w (set (fold leaves table so_far) o.key (cond marks t o.argument)) (fold leaves table so_far) ≡ fold leaves table (so_far ++ cond w (o ∷ []) [])
      go true = sym (fold_snoc leaves table so_far o)
      go false = ap (fold leaves table) (sym (mathlib.Core.List.append-nil so_far))

  -- the same as the code does it
  pub put_is : (m : ℕ) (out : List ℕ) (o : Body) (x y : ℕ) → out ≡ stored_to m → as_operation o ≡ operation_of b t m → x ≡ cond marks t o.argument
      → y ≡ cond (is_write (as_operation o)) x (get_or out o.key 0) → set out o.key y ≡ stored_to (m + 1)
  unfolding put_by
  put_is m out o x y p q e f =
      ap (set out o.key) f ∙ go (is_write (as_operation o)) ∙ ap₂ (λ tb z. put_by tb (as_operation o) z) p e
      ∙ ap (λ (a : Operation). put_by (stored_to m) a (cond marks t a.argument)) q ∙ stored_next m
    where
      go : (w : Bool) → set out o.key (cond w x (get_or out o.key 0)) ≡ cond w (set out o.key x) out
      go true = refl
      go false = set-get_or out o.key 0

  pub stored_all : (m : ℕ) → t < transactions_in b → m ≡ count_at b t → stored_to m ≡ stored_by marks (history_of b) table t
  unfolding stored_to stored_by
  stored_all m l e = ap (λ k. fold leaves table (keep is_write (map (operation_of b t) (up_to k)))) e ∙ ap (λ (os : List Operation). fold leaves table (keep is_write os)) (sym (operations_at b t l))

-- ---- the table of an order

-- the table after the first transactions of an order
unfoldable pub ran_by : Bool → List ℕ → List ℕ → List ℕ → List ℕ
ran_by marks b table o = fold (stored_by marks (history_of b)) table o

pub ran_next : (marks : Bool) (b table o : List ℕ) (i : ℕ) → i < length o
    → stored_by marks (history_of b) (ran_by marks b table (take i o)) (get_or o i 0) ≡ ran_by marks b table (take (i + 1) o)
unfolding ran_by
ran_next marks b table o i l =
    sym (fold_snoc (stored_by marks (history_of b)) table (take i o) (get_or o i 0))
    ∙ ap (fold (stored_by marks (history_of b)) table) (sym (take-suc o i 0 l) ∙ ap (λ k. take k o) (sym (add-one i)))

pub ran_none : (marks : Bool) (b table o : List ℕ) → table ≡ ran_by marks b table (take 0 o)
unfolding ran_by
ran_none marks b table o = refl

pub ran_table : (b table o : List ℕ) (i : ℕ) → i ≡ length o → ran_by false b table (take i o) ≡ replay (history_of b) table o
unfolding ran_by stored_by replay stored
ran_table b table o i e = ap (ran_by false b table) (take_all i o (omega arith))

-- ---- the last writers

module _ (h : History) (k : ℕ) (low : k < 32) where
  module _ (t : ℕ) where
    abbrev marks : List ℕ → Operation → List ℕ
    marks tb o = set tb o.key t

    -- the table's value at the key after the writes among the operations
    stored_at : (os : List Operation) (table : List ℕ) → length table ≡ 32
        → get_or (fold marks table (keep is_write os)) k 0 ≡ cond (any (λ o. is_write o && eqb o.key k) os) t (get_or table k 0)
    stored_at [] table e = refl
    stored_at (o ∷ os) table e = go (is_write o) (stored_at os table e) (stored_at os (set table o.key t) (length-set table o.key t ∙ e))
      where
        rest : Bool
        rest = any (λ o. is_write o && eqb o.key k) os

        wrote : (q : Bool) → get_or (set table o.key t) k 0 ≡ cond q t (get_or table k 0) → cond rest t (get_or (set table o.key t) k 0) ≡ cond (q || rest) t (get_or table k 0)
        wrote true p = ap (cond rest t) p ∙ either rest
          where
            either : (x : Bool) → cond x t t ≡ t
            either true = refl
            either false = refl
        wrote false p = ap (cond rest t) p

        here : get_or (set table o.key t) k 0 ≡ cond (eqb o.key k) t (get_or table k 0)
        here =
            ⊎_elim (λ (p : o.key ≡ k). subst (λ x. get_or (set table x t) k 0 ≡ t) (sym p) (get_or-set_same table k t 0 (omega arith)) ∙ sym (ap (λ q. cond q t (get_or table k 0)) (true_eq (eqb o.key k) (eq-eqb p))))
            (λ (p : o.key ≢ k). get_or-set_other table o.key k t 0 (λ q. p (sym q)) ∙ sym (ap (λ q. cond q t (get_or table k 0)) (false_eq (eqb o.key k) (ne_eqb p)))) (same? o.key k)

        go : (w : Bool) → get_or (fold marks table (keep is_write os)) k 0 ≡ cond rest t (get_or table k 0)
            → get_or (fold marks (set table o.key t) (keep is_write os)) k 0 ≡ cond rest t (get_or (set table o.key t) k 0)
            → get_or (fold marks table (cond w (o ∷ keep is_write os) (keep is_write os))) k 0 ≡ cond ((w && eqb o.key k) || rest) t (get_or table k 0)
        go true p q = q ∙ wrote (eqb o.key k) here
        go false p q = p

    stored_long : (os : List Operation) (table : List ℕ) → length (fold marks table os) ≡ length table
    stored_long [] table = refl
    stored_long (o ∷ os) table = stored_long os (set table o.key t) ∙ length-set table o.key t

  pub marked_at : (xs table : List ℕ) (d : ℕ) → length table ≡ 32 → get_or table k 0 ≡ d → get_or (fold (stored_by true h) table xs) k 0 ≡ last_writer h k d xs
  unfolding last_writer stored_by writes
  marked_at [] table d e p = p
  marked_at (x ∷ xs) table d e p =
      marked_at xs (stored_by true h table x) (cond (writes h x k) x d) (stored_long x (keep is_write (operations_of h x)) table ∙ e)
      (stored_at x (operations_of h x) table e ∙ ap (cond (writes h x k) x) p)

-- ---- every read is explained

-- the reads of the transaction at place i agree with the last writers before it
unfoldable pub agrees_at : List ℕ → List ℕ → ℕ → Bool
agrees_at b o i = reads_agree (history_of b) (ran_by true b (replicate 32 65535) (take i o)) (get_or o i 0)

-- the same as the code does it
pub agrees_by_lem : (b o : List ℕ) (i : ℕ) (last : List ℕ) (x : Bool) → last ≡ ran_by true b (replicate 32 65535) (take i o) → x ≡ reads_agree (history_of b) last (get_or o i 0) → x ≡ agrees_at b o i
unfolding agrees_at
agrees_by_lem b o i last x p e = e ∙ ap (λ tb. reads_agree (history_of b) tb (get_or o i 0)) p

module _ (b o : List ℕ) (ok : load_number b ≡ 0) (r : Order (transactions_in b) o) where
  abbrev h : History
  h = history_of b

  abbrev told : ℕ → Bool
  told t = all (λ r. implies (is_read r) (explained h o t r)) (outward_of h t)

  agrees_is : (i : ℕ) → i < length o → agrees_at b o i ≡ told (get_or o i 0)
  unfolding agrees_at reads_agree agrees_by explained ran_by
  agrees_is i l =
      all_same (agrees_by (ran_by true b (replicate 32 65535) (take i o))) (λ r. implies (is_read r) (explained h o (get_or o i 0) r)) (outward_of h (get_or o i 0))
      (All-imp (λ r. r.key < 32) (λ r. agrees_by (ran_by true b (replicate 32 65535) (take i o)) r ≡ implies (is_read r) (explained h o (get_or o i 0) r))
      (λ r low.
      ap (λ x. implies (is_read r) (eqb x r.argument))
      (marked_at h r.key low (take i o) (replicate 32 65535) start refl (get_or-replicate 32 r.key 65535 0 low)
      ∙ ap (last_writer h r.key start) (sym (before_take o (order_once r') i l))))
      (outward_of h (get_or o i 0)) (outward_keys h (loadable_log b ok) (get_or o i 0)))
    where
      r' : Order (transactions_in b) o
      r' = r

  pub explains_is : all (agrees_at b o) (up_to (length o)) ≡ every_read_explained h o
  unfolding every_read_explained
  explains_is =
      iff_eq (all (agrees_at b o) (up_to (length o))) (all told (up_to (size h)))
      (λ a. all_up_to_in told (size h)
      (λ t l.
      let in-o : place t o < length o = omega (arith, history_size b, order_place r t (omega (arith, history_size b)), order_length r) in
      subst (λ x. T (told x)) (at_place t o in-o) (subst T (agrees_is (place t o) in-o) (all_up_to_out (agrees_at b o) (length o) a (place t o) in-o))))
      (λ a. all_up_to_in (agrees_at b o) (length o)
      (λ i l. subst T (sym (agrees_is i l)) (all_up_to_out told (size h) a (get_or o i 0) (omega (arith, history_size b, small_at (transactions_in b) o r.small i l)))))
