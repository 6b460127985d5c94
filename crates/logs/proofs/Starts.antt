-- Where the transactions of a log start. Assumes nothing.
--     starts_none, starts_some       what the count of the transactions that start at a body says
--     begun_start, begun_next        the table of where none starts
--     starts_up, starts_whole        each transaction starts where the one before it ends, and none inside another
use Prim.Native.Nat.{ℕ, zero, suc, ◌+◌, ◌≤◌, ◌<◌}
use native.Mathlib.Omega.{arith}
use native.Mathlib.Numerals.{add-one}
use mathlib.Core.Path.{◌≡◌, refl, sym, ap, ap₂, subst, ◌∙◌}
use mathlib.Core.Logic.{◌≢◌, ⊎_elim}
use mathlib.Core.Bool.{Bool, cond}
use mathlib.Core.List.{List}
use lib.Dec.{eqb, ltb, ltb→lt, nltb→le}
use lib.ListN.{get_or, set, length-set, replicate, get_or-replicate}
use lib.Seq.{get_or-set_same, get_or-set_other}
use Rattle.model.specs.Log.{count_at, start_at, counts_before, entry_number}
use Rattle.model.proofs.Basics.{decide, same?}
use Rattle.model.proofs.Loaded.{first_out, counts_suc, counts_mono, good_entry}
use borrow.Author.Tests.{eq-eqb, ne_eqb}
use Rattle.rules.specs.Tests.{keep_word}
use Rattle.logs.specs.Tests.{GoodEntries, starts_at, Begun}

-- transaction t, which starts at body i
pub record StartsHere (b : List ℕ) (n i : ℕ) : Type 0 where
  pub which : ℕ
  pub below : which < n
  pub here : start_at b which ≡ i

pub starts_none : (b : List ℕ) (n i : ℕ) → starts_at b n i ≡ 0 → (t : ℕ) → t < n → start_at b t ≢ i
unfolding starts_at
starts_none b zero i e t l = absurd (omega arith)
starts_none b (suc n) i e t l =
    ⊎_elim (λ (p : t ≡ n). λ q. absurd (omega (arith, e, ap {B = ℕ} (λ (x : Bool). cond x 1 0) (eq-eqb (start_at b n) i (ap (start_at b) (sym p) ∙ q)))))
    (λ (p : t ≢ n). starts_none b n i (omega (arith, e)) t (omega arith)) (same? t n)

pub starts_some : (b : List ℕ) (n i : ℕ) → starts_at b n i ≢ 0 → StartsHere b n i
unfolding starts_at
starts_some b zero i f = absurd (f refl)
starts_some b (suc n) i f =
    ⊎_elim (λ (e : start_at b n ≡ i). record { which = n; below = omega arith; here = e })
    (λ (e : start_at b n ≢ i). more (starts_some b n i (λ z. f (ap₂ (λ x y. x + y) z (ap {B = ℕ} (λ (x : Bool). cond x 1 0) (ne_eqb (start_at b n) i e))))))
    (same? (start_at b n) i)
  where
    more : StartsHere b n i → StartsHere b (suc n) i
    more s = record { which = s.which; below = omega (arith, s.below); here = s.here }

-- the table of no transaction
pub begun_start : (b : List ℕ) → Begun b 0 (replicate 257 4294967295)
unfolding starts_at keep_word
begun_start b = record { size = refl; each = λ i l. get_or-replicate 257 i 4294967295 0 l }

-- the table, with one transaction more
pub begun_next : (b : List ℕ) (t s : ℕ) (w : List ℕ) → Begun b t w → s ≡ start_at b t → s < 257 → Begun b (t + 1) (set w s 0)
unfolding starts_at keep_word
begun_next b t s w g e l =
    subst (λ n. Begun b n (set w s 0)) (sym (add-one t))
    (record {
      size = length-set w s 0 ∙ g.size;
      each = λ i k.
          ⊎_elim (λ (q : i ≡ s). ap (λ j. get_or (set w s 0) j 0) q ∙ get_or-set_same w s 0 0 (omega (arith, g.size))
          ∙ sym (ap keep_word (ne_eqb (starts_at b (suc t) i) 0 (λ z. absurd (omega (arith, z, ap {B = ℕ} (λ (y : Bool). cond y 1 0) (eq-eqb (start_at b t) i (sym e ∙ sym q))))))))
          (λ (q : i ≢ s).
          let same : starts_at b t i ≡ starts_at b (suc t) i = omega (arith, ap {B = ℕ} (λ (y : Bool). cond y 1 0) (ne_eqb (start_at b t) i (λ z. q (sym z ∙ sym e)))) in
          get_or-set_other w s i 0 0 q ∙ g.each i k ∙ ap (λ (n : ℕ). keep_word (eqb n 0)) same) (same? i s);
    })

-- the transactions start one behind the other, each where the one before it ends
module _ (b : List ℕ) (n : ℕ) (starts : (t : ℕ) → t < n → start_at b t ≡ counts_before b t) where
  pub starts_up : (t u : ℕ) → t < u → u < n → start_at b t + count_at b t ≤ start_at b u
  starts_up t u l k = omega (arith, starts t (omega arith), starts u k, counts_suc b t, counts_mono b (suc t) u l)

  pub starts_sorted : (t u : ℕ) → t ≤ u → u < n → start_at b t ≤ start_at b u
  starts_sorted t u l k = omega (arith, starts t (omega arith), starts u k, counts_mono b t u l)

  -- no transaction starts strictly inside another
  pub starts_whole : (t u : ℕ) → t < n → u < n → start_at b u < start_at b t + count_at b t → start_at b u ≤ start_at b t
  starts_whole t u l k q =
      ⊎_elim (λ z. absurd (omega (arith, starts_up t u (ltb→lt t u z) k))) (λ z. starts_sorted u t (nltb→le t u z) l) (decide (ltb t u))

pub good_starts : (b : List ℕ) (n : ℕ) → GoodEntries b n → (t : ℕ) → t < n → start_at b t ≡ counts_before b t
good_starts b n p t l = (good_entry b t (first_out (entry_number b) n p.entries t l)).start_is
