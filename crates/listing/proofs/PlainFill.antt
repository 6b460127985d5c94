-- The tables of encoding 0, body by body: the words, and the numbers. Assumes nothing.
use Prim.Native.Nat.{ℕ, zero, suc, ◌+◌, ◌≤◌, ◌<◌}
use native.Mathlib.Omega.{arith}
use native.Mathlib.Numerals.{add-one}
use mathlib.Core.Path.{◌≡◌, refl, sym, ap, ap₂, subst, ◌∙◌}
use mathlib.Core.Logic.{⊎_elim, ◌≢◌}
use mathlib.Core.Bool.{not}
use mathlib.Core.List.{List}
use lib.Dec.{T, ltb, ltb→lt, nltb→le}
use lib.ListN.{length, get_or, set, replicate, length-set}
use lib.Seq.{get_or-set_same, get_or-set_other}
use Rattle.model.specs.Lists.{each, up_to}
use Rattle.model.specs.Log.{transactions_in, operations_in, count_at, start_at, counts_before, operation_at, load_number}
use Rattle.model.proofs.Basics.{same?, decide}
use Rattle.model.proofs.Loops.{each_snoc}
use Rattle.model.proofs.Loaded.{Loaded, loaded, counts_suc, counts_mono, within}
use Rattle.logs.specs.Reading.{IsOperation}
use Rattle.graph.specs.Members.{members}
use Rattle.listing.specs.Choosing.{Chose, in_row}
use Rattle.listing.specs.Plain.{plain_mask, body_word, body_numbers, plain_numbers_of, plain_numbers, PlainTable}
use Rattle.listing.proofs.Choosing.{chose_none, chose_app, each_room}

-- ---- the words

module _ (b : List ℕ) (e : load_number b ≡ 0) where
  abbrev ok : Loaded b
  ok = loaded b e

  start_next : (t : ℕ) → t < transactions_in b → start_at b t + count_at b t ≡ counts_before b (suc t)
  start_next t l = omega (arith, ok.starts t l, counts_suc b t)

  -- transaction s before t: its bodies stand before
  earlier : (s j t m : ℕ) → s < t → t < transactions_in b → j < count_at b s → start_at b s + j < start_at b t + m
  earlier s j t m l k h = omega (arith, start_next s (omega arith), counts_mono b (suc s) t l, ok.starts t k)

  unique : (s j t m : ℕ) → s < transactions_in b → t < transactions_in b → j < count_at b s → m < count_at b t → start_at b s + j ≡ start_at b t + m → (s ≡ t) × (j ≡ m)
  unique s j t m sl tl jl ml q =
      ⊎_elim (λ (p : s ≡ t). (p, let r = ap (start_at b) p in omega arith))
      (λ (p : s ≢ t).
      ⊎_elim (λ (x : T (ltb s t)). absurd (let r = earlier s j t m (ltb→lt s t x) tl jl in omega arith))
      (λ (x : T (not (ltb s t))). absurd (let y = nltb→le s t x in let r = earlier t m s j (omega arith) sl ml in omega arith))
      (decide (ltb s t)))
      (same? s t)

  pub plain_next : (w : List ℕ) (t m y : ℕ) → t < transactions_in b → m < count_at b t → PlainTable b (start_at b t + m) w
      → y ≡ body_word t (operation_at b (start_at b t + m)) → PlainTable b (start_at b t + (m + 1)) (set w (start_at b t + m) y)
  plain_next w t m y tl ml p q =
      let i = start_at b t + m in
      record {
        long = length-set w i y ∙ p.long;
        done = λ s j sl jl k.
            ⊎_elim
            (λ (u : start_at b s + j ≡ i).
            let same = unique s j t m sl tl jl ml u in
            ap (λ x. get_or (set w i y) x 0) u ∙ get_or-set_same w i y 0 (omega (arith, within b ok t tl, ok.many, p.long)) ∙ q
            ∙ ap₂ (λ x z. body_word x (operation_at b z)) (sym same.0) (sym u))
            (λ (u : start_at b s + j ≢ i). get_or-set_other w i (start_at b s + j) y 0 u ∙ p.done s j sl jl (omega arith))
            (same? (start_at b s + j) i);
      }

  pub plain_start : (w : List ℕ) → length w ≡ 1025 → PlainTable b (counts_before b 0) w
  unfolding counts_before
  plain_start w q = record { long = q; done = λ s j sl jl k. absurd (omega arith) }

  pub plain_enter : (w : List ℕ) (t : ℕ) → t < transactions_in b → PlainTable b (counts_before b t) w → PlainTable b (start_at b t) w
  plain_enter w t l p = subst (λ n. PlainTable b n w) (sym (ok.starts t l)) p

  pub plain_begin : (w : List ℕ) (t : ℕ) → PlainTable b (start_at b t) w → PlainTable b (start_at b t + 0) w
  plain_begin w t p = let q : start_at b t ≡ start_at b t + 0 = omega arith in subst (λ n. PlainTable b n w) q p

  pub plain_leave : (w : List ℕ) (t : ℕ) → t < transactions_in b → PlainTable b (start_at b t + count_at b t) w → PlainTable b (counts_before b (t + 1)) w
  plain_leave w t l p =
      let q : start_at b t + count_at b t ≡ counts_before b (t + 1) = start_next t l ∙ ap (counts_before b) (sym (add-one t)) in
      subst (λ n. PlainTable b n w) q p

  pub plain_end : (w : List ℕ) (t : ℕ) → t ≡ transactions_in b → PlainTable b (counts_before b t) w → PlainTable b (operations_in b) w
  plain_end w t q p = subst (λ n. PlainTable b n w) (ap (counts_before b) q ∙ ok.sum) p

  -- the encoding is put behind the words
  pub plain_mark : (w : List ℕ) → PlainTable b (operations_in b) w → PlainTable b (operations_in b) (set w 1024 0) × (get_or (set w 1024 0) 1024 0 ≡ 0)
  plain_mark w p = (
    record {
      long = length-set w 1024 0 ∙ p.long;
      done = λ s j sl jl k. get_or-set_other w 1024 (start_at b s + j) 0 0 (λ u. omega (arith, ok.many)) ∙ p.done s j sl jl k;
    },
    get_or-set_same w 1024 0 0 (omega (arith, p.long)),
  )

  -- there is such a table: room for its numbers is asked before it is made
  abbrev Words : ℕ → Type 0
  Words n = (w : List ℕ) × PlainTable b n w

  words_of : (t m : ℕ) → t < transactions_in b → m ≤ count_at b t → Words (start_at b t) → Words (start_at b t + m)
  words_of t zero l k s = (s.0, plain_begin s.0 t s.1)
  words_of t (suc m) l k s =
      let p = words_of t m l (omega arith) s in
      subst (λ i. Words (start_at b t + i)) (add-one m) (_, plain_next p.0 t m (body_word t (operation_at b (start_at b t + m))) l (omega arith) p.1 refl)

  words_before : (t : ℕ) → t ≤ transactions_in b → Words (counts_before b t)
  words_before zero l = (replicate 1025 0, plain_start (replicate 1025 0) refl)
  words_before (suc t) l =
      let s = words_before t (omega arith) in
      let p = words_of t (count_at b t) (omega arith) (omega arith) (s.0, plain_enter s.0 t (omega arith) s.1) in
      subst (λ i. Words (counts_before b i)) (add-one t) (p.0, plain_leave p.0 t (omega arith) p.1)

  pub plain_some : (w : List ℕ) × (PlainTable b (operations_in b) w × (get_or w 1024 0 ≡ 0))
  plain_some =
      let p = words_before (transactions_in b) (omega arith) in
      (set p.0 1024 0, plain_mark p.0 (plain_end p.0 (transactions_in b) refl p.1))

-- ---- the numbers

module _ (b ws : List ℕ) where
  pub numbers_none : (t n : ℕ) (ks : List ℕ) → Chose (plain_numbers_of b ws t 0) n ks n ks
  unfolding plain_numbers_of
  numbers_none t n ks = chose_none n ks

  -- those of a body that is read
  pub body_numbers_lem : (t m i mask kind key argument : ℕ) → IsOperation b t m kind key argument → i ≡ start_at b t + m → mask ≡ plain_mask (get_or ws key 0) t kind argument
      → in_row i (members mask) ≡ body_numbers b ws t m
  unfolding body_numbers
  body_numbers_lem t m i mask kind key argument o p q = cc

  pub numbers_room : (t m count from n : ℕ) (ks ls : List ℕ) → m < count → Chose (plain_numbers_of b ws t m) from ks n ls
      → n + length (body_numbers b ws t m) ≤ from + length (plain_numbers_of b ws t count)
  unfolding plain_numbers_of
  numbers_room t m count from n ks ls l c = each_room (body_numbers b ws t) m count from n ks ls l c

  pub numbers_next : (t m from n r : ℕ) (ks ls ms : List ℕ) → Chose (plain_numbers_of b ws t m) from ks n ls → Chose (body_numbers b ws t m) n ls r ms → Chose (plain_numbers_of b ws t (m + 1)) from ks r ms
  unfolding plain_numbers_of
  numbers_next t m from n r ks ls ms p c =
      subst (λ cs. Chose cs from ks r ms) (sym (each_snoc (body_numbers b ws t) (up_to m) m) ∙ ap (plain_numbers_of b ws t) (sym (add-one m)))
      (chose_app (each (body_numbers b ws t) (up_to m)) (body_numbers b ws t m) from n r ks ls ms p c)

  -- ---- by transaction

  pub bodies_none : (ks : List ℕ) → Chose (plain_numbers b ws 0) 0 ks 0 ks
  unfolding plain_numbers
  bodies_none ks = chose_none 0 ks

  pub bodies_room : (t count n : ℕ) (ks ls : List ℕ) → t < count → Chose (plain_numbers b ws t) 0 ks n ls → n + length (plain_numbers_of b ws t (count_at b t)) ≤ length (plain_numbers b ws count)
  unfolding plain_numbers
  bodies_room t count n ks ls l c = omega (arith, each_room (λ s. plain_numbers_of b ws s (count_at b s)) t count 0 n ks ls l c)

  pub bodies_next : (ks ls ms : List ℕ) (t n r : ℕ) → Chose (plain_numbers b ws t) 0 ks n ls → Chose (plain_numbers_of b ws t (count_at b t)) n ls r ms → Chose (plain_numbers b ws (t + 1)) 0 ks r ms
  unfolding plain_numbers
  bodies_next ks ls ms t n r s c =
      subst (λ cs. Chose cs 0 ks r ms) (sym (each_snoc (λ s. plain_numbers_of b ws s (count_at b s)) (up_to t) t) ∙ ap (plain_numbers b ws) (sym (add-one t)))
      (chose_app (plain_numbers b ws t) (plain_numbers_of b ws t (count_at b t)) 0 n r ks ls ms s c)

  pub bodies_all : (ks ls : List ℕ) (t n r : ℕ) → t ≡ n → Chose (plain_numbers b ws t) 0 ks r ls → Chose (plain_numbers b ws n) 0 ks r ls
  bodies_all ks ls t n r p s = subst (λ x. Chose (plain_numbers b ws x) 0 ks r ls) p s
