-- What Encode for C writes reads back as the polygraph: no step writes over another's bytes, and the bytes of a number hold it. Two bytes hold the count and four a word,
-- whatever they are, as the highest is not cut; a target is one byte that is cut, and holds it as it is below T.
--     word_here, word_there    the four bytes of a word, and the other bytes
--     filled_before, filled_behind, filled_stands  of steps that each write their own places alone: what stands before and behind all of them, and at a step's places
--     count_held, row_held, constraint_held        the bytes of a polygraph, read back
--     written      so are those that Encode leaves of a window that Load takes, in a setting that is taken, with room
-- Assumes nothing.
use mathlib.Core.Path.{◌≡◌, refl, sym, ap, ap₂, subst, ◌∙◌}
use mathlib.Core.Logic.{◌⊎◌, inl, inr, ⊎_elim, ◌≢◌}
use Prim.Native.Nat.{ℕ, zero, suc, ◌+◌, ◌*◌, ◌/◌, ◌%◌, ◌<◌, ◌≤◌}
use native.Mathlib.Nat.{not-suc-le-zero}
use native.Mathlib.Omega.{arith}
use mathlib.Core.Bool.{cond}
use mathlib.Core.List.{List, [], ◌∷◌}
use lib.Dec.{eqb}
use lib.ListN.{length, set, get_or, replicate, length-set, get_or-append}
use lib.Seq.{get_or-set_same, get_or-set_other}
use borrow.Author.Tests.{eq-eqb, le-ltb}
use Rattle.model.specs.Lists.{All}
use Rattle.model.specs.History.{History, size}
use Rattle.model.specs.Log.{byte_at, pair_at}
use Rattle.model.specs.Window.{Window, window_number, window_history}
use Rattle.model.specs.Lent.{no_constraint, encoded_list, encoded_count}
use Rattle.model.specs.Polygraph.{polygraph}
use Rattle.model.specs.RowWords.{Aimed}
use Rattle.model.specs.declared.Constraint.{Constraint}
use Rattle.model.proofs.Basics.{same?}
use Rattle.model.proofs.Pruning.{polygraph_sound}
use Rattle.model.proofs.Times.{loadable_timed}
use Rattle.model.proofs.Windows.{taken_timed}
use Rattle.answers.specs.Settings.{setting_refusal}
use Rattle.checker.specs.Cases.{loaded_case}
use Rattle.codes.specs.Codes.{polygraph_after, sent_code, sent_after, encode_window_after}
use Rattle.codes.specs.Images.{pair_bytes, word_bytes, filled, word_at, row_in, constraint_bytes, constraint_in, polygraph_in}
use Rattle.codes.specs.Read.{Held, Polygraphed}
use Rattle.codes.proofs.Filling.{pair_long, word_long, constraint_long, filled_long, rows_long}
use Rattle.codes.proofs.Room.{encoded_list_lem}
use Rattle.codes.proofs.Starting.{pair_here}

-- a place that is not among the n from `at` on
abbrev pub Apart : ℕ → ℕ → ℕ → Type 0
Apart at n j = (j < at) ⊎ (at + n ≤ j)

apart : (at n j k : ℕ) → Apart at n j → k < n → j ≢ at + k
apart at n j k (inl l) m e = omega (arith, l, m, e)
apart at n j k (inr l) m e = omega (arith, l, m, e)

-- ---- the bytes of a number, and those of others

pair_there : (at v : ℕ) (out : List ℕ) (j : ℕ) → Apart at 2 j → get_or (pair_bytes at v out) j 0 ≡ get_or out j 0
unfolding pair_bytes
pair_there at v out j a =
    get_or-set_other (set out at (v % 256)) (at + 1) j (v / 256) 0 (apart at 2 j 1 a (omega arith)) ∙ get_or-set_other out at j (v % 256) 0 (λ e. apart at 2 j 0 a (omega arith) (omega (arith, e)))

module _ (at v : ℕ) (out : List ℕ) where
  abbrev one : List ℕ
  one = set out at (v % 256)

  abbrev two : List ℕ
  two = set one (at + 1) (v / 256 % 256)

  abbrev three : List ℕ
  three = set two (at + 2) (v / 65536 % 256)

  pub word_there : (j : ℕ) → Apart at 4 j → get_or (word_bytes at v out) j 0 ≡ get_or out j 0
  unfolding word_bytes
  word_there j a =
      get_or-set_other three (at + 3) j (v / 16777216) 0 (apart at 4 j 3 a (omega arith))
      ∙ get_or-set_other two (at + 2) j (v / 65536 % 256) 0 (apart at 4 j 2 a (omega arith))
      ∙ get_or-set_other one (at + 1) j (v / 256 % 256) 0 (apart at 4 j 1 a (omega arith))
      ∙ get_or-set_other out at j (v % 256) 0 (λ e. apart at 4 j 0 a (omega arith) (omega (arith, e)))

  pub word_here : at + 4 ≤ length out → word_at (word_bytes at v out) at ≡ v
  unfolding word_at word_bytes
  word_here room =
      let long₁ = length-set out at (v % 256) in
      let long₂ = length-set one (at + 1) (v / 256 % 256) in
      let long₃ = length-set two (at + 2) (v / 65536 % 256) in
      let past₃ : (j : ℕ) → j ≢ at + 3 → get_or (set three (at + 3) (v / 16777216)) j 0 ≡ get_or three j 0 = λ j f. get_or-set_other three (at + 3) j (v / 16777216) 0 f in
      let past₂ : (j : ℕ) → j ≢ at + 2 → get_or three j 0 ≡ get_or two j 0 = λ j f. get_or-set_other two (at + 2) j (v / 65536 % 256) 0 f in
      let b₀ : get_or (set three (at + 3) (v / 16777216)) at 0 ≡ v % 256 =
      past₃ at (λ e. omega (arith, e)) ∙ past₂ at (λ e. omega (arith, e)) ∙ get_or-set_other one (at + 1) at (v / 256 % 256) 0 (λ (e : at ≡ at + 1). omega (arith, e))
      ∙ get_or-set_same out at (v % 256) 0 (omega arith) in
      let b₁ : get_or (set three (at + 3) (v / 16777216)) (at + 1) 0 ≡ v / 256 % 256 =
      past₃ (at + 1) (λ e. omega (arith, e)) ∙ past₂ (at + 1) (λ e. omega (arith, e)) ∙ get_or-set_same one (at + 1) (v / 256 % 256) 0 (omega (arith, long₁)) in
      let b₂ : get_or (set three (at + 3) (v / 16777216)) (at + 2) 0 ≡ v / 65536 % 256 =
      past₃ (at + 2) (λ e. omega (arith, e)) ∙ get_or-set_same two (at + 2) (v / 65536 % 256) 0 (omega (arith, long₁, long₂)) in
      let b₃ : get_or (set three (at + 3) (v / 16777216)) (at + 3) 0 ≡ v / 16777216 = get_or-set_same three (at + 3) (v / 16777216) 0 (omega (arith, long₁, long₂, long₃)) in
      omega (arith, b₀, b₁, b₂, b₃)

-- a word reads the same where its four bytes are
pub word_same : (x y : List ℕ) (at : ℕ) → ((j : ℕ) → at ≤ j → j < at + 4 → get_or x j 0 ≡ get_or y j 0) → word_at x at ≡ word_at y at
unfolding word_at
word_same x y at same =
    let b₀ = same at (omega arith) (omega arith) in
    let b₁ = same (at + 1) (omega arith) (omega arith) in
    let b₂ = same (at + 2) (omega arith) (omega arith) in
    let b₃ = same (at + 3) (omega arith) (omega arith) in
    omega (arith, b₀, b₁, b₂, b₃)

-- ---- the ten bytes of a constraint

module _ (at : ℕ) (c : Constraint) (out : List ℕ) where
  abbrev first : List ℕ
  first = word_bytes at c.fromA out

  abbrev second : List ℕ
  second = set first (at + 4) (c.toA % 256)

  abbrev third : List ℕ
  third = word_bytes (at + 5) c.fromB second

  constraint_there : (j : ℕ) → Apart at 10 j → get_or (constraint_bytes at c out) j 0 ≡ get_or out j 0
  unfolding constraint_bytes
  constraint_there j a =
      get_or-set_other third (at + 9) j (c.toB % 256) 0 (apart at 10 j 9 a (omega arith))
      ∙ word_there (at + 5) c.fromB second j (⊎_elim (λ l. inl (omega arith)) (λ l. inr (omega arith)) a)
      ∙ get_or-set_other first (at + 4) j (c.toA % 256) 0 (apart at 10 j 4 a (omega arith))
      ∙ word_there at c.fromA out j (⊎_elim (λ l. inl (omega arith)) (λ l. inr (omega arith)) a)

  module _ (room : at + 10 ≤ length out) where
    second_long : length second ≡ length out
    second_long = length-set first (at + 4) (c.toA % 256) ∙ word_long at c.fromA out

    sources-A-here : word_at (constraint_bytes at c out) at ≡ c.fromA
    unfolding constraint_bytes
    sources-A-here =
        word_same (set third (at + 9) (c.toB % 256)) first at
        (λ j l m.
        get_or-set_other third (at + 9) j (c.toB % 256) 0 (λ (e : j ≡ at + 9). omega (arith, l, m, e))
        ∙ word_there (at + 5) c.fromB second j (inl (omega arith))
        ∙ get_or-set_other first (at + 4) j (c.toA % 256) 0 (λ (e : j ≡ at + 4). omega (arith, l, m, e)))
        ∙ word_here at c.fromA out (omega arith)

    target-A-here : c.toA < 256 → byte_at (constraint_bytes at c out) (at + 4) ≡ c.toA
    unfolding constraint_bytes
    target-A-here small =
        get_or-set_other third (at + 9) (at + 4) (c.toB % 256) 0 (λ (e : at + 4 ≡ at + 9). omega (arith, e))
        ∙ word_there (at + 5) c.fromB second (at + 4) (inl (omega arith))
        ∙ get_or-set_same first (at + 4) (c.toA % 256) 0 (omega (arith, word_long at c.fromA out))
        ∙ omega arith

    sources-B-here : word_at (constraint_bytes at c out) (at + 5) ≡ c.fromB
    unfolding constraint_bytes
    sources-B-here =
        word_same (set third (at + 9) (c.toB % 256)) third (at + 5)
        (λ j l m. get_or-set_other third (at + 9) j (c.toB % 256) 0 (λ (e : j ≡ at + 9). omega (arith, l, m, e)))
        ∙ word_here (at + 5) c.fromB second (omega (arith, second_long))

    target-B-here : c.toB < 256 → byte_at (constraint_bytes at c out) (at + 9) ≡ c.toB
    unfolding constraint_bytes
    target-B-here small =
        get_or-set_same third (at + 9) (c.toB % 256) 0 (omega (arith, word_long (at + 5) c.fromB second, second_long)) ∙ omega arith

-- ---- steps, each of which writes its own places alone: those from `start i` on, below `start (suc i)`

module _ (start : ℕ → ℕ) (forward : (i k : ℕ) → i ≤ k → start i ≤ start k) (step : ℕ → List ℕ → List ℕ)
    (own : (i : ℕ) (o : List ℕ) (j : ℕ) → (j < start i) ⊎ (start (suc i) ≤ j) → get_or (step i o) j 0 ≡ get_or o j 0) where
  filled_before : (n : ℕ) (out : List ℕ) (j : ℕ) → j < start 0 → get_or (filled step n out) j 0 ≡ get_or out j 0
  unfolding filled
  filled_before zero out j l = refl
  filled_before (suc n) out j l = own n (filled step n out) j (inl (omega (arith, forward 0 n (omega arith)))) ∙ filled_before n out j l

  pub filled_behind : (n : ℕ) (out : List ℕ) (j : ℕ) → start n ≤ j → get_or (filled step n out) j 0 ≡ get_or out j 0
  unfolding filled
  filled_behind zero out j l = refl
  filled_behind (suc n) out j l = own n (filled step n out) j (inr l) ∙ filled_behind n out j (omega (arith, forward n (suc n) (omega arith)))

  pub filled_stands : (n : ℕ) (out : List ℕ) (i : ℕ) → i < n → (j : ℕ) → j < start (suc i) → get_or (filled step n out) j 0 ≡ get_or (step i (filled step i out)) j 0
  unfolding filled
  filled_stands zero out i l j m = absurd (not-suc-le-zero l)
  filled_stands (suc n) out i l j m =
      ⊎_elim
      (λ (e : i ≡ n). ap (λ k. get_or (step k (filled step k out)) j 0) (sym e))
      (λ (f : i ≢ n). own n (filled step n out) j (inl (omega (arith, forward (suc i) n (omega arith)))) ∙ filled_stands n out i (omega arith) j m)
      (same? i n)

-- ---- the rows, from byte 2 on, and the constraints, from byte 130 on

abbrev row_start : ℕ → ℕ
row_start i = 2 + 4 * i

abbrev constraint_start : ℕ → ℕ
constraint_start i = 130 + 10 * i

row_own : (rows : List ℕ) (i : ℕ) (o : List ℕ) (j : ℕ) → (j < row_start i) ⊎ (row_start (suc i) ≤ j) → get_or (row_in rows i o) j 0 ≡ get_or o j 0
row_own rows i o j a = word_there (2 + 4 * i) (get_or rows i 0) o j (⊎_elim (λ (l : j < 2 + 4 * i). inl l) (λ (l : 2 + 4 * suc i ≤ j). inr (omega arith)) a)

constraint_own : (cs : List Constraint) (i : ℕ) (o : List ℕ) (j : ℕ) → (j < constraint_start i) ⊎ (constraint_start (suc i) ≤ j) → get_or (constraint_in cs i o) j 0 ≡ get_or o j 0
constraint_own cs i o j a =
    constraint_there (130 + 10 * i) (get_or cs i no_constraint) o j (⊎_elim (λ (l : j < 130 + 10 * i). inl l) (λ (l : 130 + 10 * suc i ≤ j). inr (omega arith)) a)

constraints_long : (cs : List Constraint) (n : ℕ) (out : List ℕ) → length (filled (constraint_in cs) n out) ≡ length out
constraints_long cs = filled_long (constraint_in cs) (λ i o. constraint_long (130 + 10 * i) (get_or cs i no_constraint) o)

-- the bytes of a polygraph: the count, the rows, and the constraints one after the other
module _ (n : ℕ) (rows : List ℕ) (cs : List Constraint) (out : List ℕ) where
  abbrev counted : List ℕ
  counted = pair_bytes 0 n out

  abbrev rowed : List ℕ
  rowed = filled (row_in rows) 32 counted

  rowed_long : length rowed ≡ length out
  rowed_long = rows_long rows 32 counted ∙ pair_long 0 n out

  image_long : length (polygraph_in n rows cs out) ≡ length out
  unfolding polygraph_in
  image_long = constraints_long cs n rowed ∙ rowed_long

  -- before the constraints
  image_low : (j : ℕ) → j < 130 → get_or (polygraph_in n rows cs out) j 0 ≡ get_or rowed j 0
  unfolding polygraph_in
  image_low j l = filled_before constraint_start (λ i k m. omega arith) (constraint_in cs) (constraint_own cs) n rowed j l

  image_behind : (j : ℕ) → 130 + 10 * n ≤ j → get_or (polygraph_in n rows cs out) j 0 ≡ get_or out j 0
  unfolding polygraph_in
  image_behind j l =
      filled_behind constraint_start (λ i k m. omega arith) (constraint_in cs) (constraint_own cs) n rowed j l
      ∙ filled_behind row_start (λ i k m. omega arith) (row_in rows) (row_own rows) 32 counted j (omega arith)
      ∙ pair_there 0 n out j (inr (omega arith))

  module _ (room : 130 + 10 * n ≤ length out) where
    count_held : pair_at (polygraph_in n rows cs out) 0 ≡ n
    unfolding pair_at
    count_held =
        let at : (j : ℕ) → j < 2 → get_or (polygraph_in n rows cs out) j 0 ≡ get_or counted j 0 =
        λ j l. image_low j (omega arith) ∙ filled_before row_start (λ i k m. omega arith) (row_in rows) (row_own rows) 32 counted j l in
        ap₂ (λ (x y : ℕ). x + 256 * y) (at 0 (omega arith)) (at 1 (omega arith)) ∙ pair_here 0 n out (omega arith)

    row_held : (u : ℕ) → u < 32 → word_at (polygraph_in n rows cs out) (2 + 4 * u) ≡ get_or rows u 0
    row_held u l =
        let o = filled (row_in rows) u counted in
        word_same (polygraph_in n rows cs out) (row_in rows u o) (2 + 4 * u)
        (λ j m k. image_low j (omega arith) ∙ filled_stands row_start (λ i k m. omega arith) (row_in rows) (row_own rows) 32 counted u l j (omega arith))
        ∙ word_here (2 + 4 * u) (get_or rows u 0) o (omega (arith, rows_long rows u counted, pair_long 0 n out))

    module _ (i : ℕ) (l : i < n) where
      abbrev c : Constraint
      c = get_or cs i no_constraint

      abbrev earlier : List ℕ
      earlier = filled (constraint_in cs) i rowed

      fits : 130 + 10 * i + 10 ≤ length earlier
      fits = omega (arith, constraints_long cs i rowed, rowed_long)

      stands : (j : ℕ) → j < 130 + 10 * suc i → get_or (polygraph_in n rows cs out) j 0 ≡ get_or (constraint_bytes (130 + 10 * i) c earlier) j 0
      unfolding polygraph_in
      stands j m = filled_stands constraint_start (λ i k m. omega arith) (constraint_in cs) (constraint_own cs) n rowed i l j m

      constraint_held : c.toA < 256 → c.toB < 256 → Held i c (polygraph_in n rows cs out)
      constraint_held small-A small-B =
          let image = polygraph_in n rows cs out in
          let at = 130 + 10 * i in
          let there = constraint_bytes at c earlier in
          let word : (p : ℕ) → p + 4 ≤ at + 10 → word_at image p ≡ word_at there p = λ p k. word_same image there p (λ j x y. stands j (omega arith)) in
          record {
            sources-A = word at (omega arith) ∙ sources-A-here at c earlier fits;
            target-A = stands (134 + 10 * i) (omega arith) ∙ ap (byte_at there) (omega arith) ∙ target-A-here at c earlier fits small-A;
            sources-B = word (135 + 10 * i) (omega arith) ∙ ap (word_at there) (omega arith) ∙ sources-B-here at c earlier fits;
            target-B = stands (139 + 10 * i) (omega arith) ∙ ap (byte_at there) (omega arith) ∙ target-B-here at c earlier fits small-B;
          }

-- ---- what Encode leaves

all_at : {A : Type 0} (P : A → Type 0) (d : A) (xs : List A) → All P xs → (i : ℕ) → i < length xs → P (get_or xs i d)
all_at P d [] a i l = absurd (not-suc-le-zero l)
all_at P d (x ∷ xs) a zero l = a.0
all_at P d (x ∷ xs) a (suc i) l = all_at P d xs a.1 i (omega arith)

module _ (w : Window) (taken : window_number w ≡ 0) (e pruning : ℕ) (setting : setting_refusal e pruning ≡ 0) (out : List ℕ)
    (room : 130 + 10 * encoded_count (window_history w) e pruning ≤ length out) where
  abbrev h : History
  h = window_history w

  abbrev n : ℕ
  n = encoded_count h e pruning

  abbrev left : List Constraint
  left = (polygraph h e pruning).choices

  abbrev listed : List Constraint
  listed = encoded_list h e pruning (replicate 4096 no_constraint)

  abbrev image : List ℕ
  image = polygraph_in n (polygraph h e pruning).known listed out

  after_is : encode_window_after w e pruning out ≡ image
  unfolding encode_window_after sent_after sent_code
  after_is =
      ap (λ b. cond b (polygraph_after (loaded_case w) e pruning out) out) (eq-eqb (window_number w) 0 taken)
      ∙ encoded_list_lem w taken e pruning setting out
      ∙ ap (λ b. cond (eqb (cond b 25 0) 0) image out) (le-ltb (length out) (130 + 10 * n) room)

  -- below the count the list holds the constraints left
  listed_at : (i : ℕ) → i < n → get_or listed i no_constraint ≡ get_or left i no_constraint
  unfolding encoded_list encoded_count
  listed_at i l = get_or-append left _ no_constraint i l

  -- whose targets are below T
  aimed_at : (i : ℕ) → i < n → Aimed (size h) (get_or left i no_constraint)
  unfolding encoded_count
  aimed_at i l = all_at (Aimed (size h)) no_constraint left (polygraph_sound h (loadable_timed w.bytes w.clock (taken_timed w taken)) e pruning).1 i l

  few : size h ≤ 32
  few = (loadable_timed w.bytes w.clock (taken_timed w taken)).few

  held_at : (i : ℕ) → i < n → Held i (get_or left i no_constraint) image
  held_at i l =
      let a = subst (Aimed (size h)) (sym (listed_at i l)) (aimed_at i l) in
      subst (λ c. Held i c image) (listed_at i l)
      (constraint_held n (polygraph h e pruning).known listed out room i l (omega (arith, few, a.toA-small)) (omega (arith, few, a.toB-small)))

  pub written : Polygraphed h e pruning out (encode_window_after w e pruning out)
  written =
      let known = (polygraph h e pruning).known in
      subst (Polygraphed h e pruning out) (sym after_is)
      (record {
        count = count_held n known listed out room;
        row_words = row_held n known listed out room;
        constraints_left = held_at;
        long = image_long n known listed out;
        behind = image_behind n known listed out;
      })
