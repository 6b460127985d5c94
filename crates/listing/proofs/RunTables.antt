-- The tables of runs are those of the history: encodings 1 and 2. Assumes nothing.
--     first-bit, tail_is      those that stand for a run, and the last write of one.        no_reader      no reader of a tail writes the key
--     chosen_joined, chosen_chained      the constraints of the candidates are the model's
use Prim.Native.Nat.{ℕ, zero, suc, ◌+◌, ◌*◌, ◌/◌, ◌%◌, ◌^◌, ◌≤◌, ◌<◌}
use native.Mathlib.Omega.{arith}
use mathlib.Core.Path.{◌≡◌, refl, sym, ap, ap₂, ◌∙◌}
use mathlib.Core.Logic.{⊎_elim, ◌≢◌}
use mathlib.Core.Bool.{Bool, true, false, not, cond, ◌&&◌, ◌||◌}
use mathlib.Core.List.{List, [], ◌∷◌, map}
use lib.Dec.{T, eqb, ltb, ltb→lt}
use lib.Bits.{bit_and, bit_or, and_le_l}
use lib.Count.{count_trailing_zeros}
use lib.Pow.{pow-lt}
use lib.ListN.{length, get_or}
use Rattle.model.specs.Lists.{any, up_to, bit, word_of}
use Rattle.model.specs.declared.Constraint.{Constraint}
use Rattle.model.specs.History.{History, size, writes, well_formed}
use Rattle.model.specs.Polygraph.{good_read, in_ends, ends, successor, is_successor, is_head, tail_within, tail, between, joined, chained}
use Rattle.model.proofs.Basics.{true_eq, false_eq, eq-T, eq-eqb, ne_eqb, iff_eq, not_intro, same?, and_l, and_r, and_in, any_up_to_in, any_up_to_out, up_to_in}
use Rattle.model.proofs.Legal.{writes_small, reads_small, good_reads_lem}
use Rattle.model.proofs.Central.{key2, head_writes}
use Rattle.model.proofs.Tails.{tail_final}
use Rattle.model.proofs.Rings.{successor_lowest}
use Rattle.model.proofs.Masks.{bit_or_lem, bit_one, bit_none, same_bits, word_bits}
use Rattle.model.proofs.Words.{get_or_up_to, bit_word}
use Rattle.model.proofs.Loops.{any_bit}
use Rattle.graph.specs.Masks.{without}
use Rattle.graph.specs.Members.{members}
use Rattle.graph.proofs.WordLaws.{bit_without, without_lt, bit_minus, lowest}
use Rattle.graph.proofs.MemberLaws.{In, members_any}
use Rattle.polygraph.specs.Tables.{writers_of, read_marks_of}
use Rattle.polygraph.specs.Edges.{next_by, successors_by}
use Rattle.polygraph.proofs.ReadTable.{any_on}
use Rattle.polygraph.proofs.RowWords.{writer_bit, marks_small, good_key, successors_are, next_at}
use Rattle.listing.specs.Candidates.{ends_by, item_by}
use Rattle.listing.specs.Runs.{low_of, nexts_of, head_by, first_by, tail_by, last_by, sources_by, word_by, key_numbers, run_words, run_numbers}
use Rattle.listing.proofs.Sequences.{map_each, each_all}
use Rattle.listing.proofs.RunWords.{encoding_at, words_at, numbers_are}
use Rattle.listing.proofs.Between.{number, pair_at_lem, chain_at, key_between}

and_on : (a b c : Bool) → (T a → b ≡ c) → (a && not b) ≡ (a && not c)
and_on true b c f = ap not (f tt)
and_on false b c f = refl

-- the bits of words in one
nexts_bit : (own : ℕ) (marks : List ℕ) (k w v : ℕ) (us : List ℕ) → bit (nexts_of own marks k w us) v ≡ (bit w v || any (λ u. bit (low_of (bit_and (get_or marks (k * 32 + u) 0) own)) v) us)
unfolding nexts_of
nexts_bit own marks k w v [] = none (bit w v)
  where
    none : (b : Bool) → b ≡ (b || false)
    none true = refl
    none false = refl
nexts_bit own marks k w v (u ∷ us) =
    nexts_bit own marks k (bit_or w (low_of (bit_and (get_or marks (k * 32 + u) 0) own))) v us
    ∙ ap (λ b. b || any (λ u. bit (low_of (bit_and (get_or marks (k * 32 + u) 0) own)) v) us) (bit_or_lem w (low_of (bit_and (get_or marks (k * 32 + u) 0) own)) v)
    ∙ assoc (bit w v) (bit (low_of (bit_and (get_or marks (k * 32 + u) 0) own)) v) (any (λ u. bit (low_of (bit_and (get_or marks (k * 32 + u) 0) own)) v) us)
  where
    assoc : (a b c : Bool) → ((a || b) || c) ≡ (a || (b || c))
    assoc true b c = refl
    assoc false b c = refl

low_bit : (x v : ℕ) → v < 32 → bit (low_of x) v ≡ (bit x v && eqb v (count_trailing_zeros 32 x))
unfolding low_of
low_bit x v l = bit_word 32 (λ v. bit x v && eqb v (count_trailing_zeros 32 x)) v l

-- a mask without what is not in it
without_absent : (m x : ℕ) → m < 2 ^ 32 → bit m x ≡ false → without m x ≡ m
without_absent m x l z =
    same_bits 32 (without m x) (bit m) (without_lt m x l)
    (λ s k.
    bit_without m x s
    ∙ ⊎_elim (λ (e : s ≡ x). let o : bit m s ≡ false = ap (bit m) e ∙ z in ap (λ b. b && not (eqb s x)) o ∙ sym o)
    (λ (e : s ≢ x). ap (λ b. bit m s && not b) (false_eq (eqb s x) (ne_eqb e)) ∙ both (bit m s)) (same? s x))
    ∙ word_bits 32 m l
  where
    both : (b : Bool) → (b && true) ≡ b
    both true = refl
    both false = refl

module _ (h : History) (few : size h ≤ 32) where
  abbrev ws : List ℕ
  ws = writers_of h

  abbrev ms : List ℕ
  ms = read_marks_of h

  -- ---- Ends, from the good readers

  module _ (k w x : ℕ) (kl : k < 32) (wl : w < 32) where
    abbrev readers : ℕ
    readers = get_or ms (k * 32 + w) 0

    readers_small : readers < 2 ^ 32
    readers_small = marks_small h few (k * 32 + w) (omega arith)

    abbrev others : ℕ → Bool
    others s = good_read h k s w && not (eqb s x)

    abbrev rest : ℕ
    rest = without readers x

    others_bit : (s : ℕ) → s < 32 → bit rest s ≡ others s
    others_bit s l = bit_without readers x s ∙ ap (λ b. b && not (eqb s x)) (good_key h few k w s kl wl l)

    others_any : any others (up_to (size h)) ≡ not (eqb rest 0)
    others_any =
        iff_eq (any others (up_to (size h))) (any others (up_to 32))
        (λ z. let y = any_up_to_out others (size h) z in let yl = y.2 in any_up_to_in others 32 y.0 (omega arith) y.1)
        (λ z. let y = any_up_to_out others 32 z in any_up_to_in others (size h) y.0 (reads_small h y.0 k w (good_reads_lem h k y.0 w (and_l (good_read h k y.0 w) (not (eqb y.0 x)) y.1))) y.1)
        ∙ any_on others (bit rest) (up_to 32) (up_to_in (λ s. others s ≡ bit rest s) 32 (λ s l. sym (others_bit s l)))
        ∙ any_bit 32 rest (without_lt readers x readers_small)

    ends_are : ends_by (get_or ms (k * 32 + w) 0) w x ≡ ends h k w x
    unfolding ends_by in_ends
    ends_are =
        go (eqb rest 0) ∙ ap (λ b. word_of 32 (λ s. cond b (others s) (eqb s w))) (sym others_any)
      where
        go : (b : Bool) → cond b (2 ^ w) rest ≡ word_of 32 (λ s. cond (not b) (others s) (eqb s w))
        go true = same_bits 32 (2 ^ w) (λ s. eqb s w) (pow-lt wl) (λ s l. bit_one w s)
        go false = same_bits 32 rest others (without_lt readers x readers_small) (λ s l. others_bit s l)

    -- where x has no good read from w, it does not matter
    ends_alone : good_read h k x w ≡ false → x < 32 → sources_by 2 w (get_or ms (k * 32 + w) 0) ≡ ends h k w x
    unfolding sources_by ends_by
    ends_alone z xl =
        ap (λ m. cond (eqb m 0) (2 ^ w) m) (sym (without_absent readers x readers_small (good_key h few k w x kl wl xl ∙ z))) ∙ ends_are

  -- ---- successors

  abbrev nexts : List ℕ
  nexts = successors_by (size h) ws ms

  next_key : (k u : ℕ) → k < 32 → u < 32 → get_or nexts (k * 32 + u) 0 ≡ successor h k u
  next_key k u l m =
      let p : (k * 32 + u) / 32 ≡ k = omega arith in
      let q : (k * 32 + u) % 32 ≡ u = omega arith in
      ap (λ x. get_or x (k * 32 + u) 0) (successors_are h few) ∙ next_at h few (k * 32 + u) (omega arith) ∙ ap₂ (successor h) p q

  next_is : (k u : ℕ) → k < 32 → u < 32 → next_by (get_or ms (k * 32 + u) 0) (get_or ws k 0) (size h) ≡ successor h k u
  unfolding successors_by
  next_is k u l m =
      let p : (k * 32 + u) / 32 ≡ k = omega arith in
      ap (λ x. next_by (get_or ms (k * 32 + u) 0) (get_or ws x 0) (size h)) (sym p)
      ∙ sym (get_or_up_to (λ i. next_by (get_or ms i 0) (get_or ws (i / 32) 0) (size h)) 0 1024 (k * 32 + u) (omega arith)) ∙ next_key k u l m

  -- ---- heads

  abbrev own : ℕ → ℕ
  own k = get_or ws k 0

  abbrev link : ℕ → ℕ → ℕ
  link k u = bit_and (get_or ms (k * 32 + u) 0) (own k)

  link_bit : (k u g : ℕ) → k < 32 → u < 32 → g < size h → bit (low_of (link k u)) g ≡ eqb (successor h k u) g
  unfolding next_by
  link_bit k u g l m gl =
      low_bit (link k u) g (omega arith)
      ∙ ⊎_elim
      (λ (z : link k u ≡ 0).
      let s : successor h k u ≡ size h = sym (next_is k u l m) ∙ ap (λ b. cond b (size h) (count_trailing_zeros 32 (link k u))) (true_eq (eqb (link k u) 0) (eq-eqb z)) in
      ap (λ b. b && eqb g (count_trailing_zeros 32 (link k u))) (ap (λ x. bit x g) z ∙ bit_none g) ∙ sym (ap (λ x. eqb x g) s ∙ false_eq (eqb (size h) g) (ne_eqb (λ (y : size h ≡ g). omega arith))))
      (λ (z : link k u ≢ 0).
      let s : successor h k u ≡ count_trailing_zeros 32 (link k u) = sym (next_is k u l m) ∙ ap (λ b. cond b (size h) (count_trailing_zeros 32 (link k u))) (false_eq (eqb (link k u) 0) (ne_eqb z)) in
      let low = lowest 32 (link k u) (omega (arith, and_le_l (get_or ms (k * 32 + u) 0) (own k), marks_small h few (k * 32 + u) (omega arith))) z in
      ⊎_elim
      (λ (e : g ≡ count_trailing_zeros 32 (link k u)).
      ap₂ (λ a b. a && b) (ap (bit (link k u)) e ∙ low.is_set) (true_eq (eqb g (count_trailing_zeros 32 (link k u))) (eq-eqb e)) ∙ sym (true_eq (eqb (successor h k u) g) (eq-eqb (s ∙ sym e))))
      (λ (e : g ≢ count_trailing_zeros 32 (link k u)).
      ap (λ b. bit (link k u) g && b) (false_eq (eqb g (count_trailing_zeros 32 (link k u))) (ne_eqb e)) ∙ none (bit (link k u) g) ∙ sym (false_eq (eqb (successor h k u) g) (ne_eqb (λ y. e (sym y ∙ s)))))
      (same? g (count_trailing_zeros 32 (link k u))))
      (same? (link k u) 0)
    where
      none : (b : Bool) → (b && false) ≡ false
      none true = refl
      none false = refl

  head_bit : (k g : ℕ) → k < 32 → g < 32 → bit (head_by (own k) ms k) g ≡ is_head h k g
  unfolding head_by is_head is_successor
  head_bit k g l m =
      bit_minus (own k) (nexts_of (own k) ms k 0 (members (own k))) g
      ∙ ap₂ (λ x y. x && not y) (writer_bit h few k g l m)
      (nexts_bit (own k) ms k 0 g (members (own k)) ∙ ap (λ b. b || any (λ u. bit (low_of (link k u)) g) (members (own k))) (bit_none g) ∙ members_any (own k) (λ u. bit (low_of (link k u)) g))
      ∙ and_on (writes h g k) (any P (up_to 32)) (any Q (up_to (size h)))
      (λ wg.
      let gl = writes_small h g k wg in
      iff_eq (any P (up_to 32)) (any Q (up_to (size h)))
      (λ t.
      let z = any_up_to_out P 32 t in
      let u = z.0 in
      let wu = eq-T (writer_bit h few k u l z.2) (and_l (bit (own k) u) (bit (low_of (link k u)) g) z.1) in
      any_up_to_in Q (size h) u (writes_small h u k wu)
      (and_in (writes h u k) (eqb (successor h k u) g) wu (eq-T (link_bit k u g l z.2 gl) (and_r (bit (own k) u) (bit (low_of (link k u)) g) z.1))))
      (λ t.
      let z = any_up_to_out Q (size h) t in
      let u = z.0 in
      let ul = z.2 in
      let u32 : u < 32 = omega arith in
      any_up_to_in P 32 u u32
      (and_in (bit (own k) u) (bit (low_of (link k u)) g) (eq-T (sym (writer_bit h few k u l u32)) (and_l (writes h u k) (eqb (successor h k u) g) z.1))
      (eq-T (sym (link_bit k u g l u32 gl)) (and_r (writes h u k) (eqb (successor h k u) g) z.1)))))
    where
      P : ℕ → Bool
      P u = bit (own k) u && bit (low_of (link k u)) g

      Q : ℕ → Bool
      Q u = writes h u k && eqb (successor h k u) g

  writes_past : (k i : ℕ) → size h ≤ i → writes h i k ≡ false
  writes_past k i l = false_eq (writes h i k) (not_intro (writes h i k) (λ w. omega (arith, writes_small h i k w)))

  head_past : (k i : ℕ) → size h ≤ i → is_head h k i ≡ false
  unfolding is_head
  head_past k i l = ap (λ x. x && not (is_successor h k i)) (writes_past k i l)

  -- ---- tails

  tail_is : (k : ℕ) → k < 32 → (m u : ℕ) → u < 32 → (tail_by (size h) nexts k m u ≡ tail_within h k m u) × (tail_within h k m u < 32)
  unfolding tail_by tail_within
  tail_is k l zero u ul = (refl, ul)
  tail_is k l (suc m) u ul =
      go (get_or nexts (k * 32 + u) 0) (successor h k u) (next_key k u l ul) (λ sl. tail_is k l m (successor h k u) (omega arith))
    where
      go : (x s : ℕ) → x ≡ s → (s < size h → (tail_by (size h) nexts k m s ≡ tail_within h k m s) × (tail_within h k m s < 32))
          → (cond (ltb x (size h)) (tail_by (size h) nexts k m x) u ≡ cond (ltb s (size h)) (tail_within h k m s) u) × (cond (ltb s (size h)) (tail_within h k m s) u < 32)
      go x s e f =
          let same : cond (ltb x (size h)) (tail_by (size h) nexts k m x) u ≡ cond (ltb s (size h)) (tail_by (size h) nexts k m s) u =
          ap (λ y. cond (ltb y (size h)) (tail_by (size h) nexts k m y) u) e in
          let r = both (ltb s (size h)) (λ t. f (ltb→lt s (size h) t)) in
          (same ∙ r.0, r.1)
        where
          both : (b : Bool) → (T b → (tail_by (size h) nexts k m s ≡ tail_within h k m s) × (tail_within h k m s < 32))
              → (cond b (tail_by (size h) nexts k m s) u ≡ cond b (tail_within h k m s) u) × (cond b (tail_within h k m s) u < 32)
          both true f = f tt
          both false f = (refl, ul)

  -- ---- encoding 1

  module _ (w : List ℕ) (long : length w ≡ 1025) where
    abbrev table : ℕ → List ℕ
    table e = run_words e (size h) ws ms w

    joined_side : (k i j : ℕ) → k < 32 → i < 32 → ends_by (word_by 1 (size h) ws ms k i) i j ≡ ends h k i j
    unfolding word_by last_by sources_by
    joined_side k i j kl il = ends_are k i j kl il

    joined_item : (k i j : ℕ) → k < 32 → In (first_by 1 ws ms k) i → In (first_by 1 ws ms k) j → i < j
        → item_by (table 1) (number k i j) ≡ record { fromA = ends h k i j; toA = j; fromB = ends h k j i; toB = i }
    joined_item k i j kl p q l =
        let at = words_at 1 (size h) ws ms w long k i j kl p q l in
        pair_at_lem (table 1) k i j kl p.low q.low (encoding_at 1 (size h) ws ms w long)
        ∙ ap₂ {C = Constraint} (λ x y. record { fromA = ends_by x i j; toA = j; fromB = ends_by y j i; toB = i }) at.0 at.1
        ∙ ap₂ {C = Constraint} (λ x y. record { fromA = x; toA = j; fromB = y; toB = i }) (joined_side k i j kl p.low) (joined_side k j i kl q.low)

    joined_bit : (k i : ℕ) → k < 32 → i < 32 → bit (first_by 1 ws ms k) i ≡ writes h i k
    unfolding first_by
    joined_bit k i l m = writer_bit h few k i l m

    pub chosen_joined : map (item_by (run_words 1 (size h) (writers_of h) (read_marks_of h) w)) (run_numbers 1 (writers_of h) (read_marks_of h)) ≡ joined h
    unfolding run_numbers joined
    chosen_joined =
        map_each (item_by (table 1)) (key_numbers 1 ws ms) (up_to 32)
        ∙ each_all (λ k. map (item_by (table 1)) (key_numbers 1 ws ms k)) (λ k. between h k (λ i. writes h i k) (λ i. i)) (up_to 32)
        (up_to_in (λ k. map (item_by (table 1)) (key_numbers 1 ws ms k) ≡ between h k (λ i. writes h i k) (λ i. i)) 32
        (λ k kl.
        ap (map (item_by (table 1))) (numbers_are 1 (size h) ws ms k)
        ∙ key_between h few k (first_by 1 ws ms k) (λ i. writes h i k) (λ i. i) (table 1) (λ i il. joined_bit k i kl il) (λ i l. writes_past k i l) (λ i j p q l. joined_item k i j kl p q l)))

    -- ---- encoding 2

    module _ (fine : T (well_formed h)) where
      no_reader : (k g x : ℕ) → T (is_head h k g) → T (writes h x k) → good_read h k x (tail h k g) ≡ false
      no_reader k g x hd wx =
          false_eq (good_read h k x (tail h k g)) (not_intro (good_read h k x (tail h k g))
          (λ r.
          tail_final h fine k g hd
          (omega (arith, successor_lowest h k (tail h k g) x (λ e. (key2 h k).good_other x (tail h k g) r (sym e)) wx r, writes_small h x k wx))))

      chained_bit : (k i : ℕ) → k < 32 → i < 32 → bit (first_by 2 ws ms k) i ≡ is_head h k i
      unfolding first_by
      chained_bit k i l m = head_bit k i l m

      chained_side : (k i j : ℕ) → k < 32 → i < 32 → j < 32 → T (is_head h k i) → T (is_head h k j) → word_by 2 (size h) ws ms k i ≡ ends h k (tail h k i) j
      unfolding word_by last_by
      chained_side k i j kl il jl hi hj =
          let t = tail_is k kl (size h) i il in
          ap (λ p. sources_by 2 p (get_or ms (k * 32 + p) 0)) t.0 ∙ ends_alone k (tail h k i) j kl t.1 (no_reader k i j hi (head_writes h k j hj)) jl

      chained_item : (k i j : ℕ) → k < 32 → In (first_by 2 ws ms k) i → In (first_by 2 ws ms k) j → i < j
          → item_by (table 2) (number k i j) ≡ record { fromA = ends h k (tail h k i) j; toA = j; fromB = ends h k (tail h k j) i; toB = i }
      chained_item k i j kl p q l =
          let at = words_at 2 (size h) ws ms w long k i j kl p q l in
          let hi = eq-T (chained_bit k i kl p.low) p.is in
          let hj = eq-T (chained_bit k j kl q.low) q.is in
          chain_at (table 2) k i j kl p.low q.low (encoding_at 2 (size h) ws ms w long)
          ∙ ap₂ {C = Constraint} (λ x y. record { fromA = x; toA = j; fromB = y; toB = i }) (at.0 ∙ chained_side k i j kl p.low q.low hi hj) (at.1 ∙ chained_side k j i kl q.low p.low hj hi)

      pub chosen_chained : map (item_by (run_words 2 (size h) (writers_of h) (read_marks_of h) w)) (run_numbers 2 (writers_of h) (read_marks_of h)) ≡ chained h
      unfolding run_numbers chained
      chosen_chained =
          map_each (item_by (table 2)) (key_numbers 2 ws ms) (up_to 32)
          ∙ each_all (λ k. map (item_by (table 2)) (key_numbers 2 ws ms k)) (λ k. between h k (is_head h k) (tail h k)) (up_to 32)
          (up_to_in (λ k. map (item_by (table 2)) (key_numbers 2 ws ms k) ≡ between h k (is_head h k) (tail h k)) 32
          (λ k kl.
          ap (map (item_by (table 2))) (numbers_are 2 (size h) ws ms k)
          ∙ key_between h few k (first_by 2 ws ms k) (is_head h k) (tail h k) (table 2) (λ i il. chained_bit k i kl il) (λ i l. head_past k i l) (λ i j p q l. chained_item k i j kl p q l)))
