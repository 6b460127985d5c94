-- The read table and the known edges, read by read: they are the model's. Assumes nothing.
use Prim.Native.Nat.{ℕ, ◌+◌, ◌-◌, ◌*◌, ◌/◌, ◌%◌, ◌^◌, ◌≤◌, ◌<◌}
use native.Mathlib.Omega.{arith}
use mathlib.Core.Path.{◌≡◌, refl, sym, ap, ap₂, subst, ◌∙◌}
use mathlib.Core.Logic.{◌⊎◌, inl, inr, ⊎_elim}
use mathlib.Core.Bool.{Bool, true, false, not, cond, ◌&&◌, ◌||◌, or_assoc}
use mathlib.Core.List.{List}
use lib.Dec.{T, eqb, ltb, eqb→eq, ltb→lt, lt→ltb, nltb→le}
use lib.Bits.{bit_and, bit_or}
use lib.Count.{count_trailing_zeros}
use lib.Pow.{pow-lt}
use lib.ListN.{get_or, replicate, length-replicate}
use Rattle.model.specs.Lists.{any, fold, up_to, bit, word_of}
use Rattle.model.specs.History.{History, start, size, is_read, outward, writes, reads}
use Rattle.model.specs.Polygraph.{good_read, next_of_cabinet, start_read, bad_read, successor, chain_edge, edge, rows}
use Rattle.model.specs.Untimed.{untimed_edge}
use Rattle.model.proofs.Times.{untimed_edges, log_untimed}
use Rattle.model.specs.Log.{load_number, history_of}
use Rattle.model.proofs.Loaded.{history_size, operations_past}
use Rattle.model.proofs.Basics.{decide, not_intro, iff_eq, eq-T, eq-eqb, ne_eqb, eqb_ne, and_l, and_r, and_in, or_out, or_l, or_r, cond_out, cond_yes, cond_no, any_out, any_up_to_in, any_up_to_out, All-imp}
use Rattle.model.proofs.Words.{bit_word, word_lt}
use Rattle.model.proofs.Masks.{bit_or_lem, bit_one, bit_none, same_bits}
use Rattle.model.proofs.Legal.{writes_small, reads_small, good_reads_lem, good_writes}
use Rattle.graph.specs.Masks.{put_if, without}
use Rattle.polygraph.specs.Tables.{writers_of, read_mark, read_marks_of, reads_of, key_in, owner_in, slot_in, put_at, mark_step, DecodedTo}
use Rattle.polygraph.specs.Edges.{cabinet_rows, own_edge, own_edges, read_step}
use Rattle.graph.proofs.WordLaws.{bit_without}
use Rattle.polygraph.proofs.Marks.{Puts, sets_on, sets_none, sets_put, sets_end, sets_fold, single_bit, single_small}
use Rattle.polygraph.proofs.Filling.{zeros, few}
use Rattle.polygraph.proofs.Decoding.{Marked, reads_marked, reads_in_lem}
use Rattle.polygraph.proofs.Cabinets.{cabinet_sets, next_out}
use Rattle.polygraph.proofs.RowWords.{writer_bit, mark_good, mark_start, mark_bad, next_low}

-- ---- the edges of a transaction by a read of its own, by what the read names

module _ (at t w readers : ℕ) (chained : Bool) (v : ℕ) where
  abbrev lowest_next : Bool
  lowest_next = bit (bit_and readers w) v && eqb v (count_trailing_zeros 32 (bit_and readers w))

  own_chain : at < 1024 → T chained → T lowest_next → T (not (eqb v t)) → T (own_edge at t w readers chained v)
  unfolding own_edge
  own_chain l c n d =
      cond_yes (ltb at 1024) (chained && (lowest_next && not (eqb v t))) (cond (eqb at 1056) (eqb v t) (bit w v && not (eqb v t))) (lt→ltb at 1024 l)
      (and_in chained (lowest_next && not (eqb v t)) c (and_in lowest_next (not (eqb v t)) n d))

  own_bad : at ≡ 1056 → v ≡ t → T (own_edge at t w readers chained v)
  unfolding own_edge
  own_bad p q =
      cond_no (ltb at 1024) (chained && (lowest_next && not (eqb v t))) (cond (eqb at 1056) (eqb v t) (bit w v && not (eqb v t))) (not_intro (ltb at 1024) (λ x. omega (arith, ltb→lt at 1024 x)))
      (cond_yes (eqb at 1056) (eqb v t) (bit w v && not (eqb v t)) (eq-eqb p) (eq-eqb q))

  own_start : 1024 ≤ at → at < 1056 → T (bit w v) → T (not (eqb v t)) → T (own_edge at t w readers chained v)
  unfolding own_edge
  own_start m l x d =
      cond_no (ltb at 1024) (chained && (lowest_next && not (eqb v t))) (cond (eqb at 1056) (eqb v t) (bit w v && not (eqb v t))) (not_intro (ltb at 1024) (λ y. omega (arith, ltb→lt at 1024 y)))
      (cond_no (eqb at 1056) (eqb v t) (bit w v && not (eqb v t)) (ne_eqb {m = at} {n = 1056} (λ y. omega arith)) (and_in (bit w v) (not (eqb v t)) x d))

  own_cases : at < 1057 → T (own_edge at t w readers chained v)
      → ((at < 1024) × T chained × T lowest_next × T (not (eqb v t))) ⊎ (((at ≡ 1056) × (v ≡ t)) ⊎ ((1024 ≤ at) × (at < 1056) × T (bit w v) × T (not (eqb v t))))
  unfolding own_edge
  own_cases l x =
      ⊎_elim
      (λ (y : T (ltb at 1024) × T (chained && (lowest_next && not (eqb v t)))).
      let z = and_r chained (lowest_next && not (eqb v t)) y.1 in
      inl (ltb→lt at 1024 y.0, and_l chained (lowest_next && not (eqb v t)) y.1, and_l lowest_next (not (eqb v t)) z, and_r lowest_next (not (eqb v t)) z))
      (λ (y : T (not (ltb at 1024)) × T (cond (eqb at 1056) (eqb v t) (bit w v && not (eqb v t)))).
      inr
      (⊎_elim (λ (z : T (eqb at 1056) × T (eqb v t)). inl (eqb→eq at 1056 z.0, eqb→eq v t z.1))
      (λ (z : T (not (eqb at 1056)) × T (bit w v && not (eqb v t))).
      let d = eqb_ne {m = at} {n = 1056} z.0 in
      inr (nltb→le at 1024 y.0, omega arith, and_l (bit w v) (not (eqb v t)) z.1, and_r (bit w v) (not (eqb v t)) z.1))
      (cond_out (eqb at 1056) (eqb v t) (bit w v && not (eqb v t)) y.1)))
      (cond_out (ltb at 1024) (chained && (lowest_next && not (eqb v t))) (cond (eqb at 1056) (eqb v t) (bit w v && not (eqb v t))) x)

-- as the code picks them
pub own_picked : (at t w readers low next self others other chain r : ℕ) (chained : Bool)
    → ((s : ℕ) → bit low s ≡ (bit (bit_and readers w) s && eqb s (count_trailing_zeros 32 (bit_and readers w)))) → next ≡ without low t → self ≡ bit_or 0 (2 ^ t) → others ≡ without w t
    → other ≡ cond (eqb at 1056) self others → chain ≡ cond chained next 0 → r ≡ cond (ltb at 1024) chain other → (v : ℕ) → bit r v ≡ own_edge at t w readers chained v
unfolding own_edge
own_picked at t w readers low next self others other chain r chained f n s o p q e v =
    ap (λ x. bit x v) e ∙ choose (ltb at 1024) chain other
    ∙ ap₂ (cond (ltb at 1024)) (ap (λ x. bit x v) q ∙ choose chained next 0 ∙ chain_bit chained)
    (ap (λ x. bit x v) p ∙ choose (eqb at 1056) self others ∙ ap₂ (cond (eqb at 1056)) self_bit (ap (λ x. bit x v) o ∙ bit_without w t v))
  where
    choose : (b : Bool) (x y : ℕ) → bit (cond b x y) v ≡ cond b (bit x v) (bit y v)
    choose true x y = refl
    choose false x y = refl

    chain_bit : (b : Bool) → cond b (bit next v) (bit 0 v) ≡ (b && ((bit (bit_and readers w) v && eqb v (count_trailing_zeros 32 (bit_and readers w))) && not (eqb v t)))
    chain_bit true = ap (λ x. bit x v) n ∙ bit_without low t v ∙ ap (λ x. x && not (eqb v t)) (f v)
    chain_bit false = bit_none v

    self_bit : bit self v ≡ eqb v t
    self_bit = ap (λ x. bit x v) s ∙ bit_or_lem 0 (2 ^ t) v ∙ ap₂ (λ x y. x || y) (bit_none v) (bit_one t v)

-- the step of a read
pub step_is : (chained : Bool) (writers marks w : List ℕ) (r at x y : ℕ) → at ≡ slot_in writers r → x ≡ put_if 0 (owner_in r) (ltb at 1024) → y < 2 ^ 32
    → ((v : ℕ) → bit y v ≡ own_edge at (owner_in r) (get_or writers (key_in r) 0) (get_or marks at 0) chained v) → put_at (put_at w (at % 32) x) (owner_in r) y ≡ read_step chained writers marks w r
unfolding read_step own_edges
step_is chained writers marks w r at x y p q l f =
    ap₂ (λ a z. put_at (put_at w (at % 32) a) (owner_in r) z) q (same_bits 32 y (own_edge at (owner_in r) (get_or writers (key_in r) 0) (get_or marks at 0) chained) l (λ v m. f v))
    ∙ ap (λ i. put_at (put_at w (i % 32) (put_if 0 (owner_in r) (ltb i 1024))) (owner_in r) (word_of 32 (own_edge i (owner_in r) (get_or writers (key_in r) 0) (get_or marks i 0) chained))) p

-- ---- the read table, read by read

module _ (b : List ℕ) (e : load_number b ≡ 0) where
  abbrev h : History
  h = history_of b

  abbrev W : List ℕ
  W = writers_of h

  abbrev M : List ℕ
  M = read_marks_of h

  -- who has a read is below T
  bad_low : (s : ℕ) → T (bad_read h s) → s < size h
  unfolding bad_read outward
  bad_low s x =
      ⊎_elim (λ (l : T (ltb s (size h))). ltb→lt s (size h) l)
      (λ (l : T (not (ltb s (size h)))).
      absurd (eq-T (ap (λ os. any (λ r. is_read r && (not (eqb r.argument start) && not (good_read h r.key s r.argument))) (outward os)) (operations_past b s (omega (arith, history_size b, nltb→le s (size h) l)))) x))
      (decide (ltb s (size h)))

  mark_low : (i s : ℕ) → T (read_mark h i s) → s < size h
  unfolding read_mark
  mark_low i s x =
      ⊎_elim (λ (y : T (ltb i 1024) × T (good_read h (i / 32) s (i % 32))). reads_small h s (i / 32) (i % 32) (good_reads_lem h (i / 32) s (i % 32) y.1))
      (λ (y : T (not (ltb i 1024)) × T (cond (ltb i 1056) (reads h s (i - 1024) start) (bad_read h s))).
      ⊎_elim (λ (z : T (ltb i 1056) × T (reads h s (i - 1024) start)). reads_small h s (i - 1024) start z.1) (λ (z : T (not (ltb i 1056)) × T (bad_read h s)). bad_low s z.1)
      (cond_out (ltb i 1056) (reads h s (i - 1024) start) (bad_read h s) y.1))
      (cond_out (ltb i 1024) (good_read h (i / 32) s (i % 32)) (cond (ltb i 1056) (reads h s (i - 1024) start) (bad_read h s)) x)

  mark_puts : (r : ℕ) → Marked b e r → Puts 1057 (mark_step W) (λ r i s. eqb i (slot_in W r) && eqb s (owner_in r)) r
  unfolding mark_step
  mark_puts r m f w x =
      sets_on 1057 (λ i s. f i s || (eqb i (slot_in W r) && bit (2 ^ owner_in r) s)) (λ i s. f i s || (eqb i (slot_in W r) && eqb s (owner_in r))) (put_at w (slot_in W r) (2 ^ owner_in r))
      (λ i s l. ap (λ y. f i s || (eqb i (slot_in W r) && y)) (bit_one (owner_in r) s)) (sets_put 1057 f w (slot_in W r) (2 ^ owner_in r) m.slot_low (pow-lt low) x)
    where
      low : owner_in r < 32
      low = omega (arith, m.owner_low, few b e)

  marks_are : fold (mark_step W) (replicate 1057 0) (reads_of h) ≡ M
  unfolding read_marks_of
  marks_are =
      sets_end 1057 (λ i s. any (λ r. eqb i (slot_in W r) && eqb s (owner_in r)) (reads_of h)) (read_mark h) (fold (mark_step W) (replicate 1057 0) (reads_of h))
      (sets_fold 1057 (mark_step W) (λ r i s. eqb i (slot_in W r) && eqb s (owner_in r)) (λ i s. false) (replicate 1057 0) (reads_of h)
      (All-imp (Marked b e) (Puts 1057 (mark_step W) (λ r i s. eqb i (slot_in W r) && eqb s (owner_in r))) mark_puts (reads_of h) (reads_marked b e))
      (sets_none 1057 (replicate 1057 0) (length-replicate {A = ℕ} 1057 0) (zeros 1057)))
      (λ i s l m.
      iff_eq (any (λ r. eqb i (slot_in W r) && eqb s (owner_in r)) (reads_of h)) (read_mark h i s)
      (λ t.
      let z = any_out (λ r. eqb i (slot_in W r) && eqb s (owner_in r)) (Marked b e) (reads_of h) t (reads_marked b e) in
      let r = z.0 in
      let p : slot_in W r ≡ i = sym (eqb→eq i (slot_in W r) (and_l (eqb i (slot_in W r)) (eqb s (owner_in r)) z.1)) in
      let q : owner_in r ≡ s = sym (eqb→eq s (owner_in r) (and_r (eqb i (slot_in W r)) (eqb s (owner_in r)) z.1)) in
      subst (λ x. T (read_mark h i x)) q (subst (λ x. T (read_mark h x (owner_in r))) p z.2.marked))
      (λ t.
      reads_in_lem b e s i (mark_low i s t) l t (λ r. eqb i (slot_in W r) && eqb s (owner_in r))
      (λ r p q k y. and_in (eqb i (slot_in W r)) (eqb s (owner_in r)) (eq-eqb (sym q)) (eq-eqb (sym p)))))

  pub marked_all : (writers rs out : List ℕ) → DecodedTo b writers rs → out ≡ fold (mark_step writers) (replicate 1057 0) rs → out ≡ M
  marked_all writers rs out d p = p ∙ ap₂ (λ x y. fold (mark_step x) (replicate 1057 0) y) d.writers_are d.reads_are ∙ marks_are

  -- ---- the edges of a read

  -- u → v by the read r
  read_edge : Bool → ℕ → ℕ → ℕ → Bool
  read_edge chained r u v =
      (eqb u (slot_in W r % 32) && bit (put_if 0 (owner_in r) (ltb (slot_in W r) 1024)) v)
      || (eqb u (owner_in r) && bit (own_edges (slot_in W r) (owner_in r) (get_or W (key_in r) 0) (get_or M (slot_in W r) 0) chained) v)

  edge_puts : (chained : Bool) (r : ℕ) → Marked b e r → Puts 32 (read_step chained W M) (read_edge chained) r
  unfolding read_step read_edge own_edges
  edge_puts chained r m f w x =
      sets_on 32 (λ i s. (f i s || (eqb i (at % 32) && bit one s)) || (eqb i t && bit own s)) (λ i s. f i s || ((eqb i (at % 32) && bit one s) || (eqb i t && bit own s))) (put_at (put_at w (at % 32) one) t own)
      (λ i s l. or_assoc (f i s) (eqb i (at % 32) && bit one s) (eqb i t && bit own s))
      (sets_put 32 (λ i s. f i s || (eqb i (at % 32) && bit one s)) (put_at w (at % 32) one) t own low (word_lt 32 (own_edge at t (get_or W (key_in r) 0) (get_or M at 0) chained))
      (sets_put 32 f w (at % 32) one (omega arith) (single_small t (ltb at 1024) low) x))
    where
      at : ℕ
      at = slot_in W r

      t : ℕ
      t = owner_in r

      low : owner_in r < 32
      low = omega (arith, m.owner_low, few b e)

      one : ℕ
      one = put_if 0 t (ltb at 1024)

      own : ℕ
      own = word_of 32 (own_edge at t (get_or W (key_in r) 0) (get_or M at 0) chained)

  -- the two kinds of edges, taken apart and put together
  edge_out : (chained : Bool) (r u v : ℕ) → v < 32 → T (read_edge chained r u v)
      → ((u ≡ slot_in W r % 32) × (slot_in W r < 1024) × (v ≡ owner_in r)) ⊎ ((u ≡ owner_in r) × T (own_edge (slot_in W r) (owner_in r) (get_or W (key_in r) 0) (get_or M (slot_in W r) 0) chained v))
  unfolding read_edge own_edges
  edge_out chained r u v l x =
      ⊎_elim
      (λ (y : T (eqb u (at % 32) && bit (put_if 0 t (ltb at 1024)) v)).
      let z = eq-T (single_bit t v (ltb at 1024)) (and_r (eqb u (at % 32)) (bit (put_if 0 t (ltb at 1024)) v) y) in
      inl (eqb→eq u (at % 32) (and_l (eqb u (at % 32)) (bit (put_if 0 t (ltb at 1024)) v) y), ltb→lt at 1024 (and_l (ltb at 1024) (eqb v t) z), eqb→eq v t (and_r (ltb at 1024) (eqb v t) z)))
      (λ (y : T (eqb u t && bit (word_of 32 own) v)).
      inr (eqb→eq u t (and_l (eqb u t) (bit (word_of 32 own) v) y), eq-T (bit_word 32 own v l) (and_r (eqb u t) (bit (word_of 32 own) v) y)))
      (or_out (eqb u (at % 32) && bit (put_if 0 t (ltb at 1024)) v) (eqb u t && bit (word_of 32 own) v) x)
    where
      at : ℕ
      at = slot_in W r

      t : ℕ
      t = owner_in r

      own : ℕ → Bool
      own = own_edge at t (get_or W (key_in r) 0) (get_or M at 0) chained

  edge_good : (chained : Bool) (r u v : ℕ) → u ≡ slot_in W r % 32 → slot_in W r < 1024 → v ≡ owner_in r → T (read_edge chained r u v)
  unfolding read_edge
  edge_good chained r u v p l q =
      or_l (eqb u (slot_in W r % 32) && bit (put_if 0 (owner_in r) (ltb (slot_in W r) 1024)) v)
      (eqb u (owner_in r) && bit (own_edges (slot_in W r) (owner_in r) (get_or W (key_in r) 0) (get_or M (slot_in W r) 0) chained) v)
      (and_in (eqb u (slot_in W r % 32)) (bit (put_if 0 (owner_in r) (ltb (slot_in W r) 1024)) v) (eq-eqb {m = u} {n = slot_in W r % 32} p)
      (eq-T (sym (single_bit (owner_in r) v (ltb (slot_in W r) 1024))) (and_in (ltb (slot_in W r) 1024) (eqb v (owner_in r)) (lt→ltb (slot_in W r) 1024 l) (eq-eqb q))))

  edge_own : (chained : Bool) (r u v : ℕ) → v < 32 → u ≡ owner_in r → T (own_edge (slot_in W r) (owner_in r) (get_or W (key_in r) 0) (get_or M (slot_in W r) 0) chained v) → T (read_edge chained r u v)
  unfolding read_edge own_edges
  edge_own chained r u v l p x =
      or_r (eqb u (slot_in W r % 32) && bit (put_if 0 (owner_in r) (ltb (slot_in W r) 1024)) v) (eqb u (owner_in r) && bit (word_of 32 own) v)
      (and_in (eqb u (owner_in r)) (bit (word_of 32 own) v) (eq-eqb p) (eq-T (sym (bit_word 32 own v l)) x))
    where
      own : ℕ → Bool
      own = own_edge (slot_in W r) (owner_in r) (get_or W (key_in r) 0) (get_or M (slot_in W r) 0) chained

  -- ---- from the reads to the model's edges

  -- what the model says of an edge by reads
  by_reads : Bool → ℕ → ℕ → Bool
  by_reads chained u v = any (λ k. good_read h k v u) (up_to 32) || (start_read h u v || ((eqb u v && bad_read h u) || (chained && (ltb v (size h) && chain_edge h u v))))

  module _ (chained : Bool) (u v : ℕ) where
    abbrev G : Bool
    G = any (λ k. good_read h k v u) (up_to 32)

    abbrev B : Bool
    B = eqb u v && bad_read h u

    abbrev C : Bool
    C = chained && (ltb v (size h) && chain_edge h u v)

    by_good : (k : ℕ) → k < 32 → T (good_read h k v u) → T (by_reads chained u v)
    unfolding by_reads
    by_good k l x = or_l G (start_read h u v || (B || C)) (any_up_to_in (λ k. good_read h k v u) 32 k l x)

    by_start : (k : ℕ) → k < 32 → T (reads h u k start) → T (writes h v k) → T (not (eqb v u)) → T (by_reads chained u v)
    unfolding by_reads start_read
    by_start k l x y d =
        or_r G (any (λ k. reads h u k start && (writes h v k && not (eqb v u))) (up_to 32) || (B || C))
        (or_l (any (λ k. reads h u k start && (writes h v k && not (eqb v u))) (up_to 32)) (B || C)
        (any_up_to_in (λ k. reads h u k start && (writes h v k && not (eqb v u))) 32 k l
        (and_in (reads h u k start) (writes h v k && not (eqb v u)) x (and_in (writes h v k) (not (eqb v u)) y d))))

    by_bad : u ≡ v → T (bad_read h u) → T (by_reads chained u v)
    unfolding by_reads
    by_bad p x = or_r G (start_read h u v || (B || C)) (or_r (start_read h u v) (B || C) (or_l B C (and_in (eqb u v) (bad_read h u) (eq-eqb p) x)))

    by_chain : T chained → (k w : ℕ) → k < 32 → T (good_read h k u w) → T (ltb v (size h) && eqb (successor h k w) v) → T (not (eqb v u)) → T (by_reads chained u v)
    unfolding by_reads chain_edge
    by_chain c k w l g s d =
        or_r G (start_read h u v || (B || (chained && (ltb v (size h) && E))))
        (or_r (start_read h u v) (B || (chained && (ltb v (size h) && E)))
        (or_r B (chained && (ltb v (size h) && E))
        (and_in chained (ltb v (size h) && E) c
        (and_in (ltb v (size h)) E (and_l (ltb v (size h)) (eqb (successor h k w) v) s)
        (any_up_to_in (λ k. any (λ w. good_read h k u w && (eqb (successor h k w) v && not (eqb v u))) (up_to (size h))) 32 k l
        (any_up_to_in (λ w. good_read h k u w && (eqb (successor h k w) v && not (eqb v u))) (size h) w (writes_small h w k (good_writes h k u w g))
        (and_in (good_read h k u w) (eqb (successor h k w) v && not (eqb v u)) g (and_in (eqb (successor h k w) v) (not (eqb v u)) (and_r (ltb v (size h)) (eqb (successor h k w) v) s) d))))))))
      where
        E : Bool
        E = any (λ k. any (λ w. good_read h k u w && (eqb (successor h k w) v && not (eqb v u))) (up_to (size h))) (up_to 32)

  own_out : (chained : Bool) (r v : ℕ) → Marked b e r → v < 32 → T (own_edge (slot_in W r) (owner_in r) (get_or W (key_in r) 0) (get_or M (slot_in W r) 0) chained v) → T (by_reads chained (owner_in r) v)
  own_out chained r v m l x =
      ⊎_elim
      (λ (y : (i < 1024) × T chained × T (lowest_next i t (get_or W k 0) (get_or M i 0) chained v) × T (not (eqb v t))).
      let low = y.0 in
      let p = m.names.good low in
      let q : i ≡ k * 32 + i % 32 = omega arith in
      by_chain chained t v y.1 k (i % 32) kl
      (eq-T (ap (λ z. read_mark h z t) q ∙ mark_good h (few b e) k (i % 32) t kl (omega arith)) m.marked)
      (eq-T (ap (λ z. bit (bit_and (get_or M z 0) (get_or W k 0)) v && eqb v (count_trailing_zeros 32 (bit_and (get_or M z 0) (get_or W k 0)))) q ∙ next_low h (few b e) k (i % 32) v kl (omega arith) l) y.2)
      y.3)
      (λ z.
      ⊎_elim (λ (y : (i ≡ 1056) × (v ≡ t)). by_bad chained t v (sym y.1) (eq-T (ap (λ z. read_mark h z t) y.0 ∙ mark_bad h (few b e) t) m.marked))
      (λ (y : (1024 ≤ i) × (i < 1056) × T (bit (get_or W k 0) v) × T (not (eqb v t))).
      by_start chained t v k kl (eq-T (ap (λ z. read_mark h z t) (m.names.at_start y.0 y.1) ∙ mark_start h (few b e) k t kl) m.marked) (eq-T (writer_bit h (few b e) k v kl l) y.2) y.3) z)
      (own_cases i t (get_or W k 0) (get_or M i 0) chained v m.slot_low x)
    where
      i : ℕ
      i = slot_in W r

      t : ℕ
      t = owner_in r

      k : ℕ
      k = key_in r

      kl : key_in r < 32
      kl = m.key_low

  reads_out : (chained : Bool) (u v : ℕ) → v < 32 → T (any (λ r. read_edge chained r u v) (reads_of h)) → T (by_reads chained u v)
  reads_out chained u v l x =
      let z = any_out (λ r. read_edge chained r u v) (Marked b e) (reads_of h) x (reads_marked b e) in
      let r = z.0 in
      let i = slot_in W r in
      ⊎_elim
      (λ (y : (u ≡ slot_in W r % 32) × (slot_in W r < 1024) × (v ≡ owner_in r)).
      let low = y.1 in
      let q : slot_in W r ≡ slot_in W r / 32 * 32 + slot_in W r % 32 = omega arith in
      by_good chained u v (slot_in W r / 32) (omega arith)
      (subst (λ y. T (good_read h (slot_in W r / 32) v y)) (sym y.0)
      (subst (λ y. T (good_read h (slot_in W r / 32) y (slot_in W r % 32))) (sym y.2)
      (eq-T (ap (λ z. read_mark h z (owner_in r)) q ∙ mark_good h (few b e) (slot_in W r / 32) (slot_in W r % 32) (owner_in r) (omega arith) (omega arith)) z.2.marked))))
      (λ (y : (u ≡ owner_in r) × T (own_edge (slot_in W r) (owner_in r) (get_or W (key_in r) 0) (get_or M (slot_in W r) 0) chained v)).
      subst (λ y. T (by_reads chained y v)) (sym y.0) (own_out chained r v z.2 l y.1))
      (edge_out chained r u v l z.1)

  -- each kind of the model's edges is some read's
  module _ (chained : Bool) (u v : ℕ) (ul : u < 32) (vl : v < 32) where
    abbrev Some : Type 0
    Some = T (any (λ r. read_edge chained r u v) (reads_of h))

    good_back : (k : ℕ) → k < 32 → T (good_read h k v u) → Some
    good_back k l g =
        reads_in_lem b e v (k * 32 + u) (reads_small h v k u (good_reads_lem h k v u g)) (omega arith) (eq-T (sym (mark_good h (few b e) k u v l ul)) g) (λ r. read_edge chained r u v)
        (λ r p q kl y. edge_good chained r u v (omega arith) (omega arith) (sym p))

    start_back : (k : ℕ) → k < 32 → T (reads h u k start && (writes h v k && not (eqb v u))) → Some
    start_back k l x =
        let rd = and_l (reads h u k start) (writes h v k && not (eqb v u)) x in
        let rest = and_r (reads h u k start) (writes h v k && not (eqb v u)) x in
        reads_in_lem b e u (1024 + k) (reads_small h u k start rd) (omega arith) (eq-T (sym (mark_start h (few b e) k u l)) rd) (λ r. read_edge chained r u v)
        (λ r p q kl y.
        let n = y.at_start (omega arith) (omega arith) in
        let same : key_in r ≡ k = omega arith in
        edge_own chained r u v vl (sym p)
        (own_start (slot_in W r) (owner_in r) (get_or W (key_in r) 0) (get_or M (slot_in W r) 0) chained v (omega arith) (omega arith)
        (eq-T (sym (writer_bit h (few b e) (key_in r) v kl vl)) (subst (λ z. T (writes h v z)) (sym same) (and_l (writes h v k) (not (eqb v u)) rest)))
        (subst (λ z. T (not (eqb v z))) (sym p) (and_r (writes h v k) (not (eqb v u)) rest))))

    bad_back : T (eqb u v && bad_read h u) → Some
    bad_back x =
        let bad = and_r (eqb u v) (bad_read h u) x in
        let same : u ≡ v = eqb→eq u v (and_l (eqb u v) (bad_read h u) x) in
        reads_in_lem b e u 1056 (bad_low u bad) (omega arith) (eq-T (sym (mark_bad h (few b e) u)) bad) (λ r. read_edge chained r u v)
        (λ r p q kl y.
        edge_own chained r u v vl (sym p) (own_bad (slot_in W r) (owner_in r) (get_or W (key_in r) 0) (get_or M (slot_in W r) 0) chained v q (sym same ∙ sym p)))

    chain_back : T (chained && (ltb v (size h) && chain_edge h u v)) → Some
    unfolding chain_edge
    chain_back x =
        let c = and_l chained (ltb v (size h) && E) x in
        let x' = and_r chained (ltb v (size h) && E) x in
        let z = any_up_to_out (λ k. any (λ w. good_read h k u w && (eqb (successor h k w) v && not (eqb v u))) (up_to (size h))) 32 (and_r (ltb v (size h)) E x') in
        let k = z.0 in
        let kl = z.2 in
        let y = any_up_to_out (λ w. good_read h k u w && (eqb (successor h k w) v && not (eqb v u))) (size h) z.1 in
        let w = y.0 in
        let wl : w < 32 = omega (arith, y.2, few b e) in
        let g = and_l (good_read h k u w) (eqb (successor h k w) v && not (eqb v u)) y.1 in
        let s = and_r (good_read h k u w) (eqb (successor h k w) v && not (eqb v u)) y.1 in
        reads_in_lem b e u (k * 32 + w) (reads_small h u k w (good_reads_lem h k u w g)) (omega arith) (eq-T (sym (mark_good h (few b e) k w u kl wl)) g) (λ r. read_edge chained r u v)
        (λ r p q rl n.
        let same : key_in r ≡ k = sym (n.good (omega arith)) ∙ div k w wl in
        edge_own chained r u v vl (sym p)
        (own_chain (slot_in W r) (owner_in r) (get_or W (key_in r) 0) (get_or M (slot_in W r) 0) chained v (omega arith) c
        (eq-T (sym (ap₂ (λ i j. bit (bit_and (get_or M i 0) (get_or W j 0)) v && eqb v (count_trailing_zeros 32 (bit_and (get_or M i 0) (get_or W j 0)))) q same ∙ next_low h (few b e) k w v kl wl vl))
        (and_in (ltb v (size h)) (eqb (successor h k w) v) (and_l (ltb v (size h)) E x') (and_l (eqb (successor h k w) v) (not (eqb v u)) s)))
        (subst (λ z. T (not (eqb v z))) (sym p) (and_r (eqb (successor h k w) v) (not (eqb v u)) s))))
      where
        E : Bool
        E = any (λ k. any (λ w. good_read h k u w && (eqb (successor h k w) v && not (eqb v u))) (up_to (size h))) (up_to 32)

        div : (k w : ℕ) → w < 32 → (k * 32 + w) / 32 ≡ k
        div k w l = omega arith

    reads_back : T (by_reads chained u v) → Some
    unfolding by_reads start_read
    reads_back x =
        ⊎_elim (λ (y : T G'). let z = any_up_to_out (λ k. good_read h k v u) 32 y in good_back z.0 z.2 z.1)
        (λ y.
        ⊎_elim (λ (y : T S). let z = any_up_to_out (λ k. reads h u k start && (writes h v k && not (eqb v u))) 32 y in start_back z.0 z.2 z.1)
        (λ y. ⊎_elim bad_back chain_back (or_out B' C' y))
        (or_out S (B' || C') y))
        (or_out G' (S || (B' || C')) x)
      where
        G' : Bool
        G' = any (λ k. good_read h k v u) (up_to 32)

        S : Bool
        S = any (λ k. reads h u k start && (writes h v k && not (eqb v u))) (up_to 32)

        B' : Bool
        B' = eqb u v && bad_read h u

        C' : Bool
        C' = chained && (ltb v (size h) && chain_edge h u v)

  start_low : (u v : ℕ) → T (start_read h u v) → T (ltb u (size h)) × T (ltb v (size h))
  unfolding start_read
  start_low u v t =
      let z = any_up_to_out (λ k. reads h u k start && (writes h v k && not (eqb v u))) 32 t in
      let k = z.0 in
      let w = and_l (writes h v k) (not (eqb v u)) (and_r (reads h u k start) (writes h v k && not (eqb v u)) z.1) in
      (lt→ltb u (size h) (reads_small h u k start (and_l (reads h u k start) (writes h v k && not (eqb v u)) z.1)), lt→ltb v (size h) (writes_small h v k w))

  chain_low : (u v : ℕ) → T (chain_edge h u v) → T (ltb u (size h))
  unfolding chain_edge
  chain_low u v t =
      let z = any_up_to_out (λ k. any (λ w. good_read h k u w && (eqb (successor h k w) v && not (eqb v u))) (up_to (size h))) 32 t in
      let k = z.0 in
      let y = any_up_to_out (λ w. good_read h k u w && (eqb (successor h k w) v && not (eqb v u))) (size h) z.1 in
      let w = y.0 in
      lt→ltb u (size h) (reads_small h u k w (good_reads_lem h k u w (and_l (good_read h k u w) (eqb (successor h k w) v && not (eqb v u)) y.1)))

  -- with the edges of the cabinets, all that the model has
  all_edges : (enc u v : ℕ) → u < 32 → v < 32 → ((ltb v (size h) && next_of_cabinet h u v) || any (λ r. read_edge (eqb enc 2) r u v) (reads_of h)) ≡ edge h enc u v
  unfolding untimed_edge by_reads
  all_edges enc u v k l =
      ap (λ z. (ltb v (size h) && next_of_cabinet h u v) || z) (iff_eq (any (λ r. read_edge (eqb enc 2) r u v) (reads_of h)) (by_reads (eqb enc 2) u v) (reads_out (eqb enc 2) u v l) (reads_back (eqb enc 2) u v k l))
      ∙ go (ltb u (size h)) (ltb v (size h)) (next_of_cabinet h u v) (any (λ k. good_read h k v u) (up_to 32)) (start_read h u v) (eqb u v && bad_read h u) (eqb enc 2) (chain_edge h u v)
      (λ x y.
      let lo = ltb→lt v (size h) x in
      low u (omega (arith, (next_out b u v (omega (arith, history_size b)) y).0)))
      (λ x. let z = any_up_to_out (λ k. good_read h k v u) 32 x in
      (low u (writes_small h u z.0 (good_writes h z.0 v u z.1)), low v (reads_small h v z.0 u (good_reads_lem h z.0 v u z.1))))
      (λ x. start_low u v x)
      (λ x.
      let lo = bad_low u (and_r (eqb u v) (bad_read h u) x) in
      (low u lo, low v (subst (λ z. z < size h) (eqb→eq u v (and_l (eqb u v) (bad_read h u) x)) lo)))
      (λ x. chain_low u v x)
      ∙ sym (untimed_edges h (log_untimed b) enc u v)
    where
      low : (x : ℕ) → x < size h → T (ltb x (size h))
      low x m = lt→ltb x (size h) m

      go : (A L N G S B E C : Bool) → (T L → T N → T A) → (T G → T A × T L) → (T S → T A × T L) → (T B → T A × T L) → (T C → T A)
          → ((L && N) || (G || (S || (B || (E && (L && C)))))) ≡ (A && (L && (N || (G || (S || (B || (E && C)))))))
      go true true N G S B E C n g s d c = refl
      go A false N true S B E C n g s d c = absurd (g tt).1
      go A false N false true B E C n g s d c = absurd (s tt).1
      go A false N false false true E C n g s d c = absurd (d tt).1
      go true false N false false false true C n g s d c = refl
      go true false N false false false false C n g s d c = refl
      go false false N false false false true C n g s d c = refl
      go false false N false false false false C n g s d c = refl
      go false true true G S B E C n g s d c = absurd (n tt tt)
      go false true false true S B E C n g s d c = absurd (g tt).0
      go false true false false true B E C n g s d c = absurd (s tt).0
      go false true false false false true E C n g s d c = absurd (d tt).0
      go false true false false false false true true n g s d c = absurd (c tt)
      go false true false false false false true false n g s d c = refl
      go false true false false false false false C n g s d c = refl

  known_are : (enc : ℕ) → fold (read_step (eqb enc 2) W M) (cabinet_rows h) (reads_of h) ≡ rows h enc
  unfolding rows
  known_are enc =
      sets_end 32 (λ u v. (ltb v (size h) && next_of_cabinet h u v) || any (λ r. read_edge (eqb enc 2) r u v) (reads_of h)) (edge h enc) (fold (read_step (eqb enc 2) W M) (cabinet_rows h) (reads_of h))
      (sets_fold 32 (read_step (eqb enc 2) W M) (read_edge (eqb enc 2)) (λ u v. ltb v (size h) && next_of_cabinet h u v) (cabinet_rows h) (reads_of h)
      (All-imp (Marked b e) (Puts 32 (read_step (eqb enc 2) W M) (read_edge (eqb enc 2))) (edge_puts (eqb enc 2)) (reads_of h) (reads_marked b e)) (cabinet_sets b e))
      (all_edges enc)

  pub known_all : (enc : ℕ) (writers marks rs out : List ℕ) → DecodedTo b writers rs → marks ≡ M
      → out ≡ fold (read_step (eqb enc 2) writers marks) (cabinet_rows h) rs → out ≡ rows h enc
  known_all enc writers marks rs out d q p =
      p ∙ ap₂ (λ x y. fold (read_step (eqb enc 2) x y) (cabinet_rows h) rs) d.writers_are q ∙ ap (fold (read_step (eqb enc 2) W M) (cabinet_rows h)) d.reads_are ∙ known_are enc
