-- The reads of a log as numbers: each is found in the read table, and each mark of the table is some read's. Assumes nothing.
use Prim.Native.Nat.{ℕ, ◌≤◌, ◌<◌}
use native.Mathlib.Omega.{arith}
use mathlib.Core.Path.{◌≡◌, refl, sym, ap, ap₂, subst, ◌∙◌}
use mathlib.Core.Logic.{⊎_elim}
use mathlib.Core.Bool.{Bool, ◌&&◌}
use mathlib.Core.List.{List, map}
use lib.Dec.{T, eqb, ltb, eqb→eq, ltb→lt}
use lib.ListN.{get_or}
use Rattle.model.specs.Lists.{any, All, keep, each, up_to}
use Rattle.model.specs.History.{History, Operation, start, size, outward_of, is_read}
use Rattle.model.specs.Log.{load_number, history_of}
use Rattle.model.proofs.Basics.{or_out, and_l, and_r, and_in, eq-T, eq-eqb, any_out, members, All-two, All-keep-in, All-keep-out, All-each-in, All-each-out, All-map-in, All-map-out, up_to_in, up_to_out}
use Rattle.model.proofs.Loaded.{history_size}
use Rattle.polygraph.specs.Tables.{writers_of, packed_as, packed_read, key_in, owner_in, argument_in, reads_in, reads_of, read_mark, slot_by, slot_of, slot_in}
use Rattle.polygraph.proofs.ReadTable.{Fine, Names, slot_names, slot_lt, read_word}
use Rattle.polygraph.proofs.Filling.{few, out_fine}

-- ---- a number taken apart

module _ (t key argument : ℕ) (tl : t < 32) (kl : key < 32) (al : argument < 65536) where
  key_packed : key_in (packed_as t key argument) ≡ key
  unfolding key_in
  key_packed = omega arith

  owner_packed : owner_in (packed_as t key argument) ≡ t
  unfolding owner_in
  owner_packed = omega arith

  argument_packed : argument_in (packed_as t key argument) ≡ argument
  unfolding argument_in
  argument_packed = omega arith

  slot_packed : (writers : List ℕ) → slot_in writers (packed_as t key argument) ≡ slot_by (get_or writers key 0) t key argument
  unfolding slot_in
  slot_packed writers =
      ap₂ (λ x y. slot_by (get_or writers x 0) y x (argument_in (packed_as t key argument))) key_packed owner_packed
      ∙ ap (slot_by (get_or writers key 0) t key) argument_packed

-- a read names a transaction or the start, so its argument has 16 bits
fits : (n : ℕ) (o : Operation) → n ≤ 32 → Fine n o → T (is_read o) → o.argument < 65536
fits n o l f r =
    ⊎_elim (λ (x : T (ltb o.argument n)). omega (arith, ltb→lt o.argument n x)) (λ (x : T (eqb o.argument start)). omega (arith, eqb→eq o.argument start x))
    (or_out (ltb o.argument n) (eqb o.argument start) (f.names r))

module _ (b : List ℕ) (e : load_number b ≡ 0) where
  abbrev h : History
  h = history_of b

  abbrev W : List ℕ
  W = writers_of h

  -- what a read of the history is as a number
  record Unpacked (t : ℕ) (o : Operation) (r : ℕ) : Type 0 where
    owner : owner_in r ≡ t
    key : key_in r ≡ o.key
    slot : slot_in W r ≡ slot_of W t o

  unpacked : (t : ℕ) (o : Operation) → t < size h → Fine (size h) o → T (is_read o) → Unpacked t o (packed_read t o)
  unfolding packed_read
  unpacked t o l f r =
      let tl : t < 32 = omega (arith, few b e) in
      let al = fits (size h) o (few b e) f r in
      record {
        owner = owner_packed t o.key o.argument tl f.key_low al;
        key = key_packed t o.key o.argument tl f.key_low al;
        slot = slot_packed t o.key o.argument tl f.key_low al W;
      }

  -- a read by its number: who has it, its key, and its word in the read table, which has its mark
  pub record Marked (r : ℕ) : Type 0 where
    pub owner_low : owner_in r < size h
    pub key_low : key_in r < 32
    pub slot_low : slot_in W r < 1057
    pub names : Names (key_in r) (slot_in W r)
    pub marked : T (read_mark h (slot_in W r) (owner_in r))

  marked_read : (t : ℕ) → t < size h → (o : Operation) → Fine (size h) o → ((p : Operation → Bool) → T (p o) → T (any p (outward_of h t))) → T (is_read o) → Marked (packed_read t o)
  marked_read t l o f m r =
      let u = unpacked t o l f r in
      let w = get_or W o.key 0 in
      let low = slot_lt w t o.key o.argument f.key_low in
      record {
        owner_low = subst (λ x. x < size h) (sym u.owner) l;
        key_low = subst (λ x. x < 32) (sym u.key) f.key_low;
        slot_low = subst (λ x. x < 1057) (sym u.slot) low;
        names = subst (λ x. Names x (slot_in W (packed_read t o))) (sym u.key) (subst (Names o.key) (sym u.slot) (slot_names w t o.key o.argument f.key_low));
        marked =
            subst (λ x. T (read_mark h x (owner_in (packed_read t o)))) (sym u.slot)
            (subst (λ x. T (read_mark h (slot_of W t o) x)) (sym u.owner)
            (eq-T (read_word h (few b e) t (out_fine b e t (omega (arith, history_size b))) (slot_of W t o) low)
            (m (λ q. is_read q && eqb (slot_of W t q) (slot_of W t o)) (and_in (is_read o) (eqb (slot_of W t o) (slot_of W t o)) r (eq-eqb {m = slot_of W t o} refl)))));
      }

  pub reads_marked : All Marked (reads_of h)
  unfolding reads_of reads_in
  reads_marked =
      All-each-in Marked (λ t. map (packed_read t) (keep is_read (outward_of h t))) (up_to (size h))
      (up_to_in (λ t. All Marked (map (packed_read t) (keep is_read (outward_of h t)))) (size h)
      (λ t l.
      All-map-in Marked (packed_read t) (keep is_read (outward_of h t))
      (All-keep-in (λ o. Marked (packed_read t o)) is_read (outward_of h t)
      (All-two (Fine (size h)) (λ o. (p : Operation → Bool) → T (p o) → T (any p (outward_of h t))) (λ o. T (is_read o) → Marked (packed_read t o))
      (marked_read t l) (outward_of h t) (out_fine b e t (omega (arith, history_size b))) (members (outward_of h t))))))

  -- some read passes the test where the table has a mark whose reads all pass it
  reads_members : (t : ℕ) → t < size h → All (λ o. T (is_read o) → (p : ℕ → Bool) → T (p (packed_read t o)) → T (any p (reads_of h))) (outward_of h t)
  unfolding reads_of reads_in
  reads_members t l =
      All-keep-out (λ o. P (packed_read t o)) is_read (outward_of h t)
      (All-map-out P (packed_read t) (keep is_read (outward_of h t))
      (up_to_out (λ t. All P (map (packed_read t) (keep is_read (outward_of h t)))) (size h)
      (All-each-out P (λ t. map (packed_read t) (keep is_read (outward_of h t))) (up_to (size h)) (members (each (λ t. map (packed_read t) (keep is_read (outward_of h t))) (up_to (size h))))) t l))
    where
      P : ℕ → Type 0
      P r = (p : ℕ → Bool) → T (p r) → T (any p (each (λ t. map (packed_read t) (keep is_read (outward_of h t))) (up_to (size h))))

  pub reads_in_lem : (t i : ℕ) → t < size h → i < 1057 → T (read_mark h i t) → (p : ℕ → Bool) → ((r : ℕ) → owner_in r ≡ t → slot_in W r ≡ i → key_in r < 32 → Names (key_in r) i → T (p r)) → T (any p (reads_of h))
  reads_in_lem t i l k m p f =
      let z =
      any_out (λ o. is_read o && eqb (slot_of W t o) i) (λ o. T (is_read o) → T (eqb (slot_of W t o) i) → T (any p (reads_of h))) (outward_of h t)
      (eq-T (sym (read_word h (few b e) t own i k)) m)
      (All-two (Fine (size h)) (λ o. T (is_read o) → (p : ℕ → Bool) → T (p (packed_read t o)) → T (any p (reads_of h))) (λ o. T (is_read o) → T (eqb (slot_of W t o) i) → T (any p (reads_of h)))
      (λ o fi mem r q.
      let u = unpacked t o l fi r in
      let s : slot_in W (packed_read t o) ≡ i = u.slot ∙ eqb→eq (slot_of W t o) i q in
      mem r p
      (f (packed_read t o) u.owner s (subst (λ x. x < 32) (sym u.key) fi.key_low)
      (subst (λ x. Names x i) (sym u.key) (subst (Names o.key) (eqb→eq (slot_of W t o) i q) (slot_names (get_or W o.key 0) t o.key o.argument fi.key_low)))))
      (outward_of h t) own (reads_members t l)) in
      z.2 (and_l (is_read z.0) (eqb (slot_of W t z.0) i) z.1) (and_r (is_read z.0) (eqb (slot_of W t z.0) i) z.1)
    where
      own : All (Fine (size h)) (outward_of h t)
      own = out_fine b e t (omega (arith, history_size b))
