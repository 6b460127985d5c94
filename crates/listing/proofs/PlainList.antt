-- The constraints of the candidates of encoding 0 are the model's. Assumes nothing.
use Prim.Native.Nat.{ℕ, ◌+◌, ◌*◌, ◌/◌, ◌%◌, ◌^◌, ◌≤◌, ◌<◌}
use native.Mathlib.Omega.{arith}
use mathlib.Core.Path.{◌≡◌, refl, sym, ap, ap₂, subst, ◌∙◌}
use mathlib.Core.Logic.{◌⊎◌, ⊎_elim}
use mathlib.Core.Bool.{Bool, true, false, not, cond, ◌&&◌}
use mathlib.Core.List.{List, [], map}
use lib.Dec.{T, eqb, ltb, ltb→lt, lt→ltb}
use lib.Pow.{pow-lt}
use lib.ListN.{get_or}
use Rattle.model.specs.Lists.{keep, each, up_to, bit, All}
use Rattle.model.specs.declared.Constraint.{Constraint}
use Rattle.model.specs.History.{History, Operation, size, outward_of, is_read, writes, reads}
use Rattle.model.specs.Polygraph.{good_read, only, plain_of, plain}
use Rattle.model.specs.Log.{transactions_in, operations_in, count_at, start_at, load_number, history_of}
use Rattle.model.proofs.Basics.{false_eq, eqb_ne, eq-T, iff_eq, not_intro, and_l, and_r, and_in, All-keep-in, All-map-out, up_to_in, up_to_out}
use Rattle.model.proofs.Legal.{writes_small}
use Rattle.model.proofs.Masks.{bit_none, only_shift}
use Rattle.model.proofs.Loaded.{Loaded, loaded, history_size, operation_of, operations_at, body_good, keys_good, within}
use Rattle.model.proofs.ReadBacks.{reads_or_own, plain_all}
use Rattle.graph.specs.Masks.{without}
use Rattle.graph.specs.Members.{members}
use Rattle.graph.proofs.WordLaws.{bit_without}
use Rattle.graph.proofs.MemberLaws.{members_are, keep_none}
use Rattle.polygraph.specs.Tables.{writers_of}
use Rattle.polygraph.proofs.RowWords.{writer_bit}
use Rattle.listing.specs.Candidates.{row_of, right_of, plain_item, pair_item, chain_item, choose, item_by}
use Rattle.listing.specs.Choosing.{in_row}
use Rattle.listing.specs.Plain.{plain_mask, mask_of, body_numbers, plain_numbers_of, plain_numbers, PlainTable}
use Rattle.listing.proofs.Sequences.{map_map, map_all, map_each, each_all, each_map, keep_cut}

con_is : (c t v d a ot ov : ℕ) → c ≡ t → d ≡ a → 2 ^ t ≡ ot → 2 ^ v ≡ ov
    → ◌≡◌ {A = Constraint} (record { fromA = 2 ^ c; toA = v; fromB = 2 ^ v; toB = d }) (record { fromA = ot; toA = v; fromB = ov; toB = a })
con_is c t v d a ot ov p q r s =
    ap₂ {C = Constraint} (λ x y. record { fromA = 2 ^ x; toA = v; fromB = 2 ^ v; toB = y }) p q
    ∙ ap₂ {C = Constraint} (λ x y. record { fromA = x; toA = v; fromB = y; toB = a }) r s

module _ (b : List ℕ) (e : load_number b ≡ 0) (w : List ℕ) (p : PlainTable b (operations_in b) w) (zeroth : get_or w 1024 0 ≡ 0) where
  abbrev h : History
  h = history_of b

  abbrev ok : Loaded b
  ok = loaded b e

  few : size h ≤ 32
  few = omega (arith, history_size b, ok.few)

  item_at : (i v : ℕ) → i < 1024 → v < 32 → item_by w (i * 32 + v) ≡ record { fromA = 2 ^ (get_or w i 0 % 32); toA = v; fromB = 2 ^ v; toB = get_or w i 0 / 32 % 32 }
  unfolding item_by plain_item
  item_at i v l m =
      let q : row_of (i * 32 + v) ≡ i = omega arith in
      let r : right_of (i * 32 + v) ≡ v = omega arith in
      ap (λ x. choose (eqb x 2) (chain_item w (i * 32 + v)) (choose (eqb x 0) (plain_item w (i * 32 + v)) (pair_item w (i * 32 + v)))) zeroth
      ∙ ap₂ {C = Constraint} (λ x y. record { fromA = 2 ^ (get_or w x 0 % 32); toA = y; fromB = 2 ^ y; toB = get_or w x 0 / 32 % 32 }) q r

  -- ---- a body

  module _ (t m : ℕ) (tl : t < transactions_in b) (ml : m < count_at b t) where
    abbrev r : Operation
    r = operation_of b t m

    abbrev i : ℕ
    i = start_at b t + m

    il : i < 1024
    il = omega (arith, within b ok t tl, ok.many)

    t32 : t < 32
    t32 = omega (arith, ok.few)

    key32 : r.key < 32
    key32 = omega (arith, (body_good b ok t m tl ml).key)

    word_is : get_or w i 0 ≡ t + 32 * (r.argument % 32)
    word_is = p.done t m tl ml (omega (arith, within b ok t tl))

    -- a read looks at earlier transactions, or is a read-back, which names t
    own : (T (is_read r) → T (reads h t r.key r.argument)) ⊎ (r.argument ≡ t)
    own =
        up_to_out (λ j. Own (operation_of b t j)) (count_at b t)
        (All-map-out Own (operation_of b t) (up_to (count_at b t)) (subst (All Own) (operations_at b t tl) (reads_or_own h t (keys_good b e t tl)))) m ml
      where
        Own : Operation → Type 0
        Own o = (T (is_read o) → T (reads h t o.key o.argument)) ⊎ (o.argument ≡ t)

    abbrev a : ℕ
    a = r.argument

    abbrev W : ℕ
    W = get_or (writers_of h) r.key 0

    abbrev G : Bool
    G = is_read r && good_read h r.key t a

    abbrev C : ℕ → Bool
    C v = writes h v r.key && (not (eqb v a) && not (eqb v t))

    good_is : (eqb r.kind 0 && (ltb a 32 && (not (eqb a t) && bit W a))) ≡ G
    unfolding good_read
    good_is =
        iff_eq (eqb r.kind 0 && (ltb a 32 && (not (eqb a t) && bit W a))) G
        (λ x.
        let rd = and_l (is_read r) (ltb a 32 && (not (eqb a t) && bit W a)) x in
        let y = and_r (is_read r) (ltb a 32 && (not (eqb a t) && bit W a)) x in
        let al = ltb→lt a 32 (and_l (ltb a 32) (not (eqb a t) && bit W a) y) in
        let z = and_r (ltb a 32) (not (eqb a t) && bit W a) y in
        let found : T (reads h t r.key a) = ⊎_elim (λ f. f rd) (λ (q : a ≡ t). absurd (eqb_ne (and_l (not (eqb a t)) (bit W a) z) q)) own in
        and_in (is_read r) (good_read h r.key t a) rd
        (and_in (reads h t r.key a) (writes h a r.key && not (eqb a t)) found
        (and_in (writes h a r.key) (not (eqb a t)) (eq-T (writer_bit h few r.key a key32 al) (and_r (not (eqb a t)) (bit W a) z)) (and_l (not (eqb a t)) (bit W a) z))))
        (λ x.
        let rd = and_l (is_read r) (good_read h r.key t a) x in
        let y = and_r (reads h t r.key a) (writes h a r.key && not (eqb a t)) (and_r (is_read r) (good_read h r.key t a) x) in
        let wr = and_l (writes h a r.key) (not (eqb a t)) y in
        let al : a < 32 = omega (arith, writes_small h a r.key wr, few) in
        and_in (is_read r) (ltb a 32 && (not (eqb a t) && bit W a)) rd
        (and_in (ltb a 32) (not (eqb a t) && bit W a) (lt→ltb a 32 al)
        (and_in (not (eqb a t)) (bit W a) (and_r (writes h a r.key) (not (eqb a t)) y) (eq-T (sym (writer_bit h few r.key a key32 al)) wr))))

    good_low : T G → a < 32
    good_low x =
        let y = eq-T (sym good_is) x in
        ltb→lt a 32 (and_l (ltb a 32) (not (eqb a t) && bit W a) (and_r (is_read r) (ltb a 32 && (not (eqb a t) && bit W a)) y))

    mask_bit : (v : ℕ) → v < 32 → bit (mask_of (writers_of h) t r) v ≡ (G && C v)
    unfolding plain_mask
    mask_bit v l = ap (λ g. bit (cond g (without (without W a) t) 0) v) good_is ∙ go G
      where
        go : (g : Bool) → bit (cond g (without (without W a) t) 0) v ≡ (g && C v)
        go true =
            bit_without (without W a) t v ∙ ap (λ x. x && not (eqb v t)) (bit_without W a v ∙ ap (λ x. x && not (eqb v a)) (writer_bit h few r.key v key32 l))
            ∙ assoc (writes h v r.key) (not (eqb v a)) (not (eqb v t))
          where
            assoc : (x y z : Bool) → ((x && y) && z) ≡ (x && (y && z))
            assoc true y z = refl
            assoc false y z = refl
        go false = bit_none v

    abbrev J : ℕ → Constraint
    J v = record { fromA = only t; toA = v; fromB = only v; toB = a }

    by_low : get_or w i 0 % 32 ≡ t
    by_low = omega (arith, word_is, t32)

    names_low : a < 32 → get_or w i 0 / 32 % 32 ≡ a
    names_low l = omega (arith, word_is, t32)

    item_body : (v : ℕ) → v < 32 → T G → item_by w (i * 32 + v) ≡ J v
    item_body v l g =
        item_at i v il l ∙ con_is (get_or w i 0 % 32) t v (get_or w i 0 / 32 % 32) a (only t) (only v) by_low (names_low (good_low g)) (sym (only_shift t t32 (pow-lt t32))) (sym (only_shift v l (pow-lt l)))

    body_is : map (item_by w) (body_numbers b (writers_of h) t m) ≡ plain_of h t r
    unfolding body_numbers in_row plain_of
    body_is =
        map_map (item_by w) (λ v. i * 32 + v) (members (mask_of (writers_of h) t r))
        ∙ ap (map (λ v. item_by w (i * 32 + v))) (members_are (mask_of (writers_of h) t r) (λ v. G && C v) mask_bit)
        ∙ go G (λ x. x)
      where
        go : (g : Bool) → (T g → T G) → map (λ v. item_by w (i * 32 + v)) (keep (λ v. g && C v) (up_to 32)) ≡ cond g (map J (keep C (up_to (size h)))) []
        go true f =
            map_all (λ v. item_by w (i * 32 + v)) J (keep C (up_to 32))
            (All-keep-in (λ v. item_by w (i * 32 + v) ≡ J v) C (up_to 32) (up_to_in (λ v. T (C v) → item_by w (i * 32 + v) ≡ J v) 32 (λ v l s. item_body v l (f tt))))
            ∙ ap (map J) (keep_cut C (size h) 32 few (λ v l. false_eq (C v) (not_intro (C v) (λ s. omega (arith, writes_small h v r.key (and_l (writes h v r.key) (not (eqb v a) && not (eqb v t)) s))))))
        go false f = ap (map (λ v. item_by w (i * 32 + v))) (keep_none (λ v. false) 32 (λ v l. refl))

  -- ---- the bodies of a transaction, and all

  transaction_is : (t : ℕ) → t < transactions_in b → map (item_by w) (plain_numbers_of b (writers_of h) t (count_at b t)) ≡ each (plain_of h t) (outward_of h t)
  unfolding plain_numbers_of
  transaction_is t l =
      map_each (item_by w) (body_numbers b (writers_of h) t) (up_to (count_at b t))
      ∙ each_all (λ m. map (item_by w) (body_numbers b (writers_of h) t m)) (λ m. plain_of h t (operation_of b t m)) (up_to (count_at b t))
      (up_to_in (λ m. map (item_by w) (body_numbers b (writers_of h) t m) ≡ plain_of h t (operation_of b t m)) (count_at b t) (λ m k. body_is t m l k))
      ∙ sym (each_map (plain_of h t) (operation_of b t) (up_to (count_at b t)))
      ∙ ap (each (plain_of h t)) (sym (operations_at b t l))
      ∙ sym (plain_all h t (keys_good b e t l))

  pub chosen_plain : map (item_by w) (plain_numbers b (writers_of (history_of b)) (transactions_in b)) ≡ plain (history_of b)
  unfolding plain_numbers plain
  chosen_plain =
      map_each (item_by w) (λ s. plain_numbers_of b (writers_of h) s (count_at b s)) (up_to (transactions_in b))
      ∙ each_all (λ s. map (item_by w) (plain_numbers_of b (writers_of h) s (count_at b s))) (λ t. each (plain_of h t) (outward_of h t)) (up_to (transactions_in b))
      (up_to_in (λ t. map (item_by w) (plain_numbers_of b (writers_of h) t (count_at b t)) ≡ each (plain_of h t) (outward_of h t)) (transactions_in b) transaction_is)
      ∙ ap (λ n. each (λ t. each (plain_of h t) (outward_of h t)) (up_to n)) (sym (history_size b))
