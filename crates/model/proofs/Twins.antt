-- Legality, the polygraph and the table look at a history only through its size, its cabinets, its writes, its operations without read-backs and what the
-- office clock orders: where two histories agree in these they are judged alike, as a history is without its read-backs. Constraints, reads and the table need
-- no clock. Assumes nothing.
use Prim.Native.Nat.{ℕ, zero, suc}
use mathlib.Core.Path.{◌≡◌, refl, sym, ap, fun_ext, ◌∙◌}
use mathlib.Core.Bool.{Bool, true, false, not, cond, ◌&&◌, ◌||◌}
use mathlib.Core.List.{List, [], ◌∷◌, map}
use lib.Dec.{eqb, ltb}
use lib.ListN.{length, get_or, set}
use Rattle.model.specs.Lists.{implies, all, any, keep, first_or, fold, each, up_to, word_of, up_to_element}
use Rattle.model.specs.History.{Transaction, History, start, size, no_transaction, without_read_backs, outward, cabinet_of, operations_of, is_read, is_write, outward_of, ends_before, must_precede, writes, reads, last_writer, explained, every_read_explained, is_order, before, keeps_precedence, legal, stored, replay}
use Rattle.model.specs.Polygraph.{Polygraph, good_read, next_of_cabinet, start_read, bad_read, successor, chain_edge, edge, rows, in_ends, only, plain_of, plain, between, joined, is_successor, is_head, tail_within, chained, constraints, passes, polygraph}
use Rattle.model.specs.Search.{first_legal}
use Rattle.model.proofs.First.{first_by_lem}
use Rattle.model.proofs.ReadBacks.{keep_out, out_out}

-- what legality, the polygraph and the table look at, the office clock aside
pub record Alike (g h : History) : Type 0 where
  pub sizes : size g ≡ size h
  pub cabinets : (t : ℕ) → cabinet_of g t ≡ cabinet_of h t
  pub stores : (t : ℕ) → keep is_write (operations_of g t) ≡ keep is_write (operations_of h t)
  pub outs : (t : ℕ) → outward_of g t ≡ outward_of h t

any_keep : {A : Type 0} (p q : A → Bool) (xs : List A) → any (λ x. p x && q x) xs ≡ any q (keep p xs)
any_keep p q [] = refl
any_keep p q (x ∷ xs) = go (p x) (any_keep p q xs)
  where
    go : (b : Bool) → any (λ x. p x && q x) xs ≡ any q (keep p xs) → ((b && q x) || any (λ x. p x && q x) xs) ≡ any q (cond b (x ∷ keep p xs) (keep p xs))
    go true e = ap (λ r. q x || r) e
    go false e = e

-- ---- alike histories are judged alike

module _ (g h : History) (a : Alike g h) where
  writes_same : writes g ≡ writes h
  unfolding writes
  writes_same =
      fun_ext (λ t. fun_ext (λ k.
      any_keep is_write (λ o. eqb o.key k) (operations_of g t) ∙ ap (any (λ o. eqb o.key k)) (a.stores t)
      ∙ sym (any_keep is_write (λ o. eqb o.key k) (operations_of h t))))

  reads_same : reads g ≡ reads h
  unfolding reads
  reads_same = λ i t k u. any (λ o. is_read o && (eqb o.key k && eqb o.argument u)) (a.outs t i)

  pub goods_same : good_read g ≡ good_read h
  unfolding good_read
  goods_same = λ i k t u. reads_same i t k u && (writes_same i u k && not (eqb u t))

  pub nexts_same : next_of_cabinet g ≡ next_of_cabinet h
  unfolding next_of_cabinet
  nexts_same = λ i u v.
      (ltb u v && eqb (a.cabinets u i) (a.cabinets v i)) && all (λ w. not (ltb u w && (ltb w v && eqb (a.cabinets u i) (a.cabinets w i)))) (up_to (a.sizes i))

  pub starts_same : start_read g ≡ start_read h
  unfolding start_read
  starts_same = λ i t v. any (λ k. reads_same i t k start && (writes_same i v k && not (eqb v t))) (up_to 32)

  pub bads_same : bad_read g ≡ bad_read h
  unfolding bad_read
  bads_same = λ i t. any (λ r. is_read r && (not (eqb r.argument start) && not (goods_same i r.key t r.argument))) (a.outs t i)

  successors_same : successor g ≡ successor h
  unfolding successor
  successors_same = λ i k u. first_or (a.sizes i) (λ v. not (eqb v u) && (writes_same i v k && goods_same i k v u)) (up_to (a.sizes i))

  pub links_same : chain_edge g ≡ chain_edge h
  unfolding chain_edge
  links_same = λ i t v.
      any (λ k. any (λ u. goods_same i k t u && (eqb (successors_same i k u) v && not (eqb v t))) (up_to (a.sizes i))) (up_to 32)

  plains_same : plain_of g ≡ plain_of h
  unfolding plain_of
  plains_same = λ i t r.
      cond (is_read r && goods_same i r.key t r.argument)
      (map (λ v. record { fromA = only t; toA = v; fromB = only v; toB = r.argument })
      (keep (λ v. writes_same i v r.key && (not (eqb v r.argument) && not (eqb v t))) (up_to (a.sizes i))))
      []

  plain_same : plain g ≡ plain h
  unfolding plain
  plain_same = λ i. each (λ t. each (plains_same i t) (a.outs t i)) (up_to (a.sizes i))

  ends_same : in_ends g ≡ in_ends h
  unfolding in_ends
  ends_same = λ i k w x s.
      cond (any (λ r. goods_same i k r w && not (eqb r x)) (up_to (a.sizes i))) (goods_same i k s w && not (eqb s x)) (eqb s w)

  between_same : between g ≡ between h
  unfolding between
  between_same = λ i k first last.
      each
      (λ x. map (λ y. record { fromA = word_of 32 (ends_same i k (last x) y); toA = y; fromB = word_of 32 (ends_same i k (last y) x); toB = x })
      (keep (λ y. ltb x y && first y) (up_to (a.sizes i))))
      (keep first (up_to (a.sizes i)))

  joined_same : joined g ≡ joined h
  unfolding joined
  joined_same = λ i. each (λ k. between_same i k (λ w. writes_same i w k) (λ w. w)) (up_to 32)

  heads_same : is_head g ≡ is_head h
  unfolding is_head is_successor
  heads_same = λ i k x. writes_same i x k && not (any (λ u. writes_same i u k && eqb (successors_same i k u) x) (up_to (a.sizes i)))

  tails_same : (k n u : ℕ) → tail_within g k n u ≡ tail_within h k n u
  unfolding tail_within
  tails_same k zero u = refl
  tails_same k (suc n) u =
      ap (λ s. cond (ltb s (size g)) (tail_within g k n s) u) (λ i. successors_same i k u)
      ∙ ap (λ z. cond (ltb (successor h k u) z) (tail_within g k n (successor h k u)) u) a.sizes
      ∙ ap (λ r. cond (ltb (successor h k u) (size h)) r u) (tails_same k n (successor h k u))

  chained_same : chained g ≡ chained h
  unfolding chained
  chained_same =
      (λ i. each (λ k. between_same i k (heads_same i k) (λ u. tail_within g k (a.sizes i) u)) (up_to 32))
      ∙ (λ i. each (λ k. between h k (is_head h k) (λ u. tails_same k (size h) u i)) (up_to 32))

  pub constraints_same : constraints g ≡ constraints h
  unfolding constraints
  constraints_same = λ i e. cond (eqb e 0) (plain_same i) (cond (eqb e 1) (joined_same i) (chained_same i))

  writers_same : (k d : ℕ) (xs : List ℕ) → last_writer g k d xs ≡ last_writer h k d xs
  unfolding last_writer
  writers_same k d [] = refl
  writers_same k d (x ∷ xs) = ap (λ w. last_writer g k (cond w x d) xs) (λ i. writes_same i x k) ∙ writers_same k (cond (writes h x k) x d) xs

  -- the same explained reads
  pub explained_same : every_read_explained g ≡ every_read_explained h
  unfolding every_read_explained explained
  explained_same = λ i o.
      all (λ t. all (λ r. implies (is_read r) (eqb (writers_same r.key start (up_to_element t o) i) r.argument)) (a.outs t i)) (up_to (a.sizes i))

  -- the same table
  pub table_same : (table o : List ℕ) → replay g table o ≡ replay h table o
  unfolding replay stored
  table_same table o = λ i. fold (λ tb t. fold (λ tb x. set tb x.key x.argument) tb (a.stores t i)) table o

-- ---- and with the office clock

module _ (g h : History) (a : Alike g h) (c : ends_before g ≡ ends_before h) where
  edges_same : edge g ≡ edge h
  unfolding edge
  edges_same = λ i e u v.
      ltb u (a.sizes i) && (ltb v (a.sizes i)
      && ((nexts_same g h a i u v || c i u v) || (any (λ k. goods_same g h a i k v u) (up_to 32) || (starts_same g h a i u v || ((eqb u v && bads_same g h a i u)
      || (eqb e 2 && links_same g h a i u v))))))

  pub rows_same : rows g ≡ rows h
  unfolding rows
  rows_same = λ i e. map (λ u. word_of 32 (edges_same i e u)) (up_to 32)

  -- the same polygraph in every setting
  pub polygraph_same : polygraph g ≡ polygraph h
  unfolding polygraph
  polygraph_same = λ i e pruning.
      let start : Polygraph = record { known = rows_same i e; choices = constraints_same g h a i e } in
      let q = passes (length (constraints_same g h a i e)) start in
      cond (eqb pruning 1) q start

  must_same : must_precede g ≡ must_precede h
  must_same = λ i u v. (ltb u v && eqb (a.cabinets u i) (a.cabinets v i)) || c i u v

  -- the same legal orders
  pub legal_same : legal g ≡ legal h
  unfolding legal keeps_precedence
  legal_same = λ i o.
      is_order (a.sizes i) o
      && (all (λ u. all (λ v. implies (must_same i u v) (before o u v)) (up_to (a.sizes i))) (up_to (a.sizes i)) && explained_same g h a i o)

  pub first_same : first_legal g ≡ first_legal h
  first_same = first_by_lem g h a.sizes legal_same

-- ---- without the read-backs

abbrev bare : Transaction → Transaction
bare x = record { cabinet = x.cabinet; operations = outward x.operations; begin = x.begin; until = x.until }

bare_at : (h : History) (t : ℕ) → get_or (without_read_backs h) t no_transaction ≡ bare (get_or h t no_transaction)
unfolding without_read_backs outward
bare_at [] t = refl
bare_at (x ∷ h) zero = refl
bare_at (x ∷ h) (suc t) = bare_at h t

bare_size : (h : History) → size (without_read_backs h) ≡ size h
unfolding without_read_backs
bare_size [] = refl
bare_size (x ∷ h) = ap suc (bare_size h)

pub bare_alike : (h : History) → Alike (without_read_backs h) h
unfolding outward
bare_alike h =
    record {
      sizes = bare_size h;
      cabinets = λ t. ap (λ (x : Transaction). x.cabinet) (bare_at h t);
      stores = λ t. ap (λ (x : Transaction). keep is_write x.operations) (bare_at h t) ∙ keep_out [] (operations_of h t);
      outs = λ t. ap (λ (x : Transaction). outward x.operations) (bare_at h t) ∙ out_out [] [] (operations_of h t) (λ k. refl);
    }

pub bare_clock : (h : History) → ends_before (without_read_backs h) ≡ ends_before h
bare_clock h = fun_ext (λ u. fun_ext (λ v. rw (ap (λ (x : Transaction). x.until) (bare_at h u), ap (λ (x : Transaction). x.begin) (bare_at h v))))
