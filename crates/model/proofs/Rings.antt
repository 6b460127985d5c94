-- Chains and rings: the successor is the lowest candidate, a chain runs from its head to its tail by links, its tail has no successor,
-- and links in a ring have no head and give no chain. Assumes nothing.
use Prim.Native.Nat.{ℕ, zero, suc, ◌≤◌, ◌<◌}
use native.Mathlib.Omega.{arith}
use mathlib.Core.Path.{◌≡◌, refl, sym, ap, subst, ◌∙◌}
use mathlib.Core.Logic.{◌⊎◌, inl, inr, ⊎_elim, ◌≢◌}
use mathlib.Core.Bool.{Bool, true, false, not, cond, ◌&&◌}
use mathlib.Core.List.{List, [], ◌∷◌, ◌++◌}
use lib.Dec.{T, eqb, ltb, ltb→lt}
use Rattle.model.specs.Lists.{first_or, up_to}
use Rattle.model.specs.History.{History, size, well_formed, writes}
use Rattle.model.specs.Polygraph.{good_read, successor, Linked, is_head, tail_within}
use Rattle.model.proofs.Basics.{and_in, ne_eqb, same?, true_eq}
use Rattle.model.proofs.Legal.{writes_small}
use Rattle.model.proofs.Central.{key2, head_free}
use Rattle.model.proofs.Tails.{successor_inj}

-- ---- the lowest candidate

first_more : (d : ℕ) (p : ℕ → Bool) (xs ys : List ℕ) → first_or d p (xs ++ ys) ≡ first_or (first_or d p ys) p xs
first_more d p [] ys = refl
first_more d p (x ∷ xs) ys = ap (λ r. cond (p x) x r) (first_more d p xs ys)

first_most : (p : ℕ → Bool) (d n b : ℕ) → d ≤ b → n ≤ suc b → first_or d p (up_to n) ≤ b
first_most p d zero b l k = l
first_most p d (suc n) b l k =
    subst (λ x. x ≤ b) (sym (first_more d p (up_to n) (n ∷ []))) (first_most p (cond (p n) n d) n b (go (p n)) (omega arith))
  where
    go : (c : Bool) → cond c n d ≤ b
    go true = omega arith
    go false = l

-- the first of the numbers below n that pass the test is at most any that passes it
first_least : (p : ℕ → Bool) (d n v : ℕ) → v < n → T (p v) → first_or d p (up_to n) ≤ v
first_least p d zero v l t = absurd (omega arith)
first_least p d (suc n) v l t =
    subst (λ x. x ≤ v) (sym (first_more d p (up_to n) (n ∷ [])))
    (⊎_elim (λ (e : v ≡ n). first_most p (cond (p n) n d) n v (subst (λ x. cond x n d ≤ v) (sym (true_eq (p n) (subst (λ x. T (p x)) e t))) (omega arith)) (omega arith))
    (λ (e : v ≢ n). first_least p (cond (p n) n d) n v (omega arith) t) (same? v n))

module _ (h : History) (k : ℕ) where
  -- the successor of u is the lowest-numbered transaction other than u that writes the key and has a good read of it from u
  pub successor_lowest : (u v : ℕ) → v ≢ u → T (writes h v k) → T (good_read h k v u) → successor h k u ≤ v
  unfolding successor
  successor_lowest u v f w g =
      first_least (λ v. not (eqb v u) && (writes h v k && good_read h k v u)) (size h) (size h) v (writes_small h v k w)
      (and_in (not (eqb v u)) (writes h v k && good_read h k v u) (ne_eqb f) (and_in (writes h v k) (good_read h k v u) w g))

  pub successor_candidate : (u : ℕ) → successor h k u < size h
      → (successor h k u ≢ u) × T (writes h (successor h k u) k) × T (good_read h k (successor h k u) u)
  successor_candidate u l =
      let g = (key2 h k).succ_reads u l in ((λ e. (key2 h k).good_other (successor h k u) u g (sym e)), (key2 h k).succ_writer u l, g)

  -- ---- links

  -- a link in front
  link_front : (u v w : ℕ) → successor h k u ≡ v → v < size h → Linked h k v w → Linked h k u w
  link_front u v w e l (Linked.link e' l') = Linked.more (Linked.link e l) e' l'
  link_front u v w e l (Linked.more {v = x} p e' l') = Linked.more (link_front u v x e l p) e' l'

  -- the last link
  link_last : (u w : ℕ) → Linked h k u w → (v : ℕ) × (successor h k v ≡ w) × (w < size h) × ((u ≡ v) ⊎ Linked h k u v)
  link_last u w (Linked.link e l) = (u, e, l, inl refl)
  link_last u w (Linked.more {v = x} p e l) = (x, e, l, inr p)

  -- each write of a ring has one before it in the ring
  ring_before : (w : ℕ) → Linked h k w w → (v : ℕ) × (successor h k v ≡ w) × (w < size h) × Linked h k v v
  ring_before w r =
      let z = link_last w w r in
      let v = z.0 in (
        v,
        z.1,
        z.2,
        ⊎_elim (λ (e : w ≡ v). subst (λ x. Linked h k x x) e r) (λ p. link_front v w v z.1 z.2 p) z.3,
      )

  -- a chain runs from its head to its tail by links
  pub tail_linked : (n g : ℕ) → (tail_within h k n g ≡ g) ⊎ Linked h k g (tail_within h k n g)
  unfolding tail_within
  tail_linked zero g = inl refl
  tail_linked (suc n) g = go (ltb s (size h)) (λ t. ltb→lt s (size h) t) (tail_linked n s)
    where
      s : ℕ
      s = successor h k g

      go : (b : Bool) → (T b → s < size h) → (tail_within h k n s ≡ s) ⊎ Linked h k s (tail_within h k n s)
          → (cond b (tail_within h k n s) g ≡ g) ⊎ Linked h k g (cond b (tail_within h k n s) g)
      go true f (inl e) = inr (subst (λ x. Linked h k g x) (sym e) (Linked.link refl (f tt)))
      go true f (inr p) = inr (link_front g s (tail_within h k n s) refl (f tt) p)
      go false f r = inl refl

  -- links in a ring have no head
  pub ring_no_head : (g : ℕ) → Linked h k g g → T (is_head h k g) → ⊥
  ring_no_head g r t =
      let z = link_last g g r in head_free h k g t z.0 (subst (λ x. x < size h) (sym z.1) z.2) z.1

  -- and no chain comes to a ring
  pub ring_no_chain : T (well_formed h) → (g w : ℕ) → T (is_head h k g) → Linked h k g w → Linked h k w w → ⊥
  ring_no_chain ok g w t (Linked.link e l) r =
      let z = ring_before w r in
      let same = successor_inj h ok k g z.0 (subst (λ x. x < size h) (sym e) l) (e ∙ sym z.1) in
      ring_no_head g (subst (λ x. Linked h k x x) (sym same) z.3) t
  ring_no_chain ok g w t (Linked.more {v = x} p e l) r =
      let z = ring_before w r in
      let same = successor_inj h ok k x z.0 (subst (λ y. y < size h) (sym e) l) (e ∙ sym z.1) in
      ring_no_chain ok g x t p (subst (λ y. Linked h k y y) (sym same) z.3)
