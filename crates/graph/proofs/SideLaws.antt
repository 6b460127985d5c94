-- A side that is there already. Assumes nothing.
--     side_start, side_next, side_missing, side_end      a loop through the sources, lowest first, that looks for each edge
--     held_same        a side that the closed words have changes none of them
use Rattle.std.proofs.Common.{◌≡◌, ℕ, ◌^◌, ◌<◌, Bool, true, false, cond, ◌&&◌, T, ◌⊎◌, List, [], ◌∷◌, sym, refl, ap, ◌∙◌, subst, inl, inr, ⊎_elim}
use Rattle.model.specs.Lists.{all, implies, keep, up_to, bit}
use Rattle.model.specs.Polygraph.{has, with_side, reach, Way}
use Rattle.model.specs.RowWords.{Tidy, side_in}
use Rattle.model.proofs.Basics.{iff_eq, implies_out, all_up_to_out}
use Rattle.model.proofs.Closed.{side_way, way_side}
use Rattle.model.proofs.Reach.{way_join, way_reach, reach_way}
use Rattle.graph.specs.Members.{members}
use Rattle.graph.proofs.Rows.{rows_ext, reach_length, reach_small, side_tidy, bit_below}

-- ---- the loop

every_kept : {A : Type 0} (p t : A → Bool) (xs : List A) → all t (keep p xs) ≡ all (λ x. implies (p x) (t x)) xs
every_kept p t [] = refl
every_kept p t (x ∷ xs) = go (p x) (every_kept p t xs)
  where
    go : (b : Bool) → all t (keep p xs) ≡ all (λ x. implies (p x) (t x)) xs → all t (cond b (x ∷ keep p xs) (keep p xs)) ≡ (implies b (t x) && all (λ x. implies (p x) (t x)) xs)
    go true e = ap (λ (b : Bool). t x && b) e
    go false e = e

module _ (d : List ℕ) (to : ℕ) where
  -- whether there is an edge from each of the sources that are left
  unfoldable pub sources_in : ℕ → Bool
  sources_in m = all (λ s. has d s to) (members m)

  pub side_start : (from : ℕ) → side_in d from to ≡ sources_in from
  unfolding side_in sources_in members
  side_start from = sym (every_kept (bit from) (λ s. has d s to) (up_to 32))

  module _ (m s r : ℕ) (is : members m ≡ s ∷ members r) where
    next : sources_in m ≡ (has d s to && sources_in r)
    unfolding sources_in
    next = ap (all (λ s. has d s to)) is

    pub side_next : has d s to ≡ true → sources_in m ≡ sources_in r
    side_next e = next ∙ ap (λ (b : Bool). b && sources_in r) e

    pub side_missing : has d s to ≡ false → sources_in m ≡ false
    side_missing e = next ∙ ap (λ (b : Bool). b && sources_in r) e

  pub side_end : (m : ℕ) → members m ≡ [] → sources_in m ≡ true
  unfolding sources_in
  side_end m e = ap (all (λ s. has d s to)) e

-- ---- nothing new

module _ (g : List ℕ) (from to : ℕ) (ti : Tidy g) (lf : from < 2 ^ 32) (ht : to < 32) (held : T (side_in (reach g) from to)) where
  -- there is a path from each source to the target
  source_way : (s : ℕ) → T (bit from s) → Way g s to
  unfolding side_in
  source_way s t =
      reach_way g s to (implies_out (bit from s) (has (reach g) s to) (all_up_to_out (λ s. implies (bit from s) (has (reach g) s to)) 32 held s (bit_below from s lf t)) t)

  old : (u v : ℕ) → Way (with_side g from to) u v → Way g u v
  old u v p = ⊎_elim (λ q. q) (λ q. leave q.1 (⊎_elim (λ b. source_way u b) (λ x. way_join g u x.0 to x.2 (source_way x.0 x.1)) q.0)) (side_way g from to u v p)
    where
      leave : (v ≡ to) ⊎ Way g to v → Way g u to → Way g u v
      leave (inl e) q = subst (Way g u) (sym e) q
      leave (inr y) q = way_join g u to v q y

  pub held_same : reach (with_side g from to) ≡ reach g
  held_same =
      rows_ext (reach (with_side g from to)) (reach g) (reach_length (with_side g from to)) (reach_length g) (reach_small (with_side g from to)) (reach_small g)
      (λ u v hu hv.
      iff_eq (has (reach (with_side g from to)) u v) (has (reach g) u v) (λ t. way_reach g ti u v (old u v (reach_way (with_side g from to) u v t)))
      (λ t. way_reach (with_side g from to) (side_tidy g from to) u v (way_side g from to ti ht (λ s. bit_below from s lf) u v (inl (reach_way g u v t)))))
