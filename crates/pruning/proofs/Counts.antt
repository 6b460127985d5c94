-- The counts of pruning, function by function: none passes that of the constraints which were listed, so none wraps. Assumes nothing.
--     begin_counts, skim_counts, after_counts        `begin`, `skim` and `after`.        start_counts, hit_counts, new_counts, last_counts        the same place by place
--     pass_counts, settled_counts        `numbers::pass` and `numbers::prune`. (`prune` says it itself, in `Pruning`.)
use Prim.Native.Nat.{ℕ, ◌+◌, ◌≤◌, ◌<◌}
use native.Mathlib.Omega.{arith}
use mathlib.Core.Path.{◌≡◌, sym, ap, ◌∙◌}
use mathlib.Core.Bool.{Bool, true, false, cond}
use mathlib.Core.List.{List}
use lib.Dec.{T, eqb, ltb, ltb→lt}
use lib.ListN.{length}
use Rattle.model.specs.declared.Constraint.{Constraint}
use Rattle.model.specs.Polygraph.{Polygraph, pass, passes}
use Rattle.model.proofs.Pruning.{pass_length, passes_length}
use Rattle.listing.specs.Candidates.{items_by}
use Rattle.listing.proofs.Lists.{items_length}
use Rattle.pruning.specs.declared.Place.{Place}
use Rattle.pruning.specs.declared.Hit.{Hit}
use Rattle.pruning.specs.Passes.{choose_place, first_place, next_place, pruned, settled, PlaceWithin, Skimmed}
use Rattle.pruning.specs.Numbers.{PrunedTo}

pub start_counts : (n : ℕ) (b : Bool) → PlaceWithin n (choose_place b (record { at = 0; kept = 0; end = n; on = true }) (record { at = n; kept = n; end = n; on = false }))
start_counts n true = record { low = omega arith; high = omega arith; top = omega arith }
start_counts n false = record { low = omega arith; high = omega arith; top = omega arith }

pub begin_counts : (n pruning : ℕ) → PlaceWithin n (first_place n pruning)
unfolding first_place
begin_counts n pruning = start_counts n (eqb pruning 1)

-- where a skim ends: it goes on, no further than the pass, and each one that it passes is kept
pub record HitWithin (p : Place) (h : Hit) : Type 0 where
  pub low : p.at ≤ h.at
  pub high : h.at ≤ p.end
  pub behind : h.kept ≤ h.at
  pub grown : h.kept + p.at ≡ p.kept + h.at

pub skim_counts : (g : List ℕ) (ys zs : List Constraint) (p : Place) (h : Hit) → Skimmed g ys p.at p.kept p.end h zs → HitWithin p h
skim_counts g ys zs p h k = record { low = k.low; high = k.high; behind = k.behind; grown = k.grown }

module _ (n : ℕ) (p : Place) (h : Hit) (s : PlaceWithin n p) (i : HitWithin p h) where
  pub hit_counts : h.at < p.end → PlaceWithin n (record { at = h.at + 1; kept = h.kept; end = p.end; on = true })
  hit_counts less = record { low = omega (arith, i.behind); high = omega arith; top = s.top }

  pub new_counts : PlaceWithin n (record { at = 0; kept = 0; end = h.kept; on = true })
  new_counts = record { low = omega arith; high = omega arith; top = omega (arith, i.behind, i.high, s.top) }

  pub last_counts : PlaceWithin n (record { at = h.at; kept = h.kept; end = p.end; on = false })
  last_counts = record { low = i.behind; high = i.high; top = s.top }

  pub after_counts : PlaceWithin n (next_place p h)
  unfolding next_place
  after_counts = go (ltb h.at p.end) (ltb h.kept p.end) (λ t. ltb→lt h.at p.end t)
    where
      go : (a b : Bool) → (T a → h.at < p.end)
          → PlaceWithin n (choose_place a (record { at = h.at + 1; kept = h.kept; end = p.end; on = true }) (choose_place b (record { at = 0; kept = 0; end = h.kept; on = true }) (record { at = h.at; kept = h.kept; end = p.end; on = false })))
      go true b f = hit_counts (f tt)
      go false true f = new_counts
      go false false f = last_counts

-- ---- on numbers

module _ (g t ks ls ws : List ℕ) (m r : ℕ) where
  -- as many are left as the polygraph has constraints, and no more than there were
  abbrev pub Leaves : Polygraph → Type 0
  Leaves p = (r ≡ length p.choices) × (r ≤ m)

  left_is : (p : Polygraph) → PrunedTo p t ls r ws → r ≡ length p.choices
  left_is p k = sym (items_length t ls r) ∙ ap length k.choices_are

  pub pass_counts : PrunedTo (pass g (items_by t ks m)) t ls r ws → Leaves (pass g (items_by t ks m))
  pass_counts k =
      let e = left_is (pass g (items_by t ks m)) k in
      (e, omega (arith, e, pass_length (items_by t ks m) g, items_length t ks m))

  pub settled_counts : (pruning : ℕ) → PrunedTo (settled pruning (record { known = g; choices = items_by t ks m })) t ls r ws → Leaves (settled pruning (record { known = g; choices = items_by t ks m }))
  unfolding settled pruned
  settled_counts pruning k =
      let p : Polygraph = record { known = g; choices = items_by t ks m } in
      let e = left_is (settled pruning p) k in
      (e, omega (arith, e, either (eqb pruning 1) p, items_length t ks m))
    where
      either : (b : Bool) (p : Polygraph) → length (cond b (passes (length p.choices) p) p).choices ≤ length p.choices
      either true p = passes_length (length p.choices) p
      either false p = omega arith
