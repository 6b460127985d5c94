-- The counts of constraints that listing, pruning and search hand on. Assumes nothing.
--     Carried          what one function hands to another, as far as it counts constraints; of `search::prune`, `next_choice` and `order::lighter` what a turn hands to the next.        counts           the counts in it
--     Listed n         n constraints are listed of a log that Load takes with its times, by `encoding::prepare`
--     Handed n         what comes of them, step by step. A step from function to function asks what the function's contract says; one from turn to turn is the code's, and the loop's proof cites its law.
use Rattle.std.specs.Prelude.{ℕ, ◌+◌, ◌*◌, ◌-◌, ◌<◌, ◌≡◌, List, [], ◌∷◌, length}
use Rattle.model.specs.declared.Constraint.{Constraint}
use Rattle.model.specs.History.{History}
use Rattle.model.specs.Times.{Times, timed_number, timed_history}
use Rattle.model.specs.Polygraph.{constraints, pass}
use Rattle.listing.specs.Candidates.{items_by}
use Rattle.pruning.specs.declared.Place.{Place}
use Rattle.pruning.specs.declared.Hit.{Hit}
use Rattle.pruning.specs.declared.Pruned.{Pruned}
use Rattle.pruning.specs.Numbers.{PrunedTo}
use Rattle.pruning.specs.Passes.{first_place, next_place, settled, Skimmed, Pruning}
use Rattle.encoding.specs.Writing.{Planned, Encoded}
use Rattle.search.specs.Steps.{NextOpen, NextHit, NextChoice}

pub data Carried : Type 0 where
  -- how many constraints there are, or are left
  many : ℕ → Carried
  -- where a pass over the list stands; and where a skim of it ends
  standing : Place → Carried
  skimmed : Place → Hit → Carried
  -- pruning in the search, of so many: from where on it looks, where this pass ends, and where the next
  turning : ℕ → ℕ → ℕ → ℕ → Carried
  -- which one the search found, or from where on it looks next; where it is at the end, how many there are
  found : ℕ → Carried

unfoldable pub counts : Carried → List ℕ
counts (many m) = m ∷ []
counts (standing p) = p.at ∷ p.kept ∷ p.end ∷ []
counts (skimmed p h) = h.at ∷ h.kept ∷ p.end ∷ []
counts (turning m i stop again) = m ∷ i ∷ stop ∷ again ∷ []
counts (found i) = i ∷ []

pub record Listed (n : ℕ) : Type 0 where
  pub log : List ℕ
  pub clock : Times
  pub taken : timed_number log clock ≡ 0
  pub encoding : ℕ
  pub count : n ≡ length (constraints (timed_history log clock) encoding)

pub data Handed (n : ℕ) : Carried → Type 0 where
  -- what `encoding::prepare` gives, to all that follow
  lists : Handed n (many n)
  -- on the list: `pruning::begin`, `skim`, `after`; `pruning::prune`; `encoding::write`
  begins : (m pruning : ℕ) → Handed n (many m) → Handed n (standing (first_place m pruning))
  skims : (g : List ℕ) (ys zs : List Constraint) (p : Place) (h : Hit) → Handed n (standing p) → Skimmed g ys p.at p.kept p.end h zs → Handed n (skimmed p h)
  goes_on : (p : Place) (h : Hit) → Handed n (skimmed p h) → Handed n (standing (next_place p h))
  prunes : (g : List ℕ) (ys zs : List Constraint) (m pruning : ℕ) (r : Pruned) → Handed n (many m) → Pruning g ys m pruning r zs → Handed n (many r.left)
  writes : (h : History) (e pruning : ℕ) (t ks rs : List ℕ) (ys zs : List Constraint) (m : ℕ) (r : Pruned) → Handed n (many m) → Planned h e t ks rs m → Encoded h e pruning ys r zs → Handed n (many r.left)
  -- on numbers: `pruning::numbers::pass`; `pruning::numbers::prune` and `settle`
  prunes_once : (g t ks ls ws : List ℕ) (m r : ℕ) → Handed n (many m) → PrunedTo (pass g (items_by t ks m)) t ls r ws → Handed n (many r)
  settles : (g t ks ls ws : List ℕ) (m r pruning : ℕ) → Handed n (many m) → PrunedTo (settled pruning (record { known = g; choices = items_by t ks m })) t ls r ws → Handed n (many r)
  -- in the search: `prune`, from turn to turn, with what `next_hit` gives
  turns : (m : ℕ) → Handed n (many m) → Handed n (turning m 0 m 0)
  hits : (w c l : List ℕ) (m i stop again r : ℕ) → Handed n (turning m i stop again) → NextHit w c l i stop m r → Handed n (found r)
  turns_behind : (w c l : List ℕ) (m i stop again r : ℕ) → Handed n (turning m i stop again) → NextHit w c l i stop m r → r < stop → Handed n (turning m (r + 1) m r)
  turns_again : (m i stop again : ℕ) → Handed n (turning m i stop again) → Handed n (turning m 0 again 0)
  -- `order::open_word`: those from word w on
  opens_word : (m w : ℕ) → Handed n (many m) → w * 32 < m → Handed n (many (m - w * 32))
  -- `next_open`, and `next_choice` and `order::lighter`, which look on behind what it gives; `next_choice`
  opens : (l : List ℕ) (m from r : ℕ) → Handed n (many m) → NextOpen l from m r → Handed n (found r)
  opens_behind : (l : List ℕ) (m from r : ℕ) → Handed n (many m) → NextOpen l from m r → r < m → Handed n (found (r + 1))
  chooses : (w c l : List ℕ) (m r : ℕ) → Handed n (many m) → NextChoice w c l m r → Handed n (found r)
