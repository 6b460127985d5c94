-- A count of constraints never passes 4,096, so 16 bits hold it, wherever listing, pruning and search carry one. (What listing counts up on its way has room, as
-- its functions ask it: `proofs/Counts` of listing.) Assumes nothing.
use Prim.Native.Nat.{ℕ, ◌≤◌}
use native.Mathlib.Omega.{arith}
use Rattle.model.specs.Lists.{All}
use Rattle.model.specs.Lent.{encoded_count}
use Rattle.model.proofs.Basics.{All-imp}
use Rattle.model.proofs.Counting.{constraints_timed}
use Rattle.model.proofs.Times.{timed_log}
use Rattle.model.proofs.Pruning.{polygraph_length}
use Rattle.pruning.specs.declared.Place.{Place}
use Rattle.pruning.specs.Passes.{PlaceWithin}
use Rattle.pruning.proofs.Counts.{HitWithin, begin_counts, skim_counts, after_counts, pass_counts, settled_counts}
use Rattle.search.specs.Steps.{Turning}
use Rattle.search.proofs.Counts.{turn_first, turn_hit, turn_again, word_counts, open_next}
use Rattle.finding.specs.Counts.{Carried, many, standing, skimmed, turning, found, counts, Listed, Handed, lists, begins, skims, goes_on, prunes, writes, prunes_once, settles, turns, hits, turns_behind, turns_again, opens_word, opens, opens_behind, chooses}

-- what is known of the counts of a state: they lie below n, each in its order
abbrev Bounded : ℕ → Carried → Type 0
Bounded n (many m) = m ≤ n
Bounded n (standing p) = PlaceWithin n p
Bounded n (skimmed p h) = PlaceWithin n p × HitWithin p h
Bounded n (turning m i stop again) = (m ≤ n) × Turning m i stop again
Bounded n (found i) = i ≤ n

wider : (m n : ℕ) → m ≤ n → (p : Place) → PlaceWithin m p → PlaceWithin n p
wider m n l p w = record { low = w.low; high = w.high; top = omega (arith, w.top) }

module _ (n : ℕ) where
  bounded : (s : Carried) → Handed n s → Bounded n s
  unfolding encoded_count
  bounded _ lists = omega arith
  bounded _ (begins m pruning s) = wider m n (bounded _ s) _ (begin_counts m pruning)
  bounded _ (skims g ys zs p h s k) = (bounded _ s, skim_counts g ys zs p h k)
  bounded _ (goes_on p h s) = let b = bounded _ s in after_counts n p h b.0 b.1
  bounded _ (prunes g ys zs m pruning r s k) = omega (arith, bounded _ s, k.few)
  bounded _ (writes h e pruning t ks rs ys zs m r s p k) = omega (arith, bounded _ s, k.left_is, p.chosen_are.count_is, polygraph_length h e pruning)
  bounded _ (prunes_once g t ks ls ws m r s k) = omega (arith, bounded _ s, (pass_counts g t ks ls ws m r k).1)
  bounded _ (settles g t ks ls ws m r pruning s k) = omega (arith, bounded _ s, (settled_counts g t ks ls ws m r pruning k).1)
  bounded _ (turns m s) = (bounded _ s, turn_first m)
  bounded _ (hits w c l m i stop again r s k) = omega (arith, (bounded _ s).0, k.top)
  bounded _ (turns_behind w c l m i stop again r s k h) = let b = bounded _ s in (b.0, turn_hit m i stop again r b.1 h)
  bounded _ (turns_again m i stop again s) = let b = bounded _ s in (b.0, turn_again m i stop again b.1)
  bounded _ (opens_word m w s h) = omega (arith, bounded _ s, word_counts m w h)
  bounded _ (opens l m from r s k) = omega (arith, bounded _ s, k.top)
  bounded _ (opens_behind l m from r s k h) = omega (arith, bounded _ s, (open_next l m from r k h).1)
  bounded _ (chooses w c l m r s k) = omega (arith, bounded _ s, k.top)

  few : (s : Carried) → Bounded n s → All (λ (m : ℕ). m ≤ n) (counts s)
  unfolding counts
  few (many m) b = (b, tt)
  few (standing p) b = (omega (arith, b.high, b.top), (omega (arith, b.low, b.high, b.top), (omega (arith, b.top), tt)))
  few (skimmed p h) b = (omega (arith, b.1.high, b.0.top), (omega (arith, b.1.behind, b.1.high, b.0.top), (omega (arith, b.0.top), tt)))
  few (turning m i stop again) b =
      let t = b.1 in
      (omega (arith, b.0), (omega (arith, b.0, t.from, t.stops), (omega (arith, b.0, t.stops), (omega (arith, b.0, t.behind, t.from, t.stops), tt))))
  few (found i) b = (b, tt)

  -- From the listing on no count passes the count of the constraints that are listed, in anything that listing, pruning and search hand on ..
  pub never_past_what_is_listed : (s : Carried) → Handed n s → All (λ (m : ℕ). m ≤ n) (counts s)
  never_past_what_is_listed s handed = few s (bounded s handed)

  -- .. and of a log that Load takes with its times that is at most 4,096.
  pub never_past_4096 : Listed n → (s : Carried) → Handed n s → All (λ (m : ℕ). m ≤ 4096) (counts s)
  never_past_4096 l s handed =
      All-imp (λ (m : ℕ). m ≤ n) (λ (m : ℕ). m ≤ 4096) (λ m k. omega (arith, l.count, constraints_timed l.log (timed_log l.log l.clock l.taken) l.encoding l.clock)) (counts s)
      (never_past_what_is_listed s handed)
