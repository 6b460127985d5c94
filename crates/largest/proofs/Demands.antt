-- How many constraints a log can have at the most, in each encoding before pruning, in the demands' own words: `b` is a list of bytes and `ts` the times beside
-- it, which Load takes. Each theorem cites the law that proves it. (That there are at most 16 for each operation of a key: `Demands` of `model`.)
use Prim.Native.Nat.{ℕ, ◌*◌, ◌-◌, ◌≤◌, ◌<◌}
use native.Mathlib.Omega.{arith}
use mathlib.Core.Path.{◌≡◌, sym, ap, subst, ◌∙◌}
use mathlib.Core.List.{List}
use lib.Dec.{T}
use lib.ListN.{length}
use Rattle.model.specs.Lists.{All}
use Rattle.model.specs.History.{History, well_formed}
use Rattle.model.specs.Log.{load_number, history_of}
use Rattle.model.specs.Times.{Times, Bare, timed_history, timed_number}
use Rattle.model.specs.Writing.{log_of}
use Rattle.model.specs.declared.Constraint.{Constraint}
use Rattle.model.specs.Polygraph.{constraints}
use Rattle.model.specs.Keys.{per_operation, count_on, constraints_on}
use Rattle.model.proofs.Loaded.{Bytes}
use Rattle.model.proofs.Times.{without_none, timed_constraints, timed_log}
use Rattle.model.proofs.Writing.{loads_back}
use Rattle.model.proofs.Logs.{has_log_out, has_log_in}
use Rattle.largest.proofs.Largest.{plain_3840, joined_3968, chained_3968, round, blind, round_3840, blind_3968, blind_key_496, round_bare, blind_bare}

module _ (b : List ℕ) (ts : Times) (taken : timed_number b ts ≡ 0) where
  abbrev held : History
  held = timed_history b ts

  module _ (e : ℕ) where
    -- as many as without the times
    alone : length (constraints held e) ≡ length (constraints (history_of b) e)
    alone = ap (λ (f : ℕ → List Constraint). length (f e)) (timed_constraints ts (history_of b))

  -- The most in each encoding are fewer than 4,096 ..
  pub at_most_3840_plain : length (constraints held 0) ≤ 3840
  at_most_3840_plain = omega (arith, alone 0, plain_3840 b (timed_log b ts taken))

  pub at_most_3968_joined : length (constraints held 1) ≤ 3968
  at_most_3968_joined = omega (arith, alone 1, joined_3968 b (timed_log b ts taken))

  pub at_most_3968_chained : length (constraints held 2) ≤ 3968
  at_most_3968_chained = omega (arith, alone 2, chained_3968 b (timed_log b ts taken))

-- some log that Load takes holds such a history
abbrev Occurs : (History → Type 0) → Type 0
Occurs P = (b : List ℕ) × (Bytes b × ((load_number b ≡ 0) × P (history_of b)))

occurs : (P : History → Type 0) (h : History) → All Bare h → T (well_formed h) → P h → Occurs P
occurs P h bare good p = let log = has_log_out h (has_log_in h good) in (log_of h, (log.0, (log.1, subst P (sym (loads_back h ∙ without_none h bare)) p)))

-- .. and occur.
pub a_log_with_3840_plain : Occurs (λ h. length (constraints h 0) ≡ 3840)
a_log_with_3840_plain = occurs (λ h. length (constraints h 0) ≡ 3840) round round_bare round_3840.0 round_3840.1

pub a_log_with_3968_joined_and_chained : Occurs (λ h. (length (constraints h 1) ≡ 3968) × (length (constraints h 2) ≡ 3968))
a_log_with_3968_joined_and_chained = occurs (λ h. (length (constraints h 1) ≡ 3968) × (length (constraints h 2) ≡ 3968)) blind blind_bare blind_3968.0 (blind_3968.1, blind_3968.2)

-- 16 is the least that holds in encodings 1 and 2: 32 writers of a key that nobody reads give 496 constraints, and 15 for each of its 32 operations are 480.
-- (Plain constraints are at most 15 for each operation: `Largest`.)
abbrev NoFewerFor : ℕ → History → Type 0
NoFewerFor e h = (length (constraints_on h e 0) ≤ per_operation * count_on h 0) × ((per_operation - 1) * count_on h 0 < length (constraints_on h e 0))

pub sixteen_is_the_least : Occurs (λ h. NoFewerFor 1 h × NoFewerFor 2 h)
sixteen_is_the_least =
    let k = blind_key_496 in
    occurs (λ h. NoFewerFor 1 h × NoFewerFor 2 h) blind blind_bare blind_3968.0 ((omega (arith, k.0, k.1), omega (arith, k.0, k.1)), (omega (arith, k.0, k.2), omega (arith, k.0, k.2)))
