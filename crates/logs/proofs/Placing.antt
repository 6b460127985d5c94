-- Where the entries are good, the entry and the bodies of each transaction lie in the log. Assumes nothing.
use Prim.Native.Nat.{ℕ, ◌+◌, ◌≤◌, ◌<◌}
use native.Mathlib.Omega.{arith}
use mathlib.Core.Path.{ap, sym, ◌∙◌}
use mathlib.Core.List.{List}
use Rattle.model.specs.Log.{operations_in, count_at, start_at, counts_before, first_number, entry_number}
use Rattle.logs.specs.Tests.{GoodEntries}
use Rattle.logs.specs.Reading.{EntryIn, BodyIn}
use Rattle.logs.proofs.Numbers.{within}

module _ (b : List ℕ) (n : ℕ) (p : GoodEntries b n) (t : ℕ) (l : t < n) where
  pub placed_within : start_at b t + count_at b t ≤ operations_in b
  placed_within =
      within b (ap (first_number (entry_number b)) (sym p.count) ∙ p.entries) (ap (counts_before b) (sym p.count) ∙ p.sum) t (omega (arith, p.count))

  pub placed_entry : EntryIn b t
  placed_entry = omega (arith, p.long)

  pub placed_body : (m : ℕ) → m < count_at b t → BodyIn b t m
  placed_body m k = (placed_entry, omega (arith, p.long, p.count, placed_within))
