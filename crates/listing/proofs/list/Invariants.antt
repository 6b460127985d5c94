-- The first i places have the first i constraints.
use mathlib.Core.Path.{◌≡◌}
use mathlib.Core.List.{◌++◌}
use lib.ListN.{drop}
use Rattle.listing.specs.Candidates.{items_by}
use Rattle.listing.proofs.list.Given as goal

abbrev pub invariant-loop-i : goal.invariant-loop-i
invariant-loop-i l = l.place-items ≡ items_by l.tables l.chosen l.i ++ drop l.i l.initial.place-items
