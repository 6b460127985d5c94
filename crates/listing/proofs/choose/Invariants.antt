use Prim.Native.Nat.{◌^◌, ◌<◌}
use Rattle.graph.specs.Members.{members}
use Rattle.listing.specs.Choosing.{in_row}
use Rattle.listing.proofs.Choosing.{Going}
use Rattle.listing.proofs.choose.Given as goal

abbrev pub invariant-loop-m : goal.invariant-loop-m
invariant-loop-m l = (l.m < 2 ^ 32) × Going (in_row l.row (members l.columns)) l.from l.initial.chosen (in_row l.row (members l.m)) l.n l.chosen

abbrev pub decreases-loop-m : goal.decreases-loop-m
decreases-loop-m l = l.m
