use Prim.Native.Nat.{◌^◌, ◌<◌}
use Rattle.graph.specs.Members.{members}
use Rattle.listing.specs.Runs.{pairs_in}
use Rattle.listing.proofs.Choosing.{Going}
use Rattle.listing.proofs.runs.Runs.pairs.Given as goal

abbrev pub invariant-loop-m : goal.invariant-loop-m
invariant-loop-m l = (l.m < 2 ^ 32) × Going (pairs_in l.self.k (members l.firsts)) l.from l.initial.chosen (pairs_in l.self.k (members l.m)) l.n l.chosen

abbrev pub decreases-loop-m : goal.decreases-loop-m
decreases-loop-m l = l.m
