use Prim.Native.Nat.{◌^◌, ◌<◌}
use mathlib.Core.Path.{◌≡◌}
use Rattle.graph.specs.Members.{members}
use Rattle.listing.specs.Runs.{nexts_of}
use Rattle.listing.proofs.runs.Runs.head.Given as goal

abbrev pub invariant-loop-m : goal.invariant-loop-m
invariant-loop-m l = (l.m < 2 ^ 32) × (nexts_of l.own l.self.marks.now l.self.k 0 (members l.own) ≡ nexts_of l.own l.self.marks.now l.self.k l.nexts (members l.m))

abbrev pub decreases-loop-m : goal.decreases-loop-m
decreases-loop-m l = l.m
