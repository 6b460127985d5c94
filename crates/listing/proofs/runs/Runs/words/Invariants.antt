use Prim.Native.Nat.{◌^◌, ◌<◌}
use mathlib.Core.Path.{◌≡◌}
use Rattle.graph.specs.Members.{members}
use Rattle.listing.specs.Runs.{words_by}
use Rattle.listing.proofs.runs.Runs.words.Given as goal

abbrev pub invariant-loop-m : goal.invariant-loop-m
invariant-loop-m l =
    (l.m < 2 ^ 32)
    × (words_by l.self.encoding l.self.n l.self.writers.now l.self.marks.now l.self.k l.initial.out (members l.firsts) ≡ words_by l.self.encoding l.self.n l.self.writers.now l.self.marks.now l.self.k l.out (members l.m))

abbrev pub decreases-loop-m : goal.decreases-loop-m
decreases-loop-m l = l.m
