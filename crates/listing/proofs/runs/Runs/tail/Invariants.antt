use Prim.Native.Nat.{◌<◌, ◌-◌}
use mathlib.Core.Path.{◌≡◌}
use Rattle.polygraph.specs.Edges.{successors_by}
use Rattle.listing.specs.Runs.{tail_by}
use Rattle.listing.proofs.runs.Runs.tail.Given as goal

abbrev pub invariant-loop : goal.invariant-loop
invariant-loop l =
    let s = l.self in
    let nexts = successors_by s.n s.writers.now s.marks.now in
    (l.at < 32) × (tail_by s.n nexts s.k s.n l.u ≡ tail_by s.n nexts s.k (s.n - l.counter) l.at)
