use Rattle.std.proofs.Common.{◌≡◌, length}
use Rattle.graph.specs.Bodies.{extended_row}
use Rattle.graph.proofs.Sweeps.{Swept}
use Rattle.graph.proofs.take.Given as goal

abbrev pub invariant-loop-u : goal.invariant-loop-u
invariant-loop-u l = length l.initial.rows ≡ 32 → Swept (extended_row l.from l.add) l.initial.rows l.rows l.u
