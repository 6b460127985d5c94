use Rattle.graph.specs.Bodies.{pointed}
use Rattle.graph.proofs.Sweeps.{Swept}
use Rattle.graph.proofs.add_side.Given as goal

abbrev pub invariant-loop-u : goal.invariant-loop-u
invariant-loop-u l = Swept (pointed l.from l.to) l.initial.row-items l.row-items l.u
