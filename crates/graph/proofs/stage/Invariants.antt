use Rattle.graph.specs.Bodies.{absorbed}
use Rattle.graph.proofs.Sweeps.{Swept}
use Rattle.graph.proofs.stage.Given as goal

abbrev pub invariant-loop-row : goal.invariant-loop-row
invariant-loop-row l = Swept (λ u row. absorbed l.via l.k row) l.initial.row-items l.row-items l.row-index
