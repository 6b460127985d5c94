use Rattle.std.proofs.Common.{◌≡◌}
use Rattle.model.specs.RowWords.{side_in}
use Rattle.graph.proofs.SideLaws.{sources_in}
use Rattle.graph.proofs.side_held.Given as goal

abbrev pub invariant-loop-s : goal.invariant-loop-s
invariant-loop-s l = side_in l.rows l.from l.to ≡ sources_in l.rows l.to l.s-iterator.left
