use Rattle.pruning.proofs.NumberTurns.{Settling}
use Rattle.pruning.proofs.numbers.prune.Given as goal

abbrev pub invariant-loop-left : goal.invariant-loop-left
invariant-loop-left l = Settling l.tables l.initial.rows l.initial.chosen l.n l.left l.chosen l.rows

abbrev pub decreases-loop-left : goal.decreases-loop-left
decreases-loop-left l = l.left
