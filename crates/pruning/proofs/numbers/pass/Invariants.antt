use Rattle.pruning.proofs.NumberTurns.{Passing}
use Rattle.pruning.proofs.numbers.pass.Given as goal

abbrev pub invariant-loop-i : goal.invariant-loop-i
invariant-loop-i l = Passing l.tables l.initial.rows l.initial.chosen l.n l.i l.kept l.chosen l.rows
