-- What is known of a skim that stands at i.
use Rattle.pruning.proofs.Turns.{Upto}
use Rattle.pruning.proofs.skim.Given as goal

abbrev pub invariant-loop-i : goal.invariant-loop-i
invariant-loop-i l = Upto l.closed l.initial.list l.at l.kept l.end l.i l.j l.list
