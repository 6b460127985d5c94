use Rattle.decision.proofs.Putting.{Sofar}
use lib.ListN.{length}
use Rattle.decision.proofs.words.Given as goal

abbrev pub invariant-loop-i : goal.invariant-loop-i
invariant-loop-i l = Sofar l.tables l.chosen (length l.initial.out) l.i l.out
