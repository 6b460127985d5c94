use Rattle.polygraph.proofs.Filling.{UpTo}
use Rattle.polygraph.proofs.decode.Given as goal

abbrev pub invariant-loop-t : goal.invariant-loop-t
invariant-loop-t l = UpTo l.log.bytes.now l.t l.writers l.reads l.count
