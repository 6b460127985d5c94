use Rattle.polygraph.proofs.Cabinets.{CabinetsUpTo}
use Rattle.polygraph.proofs.add_cabinets.Given as goal

abbrev pub invariant-loop-t : goal.invariant-loop-t
invariant-loop-t l = CabinetsUpTo l.log.bytes.now l.t l.last l.out
