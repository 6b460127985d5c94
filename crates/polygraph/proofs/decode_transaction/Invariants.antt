use Rattle.polygraph.proofs.Filling.{PartUpTo}
use Rattle.polygraph.proofs.decode_transaction.Given as goal

abbrev pub invariant-loop-m : goal.invariant-loop-m
invariant-loop-m l = PartUpTo l.log.bytes.now l.t l.initial.writers l.initial.reads l.from l.m l.writers l.reads l.count
