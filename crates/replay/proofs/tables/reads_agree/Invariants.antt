use Rattle.replay.proofs.Running.{passes}
use Rattle.model.proofs.Loaded.{operation_of}
use Rattle.model.proofs.ReadBacks.{Wrote}
use Rattle.model.specs.Lists.{all, up_to, bit}
use lib.Dec.{T}
use Rattle.replay.proofs.tables.reads_agree.Given as goal

abbrev pub invariant-loop-m : goal.invariant-loop-m
invariant-loop-m l = T (all (passes l.log.bytes.now l.last l.t) (up_to l.m)) × Wrote (operation_of l.log.bytes.now l.t) l.m (bit l.written)
