use Rattle.replay.proofs.Running.{stored_to}
use mathlib.Core.Path.{◌≡◌}
use Rattle.replay.proofs.tables.store.Given as goal

abbrev pub invariant-loop-m : goal.invariant-loop-m
invariant-loop-m l = l.out ≡ stored_to l.marks l.log.bytes.now l.initial.out l.t l.m
