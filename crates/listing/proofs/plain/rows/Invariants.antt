use Prim.Native.Nat.{◌+◌}
use Rattle.model.specs.Log.{start_at}
use Rattle.listing.specs.Choosing.{Chose}
use Rattle.listing.specs.Plain.{PlainTable, plain_numbers_of}
use Rattle.listing.proofs.plain.rows.Given as goal

abbrev pub invariant-loop-m : goal.invariant-loop-m
invariant-loop-m l = PlainTable l.log.bytes.now (start_at l.log.bytes.now l.t + l.m) l.out × Chose (plain_numbers_of l.log.bytes.now l.writers l.t l.m) l.from l.initial.chosen l.n l.chosen
