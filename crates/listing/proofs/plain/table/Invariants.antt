use Rattle.model.specs.Log.{counts_before}
use Rattle.listing.specs.Choosing.{Chose}
use Rattle.listing.specs.Plain.{plain_numbers, PlainTable}
use Rattle.listing.proofs.plain.table.Given as goal

abbrev pub invariant-loop-t : goal.invariant-loop-t
invariant-loop-t l = PlainTable l.log.bytes.now (counts_before l.log.bytes.now l.t) l.out × Chose (plain_numbers l.log.bytes.now l.writers l.t) 0 l.initial.chosen l.count l.chosen
