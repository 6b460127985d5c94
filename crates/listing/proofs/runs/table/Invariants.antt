use Rattle.listing.proofs.Keys.{Keys}
use Rattle.listing.proofs.runs.table.Given as goal

abbrev pub invariant-loop-k : goal.invariant-loop-k
invariant-loop-k l = Keys l.encoding l.writers l.marks l.n l.initial.out l.initial.chosen l.k l.out l.count l.chosen
