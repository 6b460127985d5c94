use Rattle.search.specs.Orders.{led_row}
use Rattle.graph.proofs.Sweeps.{Swept}
use Rattle.search.proofs.order.put_first.Given as goal

abbrev pub invariant-loop-u : goal.invariant-loop-u
invariant-loop-u l = Swept (led_row l.add l.v) l.initial.row-items l.row-items l.u
