use Rattle.search.proofs.Picks.{Picking}
use Rattle.search.proofs.order.pick.Given as goal

abbrev pub invariant-loop-d : goal.invariant-loop-d
invariant-loop-d l = Picking l.t l.words l.n l.rows l.left l.sel l.set l.under l.over l.initial.m l.free l.m

abbrev pub decreases-loop-d : goal.decreases-loop-d
decreases-loop-d l = l.m
