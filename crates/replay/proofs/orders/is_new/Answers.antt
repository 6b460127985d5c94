use Rattle.replay.specs.Orders.{is_new}
use mathlib.Core.Bool.{not}
use mathlib.Core.Path.{ap}
use borrow.Author.Tests.{lt-ltb, le-ltb}
use Rattle.replay.proofs.orders.is_new.Goals as goal

pub returns-then-x-n : goal.returns-then-x-n
unfolding is_new
returns-then-x-n c = simp (lt-ltb _ _ c.if-x-n.true) (ap not c.has.ensures)

pub returns-else-x-n : goal.returns-else-x-n
unfolding is_new
returns-else-x-n c = simp (le-ltb _ _ c.if-x-n.false)
