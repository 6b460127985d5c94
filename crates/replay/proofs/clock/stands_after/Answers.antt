use Rattle.replay.specs.Steps.{stands_after}
use Rattle.std.proofs.Common.{◌<◌, ◌≤◌, arith}
use borrow.Author.Tests.{lt-ltb, le-ltb, le-leb}
use Rattle.replay.proofs.clock.stands_after.Goals as goal

pub returns-then-moment-from : goal.returns-then-moment-from
unfolding stands_after
returns-then-moment-from c =
    let h : c.args.begin ≤ c.args.moment = omega arith in
    simp (le-leb _ _ c.if-moment-from.true, le-ltb _ _ h)

pub returns-else-moment-from : goal.returns-else-moment-from
unfolding stands_after
returns-else-moment-from c =
    let h : c.args.moment < c.args.begin = omega arith in
    simp (lt-ltb _ _ h)
