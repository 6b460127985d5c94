use borrow.Author.Tests.{lt-ltb, le-ltb}
use Rattle.pruning.specs.Passes.{next_place}
use Rattle.pruning.proofs.after.Goals as goal

pub returns-then-h-p : goal.returns-then-h-p
unfolding next_place
returns-then-h-p c = simp (lt-ltb _ _ c.if-h-p.true)

pub returns-then-h-p-2 : goal.returns-then-h-p-2
unfolding next_place
returns-then-h-p-2 c = simp (le-ltb _ _ c.if-h-p.false, lt-ltb _ _ c.if-h-p-2.true)

pub returns : goal.returns
unfolding next_place
returns c = simp (le-ltb _ _ c.if-h-p.false, le-ltb _ _ c.if-h-p-2.false)
