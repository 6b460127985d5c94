use Rattle.pruning.proofs.Steps.{judged_none, judged_a, judged_b}
use Rattle.pruning.proofs.judge.Goals as goal

pub returns-then-not-a-b-clause-is : goal.returns-then-not-a-b-clause-is
returns-then-not-a-b-clause-is c = λ g e. judged_none g c.args.c _ _ (c.closed_off-a.ensures g e) (c.closed_off-b.ensures g e) c.if-not-a-b.true

pub returns-then-a-clause-is : goal.returns-then-a-clause-is
returns-then-a-clause-is c = λ g e. judged_b g c.args.c _ _ (c.closed_off-a.ensures g e) (c.closed_off-b.ensures g e) c.if-a.true

pub returns-clause-is : goal.returns-clause-is
returns-clause-is c = λ g e. judged_a g c.args.c _ _ (c.closed_off-a.ensures g e) (c.closed_off-b.ensures g e) c.if-not-a-b.false c.if-a.false
