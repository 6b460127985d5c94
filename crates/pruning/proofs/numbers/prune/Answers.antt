use Rattle.pruning.proofs.NumberTurns.{settling_next, settling_end}
use Rattle.pruning.proofs.numbers.prune.Goals as goal

pub returns-then-kept-left : goal.returns-then-kept-left
returns-then-kept-left c =
    let l = c.loop-left in
    let p = c.pass-kept in
    (l.invariant.few, settling_end _ _ _ _ l.left p.result l.chosen _ l.rows _ l.invariant p.ensures.1 c.if-kept-left.true)

pub loop-left-preserved : goal.loop-left-preserved
loop-left-preserved c =
    let l = c.loop-left in
    let p = c.pass-kept in
    settling_next _ _ _ _ l.left p.result l.chosen _ l.rows _ l.invariant p.ensures.1 p.ensures.0 c.if-kept-left.false
