use Rattle.search.proofs.Picks.{picking_none, candidate, left_over, lowest_cand, picked_free, picked_walk, picking_next}
use mir.Syntax.{w32}
use mir.Val.{Fits}
use borrow.Author.Rules.{rules}
use Rattle.search.proofs.order.pick.Goals as goal

pub loop-d-init : goal.loop-d-init
loop-d-init c = let f : Fits w32 c.minus-m.result = search rules in
    let g : Fits w32 c.minus-free.result = search rules in
    picking_none _ _ _ _ _ _ c.requires.0 _ c.ranges.set.fits c.requires.1 c.requires.2 _ _ c.below-under.ensures c.below-over.ensures _ f.fits c.minus-m.ensures _ g.fits c.minus-free.ensures

pub returns-then-v-free : goal.returns-then-v-free
returns-then-v-free c = picked_free _ _ _ _ _ _ _ _ _ _ _ _ c.loop-d.invariant c.if-v-free.true _ _ c.put_first-d.ensures c.put_first-s.ensures

pub put_first-d-requires-in-loop-d : goal.put_first-d-requires-in-loop-d
put_first-d-requires-in-loop-d c = let p = c.loop-d.invariant in
    let k = candidate _ _ _ _ _ _ _ _ _ _ _ _ p _ (lowest_cand _ _ _ _ _ _ _ _ _ _ _ _ p) in
    (k.0, p.progress.ready.partial, k.1, p.un, k.2)

pub returns-in-Some : goal.returns-in-Some
returns-in-Some c = picked_walk _ _ _ _ _ _ _ _ _ _ _ _ c.loop-d.invariant _ c.put_first-d-in-loop-d.ensures _ c.in-Some.ensures

pub clear_low-m-requires : goal.clear_low-m-requires
clear_low-m-requires c = left_over _ _ _ _ _ _ _ _ _ _ _ _ c.loop-d.invariant

pub loop-d-preserved : goal.loop-d-preserved
loop-d-preserved c = picking_next _ _ _ _ _ _ _ _ _ _ _ _ c.loop-d.invariant _ c.put_first-d-in-loop-d.ensures c.if-v-free.false c.in_default.ensures _ c.clear_low-m.ensures.0 c.clear_low-m.ensures.1
