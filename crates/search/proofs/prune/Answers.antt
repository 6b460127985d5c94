use Rattle.search.proofs.Opens.{pruning_none, pruning_next, pruning_stuck, pruning_again, pruning_end, drop_falls}
use native.Mathlib.Omega.{arith}
use Rattle.search.proofs.Steps.{is_true, off_is}
use Rattle.search.proofs.prune.Goals as goal

pub loop-stop-init : goal.loop-stop-init
loop-stop-init c = pruning_none _ _ _ _ c.requires.partial c.requires.fit

pub returns-then-closed_off : goal.returns-then-closed_off
returns-then-closed_off c = let l = c.loop-stop in
    pruning_stuck _ _ _ _ _ _ c.requires.fit _ _ _ l.invariant _ c.next_hit-at.ensures c.if-at-stop.true _ c.constraint_at-k.ensures _ _ c.last_side-side.ensures (is_true _ _ (off_is _ _ _ _ l.invariant.narrowed.grown.partial.closed c.closed_off.ensures) c.if-closed_off.true)

pub loop-stop-smaller-then-at-stop : goal.loop-stop-smaller-then-at-stop
loop-stop-smaller-then-at-stop c = let l = c.loop-stop in
    let h = c.if-at-stop.true in
    omega (arith, l.invariant.turning.stops, c.requires.given.few, drop_falls _ _ _ c.drop_at.ensures c.args.n (omega (arith, l.invariant.turning.stops)) (c.next_hit-at.ensures.some h).0)

pub loop-stop-preserved-then-at-stop : goal.loop-stop-preserved-then-at-stop
loop-stop-preserved-then-at-stop c = let l = c.loop-stop in
    pruning_next _ _ _ _ _ _ c.requires.fit _ _ _ l.invariant _ c.next_hit-at.ensures c.if-at-stop.true _ c.constraint_at-k.ensures _ _ c.last_side-side.ensures _ c.take.ensures _ c.drop_at.ensures

pub returns-then-again-eq0 : goal.returns-then-again-eq0
returns-then-again-eq0 c = let l = c.loop-stop in
    pruning_end _ _ _ _ _ _ c.requires.fit _ _ _ l.invariant _ c.next_hit-at.ensures c.if-at-stop.false c.if-again-eq0.true

pub loop-stop-preserved : goal.loop-stop-preserved
loop-stop-preserved c = let l = c.loop-stop in
    pruning_again _ _ _ _ _ _ c.requires.fit _ _ _ l.invariant _ c.next_hit-at.ensures c.if-at-stop.false
