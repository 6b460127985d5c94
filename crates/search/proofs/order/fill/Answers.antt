use Rattle.search.proofs.Words.{one_less}
use Rattle.search.proofs.Fills.{filling_none, filling_open, filling_next, filling_end}
use mathlib.Core.Path.{refl}
use native.Mathlib.Omega.{arith}
use Rattle.search.proofs.order.fill.Goals as goal

pub loop-k-init : goal.loop-k-init
loop-k-init c = filling_none _ _ _ _ _ _ _ _ c.requires refl tt

pub pick-p-requires : goal.pick-p-requires
pick-p-requires c = let l = c.loop-k in
    let f = l.invariant in
    (f.begun.progress, λ x m. (f.begun.inside x m).0, filling_open _ _ _ _ l.k _ _ _ _ l.out f (omega arith))

pub loop-k-preserved : goal.loop-k-preserved
loop-k-preserved c = let l = c.loop-k in
    filling_next _ _ _ _ l.k _ _ _ _ l.out l.invariant (omega arith) _ _ _ c.pick-p.ensures _ _ _ c.prune.ensures _ (one_less _ _ _ c.without-set.ensures)

pub returns : goal.returns
returns c = let l = c.loop-k in filling_end _ _ _ _ l.k _ _ _ _ l.out l.invariant (omega (arith, l.invariant.bound))
