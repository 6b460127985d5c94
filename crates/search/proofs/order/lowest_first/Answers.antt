use Rattle.search.proofs.Words.{one_less}
use Rattle.search.proofs.Lowest.{lowest_none, lowest_small, lowest_next_lem, lowest_end}
use mathlib.Core.Path.{refl}
use native.Mathlib.Omega.{arith}
use mir.Syntax.{w32}
use mir.Val.{Fits}
use borrow.Author.Rules.{rules}
use Rattle.search.proofs.order.lowest_first.Goals as goal

pub loop-i-init : goal.loop-i-init
loop-i-init c = lowest_none _ _ _ _ c.ranges.all.fits c.requires refl tt

pub without-set-requires : goal.without-set-requires
without-set-requires c =
    let l = c.loop-i in
    let r : Fits w32 c.minus-v.result = search rules in
    lowest_small _ _ l.i _ _ l.invariant (omega arith) _ c.below.ensures _ r.fits c.minus-v.ensures

pub loop-i-preserved : goal.loop-i-preserved
loop-i-preserved c =
    let l = c.loop-i in
    let r : Fits w32 c.minus-v.result = search rules in
    let q : Fits w32 c.without-set.result = search rules in
    lowest_next_lem _ _ l.i _ _ l.invariant (omega arith) _ c.below.ensures _ r.fits c.minus-v.ensures _ q.fits (one_less _ _ _ c.without-set.ensures)

pub returns : goal.returns
returns c = let l = c.loop-i in lowest_end _ _ l.i _ _ l.invariant (omega (arith, l.invariant.filling.bound))
