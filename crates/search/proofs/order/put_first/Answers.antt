use Rattle.search.proofs.Leads.{placed}
use Rattle.search.proofs.Words.{one_less}
use mathlib.Core.Path.{◌≡◌}
use native.Mathlib.Omega.{arith}
use mir.Syntax.{w32}
use mir.Val.{Fits}
use borrow.Author.Rules.{rules}
use Rattle.search.proofs.order.put_first.Goals as goal

pub returns : goal.returns
returns c = let l = c.loop-u in
    let e : l.u ≡ 32 = omega (arith, l.invariant.bound) in
    let r : Fits w32 c.without-rest.result = search rules in
    placed _ c.requires.1 _ _ c.requires.3 _ c.requires.0 c.requires.2 c.requires.4 _ (one_less _ _ _ c.without-rest.ensures) r.fits c.ranges.under.fits c.ranges.set.fits _ l.invariant.long (λ j h. l.invariant.done j (omega arith))
