use Rattle.std.proofs.Common.{◌≡◌, ℕ, ◌+◌, ◌-◌, ◌^◌, ◌<◌, get_or, subst, arith, w32, Fits, rules}
use Rattle.graph.specs.Leaving.{LeavesBelow}
use Rattle.graph.proofs.Rows.{tidy, leaves_fewer}
use Rattle.graph.proofs.top.Goals as goal

pub loop-u-init : goal.loop-u-init
loop-u-init c =
    let g = c.args.rows in
    let small : (u : ℕ) → get_or g u 0 < 2 ^ 32 = λ u. (let f : Fits w32 (get_or g u 0) = search rules in f.fits) in
    λ u v t. (tidy g (search rules) small u v t).0

pub loop-u-preserved : goal.loop-u-preserved
loop-u-preserved c =
    let l = c.loop-u in
    let g = c.args.rows in
    let back : l.u ≡ l.u - 1 + 1 = omega (arith, c.loop-u-test.true) in
    leaves_fewer g (l.u - 1) (subst (LeavesBelow g) back l.invariant) c.if-rows-u-ne0.false
