use Rattle.std.proofs.Common.{ℕ, ◌^◌, ◌<◌, get_or, arith, w32, Fits, rules}
use Rattle.model.specs.Polygraph.{with_side}
use Rattle.graph.proofs.Sweeps.{swept_end}
use Rattle.graph.proofs.Rows.{point_is}
use Rattle.graph.proofs.add_side.Goals as goal

pub returns : goal.returns
unfolding with_side
returns c =
    let l = c.loop-u in
    let small : (u : ℕ) → get_or c.args.rows u 0 < 2 ^ 32 = λ u. (let f : Fits w32 (get_or c.args.rows u 0) = search rules in f.fits) in
    swept_end _ c.args.rows l.row-items l.u l.invariant (omega (arith, l.invariant.bound)) _
    (λ u h. point_is c.args.rows c.args.from c.args.to u small c.requires)
