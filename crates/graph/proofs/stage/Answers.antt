use Rattle.std.proofs.Common.{ℕ, ◌^◌, ◌<◌, get_or, arith, w32, Fits, rules}
use Rattle.model.specs.Polygraph.{through}
use Rattle.graph.proofs.Sweeps.{swept_end}
use Rattle.graph.proofs.Rows.{absorb_is}
use Rattle.graph.proofs.stage.Goals as goal

pub returns : goal.returns
unfolding through
returns c =
    let l = c.loop-row in
    let small : (u : ℕ) → get_or c.args.rows u 0 < 2 ^ 32 = λ u. (let f : Fits w32 (get_or c.args.rows u 0) = search rules in f.fits) in
    swept_end _ c.args.rows l.row-items l.row-index l.invariant (omega arith) _
    (λ u h. absorb_is c.args.rows c.args.k u small)
