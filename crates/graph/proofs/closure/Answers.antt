use Rattle.std.proofs.Common.{get_or, ◌∙◌, arith, w32, Fits, rules}
use Rattle.graph.proofs.Rows.{rounds_below}
use Rattle.graph.proofs.closure.Goals as goal

pub returns : goal.returns
returns c =
    let g = c.args.rows in
    let t = c.top-n in
    let l = c.loop-k in
    l.invariant ∙ rounds_below g t.result (search rules) (λ u. (let f : Fits w32 (get_or g u 0) = search rules in f.fits)) t.ensures.1 l.k (omega arith) t.ensures.0
