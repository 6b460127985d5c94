use Rattle.polygraph.proofs.ReadEdges.{own_picked}
use Rattle.polygraph.proofs.own_edges.Goals as goal

pub returns : goal.returns
returns c =
    let a = c.args in
    let low = c.lowest.ensures in
    let next = c.without-next.ensures in
    let self = c.with.ensures in
    let others = c.without.ensures in
    own_picked a.at a.t a.w a.readers _ _ _ _ _ _ _ a.chained low next self others c.pick-other.ensures c.pick.ensures c.pick-2.ensures
