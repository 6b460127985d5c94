-- The constraints are listed, pruned, and four zeros take the places of those that pruning dropped.
use Rattle.std.proofs.Common.{arith}
use Rattle.encoding.proofs.Laws.{aimed, encoded}
use Rattle.encoding.proofs.write.Goals as goal

pub prune-r-requires : goal.prune-r-requires
prune-r-requires c =
    let a = c.args in
    (omega (arith, c.list.auto.out, c.requires.fits), aimed a.tables.now a.chosen.now a.rows a.n a.list.now _ c.list.ensures)

pub returns : goal.returns
returns c =
    let a = c.args in
    λ h e plan. encoded a.tables.now a.chosen.now a.rows a.n h e a.pruning plan a.list.now _ _ _ c.prune-r.result c.list.ensures c.prune-r.ensures c.clear.ensures
