-- As many constraints as are left are listed, and four zeros take the places behind them.
use Rattle.encoding.proofs.Laws.{written_left}
use Rattle.encoding.proofs.write_left.Goals as goal

pub returns : goal.returns
returns c =
    let a = c.args in
    written_left a.tables.now a.chosen.now a.left a.n c.requires.0 a.list.now _ _ c.list.ensures c.clear.ensures
