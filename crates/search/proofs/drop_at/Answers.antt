use Rattle.search.proofs.Words.{one_less}
use Rattle.search.proofs.Opens.{dropped}
use Rattle.search.proofs.drop_at.Goals as goal

pub returns : goal.returns
returns c =
    dropped c.args.left.now c.args.i c.without.result c.requires.1 (one_less _ _ _ c.without.ensures)
