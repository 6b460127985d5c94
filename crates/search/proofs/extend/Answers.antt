use Rattle.search.proofs.Steps.{taken, grew}
use Rattle.search.proofs.extend.Goals as goal

pub returns : goal.returns
returns c =
    taken _ _ _ c.requires.0 c.requires.2 _ c.requires.1 (grew _ _ _ _ c.requires.0.closed c.extend.ensures)
