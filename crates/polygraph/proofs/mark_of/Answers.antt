use Rattle.polygraph.proofs.Marks.{mark_is}
use Rattle.polygraph.proofs.mark_of.Goals as goal

pub returns : goal.returns
returns c = mark_is _ _ c.requires.0 c.requires.1
