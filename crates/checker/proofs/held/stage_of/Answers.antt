use Rattle.checker.specs.Cases.{stage_of}
use Rattle.checker.proofs.held.stage_of.Goals as goal

pub returns : goal.returns
unfolding stage_of
returns c = c.counted_as.ensures
