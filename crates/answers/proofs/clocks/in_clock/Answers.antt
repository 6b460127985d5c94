use Rattle.answers.proofs.Rooms.{in_clock_lem}
use Rattle.answers.proofs.clocks.in_clock.Goals as goal

pub returns : goal.returns
returns c = in_clock_lem _ _ c.requires c.copy_from_slice.ensures.after
