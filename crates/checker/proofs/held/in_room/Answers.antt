use Rattle.checker.proofs.Holding.{in_room_lem}
use Rattle.checker.proofs.held.in_room.Goals as goal

pub returns : goal.returns
returns c = in_room_lem _ _ c.requires c.copy_from_slice.ensures.after
