use Rattle.polygraph.specs.Tables.{slot_in, key_in, owner_in, argument_in}
use Rattle.polygraph.proofs.slot_of.Goals as goal

pub returns : goal.returns
unfolding slot_in key_in owner_in argument_in
returns c = c.slot.ensures
