use Rattle.polygraph.specs.Tables.{mark_step, owner_in}
use Rattle.polygraph.proofs.Marks.{put_is}
use Rattle.polygraph.proofs.mark_read.Goals as goal

pub returns : goal.returns
unfolding mark_step owner_in
returns c = let word = c.slot_of-word.ensures.0 in (word, put_is _ _ _ _ _ word c.with.ensures)
