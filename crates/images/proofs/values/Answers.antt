use Rattle.graph.proofs.WordLaws.{filled_next, filled_end}
use Rattle.codes.specs.Images.{values_in}
use Rattle.model.specs.Log.{pair_at}
use Rattle.std.proofs.Common.{◌*◌, arith}
use Rattle.images.proofs.values.Goals as goal

pub returns : goal.returns
unfolding values_in
returns c = filled_end 32 _ c.loop-i.i _ (omega arith) c.loop-i.invariant
