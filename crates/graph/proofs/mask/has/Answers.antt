use Rattle.std.proofs.Common.{ℕ, ◌/◌, ◌^◌, eqb, ap}
use lib.Bits.{and_mask}
use Rattle.model.specs.Lists.{bit}
use Rattle.graph.proofs.mask.has.Goals as goal

pub returns : goal.returns
unfolding bit
returns c = ap (λ (x : ℕ). eqb x 1) (and_mask (c.args.mask / 2 ^ c.args.v) 1)
