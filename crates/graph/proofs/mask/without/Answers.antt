use Rattle.std.proofs.Common.{ℕ, ap, rules}
use lib.Bits.{bit_and, bit_xor}
use Rattle.graph.proofs.Rows.{one_shl}
use Rattle.graph.specs.Masks.{without}
use Rattle.graph.proofs.mask.without.Goals as goal

pub returns : goal.returns
unfolding without
returns c = ap (λ (x : ℕ). bit_xor c.args.mask (bit_and c.args.mask x)) (one_shl c.args.v (search rules))
