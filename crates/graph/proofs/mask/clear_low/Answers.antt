use Rattle.std.proofs.Common.{◌-◌, arith}
use lib.Bits.{and_le_r}
use Rattle.graph.proofs.WordLaws.{positive, low_cleared}
use Rattle.graph.proofs.mask.clear_low.Goals as goal

pub returns : goal.returns
returns c =
    let w = c.args.set in (omega (arith, positive w c.requires, and_le_r w (w - 1)), λ s. low_cleared 32 w s c.requires c.ranges.set.fits)
