use Rattle.graph.proofs.Rows.{closed_off_is}
use lib.Bits.{bit_and}
use Rattle.std.proofs.Common.{ℕ, not, eqb, ap, ◌∙◌}
use Rattle.graph.proofs.closed_off.Goals as goal

pub returns : goal.returns
returns c =
    λ g e. ap (λ (x : ℕ). not (eqb (bit_and c.args.from x) 0)) c.with.ensures ∙ closed_off_is c.args.closed.now g c.args.from c.args.to c.ranges.from.fits e
