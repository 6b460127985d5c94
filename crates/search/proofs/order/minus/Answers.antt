use Rattle.graph.proofs.WordLaws.{bit_minus}
use Rattle.search.proofs.order.minus.Goals as goal

pub returns : goal.returns
returns c = bit_minus c.args.set c.args.other
