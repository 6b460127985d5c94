use Rattle.replay.proofs.Placing.{upto_next}
use lib.ListN.{get_or, length-set}
use mathlib.Core.Path.{◌∙◌}
use borrow.Author.Rules.{rules}
use native.Mathlib.Omega.{arith}
use Rattle.replay.proofs.orders.places.Goals as goal

pub loop-i-preserved : goal.loop-i-preserved
loop-i-preserved c =
    let o = c.args.order.now in
    let l = c.loop-i in
    rw c.from.ensures (
      upto_next o l.out l.i c.requires.once (search rules) (omega (arith, l.invariant.1, c.requires.small l.i (search rules))) l.invariant.0,
      length-set l.out (get_or o l.i 0) l.i ∙ l.invariant.1,
    )
