use Rattle.std.proofs.Common.{sym, ◌∙◌, arith}
use Rattle.graph.proofs.Rows.{cyclic_yes, cyclic_no}
use Rattle.graph.proofs.cyclic.Goals as goal

pub returns-then-has : goal.returns-then-has
returns-then-has c = λ g e. cyclic_yes c.args.closed g c.loop-u.u (omega arith) (sym c.has.ensures ∙ c.if-has.true) e

pub returns : goal.returns
returns c =
    let l = c.loop-u in
    λ g e. cyclic_no c.args.closed g (λ u h. l.invariant u (omega arith)) e
