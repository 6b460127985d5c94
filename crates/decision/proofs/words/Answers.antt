use Rattle.decision.proofs.Putting.{sofar_none, sofar_next, sofar_all}
use lib.ListN.{length}
use mathlib.Core.Path.{refl}
use native.Mathlib.Omega.{arith}
use Rattle.decision.proofs.words.Goals as goal

pub loop-i-init : goal.loop-i-init
loop-i-init c = sofar_none _ _ _ _ refl

pub loop-i-preserved : goal.loop-i-preserved
loop-i-preserved c =
    let l = c.loop-i in
    let a = c.args in
    sofar_next a.tables.now a.chosen.now (length a.out.now) l.i l.out _ _ (omega arith) l.invariant c.nth.ensures c.put_constraint.ensures

pub returns : goal.returns
returns c =
    let l = c.loop-i in
    sofar_all _ _ _ l.i _ l.out (omega arith) l.invariant
