use native.Mathlib.Omega.{arith}
use Rattle.listing.proofs.Keys.{keys_none, keys_next, keys_room, keys_all}
use Rattle.listing.proofs.runs.table.Goals as goal

pub loop-k-init : goal.loop-k-init
loop-k-init c = keys_none c.args.encoding c.args.writers.now c.args.marks.now c.args.n _ _

pub list-count-requires : goal.list-count-requires
list-count-requires c =
    let l = c.loop-k in
    let a = c.args in
    omega (arith, keys_room a.encoding a.writers.now a.marks.now a.n _ _ l.k _ _ _ (omega arith) l.invariant)

pub loop-k-preserved : goal.loop-k-preserved
loop-k-preserved c =
    let l = c.loop-k in
    let a = c.args in
    keys_next a.encoding a.writers.now a.marks.now a.n _ _ l.k _ _ _ _ _ _ l.invariant c.list-count.ensures

pub returns : goal.returns
returns c =
    let l = c.loop-k in
    let a = c.args in
    rw c.from.ensures (keys_all a.encoding a.writers.now a.marks.now a.n _ _ l.k _ _ _ (omega arith) l.invariant)
