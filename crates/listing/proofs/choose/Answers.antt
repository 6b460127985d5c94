use native.Mathlib.Omega.{arith}
use Rattle.graph.proofs.MemberLaws.{members_next}
use Rattle.listing.proofs.Choosing.{chose_one, going_next, going_end, row_next, row_room, row_none}
use Rattle.listing.proofs.choose.Goals as goal

pub bounds-chosen-from : goal.bounds-chosen-from
bounds-chosen-from c =
    let l = c.loop-m in
    omega (arith, row_room _ l.m l.invariant.0 c.loop-m-test.true l.invariant.1)

pub loop-m-preserved : goal.loop-m-preserved
loop-m-preserved c =
    let l = c.loop-m in
    let next = members_next l.m c.clear_low-m.result l.invariant.0 c.loop-m-test.true c.clear_low-m.ensures.1 in (
      omega (arith, c.clear_low-m.ensures.0, l.invariant.0),
      rw c.from.ensures (going_next _ _ _ _ _ _ _ _ _ _ (row_next c.args.row _ _ _ next) l.invariant.1 (chose_one _ _ _)),
    )

pub returns : goal.returns
returns c =
    let l = c.loop-m in
    going_end _ _ _ _ _ _ (row_none c.args.row l.m c.loop-m-test.false) l.invariant.1
