use lib.Count.{count_trailing_zeros}
use native.Mathlib.Omega.{arith}
use Prim.Native.Nat.{◌+◌, ◌*◌}
use Rattle.graph.specs.Members.{members}
use Rattle.graph.proofs.MemberLaws.{members_next, low_below}
use Rattle.listing.specs.Choosing.{in_row}
use Rattle.listing.specs.Runs.{pairs_in}
use Rattle.listing.proofs.Choosing.{going_next, going_end, going_room}
use Rattle.listing.proofs.Stepping.{pairs_next, pairs_none}
use Rattle.listing.proofs.runs.Runs.pairs.Goals as goal

pub choose-n-requires : goal.choose-n-requires
choose-n-requires c =
    let l = c.loop-m in
    let k = c.args.self.k in
    let r = c.clear_low-m in
    let next = members_next l.m r.result l.invariant.0 c.loop-m-test.true r.ensures.1 in (
      omega (arith, low_below l.m l.invariant.0 c.loop-m-test.true, c.args.self.is_key),
      omega (arith, going_room _ _ _ _ (in_row (k * 32 + count_trailing_zeros 32 l.m) (members r.result)) (pairs_in k (members r.result)) _ _ (pairs_next k l.m _ _ next) l.invariant.1),
    )

pub loop-m-preserved : goal.loop-m-preserved
loop-m-preserved c =
    let l = c.loop-m in
    let r = c.clear_low-m in
    let next = members_next l.m r.result l.invariant.0 c.loop-m-test.true r.ensures.1 in (
      omega (arith, r.ensures.0, l.invariant.0),
      going_next _ _ _ _ _ _ _ _ _ _ (pairs_next c.args.self.k l.m _ _ next) l.invariant.1 c.choose-n.ensures,
    )

pub returns : goal.returns
returns c =
    let l = c.loop-m in
    going_end _ _ _ _ _ _ (pairs_none c.args.self.k l.m c.loop-m-test.false) l.invariant.1
