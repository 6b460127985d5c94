use Prim.Native.Nat.{◌<◌, ◌^◌}
use Rattle.polygraph.specs.Tables.{put_at, owner_in, key_in}
use native.Mathlib.Omega.{arith}
use Rattle.polygraph.proofs.ReadTable.{slot_in_lt}
use Rattle.polygraph.proofs.ReadEdges.{step_is}
use borrow.Author.Rules.{rules}
use Rattle.polygraph.proofs.add_read.Goals as goal

pub bounds-marks-at : goal.bounds-marks-at
bounds-marks-at c = omega (arith, c.requires, slot_in_lt c.args.writers.now c.args.read)

pub returns : goal.returns
unfolding put_at owner_in key_in
returns c =
    let a = c.args in
    let own = c.own_edges in
    let small : own.result < 2 ^ 32 = search rules in
    step_is a.chained a.writers.now a.marks.now a.out.now a.read a.at c.put_if.result own.result c.requires c.put_if.ensures small own.ensures
