use Rattle.replay.proofs.Running.{stored_none, put_is, stored_all}
use Rattle.logs.proofs.Reading.{inside_few, operation_is}
use mathlib.Core.Path.{◌∙◌}
use native.Mathlib.Omega.{arith}
use Rattle.replay.proofs.tables.store.Goals as goal

pub loop-m-init : goal.loop-m-init
loop-m-init c =
    let a = c.args in
    stored_none a.marks a.log.bytes.now a.out.now a.t

pub left_by-requires : goal.left_by-requires
left_by-requires c =
    (omega (arith, inside_few c.args.log.bytes.now c.args.t (record { loads = c.args.log.taken; below = c.requires })), c.operation-o.ensures.argument_fits)

pub loop-m-preserved : goal.loop-m-preserved
loop-m-preserved c =
    let a = c.args in
    let l = c.loop-m in
    put_is a.marks a.log.bytes.now a.out.now a.t l.m l.out _ _ _ l.invariant (operation_is a.log.bytes.now a.t l.m _ c.operation-o.ensures) c.left_by.ensures c.kept.ensures

pub returns : goal.returns
returns c =
    let a = c.args in
    let l = c.loop-m in
    l.invariant ∙ stored_all a.marks a.log.bytes.now a.out.now a.t l.m c.requires (omega (arith, c.count-m-end.ensures.0))
