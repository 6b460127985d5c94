use Rattle.std.proofs.Common.{arith}
use Rattle.writer.proofs.Renoting.{opened_now, closed_now}
use Rattle.writer.proofs.again.note_transaction.Goals as goal

pub unwrap-requires : goal.unwrap-requires
unwrap-requires c = (opened_now c.args.log.bytes.now c.args.t c.args.log.taken c.requires.0 _ _ _ _ c.requires.1 c.cabinet.ensures c.open.ensures).0

pub loop-m-init : goal.loop-m-init
loop-m-init c = (opened_now c.args.log.bytes.now c.args.t c.args.log.taken c.requires.0 _ _ _ _ c.requires.1 c.cabinet.ensures c.open.ensures).1

pub unwrap-requires-2 : goal.unwrap-requires-2
unwrap-requires-2 c = (closed_now c.args.log.bytes.now c.args.t c.args.log.taken c.requires.0 _ _ _ c.loop-m.m (omega (arith, c.count-m-end.ensures.0)) c.loop-m.invariant c.close.ensures).0

pub returns : goal.returns
returns c = (closed_now c.args.log.bytes.now c.args.t c.args.log.taken c.requires.0 _ _ _ c.loop-m.m (omega (arith, c.count-m-end.ensures.0)) c.loop-m.invariant c.close.ensures).1
