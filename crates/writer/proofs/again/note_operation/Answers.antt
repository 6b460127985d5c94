use Rattle.std.proofs.Common.{sym}
use Rattle.writer.proofs.Renoting.{noted_now, is_write_lem}
use Rattle.writer.proofs.again.note_operation.Goals as goal

pub unwrap-requires : goal.unwrap-requires
unwrap-requires c =
    (noted_now c.args.log.bytes.now c.args.t c.args.log.taken c.requires.0 _ _ _ c.args.m _ _ _ 0 c.requires.1 c.operation-o.ensures (sym c.if-o-eq0.true) c.requires.2 c.note_read.ensures).0

pub unwrap-requires-else-o-eq0 : goal.unwrap-requires-else-o-eq0
unwrap-requires-else-o-eq0 c =
    (noted_now c.args.log.bytes.now c.args.t c.args.log.taken c.requires.0 _ _ _ c.args.m _ _ _ 1 c.requires.1 c.operation-o.ensures (is_write_lem _ _ _ _ _ _ c.args.log.taken c.requires.0 c.requires.1 c.operation-o.ensures c.if-o-eq0.false) c.requires.2 c.note_write.ensures).0

pub returns-then-o-eq0 : goal.returns-then-o-eq0
returns-then-o-eq0 c =
    (noted_now c.args.log.bytes.now c.args.t c.args.log.taken c.requires.0 _ _ _ c.args.m _ _ _ 0 c.requires.1 c.operation-o.ensures (sym c.if-o-eq0.true) c.requires.2 c.note_read.ensures).1

pub returns-else-o-eq0 : goal.returns-else-o-eq0
returns-else-o-eq0 c =
    (noted_now c.args.log.bytes.now c.args.t c.args.log.taken c.requires.0 _ _ _ c.args.m _ _ _ 1 c.requires.1 c.operation-o.ensures (is_write_lem _ _ _ _ _ _ c.args.log.taken c.requires.0 c.requires.1 c.operation-o.ensures c.if-o-eq0.false) c.requires.2 c.note_write.ensures).1
