use Rattle.model.specs.Times.{times}
use Rattle.model.proofs.Times.{timed_log, times_short}
use Rattle.replay.proofs.Judging.{legal_no, legal_late, legal_by}
use Rattle.replay.proofs.Placing.{order_places}
use Rattle.std.proofs.Common.{sym, ◌∙◌}
use Rattle.replay.proofs.is_legal.Goals as goal
use Rattle.replay.proofs.is_legal.Goals.{then-keeps, else-keeps}

pub places-places-requires : goal.places-places-requires
places-places-requires c =
    order_places c.args.log.log.bytes.now c.args.order.now (timed_log _ _ c.args.log.taken) c.requires

pub keeps-requires-then-keeps : goal.keeps-requires-then-keeps
keeps-requires-then-keeps c = times_short _ _ c.args.log.taken

pub explains-requires : goal.explains-requires
explains-requires c = c.requires

pub returns-then-keeps-2 : goal.returns-then-keeps-2
returns-then-keeps-2 c =
    elim c.if-keeps.branch [
      | then-keeps w ↦ legal_by c.args.log.log.bytes.now (times c.args.log.clock.begin.now c.args.log.clock.end.now c.args.log.clock.drift) c.args.log.taken c.args.order.now c.requires _ c.places-places.ensures _ c.keeps.ensures (w.if-keeps.true) _ w.keeps-then-keeps.ensures _ (sym w.value-is ∙ c.if-keeps-2.true) c.explains.ensures
      | else-keeps w ↦ absurd (cc)
    ]

pub returns-else-keeps-2 : goal.returns-else-keeps-2
returns-else-keeps-2 c =
    elim c.if-keeps.branch [
      | then-keeps w ↦ c.if-keeps-2.false ∙ legal_late c.args.log.log.bytes.now (times c.args.log.clock.begin.now c.args.log.clock.end.now c.args.log.clock.drift) c.args.log.taken c.args.order.now c.requires _ c.places-places.ensures _ c.keeps.ensures (w.if-keeps.true) _ w.keeps-then-keeps.ensures (sym w.value-is ∙ c.if-keeps-2.false)
      | else-keeps w ↦ c.if-keeps-2.false ∙ legal_no c.args.log.log.bytes.now (times c.args.log.clock.begin.now c.args.log.clock.end.now c.args.log.clock.drift) c.args.log.taken c.args.order.now c.requires _ c.places-places.ensures _ c.keeps.ensures (w.if-keeps.false)
    ]
