use mathlib.Core.Path.{ap, ◌∙◌}
use Rattle.model.specs.Log.{history_of}
use Rattle.model.specs.Polygraph.{rows}
use Rattle.model.specs.Times.{times}
use Rattle.model.proofs.Times.{times_short}
use Rattle.encoding.proofs.Laws.{planned_timed}
use Rattle.encoding.proofs.prepare.Goals as goal

pub add-requires : goal.add-requires
add-requires c = times_short _ _ c.args.window.taken

pub returns : goal.returns
returns c =
    let w = c.args.window in
    planned_timed w.log.bytes.now (times w.clock.begin.now w.clock.end.now w.clock.drift) w.taken _ _ _ _ _ _ c.choose-count.ensures (c.known-rows.ensures ∙ ap (rows (history_of w.log.bytes.now)) c.number.ensures) c.add.ensures
