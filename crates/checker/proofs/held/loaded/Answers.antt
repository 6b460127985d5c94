use Rattle.checker.proofs.Holding.{log_room, loaded_is}
use Rattle.model.proofs.Windows.{taken_log, taken_long, taken_timed}
use Rattle.model.proofs.Times.{times_short}
use Rattle.model.specs.Times.{times}
use Rattle.model.specs.Window.{window}
use Rattle.checker.proofs.held.loaded.Goals as goal

pub in_room-requires : goal.in_room-requires
in_room-requires c = log_room _ (taken_log (window c.args.log.now c.args.starting.now (times c.args.clock.begin.now c.args.clock.end.now c.args.clock.drift)) c.requires)

pub values_of-requires : goal.values_of-requires
values_of-requires c = taken_long (window c.args.log.now c.args.starting.now (times c.args.clock.begin.now c.args.clock.end.now c.args.clock.drift)) c.requires

pub clock_of-requires : goal.clock_of-requires
clock_of-requires c =
    let ts = times c.args.clock.begin.now c.args.clock.end.now c.args.clock.drift in
    times_short c.args.log.now ts (taken_timed (window c.args.log.now c.args.starting.now ts) c.requires)

pub returns : goal.returns
returns c = loaded_is (window c.args.log.now c.args.starting.now (times c.args.clock.begin.now c.args.clock.end.now c.args.clock.drift)) _ _ _ c.in_room.ensures c.values_of.ensures c.clock_of.ensures
