use Rattle.model.specs.Times.{times}
use Rattle.answers.proofs.Rooms.{clock_is}
use Rattle.answers.proofs.clocks.clock_of.Goals as goal

pub returns : goal.returns
returns c =
    let a = c.args in
    clock_is (times a.clock.begin.now a.clock.end.now a.clock.drift) _ _ c.in_clock.ensures c.in_clock-2.ensures
