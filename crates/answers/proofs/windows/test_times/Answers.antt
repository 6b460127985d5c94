use Rattle.model.specs.Times.{times}
use Rattle.answers.proofs.Clocking.{apart, other, far, late, good, turned}
use mathlib.Core.Path.{sym}
use Rattle.answers.proofs.windows.test_times.Goals as goal

pub returns-then-clock : goal.returns-then-clock
returns-then-clock c = let a = c.args in sym (apart a.n (times a.clock.begin.now a.clock.end.now a.clock.drift) c.if-clock.true)

pub returns-then-clock-n : goal.returns-then-clock-n
returns-then-clock-n c = let a = c.args in sym (other a.n (times a.clock.begin.now a.clock.end.now a.clock.drift) c.if-clock.false c.if-clock-n.true)

pub returns-then-clock-gt3600 : goal.returns-then-clock-gt3600
returns-then-clock-gt3600 c =
    let a = c.args in
    sym (far a.n (times a.clock.begin.now a.clock.end.now a.clock.drift) c.if-clock.false c.if-clock-n.false c.if-clock-gt3600.true)

pub returns : goal.returns
returns c =
    let a = c.args in
    sym (good a.n (times a.clock.begin.now a.clock.end.now a.clock.drift) c.if-clock.false c.if-clock-n.false c.if-clock-gt3600.false (turned _ _ _ _ c.if-clock.false c.in_turn.ensures c.if-not-in_turn.false))

pub returns-then-not-in_turn : goal.returns-then-not-in_turn
returns-then-not-in_turn c =
    let a = c.args in
    sym (late a.n (times a.clock.begin.now a.clock.end.now a.clock.drift) c.if-clock.false c.if-clock-n.false c.if-clock-gt3600.false (turned _ _ _ _ c.if-clock.false c.in_turn.ensures c.if-not-in_turn.true))
