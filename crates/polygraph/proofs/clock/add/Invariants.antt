use Rattle.polygraph.specs.Clock.{clock_step}
use Rattle.model.specs.Lists.{fold, up_to}
use Rattle.model.specs.Times.{times}
use mathlib.Core.Path.{◌≡◌}
use Rattle.polygraph.proofs.clock.add.Given as goal

abbrev pub invariant-loop-u : goal.invariant-loop-u
invariant-loop-u l = l.out ≡ fold (clock_step (times l.clock.begin.now l.clock.end.now l.clock.drift)) l.initial.out (up_to l.u)
