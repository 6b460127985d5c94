use Rattle.answers.specs.Clocks.{no_clock}
use mathlib.Core.Path.{refl}
use Rattle.answers.proofs.clocks.none.Goals as goal

pub returns : goal.returns
unfolding no_clock
returns c = refl
