use Rattle.answers.specs.declared.Clock.{Clock}
use Rattle.answers.specs.declared.Stage.TheVariants.{Fresh}
use Rattle.checker.specs.declared.Case.{Case}
use Rattle.checker.specs.Cases.{fresh_case}
use Rattle.model.specs.Window.{zeros}
use lib.ListN.{replicate}
use mathlib.Core.Path.{ap}
use Rattle.checker.proofs.Case.fresh.Goals as goal

-- the case with nothing loaded and these times
abbrev with : Clock → Case
with k = record { stage = Fresh; bytes = replicate 1156 0; length = 0; starting = zeros; clock = k; order = replicate 32 0 }

pub returns : goal.returns
unfolding fresh_case
returns c = ap with c.none-clock.ensures
