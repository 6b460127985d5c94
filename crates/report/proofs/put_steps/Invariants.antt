use Rattle.report.specs.Text.{Wrote, step_text}
use lib.ListN.{take}
use Rattle.model.specs.Lists.{each}
use Rattle.report.proofs.put_steps.Given as goal

abbrev pub invariant-loop-t : goal.invariant-loop-t
invariant-loop-t l = Wrote l.initial.out l.at (each step_text (take l.t-index l.t-items)) l.out l.end
