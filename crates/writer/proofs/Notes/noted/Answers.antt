use Rattle.std.proofs.Common.{arith, ◌∙◌}
use Rattle.writer.specs.Held.{noted_in}
use Rattle.writer.proofs.Counting.{sum_taken}
use Rattle.writer.proofs.Notes.noted.Goals as goal

pub returns : goal.returns
unfolding noted_in
returns c = c.total.ensures ∙ sum_taken _ _ (omega arith)
