use Rattle.polygraph.proofs.ReadEdges.{marked_all}
use mathlib.Core.Path.{ap₂, ◌∙◌}
use native.Mathlib.Omega.{arith}
use Rattle.std.proofs.lemmas.List.{take_all}
use Rattle.model.specs.Lists.{fold}
use Rattle.polygraph.specs.Tables.{mark_step}
use Rattle.polygraph.proofs.read_marks.Goals as goal

pub returns : goal.returns
returns c =
    let l = c.loop-i in
    let a = c.args in
    (λ i k. l.invariant.0.at i (omega arith), λ b d. marked_all b d.loads _ _ _ d (l.invariant.1 ∙ ap₂ (fold (mark_step a.writers.now)) c.requires.1 (take_all l.i a.reads.now (omega arith))))
