use native.Mathlib.Omega.{arith}
use Rattle.std.proofs.lemmas.List.{take_all}
use mathlib.Core.Path.{ap, ◌∙◌}
use lib.Dec.{eqb}
use Rattle.model.specs.Lists.{fold}
use Rattle.model.specs.Log.{history_of}
use Rattle.polygraph.specs.Edges.{cabinet_rows, read_step}
use Rattle.polygraph.proofs.ReadEdges.{known_all}
use Rattle.polygraph.proofs.known.Goals as goal

pub returns : goal.returns
returns c =
    let a = c.args in
    let l = c.loop-i in
    let all = take_all l.i a.reads.now (omega arith) in
    known_all a.log.bytes.now c.requires.0.loads a.encoding a.writers.now a.marks.now a.reads.now l.out c.requires.0 c.requires.2
    (l.invariant ∙ ap (λ rs. fold (read_step (eqb a.encoding 2) a.writers.now a.marks.now) (cabinet_rows (history_of a.log.bytes.now)) rs) all)
