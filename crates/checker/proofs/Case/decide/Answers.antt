-- What is found out before anything is written, the list, and the answer beside the case with it stored.
use Rattle.std.proofs.Common.{ap, ◌∙◌}
use Rattle.checker.specs.declared.Case.{Case}
use Rattle.checker.specs.Preparing.{answering}
use Rattle.checker.proofs.Preparing.{decides_refused, decides_found}
use Rattle.checker.proofs.Case.decide.Goals as goal

pub returns-in-Err : goal.returns-in-Err
returns-in-Err c =
    let a = c.args in
    decides_refused a.self a.encoding a.pruning a.list.now _ c.in-Err.refusal c.in-Err.ensures.number_is c.refused.ensures

pub returns-in-Ok : goal.returns-in-Ok
returns-in-Ok c =
    let a = c.args in
    let o = c.in-Ok.found in
    decides_found a.self a.encoding a.pruning a.list.now _ _ _ _ o c.in-Ok.ensures.number_is c.in-Ok.ensures.found c.write_left.ensures
    (c.answered.ensures ∙ ap (λ (k : Case). answering k o.order o.left) c.stored-self.ensures)
