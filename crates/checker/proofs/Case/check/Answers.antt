use Rattle.checker.proofs.Checks.{checking_is, checked_yes, check_number}
use Rattle.answers.proofs.Answering.{judgement_yes_lem}
use Rattle.answers.specs.Numbers.{judgement_number, judgement_yes}
use mathlib.Core.Path.{ap, ◌∙◌}
use Rattle.checker.proofs.Case.check.Goals as goal

pub returns : goal.returns
returns c =
    let a = c.args in
    let e = c.judged-judgement.ensures in
    record {
      result = checking_is a.self _ _ e;
      number = ap judgement_number e ∙ check_number a.self _;
      yes = ap judgement_yes e ∙ judgement_yes_lem _ _ ∙ checked_yes a.self _;
    }
