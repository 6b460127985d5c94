use Rattle.replay.proofs.Placing.{kept_back}
use Rattle.replay.proofs.Alls.{range_all}
use Rattle.replay.specs.Steps.{kept_by}
use Rattle.model.specs.Lists.{all, up_to}
use Rattle.std.proofs.Common.{◌+◌, ◌-◌, ◌∙◌, ap, refl, arith, rules, tests}
use Rattle.std.proofs.lemmas.Iterator.{YieldsList-from_range}
use Rattle.std.proofs.lemmas.Iterator.Search.{all_from_yields_List}
use Rattle.replay.proofs.cabinets.keeps_from.Goals as goal

pub returns : goal.returns
returns c =
    let a = c.args in
    let n = c.transactions-n.result in
    let kept = kept_by a.log.bytes.now a.places a.u in
    all_from_yields_List kept _ _ _ c.all.ensures.ran (YieldsList-from_range (a.u + 1) n (n - (a.u + 1)) refl refl) (λ x b q k. search (rules, tests))
    ∙ range_all kept (a.u + 1) n (λ v l. kept_back a.log.bytes.now a.places a.u v (omega arith))
    ∙ ap (λ n. all kept (up_to n)) c.transactions-n.ensures.0
