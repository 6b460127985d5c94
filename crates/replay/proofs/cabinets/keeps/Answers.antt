use Rattle.replay.proofs.Alls.{range_all}
use Rattle.replay.specs.Steps.{kept_by}
use Rattle.model.specs.Lists.{all, up_to}
use Rattle.model.specs.Log.{transactions_in}
use Rattle.std.proofs.Common.{ℕ, ◌-◌, ◌∙◌, ap, refl, arith, rules, tests}
use Rattle.std.proofs.lemmas.Iterator.{YieldsList-from_range}
use Rattle.std.proofs.lemmas.Iterator.Search.{all_from_yields_List}
use Rattle.replay.proofs.cabinets.keeps.Goals as goal

pub returns : goal.returns
returns c =
    let a = c.args in
    let kept = λ (u : ℕ). all (kept_by a.log.bytes.now a.places u) (up_to (transactions_in a.log.bytes.now)) in
    let n = c.transactions.result in
    all_from_yields_List kept _ _ _ c.all.ensures.ran (YieldsList-from_range 0 n (n - 0) refl refl) (λ x b q k. search (rules, tests))
    ∙ range_all kept 0 n (λ v l. absurd (omega arith))
    ∙ ap (λ n. all kept (up_to n)) c.transactions.ensures.0
