use Rattle.replay.proofs.Alls.{numbered_all}
use Rattle.replay.specs.Steps.{stands_after}
use Rattle.std.proofs.Common.{ℕ, ◌+◌, ◌∙◌, rules, tests}
use Rattle.std.proofs.lemmas.Iterator.{YieldsList-from_slice}
use Rattle.std.proofs.lemmas.Iterator.Consumers.{YieldsList-from_enumerate}
use Rattle.std.proofs.lemmas.Iterator.Search.{all_from_yields_List}
use Rattle.replay.proofs.clock.keeps_from.Goals as goal

pub returns : goal.returns
returns c =
    let a = c.args in
    let kept = λ (p : ℕ × ℕ). stands_after (a.end + a.clock.drift) p.1 a.places a.u p.0 in
    all_from_yields_List kept _ _ _ c.all.ensures.ran (YieldsList-from_enumerate (YieldsList-from_slice a.clock.begin.now (cc)) (cc)) (λ x b q k. search (rules, tests))
    ∙ numbered_all kept a.clock.begin.now
