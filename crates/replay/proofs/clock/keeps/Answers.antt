use Rattle.replay.proofs.Alls.{numbered_all}
use Rattle.replay.specs.Steps.{stands_after, clock_kept}
use Rattle.model.specs.Lists.{all, up_to}
use Rattle.std.proofs.Common.{ℕ, ◌+◌, ◌∙◌, length, get_or, rules, tests}
use Rattle.std.proofs.lemmas.Iterator.{YieldsList-from_slice}
use Rattle.std.proofs.lemmas.Iterator.Consumers.{YieldsList-from_enumerate}
use Rattle.std.proofs.lemmas.Iterator.Search.{all_from_yields_List}
use Rattle.replay.proofs.clock.keeps.Goals as goal

pub returns : goal.returns
unfolding clock_kept
returns c =
    let a = c.args in
    let kept = λ (p : ℕ × ℕ). all (λ (v : ℕ). stands_after (p.1 + a.clock.drift) (get_or a.clock.begin.now v 0) a.places p.0 v) (up_to (length a.clock.begin.now)) in
    all_from_yields_List kept _ _ _ c.all.ensures.ran (YieldsList-from_enumerate (YieldsList-from_slice a.clock.end.now (cc)) (cc)) (λ x b q k. search (rules, tests))
    ∙ numbered_all kept a.clock.end.now
