-- The first places of the list are lent to both Decides, and then to `pack`.
use Rattle.std.proofs.Common.{length, ap, List, ◌∙◌}
use Rattle.std.proofs.lemmas.List.{take-replicate}
use Rattle.model.specs.declared.Constraint.{Constraint}
use Rattle.lists.proofs.Parts.{first_again, lent_long, decided_twice}
use Rattle.lists.proofs.decide_again.Goals as goal

pub returns : goal.returns
returns c =
    let a = c.args in
    let b = c.decide-before in
    let d = c.decide-d in
    let long = b.auto.list ∙ lent_long a.places 4096 a.mark c.requires.0 in
    let again = first_again a.places b.new.list _ long in
    let long₁ = ap (λ (l : List Constraint). length l) again ∙ long in
    decided_twice a.first a.second a.e a.p a.encoding a.pruning a.out.now a.places a.mark _ _ _ b.new.list d.new.list d.result c.pack.new.out (take-replicate a.places 4096 a.mark c.requires.0) b.ensures.list
    again long₁ d.ensures.result d.ensures.list (first_again a.places d.new.list _ (d.auto.list ∙ long₁)) c.pack.ensures.1
