use Rattle.setting.specs.Encodings.{pruning_number}
use Rattle.finding.proofs.Finding.{pruned_to, kept_all}
use native.Mathlib.Omega.{arith}
use mathlib.Core.Path.{ap}
use Rattle.finding.proofs.settle.Goals as goal

pub returns-then-pruned : goal.returns-then-pruned
returns-then-pruned c = (c.prune.ensures.0, λ g e t. pruned_to _ _ _ _ _ _ g _ (ap pruning_number c.if-pruned.true) (c.prune.ensures.1 g e t))

pub returns : goal.returns
returns c = (omega arith, λ g e t. kept_all _ _ _ _ g _ (λ z. omega (arith, ap pruning_number c.if-pruned.false, z)) e)
