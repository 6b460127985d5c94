use Rattle.answers.proofs.Holding.{claims_is}
use Rattle.model.specs.Log.{transactions_in}
use mathlib.Core.Path.{ap, ◌∙◌}
use Rattle.answers.proofs.stages.claims_order.Goals as goal

pub of-requires : goal.of-requires
of-requires c = c.requires.1

pub returns : goal.returns
returns c = claims_is _ _ _ _ _ (c.transactions-n.ensures.0 ∙ ap transactions_in c.of.ensures) c.is_order.ensures
