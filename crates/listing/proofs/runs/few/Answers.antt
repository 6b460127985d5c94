use mathlib.Core.Path.{◌∙◌}
use borrow.Author.Tests.{eq-eqb}
use Rattle.listing.proofs.Stepping.{few_none, few_some}
use Rattle.listing.proofs.runs.few.Goals as goal

pub returns-then-set-eq0 : goal.returns-then-set-eq0
returns-then-set-eq0 c = eq-eqb c.args.set 0 c.if-set-eq0.true ∙ few_none c.args.set c.if-set-eq0.true

pub returns-else-set-eq0 : goal.returns-else-set-eq0
returns-else-set-eq0 c = few_some c.args.set _ c.ranges.set.fits c.if-set-eq0.false c.clear_low.ensures.0 c.clear_low.ensures.1
