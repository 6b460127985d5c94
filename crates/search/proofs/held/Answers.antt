use Rattle.search.proofs.Steps.{held_first, held_second}
use mathlib.Core.Path.{◌∙◌}
use Rattle.search.proofs.held.Goals as goal

pub returns-then-side_held : goal.returns-then-side_held
returns-then-side_held c = c.if-side_held.true ∙ held_first _ _ _ c.side_held.ensures c.if-side_held.true

pub returns-else-side_held : goal.returns-else-side_held
returns-else-side_held c = held_second _ _ _ _ c.side_held.ensures c.if-side_held.false c.side_held-else-side_held.ensures
