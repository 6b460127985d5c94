use mathlib.Core.Path.{sym, ◌∙◌}
use Rattle.logs.proofs.Flat.{good_all}
use Rattle.logs.proofs.bodies.test.Goals as goal

pub returns-then-good-count : goal.returns-then-good-count
returns-then-good-count c =
    sym (good_all c.args.log.now c.args.n c.requires.0 _ (c.if-good-count.true ∙ c.requires.1) c.count_good-good.ensures)
