use Rattle.model.specs.Times.{times}
use Rattle.model.specs.Window.{window}
use Rattle.model.proofs.Windows.{number_of_log, number_of_table}
use mathlib.Core.Path.{sym, ◌∙◌}
use borrow.Author.Rules.{rules}
use Rattle.answers.proofs.windows.load.Goals as goal

pub returns-then-starting-ne32-clause-number : goal.returns-then-starting-ne32-clause-number
returns-then-starting-ne32-clause-number c = let a = c.args in sym (number_of_table (window a.bytes.now a.starting.now (times a.clock.begin.now a.clock.end.now a.clock.drift)) (search rules))

pub returns-clause-number : goal.returns-clause-number
returns-clause-number c =
    let a = c.args in
    c.load_timed.ensures.number ∙ sym (number_of_log (window a.bytes.now a.starting.now (times a.clock.begin.now a.clock.end.now a.clock.drift)) (search rules))
