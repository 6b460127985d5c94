use mathlib.Core.Path.{◌∙◌}
use Rattle.polygraph.proofs.RowWords.{next_word}
use Rattle.polygraph.proofs.next_at.Goals as goal

pub returns : goal.returns
returns c =
    let a = c.args in
    c.next_of.ensures ∙ next_word a.n a.writers.now a.marks.now a.k a.u c.requires.0 c.requires.1
