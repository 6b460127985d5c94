use Rattle.search.specs.Constraints.{with_words}
use borrow.Author.Rules.{rules}
use Rattle.search.proofs.put_constraint.Goals as goal

pub returns : goal.returns
unfolding with_words
returns c = search rules
