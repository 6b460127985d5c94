use Rattle.search.proofs.Words.{word_none}
use Rattle.search.proofs.order.open_word.Goals as goal

pub returns-then-w-n : goal.returns-then-w-n
returns-then-w-n c = λ b h. word_none _ _ b c.if-w-n.true
