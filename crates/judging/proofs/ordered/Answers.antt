use Rattle.judging.proofs.Outcomes.{text_is}
use Rattle.report.proofs.Texts.{wrote_as}
use Rattle.judging.proofs.ordered.Goals as goal

pub returns : goal.returns
returns c =
    wrote_as
    (text_is c.args.log.bytes.now c.args.c c.requires.0 _ _ _ _
    c.transactions-n.ensures.0
    c.order-o.ensures.list
    c.writers-writers.ensures
    c.table-t.ensures.list)
    c.found_text.ensures
