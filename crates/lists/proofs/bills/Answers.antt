-- The first places of the list are lent to Bills; those behind them are as they were.
use Rattle.std.proofs.lemmas.List.{take-replicate, drop-replicate}
use Rattle.lists.proofs.Parts.{billed_first}
use Rattle.lists.proofs.bills.Goals as goal

pub returns : goal.returns
returns c =
    let a = c.args in
    let b = c.bills-answer in
    billed_first a.c a.places 20 a.mark _ b.new.list _ b.result (take-replicate a.places 20 a.mark c.requires) (drop-replicate a.places 20 a.mark) b.ensures.result b.ensures.list
