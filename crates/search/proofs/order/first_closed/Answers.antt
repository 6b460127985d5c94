use native.Mathlib.Omega.{arith}
use Rattle.search.proofs.Firsts.{first_alone, first_lowest, first_none, first_begins}
use Rattle.search.proofs.order.first_closed.Goals as goal

pub lowest_first-requires : goal.lowest_first-requires
lowest_first-requires c =
    first_alone _ _ _ _ c.requires.0 c.requires.1 _ c.all_open.ensures _ _ _ c.prune-stuck.ensures c.if-stuck.false _ c.lighter.ensures _ c.numbers-set.ensures

pub returns-then-next_open-n : goal.returns-then-next_open-n
returns-then-next_open-n c =
    first_lowest _ _ _ _ c.requires.0 c.requires.1 _ c.all_open.ensures _ _ _ c.prune-stuck.ensures c.if-stuck.false _ c.lighter.ensures _ c.next_open.ensures (omega arith) _ c.lowest_first.ensures

pub returns-in_err-sel : goal.returns-in_err-sel
returns-in_err-sel c =
    rw c.from_residual.ensures (first_none _ _ _ _ c.requires.0 c.requires.1 _ c.all_open.ensures _ _ _ c.prune-stuck.ensures c.if-stuck.false _ c.lighter.ensures c.in_err-sel.ensures)

pub fill-requires : goal.fill-requires
fill-requires c =
    first_begins _ _ _ _ c.requires.0 c.requires.1 _ c.all_open.ensures _ _ _ c.prune-stuck.ensures c.if-stuck.false _ c.lighter.ensures _ c.in_ok-sel.ensures _ c.numbers-set.ensures
