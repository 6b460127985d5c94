use Rattle.replay.proofs.Running.{ran_none, ran_next, ran_table}
use Rattle.replay.proofs.Placing.{order_in_log}
use Rattle.replay.specs.Steps.{stored_by}
use Rattle.model.specs.Log.{history_of}
use mathlib.Core.Bool.{false}
use mathlib.Core.Path.{ap₂, ◌∙◌}
use borrow.Author.Rules.{rules}
use native.Mathlib.Omega.{arith}
use Rattle.replay.proofs.tables.table.Goals as goal

pub loop-t-init : goal.loop-t-init
loop-t-init c =
    let a = c.args in
    ran_none false a.log.bytes.now a.starting a.order.now

pub store-requires : goal.store-requires
store-requires c =
    rw c.from.ensures (order_in_log c.args.log.bytes.now c.args.order.now c.requires c.loop-t.t-index (search rules))

pub loop-t-preserved : goal.loop-t-preserved
loop-t-preserved c =
    let a = c.args in
    let b = a.log.bytes.now in
    let o = a.order.now in
    let l = c.loop-t in
    c.store.ensures ∙ ap₂ (stored_by false (history_of b)) l.invariant c.from.ensures ∙ ran_next false b a.starting o l.t-index (search rules)

pub returns : goal.returns
returns c =
    let l = c.loop-t in
    l.invariant ∙ ran_table _ _ _ l.t-index (omega arith)
