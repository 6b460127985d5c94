use Rattle.replay.proofs.Running.{ran_none, ran_next, agrees_at, agrees_by_lem, explains_is}
use Rattle.replay.proofs.Placing.{order_in_log}
use Rattle.replay.proofs.Alls.{all_next, all_stop, all_end, held, failed}
use Rattle.replay.specs.Steps.{reads_agree, stored_by}
use Rattle.model.proofs.Places.{order_out}
use Rattle.model.specs.Log.{transactions_in, history_of}
use lib.ListN.{length, replicate}
use mathlib.Core.Bool.{true}
use mathlib.Core.Path.{ap, ap₂, ◌∙◌}
use borrow.Author.Rules.{rules}
use native.Mathlib.Omega.{arith}
use Rattle.replay.proofs.tables.explains.Goals as goal

pub loop-t-init : goal.loop-t-init
loop-t-init c = (ran_none true c.args.log.bytes.now (replicate 32 65535) c.args.order.now, tt)

pub reads_agree-requires : goal.reads_agree-requires
reads_agree-requires c =
    rw c.from-t.ensures (order_in_log c.args.log.bytes.now c.args.order.now c.requires c.loop-t.t-index (search rules))

pub returns-then-not-reads_agree : goal.returns-then-not-reads_agree
returns-then-not-reads_agree c =
    let b = c.args.log.bytes.now in
    let o = c.args.order.now in
    let l = c.loop-t in
    all_stop (agrees_at b o) l.t-index (length o) (search rules)
    (failed _ _ (agrees_by_lem b o l.t-index _ _ l.invariant.0 (c.reads_agree.ensures ∙ ap (reads_agree (history_of b) l.last) c.from-t.ensures)) c.if-not-reads_agree.true)
    ∙ explains_is b o c.args.log.taken (order_out (transactions_in b) o c.requires)

pub store-requires : goal.store-requires
store-requires c =
    rw c.from-t.ensures (order_in_log c.args.log.bytes.now c.args.order.now c.requires c.loop-t.t-index (search rules))

pub loop-t-preserved : goal.loop-t-preserved
loop-t-preserved c =
    let b = c.args.log.bytes.now in
    let o = c.args.order.now in
    let l = c.loop-t in (
      c.store.ensures ∙ ap₂ (stored_by true (history_of b)) l.invariant.0 c.from-t.ensures ∙ ran_next true b (replicate 32 65535) o l.t-index (search rules),
      all_next (agrees_at b o) l.t-index l.invariant.1
          (held _ _ (agrees_by_lem b o l.t-index _ _ l.invariant.0 (c.reads_agree.ensures ∙ ap (reads_agree (history_of b) l.last) c.from-t.ensures)) c.if-not-reads_agree.false),
    )

pub returns : goal.returns
returns c =
    let b = c.args.log.bytes.now in
    let o = c.args.order.now in
    let l = c.loop-t in
    all_end (agrees_at b o) l.t-index (length o) (omega arith) l.invariant.1 ∙ explains_is b o c.args.log.taken (order_out (transactions_in b) o c.requires)
