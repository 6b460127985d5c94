use native.Mathlib.Omega.{arith}
use Rattle.model.specs.Log.{transactions_in}
use Rattle.listing.proofs.PlainFill.{plain_start, plain_enter, plain_leave, plain_end, plain_mark, bodies_none, bodies_room, bodies_next, bodies_all}
use Rattle.listing.proofs.plain.table.Goals as goal

pub loop-t-init : goal.loop-t-init
loop-t-init c = (plain_start c.args.log.bytes.now c.args.log.taken _ c.requires.0, bodies_none c.args.log.bytes.now c.args.writers.now _)

pub rows-count-requires : goal.rows-count-requires
rows-count-requires c =
    let l = c.loop-t in (
      omega arith,
      omega arith,
      omega (arith, bodies_room c.args.log.bytes.now c.args.writers.now l.t (transactions_in c.args.log.bytes.now) _ _ _ (omega arith) l.invariant.1),
      plain_enter c.args.log.bytes.now c.args.log.taken _ l.t (omega arith) l.invariant.0,
    )

pub loop-t-preserved : goal.loop-t-preserved
loop-t-preserved c =
    let l = c.loop-t in
    (plain_leave c.args.log.bytes.now c.args.log.taken _ l.t (omega arith) c.rows-count.ensures.0, bodies_next c.args.log.bytes.now c.args.writers.now _ _ _ _ _ _ l.invariant.1 c.rows-count.ensures.1)

pub returns : goal.returns
returns c =
    let l = c.loop-t in
    let m = plain_mark c.args.log.bytes.now c.args.log.taken l.out (plain_end c.args.log.bytes.now c.args.log.taken _ l.t (omega arith) l.invariant.0) in
    (m.0, m.1, bodies_all c.args.log.bytes.now c.args.writers.now _ _ l.t _ _ (omega arith) l.invariant.1)
