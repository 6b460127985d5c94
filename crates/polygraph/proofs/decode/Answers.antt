use Prim.Native.Nat.{◌<◌}
use native.Mathlib.Omega.{arith}
use Rattle.model.specs.Log.{transactions_in}
use Rattle.model.proofs.Loaded.{loaded}
use Rattle.polygraph.proofs.Filling.{up_unmarked, up_next, up_end}
use Rattle.polygraph.proofs.decode.Goals as goal

pub decode_transaction-count-requires : goal.decode_transaction-count-requires
decode_transaction-count-requires c =
    let l = c.loop-t in
    let below : l.t < transactions_in c.args.log.bytes.now = omega arith in (
      below,
      omega arith,
      omega (arith, l.invariant.room, (loaded c.args.log.bytes.now c.args.log.taken).starts l.t below),
      l.invariant.long,
      up_unmarked c.args.log.bytes.now c.args.log.taken l.t l.writers l.reads l.count below l.invariant,
    )

pub loop-t-preserved : goal.loop-t-preserved
loop-t-preserved c =
    let l = c.loop-t in
    up_next c.args.log.bytes.now l.t l.writers l.reads _ _ l.count _ l.invariant c.decode_transaction-count.ensures

pub returns : goal.returns
returns c = let l = c.loop-t in up_end c.args.log.bytes.now c.args.log.taken l.t l.writers l.reads l.count (omega arith) l.invariant
