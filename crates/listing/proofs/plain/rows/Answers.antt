use native.Mathlib.Omega.{arith}
use mathlib.Core.Path.{ap, sym, subst}
use mathlib.Core.List.{List}
use lib.ListN.{length, set}
use Prim.Native.Nat.{ℕ, ◌+◌, ◌*◌, ◌%◌}
use Rattle.model.specs.Log.{count_at, start_at}
use Rattle.listing.specs.Choosing.{Chose}
use Rattle.listing.specs.Plain.{PlainTable}
use Rattle.listing.proofs.PlainFill.{plain_next, plain_begin, numbers_none, body_numbers_lem, numbers_room, numbers_next}
use Rattle.listing.proofs.plain.rows.Goals as goal

pub loop-m-init : goal.loop-m-init
loop-m-init c = (plain_begin _ c.args.log.taken _ _ c.requires.3, numbers_none c.args.log.bytes.now c.args.writers.now _ _ _)

pub choose-n-requires : goal.choose-n-requires
choose-n-requires c =
    let l = c.loop-m in
    let a = c.args in
    let b = a.log.bytes.now in
    let are = body_numbers_lem b a.writers.now a.t l.m _ _ _ _ _ c.operation-o.ensures (ap (λ (k : ℕ). k + l.m) c.start-first.ensures.0) c.mask.ensures in
    (omega arith, omega (arith, ap length are, numbers_room b a.writers.now a.t l.m (count_at b a.t) _ _ _ _ (omega arith) l.invariant.1))

pub loop-m-preserved : goal.loop-m-preserved
loop-m-preserved c =
    let l = c.loop-m in
    let a = c.args in
    let o = c.operation-o.ensures in
    let v = c.operation-o.result in
    let first = c.start-first.ensures.0 in (
      subst (λ (k : ℕ). PlainTable a.log.bytes.now (start_at a.log.bytes.now a.t + (l.m + 1)) (set l.out (k + l.m) (a.t + 32 * (v.argument % 32)))) (sym first)
          (plain_next a.log.bytes.now c.args.log.taken l.out a.t l.m _ c.requires.0 (omega arith) l.invariant.0 (ap (λ (x : ℕ). a.t + 32 * (x % 32)) o.argument_is)),
      numbers_next a.log.bytes.now a.writers.now a.t l.m _ _ _ _ _ _ l.invariant.1
          (subst (λ (cs : List ℕ). Chose cs l.n l.chosen c.choose-n.result c.choose-n.new.chosen)
          (body_numbers_lem a.log.bytes.now a.writers.now a.t l.m _ _ _ _ _ o (ap (λ (k : ℕ). k + l.m) first) c.mask.ensures) c.choose-n.ensures),
    )
