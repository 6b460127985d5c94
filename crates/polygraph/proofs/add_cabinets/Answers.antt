use Prim.Native.Nat.{◌<◌}
use Rattle.polygraph.specs.Tables.{put_at}
use borrow.Author.Rules.{rules}
use native.Mathlib.Omega.{arith}
use mathlib.Core.Path.{refl}
use Rattle.model.proofs.Loaded.{loaded}
use Rattle.polygraph.proofs.Cabinets.{cabinet_low, cabinets_start, cabinets_next, cabinets_end}
use Rattle.polygraph.proofs.add_cabinets.Goals as goal

pub loop-t-init : goal.loop-t-init
loop-t-init c = cabinets_start _ c.args.log.taken _ _ refl c.requires

pub offset_bounds-last-c : goal.offset_bounds-last-c
offset_bounds-last-c c =
    let low : c.cabinet-c.result < 16 = omega (arith, c.cabinet-c.ensures, cabinet_low c.args.log.bytes.now c.args.log.taken c.loop-t.t (omega arith)) in
    search rules

pub offset_bounds-last-c-in-loop-t : goal.offset_bounds-last-c-in-loop-t
offset_bounds-last-c-in-loop-t c =
    let low : c.cabinet-c.result < 16 = omega (arith, c.cabinet-c.ensures, cabinet_low c.args.log.bytes.now c.args.log.taken c.loop-t.t (omega arith)) in
    search rules

pub bounds-last-c : goal.bounds-last-c
bounds-last-c c =
    omega (arith, c.cabinet-c.ensures, cabinet_low c.args.log.bytes.now c.args.log.taken c.loop-t.t (omega arith))

pub overflow_cast-t : goal.overflow_cast-t
overflow_cast-t c =
    let low : c.loop-t.t < 32 = omega (arith, (loaded c.args.log.bytes.now c.args.log.taken).few) in
    search rules

pub put_if-requires : goal.put_if-requires
put_if-requires c =
    omega (arith, (loaded c.args.log.bytes.now c.args.log.taken).few)

pub bounds-last-c-in-loop-t : goal.bounds-last-c-in-loop-t
bounds-last-c-in-loop-t c =
    omega (arith, c.cabinet-c.ensures, cabinet_low c.args.log.bytes.now c.args.log.taken c.loop-t.t (omega arith))

pub loop-t-preserved : goal.loop-t-preserved
unfolding put_at
loop-t-preserved c =
    let l = c.loop-t in
    cabinets_next c.args.log.bytes.now c.args.log.taken l.t _ _ _ l.last l.out (omega arith) c.cabinet-c.ensures refl c.put_if.ensures l.invariant

pub returns : goal.returns
returns c = let l = c.loop-t in cabinets_end _ c.args.log.taken l.t l.last l.out (omega arith) l.invariant
