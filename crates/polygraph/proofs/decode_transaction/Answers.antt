use Prim.Native.Nat.{◌+◌, ◌<◌}
use mathlib.Core.Path.{◌≡◌, sym, ap, ◌∙◌}
use mathlib.Core.Bool.{Bool, cond}
use borrow.Author.Rules.{rules}
use native.Mathlib.Omega.{arith}
use Rattle.polygraph.specs.Tables.{put_at}
use Rattle.polygraph.proofs.Filling.{part_start, kind_low, part_next, part_end, part_low}
use Rattle.polygraph.proofs.decode_transaction.Goals as goal
use Rattle.polygraph.proofs.decode_transaction.Goals.{then-not-has, else-not-has}

pub loop-m-init : goal.loop-m-init
loop-m-init c = part_start _ _ _ _ _ c.requires.3 c.requires.4

pub mark_of-mark-requires : goal.mark_of-mark-requires
mark_of-mark-requires c = (c.requires.1, kind_low _ c.args.t c.loop-m.m _ _ _ (record { loads = c.args.log.taken; below = c.requires.0 }) (omega arith) c.operation-o.ensures)

pub offset_bounds-reads-count : goal.offset_bounds-reads-count
offset_bounds-reads-count c =
    let l = c.loop-m in
    let low : l.count < 256 = part_low _ _ _ _ _ l.m l.writers l.reads l.count (record { loads = c.args.log.taken; below = c.requires.0 }) c.requires.2 (omega arith) l.invariant in
    search rules

pub bounds-reads-count : goal.bounds-reads-count
bounds-reads-count c =
    let l = c.loop-m in
    part_low _ _ _ _ _ l.m l.writers l.reads l.count (record { loads = c.args.log.taken; below = c.requires.0 }) c.requires.2 (omega arith) l.invariant

pub overflow_add-count : goal.overflow_add-count
overflow_add-count c =
    let l = c.loop-m in
    let low : l.count < 256 = part_low _ _ _ _ _ l.m l.writers l.reads l.count (record { loads = c.args.log.taken; below = c.requires.0 }) c.requires.2 (omega arith) l.invariant in
    search rules

pub loop-m-preserved : goal.loop-m-preserved
unfolding put_at
loop-m-preserved c =
    let l = c.loop-m in
    let a = c.args in
    let low = part_low _ _ _ _ _ l.m l.writers l.reads l.count (record { loads = c.args.log.taken; below = c.requires.0 }) c.requires.2 (omega arith) l.invariant in
    let o = c.operation-o.ensures in
    let small = kind_low _ a.t l.m _ _ _ (record { loads = c.args.log.taken; below = c.requires.0 }) (omega arith) o in
    let next : c.if-not-has.count ≡ cond c.has.result l.count (l.count + 1) =
    elim c.if-not-has.branch [
      | then-not-has w ↦ w.count-is ∙ sym (ap (λ (b : Bool). cond b l.count (l.count + 1)) w.if-not-has.true)
      | else-not-has w ↦ w.count-is ∙ sym (ap (λ (b : Bool). cond b l.count (l.count + 1)) w.if-not-has.false)
    ] in
    part_next a.log.bytes.now a.t a.writers.now a.reads.now a.from l.m _ _ _ _ _ l.count _ _ l.writers l.reads l.invariant o small low c.mark_of-mark.ensures c.has.ensures
    c.packed.ensures next

pub returns : goal.returns
returns c =
    let l = c.loop-m in
    part_end _ _ _ _ _ l.m l.writers l.reads l.count c.requires.0 (omega arith) l.invariant
