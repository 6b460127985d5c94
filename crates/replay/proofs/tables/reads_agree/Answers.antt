use Rattle.replay.proofs.Running.{passes, passes_by, written_next, reads_are}
use Rattle.replay.proofs.Alls.{all_next, all_stop, all_end, held, failed, or_then, or_else}
use Rattle.logs.proofs.Reading.{operation_is}
use Rattle.model.proofs.Masks.{bit_none}
use Rattle.model.proofs.ReadBacks.{wrote_none}
use Rattle.model.specs.Log.{count_at}
use lib.Dec.{T}
use mathlib.Core.Bool.{not}
use mathlib.Core.Path.{◌∙◌}
use native.Mathlib.Omega.{arith}
use Rattle.replay.proofs.tables.reads_agree.Goals as goal
use Rattle.replay.proofs.tables.reads_agree.Goals.{then-has, else-has}

pub loop-m-init : goal.loop-m-init
loop-m-init c = (tt, wrote_none _ _ bit_none)

pub returns-then-not-agrees : goal.returns-then-not-agrees
returns-then-not-agrees c =
    let a = c.args in
    let l = c.loop-m in
    let is = operation_is a.log.bytes.now a.t l.m _ c.operation-o.ensures in
    let mark = c.put_if-written.ensures in
    let told : T (not (passes a.log.bytes.now a.last a.t l.m)) =
    elim c.if-has.branch [
      | then-has w ↦ failed _ _ (passes_by a.log.bytes.now a.t l.m l.written _ _ l.invariant.1 is mark a.last _ (or_then _ _ _ _ w.value-is w.if-has.true c.has.ensures)) c.if-not-agrees.true
      | else-has w ↦ failed _ _ (passes_by a.log.bytes.now a.t l.m l.written _ _ l.invariant.1 is mark a.last _ (or_else _ _ _ _ _ w.value-is w.if-has.false c.has.ensures w.agrees.ensures)) c.if-not-agrees.true
    ] in
    all_stop (passes a.log.bytes.now a.last a.t) l.m (count_at a.log.bytes.now a.t) (omega (arith, c.count-m-end.ensures.0)) told
    ∙ reads_are a.log.bytes.now a.last a.t c.requires

pub loop-m-preserved : goal.loop-m-preserved
loop-m-preserved c =
    let a = c.args in
    let l = c.loop-m in
    let is = operation_is a.log.bytes.now a.t l.m _ c.operation-o.ensures in
    let mark = c.put_if-written.ensures in
    let told : T (passes a.log.bytes.now a.last a.t l.m) =
    elim c.if-has.branch [
      | then-has w ↦ held _ _ (passes_by a.log.bytes.now a.t l.m l.written _ _ l.invariant.1 is mark a.last _ (or_then _ _ _ _ w.value-is w.if-has.true c.has.ensures)) c.if-not-agrees.false
      | else-has w ↦ held _ _ (passes_by a.log.bytes.now a.t l.m l.written _ _ l.invariant.1 is mark a.last _ (or_else _ _ _ _ _ w.value-is w.if-has.false c.has.ensures w.agrees.ensures)) c.if-not-agrees.false
    ] in
    (all_next (passes a.log.bytes.now a.last a.t) l.m l.invariant.0 told, written_next a.log.bytes.now a.t l.m l.written _ _ l.invariant.1 is mark)

pub returns : goal.returns
returns c =
    let a = c.args in
    let l = c.loop-m in
    all_end (passes a.log.bytes.now a.last a.t) l.m (count_at a.log.bytes.now a.t) (omega (arith, c.count-m-end.ensures.0)) l.invariant.0 ∙ reads_are a.log.bytes.now a.last a.t c.requires
