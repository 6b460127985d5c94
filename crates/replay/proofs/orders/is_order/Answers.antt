use Rattle.replay.proofs.Ordering.{Upto, upto_none, upto_next, upto_stop, upto_end, order_long, new_low}
use Rattle.replay.proofs.Alls.{held, failed}
use Rattle.std.proofs.Common.{◌^◌, bit_or, not, ap, ◌∙◌}
use Rattle.replay.specs.Orders.{is_new}
use lib.Dec.{T}
use mathlib.Core.Path.{sym, subst}
use borrow.Author.Rules.{rules}
use native.Mathlib.Omega.{arith}
use Prim.Native.Nat.{◌+◌}
use Rattle.replay.proofs.orders.is_order.Goals as goal

pub returns-then-list-n : goal.returns-then-list-n
returns-then-list-n c = order_long _ _ c.if-list-n.true

pub loop-x-init : goal.loop-x-init
loop-x-init c = upto_none _ _

pub returns-then-not-is_new : goal.returns-then-not-is_new
returns-then-not-is_new c =
    let a = c.args in
    let l = c.loop-x in
    upto_stop a.n a.list.now l.x-index l.mask c.if-list-n.false (search rules) l.invariant
    (subst (λ x. T (not (is_new a.n l.mask x))) c.from-x.ensures (failed _ _ c.is_new.ensures c.if-not-is_new.true))

pub with-mask-requires : goal.with-mask-requires
with-mask-requires c =
    let a = c.args in
    omega (arith, new_low a.n c.loop-x.mask c.from-x.result (held _ _ c.is_new.ensures c.if-not-is_new.false))

pub loop-x-preserved : goal.loop-x-preserved
loop-x-preserved c =
    let a = c.args in
    let l = c.loop-x in
    subst (Upto a.n a.list.now (l.x-index + 1)) (sym (c.with-mask.ensures ∙ ap (λ x. bit_or l.mask (2 ^ x)) c.from-x.ensures))
    (upto_next a.n a.list.now l.x-index l.mask c.if-list-n.false (search rules) l.invariant
    (subst (λ x. T (is_new a.n l.mask x)) c.from-x.ensures (held _ _ c.is_new.ensures c.if-not-is_new.false)))

pub returns : goal.returns
returns c =
    let a = c.args in
    let l = c.loop-x in
    upto_end a.n a.list.now l.x-index l.mask c.if-list-n.false (omega arith) l.invariant
