use Rattle.graph.proofs.MemberLaws.{looped_none, item_in, item_before, item_next, items_end}
use Rattle.search.proofs.Steps.{is_true, is_false, nodes_of, room_at}
use Rattle.search.specs.Steps.{shut}
use mathlib.Core.Path.{ap, ◌∙◌}
use native.Mathlib.Omega.{arith}
use Rattle.search.proofs.hit_in.Goals as goal

pub loop-b-init : goal.loop-b-init
loop-b-init c = rw (c.into_iter-b-iterator.ensures.into_iter_gives, c.members-b-items.ensures) (looped_none _ _)

pub overflow_add-base : goal.overflow_add-base
overflow_add-base c = omega (arith, c.requires.0 _ (item_in _ _ _ c.loop-b.invariant _ _ c.in-Some.ensures.steps).is, c.requires.2.few)

pub constraint_at-k-requires : goal.constraint_at-k-requires
constraint_at-k-requires c = room_at _ _ _ c.requires.2 (c.requires.0 _ (item_in _ _ _ c.loop-b.invariant _ _ c.in-Some.ensures.steps).is)

pub shut-requires : goal.shut-requires
shut-requires c =
    let x = nodes_of _ _ _ _ c.requires.2 (c.requires.0 _ (item_in _ _ _ c.loop-b.invariant _ _ c.in-Some.ensures.steps).is) c.constraint_at-k.ensures in
    (x.0, x.1, c.requires.1)

pub returns-then-shut : goal.returns-then-shut
returns-then-shut c =
    let e = c.in-Some.ensures.steps in
    let i = item_in _ _ _ c.loop-b.invariant _ _ e in
    record {
      some = (i.low, i.is, is_true _ _ (c.shut.ensures ∙ ap (shut _) c.constraint_at-k.ensures) c.if-shut.true);
      none = λ b h t. item_before _ _ _ c.loop-b.invariant _ _ e b h (record { low = omega (arith, i.low); is = t });
    }

pub loop-b-preserved : goal.loop-b-preserved
loop-b-preserved c =
    item_next _ _ _ c.loop-b.invariant _ _ c.in-Some.ensures.steps (is_false _ _ (c.shut.ensures ∙ ap (shut _) c.constraint_at-k.ensures) c.if-shut.false)

pub returns : goal.returns
returns c = record { some = tt; none = λ b h t. items_end _ _ _ c.loop-b.invariant c.in-None.ensures.steps.0 b (record { low = h; is = t }) }
