use Rattle.std.proofs.Common.{sym, ◌∙◌}
use Rattle.graph.proofs.SideLaws.{side_start, side_next, side_missing, side_end}
use Rattle.graph.proofs.MemberLaws.{member_first}
use Rattle.graph.proofs.side_held.Goals as goal

pub loop-s-init : goal.loop-s-init
loop-s-init c = rw (c.into_iter-s-iterator.ensures.into_iter_gives, c.members-s-items.ensures) (side_start _ _ _)

pub bounds-rows-s : goal.bounds-rows-s
bounds-rows-s c = (member_first _ _ _ c.in-Some.ensures.steps).low

pub returns-then-not-has : goal.returns-then-not-has
returns-then-not-has c =
    sym (c.loop-s.invariant ∙ side_missing _ _ _ _ _ c.in-Some.ensures.steps (sym c.has.ensures ∙ c.if-not-has.true))

pub loop-s-preserved : goal.loop-s-preserved
loop-s-preserved c = c.loop-s.invariant ∙ side_next _ _ _ _ _ c.in-Some.ensures.steps (sym c.has.ensures ∙ c.if-not-has.false)

pub returns : goal.returns
returns c = sym (c.loop-s.invariant ∙ side_end _ _ _ c.in-None.ensures.steps.0)
