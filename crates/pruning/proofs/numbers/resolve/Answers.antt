use borrow.Author.Rules.{rules}
use mathlib.Core.Path.{sym, ◌∙◌}
use mir.Syntax.{w32}
use mir.Val.{Fits}
use Rattle.pruning.proofs.NumberTurns.{stays, drops, drops_held}
use Rattle.pruning.proofs.numbers.resolve.Goals as goal

pub returns-then-not-side_held : goal.returns-then-not-side_held
returns-then-not-side_held c = λ g e ti. drops g _ _ (c.in-Some.ensures.is g e) _ (c.take.ensures g e ti)

pub returns-else-not-side_held : goal.returns-else-not-side_held
returns-else-not-side_held c =
    let v = c.in-Some.side in
    λ g e ti. drops_held g _ _ (c.in-Some.ensures.is g e) _ e ti (let f : Fits w32 v.from = search rules in f.fits) c.in-Some.ensures.low (sym c.side_held.ensures ∙ c.if-not-side_held.false)

pub returns : goal.returns
returns c = λ g e ti. stays g _ (c.in_default.ensures.is g e) _ e
