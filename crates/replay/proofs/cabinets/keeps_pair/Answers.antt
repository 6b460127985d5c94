use Rattle.replay.specs.Steps.{kept_by}
use Rattle.logs.proofs.Reading.{inside_few}
use mathlib.Core.Path.{sym, ◌∙◌}
use Rattle.replay.proofs.cabinets.keeps_pair.Goals as goal

pub returns-then-not-sent_before : goal.returns-then-not-sent_before
unfolding kept_by
returns-then-not-sent_before c =
    simp (c.if-not-sent_before.true, sym c.sent_before.ensures ∙ c.if-not-sent_before.true)

pub bounds-places-u : goal.bounds-places-u
bounds-places-u c = inside_few _ _ (record { loads = c.args.log.taken; below = c.requires.0 })

pub bounds-places-v : goal.bounds-places-v
bounds-places-v c = inside_few _ _ (record { loads = c.args.log.taken; below = c.requires.1 })

pub returns-else-not-sent_before : goal.returns-else-not-sent_before
unfolding kept_by
returns-else-not-sent_before c = simp (sym c.sent_before.ensures ∙ c.if-not-sent_before.false)
