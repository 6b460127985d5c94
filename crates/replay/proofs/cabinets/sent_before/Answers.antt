use Rattle.model.proofs.Loaded.{cabinet_at_lem}
use lib.Dec.{eqb}
use mathlib.Core.Path.{sym, ap₂, ◌∙◌}
use borrow.Author.Tests.{lt-ltb}
use Rattle.replay.proofs.cabinets.sent_before.Goals as goal

pub returns-then-u-v : goal.returns-then-u-v
returns-then-u-v c =
    simp (lt-ltb _ _ c.if-u-v.true)
    (ap₂ eqb (c.cabinet.ensures ∙ sym (cabinet_at_lem _ c.args.u c.requires.0)) (c.cabinet-then-u-v.ensures ∙ sym (cabinet_at_lem _ c.args.v c.requires.1)))
