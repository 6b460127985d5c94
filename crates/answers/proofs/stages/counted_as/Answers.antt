use Rattle.answers.proofs.Holding.{holds_true, window_fits, log_loads}
use mathlib.Core.Path.{sym, ◌∙◌}
use Rattle.answers.proofs.stages.counted_as.Goals as goal

pub claims_order-requires : goal.claims_order-requires
claims_order-requires c =
    let held = holds_true _ (sym c.holds_window.ensures ∙ c.if-not-holds_window.false) in
    (window_fits _ _ _ held, log_loads _ _ _ held, c.requires)
