use Rattle.checker.proofs.Loads.{refusal_fresh, refusal_other}
use Rattle.std.proofs.lemmas.Result.{err_from_is_err_and}
use mathlib.Core.Path.{sym, ◌∙◌}
use Rattle.checker.proofs.held.test_load.Goals as goal

pub returns-then-not-is_fresh : goal.returns-then-not-is_fresh
returns-then-not-is_fresh c = sym (refusal_other c.args.c.now _ (sym c.is_fresh.ensures ∙ c.if-not-is_fresh.true))

pub returns-in_err-load : goal.returns-in_err-load
returns-in_err-load c =
    let p = err_from_is_err_and c.from_residual.result c.from_residual.ensures.1 in
    rw (p.1, p.2) (c.in_err-load.ensures.number ∙ sym (refusal_fresh c.args.c.now _ (sym c.is_fresh.ensures ∙ c.if-not-is_fresh.false)))

pub returns : goal.returns
returns c = c.in_ok-load.ensures.number ∙ sym (refusal_fresh c.args.c.now _ (sym c.is_fresh.ensures ∙ c.if-not-is_fresh.false))
