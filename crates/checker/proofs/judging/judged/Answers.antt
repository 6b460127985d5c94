use Rattle.checker.proofs.Checks.{check_fresh, check_held}
use Rattle.std.proofs.lemmas.Result.{err_from_is_err_and}
use mathlib.Core.Path.{◌∙◌}
use Rattle.checker.proofs.judging.judged.Goals as goal

pub returns-in_err-w : goal.returns-in_err-w
returns-in_err-w c =
    let p = err_from_is_err_and c.from_residual.result c.from_residual.ensures.1 in
    rw (p.1, p.2, c.in_err-w.ensures.0) (check_fresh c.args.c.now _ c.in_err-w.ensures.1)

pub returns : goal.returns
returns c = c.judged.ensures ∙ check_held c.args.c.now _ _ c.in_ok-w.ensures
