use Rattle.checker.proofs.Preparing.{fresh_finds, held_finds}
use Rattle.std.proofs.lemmas.Result.{err_from_is_err_and}
use Rattle.checker.proofs.deciding.prepare.Goals as goal

pub returns-in_err-w : goal.returns-in_err-w
returns-in_err-w c =
    let p = err_from_is_err_and c.from_residual.result c.from_residual.ensures.1 in
    rw (p.1, p.2) (fresh_finds c.args.c.now _ _ _ _ _ _ _ c.in_err-w.ensures.0 c.in_err-w.ensures.1)

pub returns : goal.returns
returns c = held_finds c.args.c.now _ _ _ _ _ _ _ c.in_ok-w.ensures _ c.decided.ensures
