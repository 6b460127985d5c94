use Rattle.std.proofs.Common.{arith, refl}
use Rattle.std.proofs.lemmas.Result.{err_from_is_err_and}
use Rattle.model.specs.Log.{bodies_number}
use Rattle.model.proofs.Loaded.{first_none}
use Rattle.refusals.proofs.Numbering.{code_some}
use Rattle.logs.proofs.Numbers.{first_found, first_next}
use Rattle.logs.proofs.bodies.first_refused.Goals as goal

pub loop-t-init : goal.loop-t-init
loop-t-init c = first_none (bodies_number c.args.log.now)

pub returns-in_err-of_transaction : goal.returns-in_err-of_transaction
returns-in_err-of_transaction c =
    let l = c.loop-t in
    let p = err_from_is_err_and c.from_residual.result c.from_residual.ensures.1 in
    rw (p.1, p.2)
    (first_found (bodies_number c.args.log.now) l.t c.args.n _ (omega arith) l.invariant c.in_err-of_transaction.ensures (code_some _))

pub loop-t-preserved : goal.loop-t-preserved
loop-t-preserved c = first_next (bodies_number c.args.log.now) c.loop-t.t _ c.loop-t.invariant c.in_ok-of_transaction.ensures refl
