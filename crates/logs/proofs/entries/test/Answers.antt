use Rattle.std.proofs.Common.{◌+◌, arith, refl, ap, ◌∙◌}
use Rattle.std.proofs.lemmas.Result.{err_from_is_err_and}
use Rattle.model.specs.Log.{entry_number}
use Rattle.model.proofs.Loaded.{first_none}
use Rattle.refusals.proofs.Numbering.{code_some}
use Rattle.logs.proofs.Numbers.{none_yet, entry_tested, counts_more, first_found, first_next}
use Rattle.logs.proofs.entries.test.Goals as goal

pub loop-t-init : goal.loop-t-init
loop-t-init c = record { sum_is = none_yet _; low = omega arith; none = first_none (entry_number c.args.log.now) }

pub returns-in_err-test_entry-clause-number : goal.returns-in_err-test_entry-clause-number
returns-in_err-test_entry-clause-number c =
    let l = c.loop-t in
    let b = c.args.log.now in
    let p = err_from_is_err_and c.from_residual.result c.from_residual.ensures.1 in
    rw (p.1, p.2)
    (first_found (entry_number b) l.t c.args.n _ (omega arith) l.invariant.none (entry_tested b l.t l.sum _ _ c.entry-e.ensures l.invariant.sum_is c.in_err-test_entry.ensures) (code_some _))

pub loop-t-preserved : goal.loop-t-preserved
loop-t-preserved c =
    let l = c.loop-t in
    let b = c.args.log.now in
    record {
      sum_is = ap (λ x. l.sum + x) c.from-sum.ensures ∙ counts_more b l.t l.sum _ c.entry-e.ensures l.invariant.sum_is;
      low = omega arith;
      none = first_next (entry_number b) l.t _ l.invariant.none (entry_tested b l.t l.sum _ _ c.entry-e.ensures l.invariant.sum_is c.in_ok-test_entry.ensures) refl;
    }
