use mathlib.Core.Path.{sym, ap, ◌∙◌}
use borrow.Author.Tests.{eq-eqb, ne_eqb}
use Rattle.refusals.proofs.Numbering.{code_some}
use Rattle.std.proofs.lemmas.Result.{err_from_is_err_and}
use Rattle.model.specs.Log.{transactions_in, load_number}
use Rattle.codes.specs.Codes.{lengths_number}
use Rattle.host.proofs.test_lengths.Goals as goal

pub returns-then-begin-end : goal.returns-then-begin-end
unfolding lengths_number
returns-then-begin-end c = simp c.if-begin-end.true

pub returns-in_err-load : goal.returns-in_err-load
unfolding lengths_number
returns-in_err-load c =
    let p = err_from_is_err_and c.from_residual.result c.from_residual.ensures.1 in
    let some = ne_eqb (load_number c.args.log.now) 0 (λ z. code_some _ (c.in_err-load.ensures.number ∙ z)) in
    rw (p.1, p.2) (simp (c.if-begin-end.false, some) c.in_err-load.ensures.number)

pub returns-then-begin-bytes : goal.returns-then-begin-bytes
unfolding lengths_number
returns-then-begin-bytes c =
    let none = eq-eqb (load_number c.args.log.now) 0 (sym c.in_ok-load.ensures.number) in
    let many = sym (c.transactions-bytes.ensures.0 ∙ ap transactions_in c.in_ok-load.ensures.log) in
    simp (c.if-begin-end.false, none, many, c.if-begin-bytes.true)

pub returns : goal.returns
unfolding lengths_number
returns c =
    let none = eq-eqb (load_number c.args.log.now) 0 (sym c.in_ok-load.ensures.number) in
    let many = sym (c.transactions-bytes.ensures.0 ∙ ap transactions_in c.in_ok-load.ensures.log) in
    simp (c.if-begin-end.false, none, many, c.if-begin-bytes.false)
