use native.Mathlib.Omega.{arith}
use Rattle.report.proofs.Texts.{wrote_none, wrote_as}
use Rattle.report.specs.Text.{line_if}
use mathlib.Core.Path.{ap, sym}
use mathlib.Core.Bool.{Bool, not}
use borrow.Author.Tests.{eq-eqb, ne_eqb}
use Rattle.report.proofs.put_if_written.Goals as goal

pub returns-then-writers-ne0 : goal.returns-then-writers-ne0
unfolding line_if
returns-then-writers-ne0 c =
    let a = c.args in
    wrote_as (ap (λ (b : Bool). line_if (not b) a.key a.value) (sym (ne_eqb _ _ c.if-writers-ne0.true))) c.put_key.ensures

pub returns : goal.returns
unfolding line_if
returns c =
    let a = c.args in
    wrote_as (ap (λ (b : Bool). line_if (not b) a.key a.value) (sym (eq-eqb _ _ c.if-writers-ne0.false))) (wrote_none _ _ (omega arith))
