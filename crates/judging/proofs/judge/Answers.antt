use Rattle.lender.proofs.Fresh.{fresh_number, fresh_case_lem}
use Rattle.refusals.proofs.Numbering.{code_some}
use Rattle.model.specs.Window.{from_zeros}
use Rattle.model.proofs.Windows.{number_of_zeros}
use Rattle.checker.specs.Cases.{loaded_case}
use Rattle.checker.specs.Calls.{loading}
use Rattle.checker.specs.Decisions.{deciding}
use Rattle.report.specs.Judge.{judge_text}
use Rattle.report.proofs.Texts.{printed}
use Rattle.report.proofs.Long.{refused_only}
use native.Mathlib.Omega.{arith}
use mathlib.Core.Path.{sym, ap, ◌∙◌}
use mathlib.Core.List.{List}
use Prim.Native.Nat.{ℕ}
use Rattle.judging.proofs.judge.Goals as goal

pub returns-in-Err : goal.returns-in-Err
returns-in-Err c =
    let reply = rw c.in-Err.is at c.load-a.ensures.number in
    let number = c.number.ensures ∙ reply ∙ fresh_number _ (from_zeros _) c.fresh-fresh.ensures ∙ number_of_zeros _ in
    printed c.refused_text.ensures (sym (refused_only _ _ (sym number) (λ z. code_some _ (sym c.number.ensures ∙ z))))

pub of-requires : goal.of-requires
of-requires c =
    let b = c.args.log.now in
    let reply = rw c.in-Ok.is at c.load-a.ensures.number in
    sym (reply ∙ fresh_number _ (from_zeros b) c.fresh-fresh.ensures ∙ number_of_zeros b)

pub decided-requires : goal.decided-requires
unfolding loading
decided-requires c =
    let fresh = c.fresh-fresh.ensures in
    let b = c.args.log.now in
    let reply = rw c.in-Ok.is at c.load-a.ensures.number in
    let loads = sym (reply ∙ fresh_number _ (from_zeros b) fresh ∙ number_of_zeros b) in (
      c.decide-d.ensures
          ∙ ap (λ k. deciding k 2 1 4096) (ap (λ r. r.case) c.load-a.ensures.result ∙ fresh_case_lem _ (from_zeros b) fresh (number_of_zeros b ∙ loads))
          ∙ ap (λ (l : List ℕ). deciding (loaded_case (from_zeros l)) 2 1 4096) (sym c.of.ensures),
      omega arith,
    )

pub returns-in-Ok : goal.returns-in-Ok
returns-in-Ok c = printed c.decided.ensures (ap judge_text c.of.ensures)
