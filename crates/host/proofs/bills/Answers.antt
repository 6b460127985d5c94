use native.Mathlib.Omega.{arith}
use mathlib.Core.Path.{refl, sym, ap, subst, ◌∙◌}
use mathlib.Core.Bool.{Bool}
use mathlib.Core.List.{List}
use Prim.Native.Nat.{ℕ}
use lib.Dec.{T}
use lib.ListN.{take, replicate}
use Rattle.std.specs.Prelude.{Ok}
use Rattle.std.proofs.lemmas.Result.{err_from_is_err_and}
use Rattle.refusals.proofs.Numbering.{code_some}
use Rattle.model.specs.History.{is_order}
use Rattle.model.specs.Log.{transactions_in, history_of}
use Rattle.wear.specs.Wear.{moves}
use Rattle.wear.specs.Bills.{bills_of}
use Rattle.codes.specs.Images.{values_in}
use Rattle.codes.proofs.Billing.{bills_refused_lem, bills_short, start_64, log_taken, orders, bills_written}
use Rattle.host.specs.Answers.{answer_code}
use Rattle.host.proofs.bills.Goals as goal

pub returns-in_err-ordered : goal.returns-in_err-ordered
returns-in_err-ordered c =
    let a = c.args in
    let p = err_from_is_err_and c.from_residual.result c.from_residual.ensures.1 in
    let all = bills_refused_lem a.log.now a.start.now a.begin.now a.end.now a.drift (replicate 32 0) (replicate 64 0) (omega arith) (omega arith) _ c.in_err-ordered.ensures.result a.out.now (λ z. code_some _ z) in
    record {
      result = rw (p.1, p.2) all.0;
      list = all.1;
    }

pub returns-then-not-ordered : goal.returns-then-not-ordered
returns-then-not-ordered c =
    let a = c.args in
    let is = ap (λ (b : Bool). answer_code (Ok b)) (sym c.if-not-ordered.true) ∙ c.in_ok-ordered.ensures.result in
    let all = bills_refused_lem a.log.now a.start.now a.begin.now a.end.now a.drift (replicate 32 0) (replicate 64 0) (omega arith) (omega arith) 255 is a.out.now (λ z. omega (arith, z)) in
    record {
      result = all.0;
      list = all.1;
    }

pub returns-then-out-lt192 : goal.returns-then-out-lt192
returns-then-out-lt192 c =
    let a = c.args in
    let is = ap (λ (b : Bool). answer_code (Ok b)) (sym c.if-not-ordered.false) ∙ c.in_ok-ordered.ensures.result in
    let all = bills_short a.log.now a.start.now a.begin.now a.end.now a.drift (replicate 32 0) (replicate 64 0) (omega arith) (omega arith) 0 is a.out.now refl c.if-out-lt192.true in
    record {
      result = all.0;
      list = all.1;
    }

pub of-taken-requires : goal.of-taken-requires
of-taken-requires c =
    let a = c.args in
    let is = ap (λ (b : Bool). answer_code (Ok b)) (sym c.if-not-ordered.false) ∙ c.in_ok-ordered.ensures.result in
    log_taken a.log.now a.start.now a.begin.now a.end.now a.drift (replicate 32 0) (replicate 64 0) (omega arith) (omega arith) 0 is a.out.now refl

pub values-values-requires : goal.values-values-requires
values-values-requires c =
    let a = c.args in
    let is = ap (λ (b : Bool). answer_code (Ok b)) (sym c.if-not-ordered.false) ∙ c.in_ok-ordered.ensures.result in
    start_64 a.log.now a.start.now a.begin.now a.end.now a.drift (replicate 32 0) (replicate 64 0) (omega arith) (omega arith) 0 is a.out.now refl

pub bills-bills-requires : goal.bills-bills-requires
bills-bills-requires c =
    let a = c.args in
    let is = ap (λ (b : Bool). answer_code (Ok b)) (sym c.if-not-ordered.false) ∙ c.in_ok-ordered.ensures.result in
    let order = c.decide_strict.new.order in
    let log = c.of-taken.result.bytes.now in
    let count = c.transactions-n.ensures.0 ∙ ap transactions_in c.of-taken.ensures in
    rw (c.of-taken.ensures)
    (subst (λ (n : ℕ). T (is_order (transactions_in a.log.now) (take n order))) (sym count)
    (orders a.log.now a.start.now a.begin.now a.end.now a.drift (replicate 32 0) (replicate 64 0) (omega arith) (omega arith) 0 is a.out.now refl order c.in_ok-ordered.ensures.order))

pub returns : goal.returns
returns c =
    let a = c.args in
    let is = ap (λ (b : Bool). answer_code (Ok b)) (sym c.if-not-ordered.false) ∙ c.in_ok-ordered.ensures.result in
    let order = c.decide_strict.new.order in
    let count = c.transactions-n.ensures.0 ∙ ap transactions_in c.of-taken.ensures in
    let all = bills_written a.log.now a.start.now a.begin.now a.end.now a.drift (replicate 32 0) (replicate 64 0) (omega arith) (omega arith) 0 is a.out.now refl order c.in_ok-ordered.ensures.order c.if-out-lt192.false _
    (c.bills-bills.ensures ∙ ap (λ (b : List ℕ). bills_of (moves (history_of b) c.values-values.result (take c.transactions-n.result order))) c.of-taken.ensures
    ∙ ap (λ (vs : List ℕ). bills_of (moves (history_of a.log.now) vs (take c.transactions-n.result order))) c.values-values.ensures
    ∙ ap (λ (n : ℕ). bills_of (moves (history_of a.log.now) (values_in a.start.now) (take n order))) count)
    _ c.put_bills.ensures in
    record {
      result = all.0;
      list = all.1;
    }
