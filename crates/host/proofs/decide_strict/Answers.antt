use mathlib.Core.Path.{refl, ap, ap₂, ◌∙◌}
use mathlib.Core.List.{List}
use Prim.Native.Nat.{ℕ}
use lib.ListN.{length}
use borrow.Author.Rules.{rules}
use Rattle.std.proofs.lemmas.Result.{err_from_is_err_and}
use Rattle.refusals.proofs.Numbering.{code_some}
use Rattle.model.specs.Times.{Times, times}
use Rattle.model.specs.Window.{window}
use Rattle.codes.specs.Codes.{window_code, window_order, window_table}
use Rattle.codes.proofs.Strict.{start_short, times_unread, times_read}
use Rattle.host.proofs.decide_strict.Goals as goal

pub returns-then-start-ne64 : goal.returns-then-start-ne64
returns-then-start-ne64 c =
    let a = c.args in
    let all = start_short a.log.now a.start.now a.begin.now a.end.now a.drift a.encoding a.pruning a.order.now a.table.now (search rules) in
    record {
      result = all.0;
      order = all.1.0;
      table = all.1.1;
    }

pub returns-in_err-seconds : goal.returns-in_err-seconds
returns-in_err-seconds c =
    let a = c.args in
    let p = err_from_is_err_and c.from_residual.result c.from_residual.ensures.1 in
    let all = times_unread a.log.now a.start.now a.begin.now a.end.now a.drift a.encoding a.pruning a.order.now a.table.now c.if-start-ne64.false _ c.in_err-seconds.ensures.number (λ z. code_some _ z) in
    record {
      result = rw (p.1, p.2) all.0;
      order = all.1.0;
      table = all.1.1;
    }

pub returns : goal.returns
returns c =
    let a = c.args in
    let read = c.in_ok-seconds.ensures in
    let e = c.decide.ensures in
    let same = c.times.ensures ∙ ap₂ (λ (b s : List ℕ). times b s a.drift) read.seconds.0 read.seconds.1 in
    let all = times_read a.log.now a.start.now a.begin.now a.end.now a.drift a.encoding a.pruning a.order.now a.table.now c.if-start-ne64.false 0 read.number refl
    _ _ _ c.values-starting.ensures refl refl _ _ _ (
      e.result ∙ ap (λ (ts : Times). window_code (window a.log.now c.values-starting.result ts) a.encoding a.pruning (length a.order.now) (length a.table.now)) same,
      (
        e.order ∙ ap (λ (ts : Times). window_order (window a.log.now c.values-starting.result ts) a.encoding a.pruning a.order.now (length a.table.now)) same,
        e.table ∙ ap (λ (ts : Times). window_table (window a.log.now c.values-starting.result ts) a.encoding a.pruning (length a.order.now) a.table.now) same,
      ),
    ) in
    record {
      result = all.0;
      order = all.1.0;
      table = all.1.1;
    }
