use mathlib.Core.Path.{refl, ap, ap₂, ◌∙◌}
use mathlib.Core.List.{List}
use Prim.Native.Nat.{ℕ}
use Rattle.std.proofs.lemmas.Result.{err_from_is_err_and}
use Rattle.refusals.proofs.Numbering.{code_some}
use Rattle.model.specs.Times.{Times, times}
use Rattle.model.specs.Window.{window, zeros}
use Rattle.codes.specs.Codes.{check_window, check_strict_code}
use Rattle.codes.proofs.Timing.{unread_code, where_read}
use Rattle.host.proofs.check_strict.Goals as goal

pub returns-in_err-seconds : goal.returns-in_err-seconds
unfolding check_strict_code check_window
returns-in_err-seconds c =
    let a = c.args in
    let p = err_from_is_err_and c.from_residual.result c.from_residual.ensures.1 in
    rw (p.1, p.2) (unread_code a.log.now a.begin.now a.end.now _ c.in_err-seconds.ensures.number zeros a.drift refl (λ z. code_some _ z) _)

pub returns : goal.returns
unfolding check_strict_code
returns c =
    let a = c.args in
    let read = c.in_ok-seconds.ensures in
    let same = c.times.ensures ∙ ap₂ (λ (b e : List ℕ). times b e a.drift) read.seconds.0 read.seconds.1 in
    where_read a.log.now a.begin.now a.end.now 0 read.number refl _ 37 _
    (c.check.ensures ∙ ap (λ (ts : Times). check_window (window a.log.now zeros ts) a.order.now) same)
