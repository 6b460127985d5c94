use mathlib.Core.Path.{refl, ap, ap₂, ◌∙◌}
use mathlib.Core.List.{List}
use Prim.Native.Nat.{ℕ}
use lib.ListN.{length}
use Rattle.std.proofs.lemmas.Result.{err_from_is_err_and}
use Rattle.refusals.proofs.Numbering.{code_some}
use Rattle.model.specs.Times.{Times, times}
use Rattle.model.specs.Window.{window, zeros}
use Rattle.codes.specs.Codes.{encode_window, encode_window_after, encode_strict_code, encode_strict_after}
use Rattle.codes.proofs.Timing.{unread_code, unread_list, where_read}
use Rattle.host.proofs.encode_strict.Goals as goal

pub returns-in_err-seconds : goal.returns-in_err-seconds
unfolding encode_strict_code encode_strict_after encode_window encode_window_after
returns-in_err-seconds c =
    let a = c.args in
    let p = err_from_is_err_and c.from_residual.result c.from_residual.ensures.1 in
    let is = c.in_err-seconds.ensures.number in
    record {
      result = rw (p.1, p.2) (unread_code a.log.now a.begin.now a.end.now _ is zeros a.drift refl (λ z. code_some _ z) _);
      list = unread_list a.log.now a.begin.now a.end.now _ is zeros a.drift refl (λ z. code_some _ z) _ a.out.now;
    }

pub returns : goal.returns
unfolding encode_strict_code encode_strict_after
returns c =
    let a = c.args in
    let read = c.in_ok-seconds.ensures in
    let e = c.encode.ensures in
    let same = c.times.ensures ∙ ap₂ (λ (b s : List ℕ). times b s a.drift) read.seconds.0 read.seconds.1 in
    record {
      result =
          where_read a.log.now a.begin.now a.end.now 0 read.number refl _ 37 _
          (e.result ∙ ap (λ (ts : Times). encode_window (window a.log.now zeros ts) a.encoding a.pruning (length a.out.now)) same);
      list =
          where_read a.log.now a.begin.now a.end.now 0 read.number refl _ a.out.now _
          (e.list ∙ ap (λ (ts : Times). encode_window_after (window a.log.now zeros ts) a.encoding a.pruning a.out.now) same);
    }
