use Rattle.codes.specs.Images.{word_at, seconds_in}
use Rattle.codes.proofs.Filling.{filled_first}
use Prim.Native.Nat.{◌*◌, ◌/◌}
use lib.ListN.{length, take}
use mathlib.Core.Path.{◌≡◌, sym, ap, ◌∙◌}
use mathlib.Core.List.{map}
use Rattle.model.specs.Lists.{up_to}
use native.Mathlib.Omega.{arith}
use Rattle.images.proofs.seconds.Goals as goal

pub returns : goal.returns
unfolding seconds_in
returns c =
    let l = c.loop-i in
    let b = c.args.bytes.now in
    let end : l.i ≡ length b / 4 = omega arith in
    ap (λ k. take k l.out) (sym end) ∙ filled_first 32 (λ j. word_at b (4 * j)) l.i l.out (omega arith) l.invariant ∙ ap (λ k. map (λ j. word_at b (4 * j)) (up_to k)) end
