use Rattle.codes.specs.Images.{word_bytes, constraint_bytes}
use Prim.Native.Nat.{◌+◌, ◌%◌}
use lib.ListN.{set}
use mathlib.Core.Path.{ap, ◌∙◌}
use Rattle.images.proofs.put_constraint.Goals as goal

pub returns : goal.returns
unfolding constraint_bytes
returns c =
    let a = c.args in
    ap (λ x. set x (a.at + 9) (a.c.toB % 256)) (c.put_word-2.ensures ∙ ap (λ x. word_bytes (a.at + 5) a.c.fromB (set x (a.at + 4) (a.c.toA % 256))) c.put_word.ensures)
