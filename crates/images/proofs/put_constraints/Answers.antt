use Rattle.codes.proofs.Filling.{filled_none, filled_next}
use Rattle.codes.specs.Images.{constraint_bytes, words_in}
use Prim.Native.Nat.{◌+◌, ◌*◌}
use mathlib.Core.Path.{ap, ◌∙◌}
use Rattle.images.proofs.put_constraints.Goals as goal

pub loop-i-init : goal.loop-i-init
loop-i-init c = filled_none _ _

pub loop-i-preserved : goal.loop-i-preserved
loop-i-preserved c =
    let l = c.loop-i in
    c.put_constraint.ensures ∙ ap (λ x. constraint_bytes (130 + 10 * l.i) x l.out) c.constraint_at.ensures ∙ ap (words_in c.args.words.now l.i) l.invariant ∙ filled_next (words_in c.args.words.now) l.i c.args.out.now
