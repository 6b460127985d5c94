use Rattle.codes.proofs.Filling.{filled_none, filled_next}
use Rattle.codes.specs.Images.{row_in}
use mathlib.Core.Path.{ap, ◌∙◌}
use Rattle.images.proofs.put_rows.Goals as goal

pub loop-i-init : goal.loop-i-init
loop-i-init c = filled_none _ _

pub loop-i-preserved : goal.loop-i-preserved
loop-i-preserved c =
    let l = c.loop-i in
    c.put_word.ensures ∙ ap (row_in c.args.rows.now l.i) l.invariant ∙ filled_next (row_in c.args.rows.now) l.i c.args.out.now
