use Rattle.codes.specs.Images.{filled, row_in}
use mathlib.Core.Path.{◌≡◌}
use Rattle.images.proofs.put_rows.Given as goal

abbrev pub invariant-loop-i : goal.invariant-loop-i
invariant-loop-i l = l.out ≡ filled (row_in l.rows) l.i l.initial.out
