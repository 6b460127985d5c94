use Rattle.codes.specs.Images.{filled, value_in}
use mathlib.Core.Path.{◌≡◌}
use Rattle.images.proofs.put_values.Given as goal

abbrev pub invariant-loop-i : goal.invariant-loop-i
invariant-loop-i l = l.out ≡ filled (value_in l.values) l.i l.initial.out
