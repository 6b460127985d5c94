use Rattle.codes.specs.Images.{filled, words_in}
use mathlib.Core.Path.{◌≡◌}
use Rattle.images.proofs.put_constraints.Given as goal

abbrev pub invariant-loop-i : goal.invariant-loop-i
invariant-loop-i l = l.out ≡ filled (words_in l.words) l.i l.initial.out
