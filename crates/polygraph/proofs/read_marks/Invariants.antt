use mathlib.Core.Path.{◌≡◌}
use lib.ListN.{take, get_or}
use Rattle.model.specs.Lists.{fold}
use Rattle.graph.proofs.WordLaws.{Filled}
use Rattle.polygraph.specs.Tables.{mark_step, slot_in}
use Rattle.polygraph.proofs.read_marks.Given as goal

abbrev pub invariant-loop-i : goal.invariant-loop-i
invariant-loop-i l = Filled 256 (λ j. slot_in l.writers (get_or l.reads j 0)) l.i l.slots × (l.out ≡ fold (mark_step l.writers) l.initial.out (take l.i l.reads))
