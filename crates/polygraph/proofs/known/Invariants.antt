use mathlib.Core.Path.{◌≡◌}
use lib.Dec.{eqb}
use lib.ListN.{take}
use Rattle.model.specs.Lists.{fold}
use Rattle.model.specs.Log.{history_of}
use Rattle.polygraph.specs.Edges.{cabinet_rows, read_step}
use Rattle.polygraph.proofs.known.Given as goal

abbrev pub invariant-loop-i : goal.invariant-loop-i
invariant-loop-i l = l.out ≡ fold (read_step (eqb l.encoding 2) l.writers l.marks) (cabinet_rows (history_of l.log.bytes.now)) (take l.i l.reads)
