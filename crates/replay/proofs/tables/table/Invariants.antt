use Rattle.replay.proofs.Running.{ran_by}
use lib.ListN.{take}
use mathlib.Core.Bool.{false}
use mathlib.Core.Path.{◌≡◌}
use Rattle.replay.proofs.tables.table.Given as goal

abbrev pub invariant-loop-t : goal.invariant-loop-t
invariant-loop-t l = l.out ≡ ran_by false l.log.bytes.now l.initial.out (take l.t-index l.order)
