use Rattle.replay.proofs.Running.{ran_by, agrees_at}
use Rattle.model.specs.Lists.{all, up_to}
use lib.ListN.{take, replicate}
use lib.Dec.{T}
use mathlib.Core.Bool.{true}
use mathlib.Core.Path.{◌≡◌}
use Rattle.replay.proofs.tables.explains.Given as goal

abbrev pub invariant-loop-t : goal.invariant-loop-t
invariant-loop-t l =
    (l.last ≡ ran_by true l.log.bytes.now (replicate 32 65535) (take l.t-index l.order)) × T (all (agrees_at l.log.bytes.now l.order) (up_to l.t-index))
