use Rattle.model.specs.Log.{first_number, bodies_number}
use Rattle.std.proofs.Common.{◌≡◌}
use Rattle.logs.proofs.bodies.first_refused.Given as goal

abbrev pub invariant-loop-t : goal.invariant-loop-t
invariant-loop-t l = first_number (bodies_number l.log) l.t ≡ 0
