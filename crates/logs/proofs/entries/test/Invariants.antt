use Rattle.model.specs.Log.{counts_before, first_number, entry_number}
use Rattle.std.proofs.Common.{◌≡◌, ◌*◌, ◌≤◌}
use Rattle.logs.proofs.entries.test.Given as goal

abbrev pub invariant-loop-t : goal.invariant-loop-t
invariant-loop-t l =
    record { sum_is : l.sum ≡ counts_before l.log l.t; low : l.sum ≤ 255 * l.t; none : first_number (entry_number l.log) l.t ≡ 0 }
