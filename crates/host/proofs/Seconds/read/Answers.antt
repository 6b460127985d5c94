use mathlib.Core.Path.{refl, ap, ◌∙◌}
use Prim.Native.Nat.{ℕ, ◌/◌}
use native.Mathlib.Omega.{arith}
use lib.ListN.{take}
use Rattle.codes.proofs.Timing.{lengths_read, lengths_same}
use Rattle.host.proofs.Seconds.read.Goals as goal

pub seconds-requires : goal.seconds-requires
seconds-requires c = let a = c.args in (lengths_read a.log.now a.begin.now a.end.now 0 c.in_ok-test_lengths.ensures refl).1.0

pub seconds-requires-2 : goal.seconds-requires-2
seconds-requires-2 c = let a = c.args in (lengths_read a.log.now a.begin.now a.end.now 0 c.in_ok-test_lengths.ensures refl).1.1

pub invariant_of-result : goal.invariant_of-result
invariant_of-result c =
    let a = c.args in
    record { few = omega (arith, (lengths_read a.log.now a.begin.now a.end.now 0 c.in_ok-test_lengths.ensures refl).1.0) }

pub returns-clause-seconds : goal.returns-clause-seconds
returns-clause-seconds c =
    let a = c.args in
    let same = lengths_same a.log.now a.begin.now a.end.now 0 c.in_ok-test_lengths.ensures refl in
    (c.seconds.ensures, ap (λ (k : ℕ). take (k / 4) c.seconds-2.result) same ∙ c.seconds-2.ensures)
