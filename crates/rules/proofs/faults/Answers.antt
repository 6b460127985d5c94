use mathlib.Core.Path.{ap, ap₂, ◌∙◌}
use mathlib.Core.Bool.{cond}
use Prim.Native.Nat.{◌/◌}
use lib.Bits.{bit_and, bit_or}
use Rattle.rules.specs.Tests.{named, faults_by}
use Rattle.rules.proofs.faults.Goals as goal

pub returns : goal.returns
unfolding faults_by
returns c =
    let a = c.args in
    ap₂ bit_or
    (ap₂ (λ x y. bit_or (bit_or (a.o.kind / 2) (a.o.key / 32)) (bit_or (bit_and a.reads x) (bit_and a.writes y))) c.mark-read.ensures c.with.ensures)
    (c.unnamed-wrong.ensures ∙ ap (cond (named a.n a.o.argument) 0) c.mark-read.ensures)
