use mathlib.Core.Path.{ap, ◌∙◌}
use native.Mathlib.Omega.{arith}
use native.Mathlib.Nat.{mod-eq_of_lt, div-mul-le_self}
use Prim.Native.Nat.{ℕ, ◌*◌, ◌/◌, ◌^◌}
use Rattle.model.specs.Lists.{bit}
use Rattle.search.proofs.Words.{high_bits}
use Rattle.search.proofs.bits_from.Goals as goal

pub returns : goal.returns
returns c =
    λ b. let w = c.args.word in let s = c.args.s in ap (λ (x : ℕ). bit x b) {y = w / 2 ^ s * 2 ^ s} (mod-eq_of_lt (omega (arith, div-mul-le_self w (2 ^ s), c.ranges.word.fits))) ∙ high_bits w s b
