use Prim.Native.Nat.{ℕ, ◌^◌, ◌<◌}
use native.Mathlib.Nat.{mod-eq_of_lt}
use mathlib.Core.Path.{◌≡◌, ap, ◌∙◌}
use mathlib.Core.Bool.{Bool, true, false, cond}
use lib.Bits.{bit_and, and_mask, and_zero_r}
use Rattle.rules.specs.Tests.{keep_word}
use Rattle.rules.proofs.kept.Goals as goal

kept_is : (mask keep : ℕ) → mask < 2 ^ 32 → (stays : Bool) → keep ≡ keep_word stays → bit_and mask keep ≡ cond stays mask 0
unfolding keep_word
kept_is mask keep l true e = ap (bit_and mask) e ∙ and_mask mask 32 ∙ mod-eq_of_lt l
kept_is mask keep l false e = ap (bit_and mask) e ∙ and_zero_r mask

pub returns : goal.returns
returns c = kept_is c.args.mask c.args.keep c.ranges.mask.fits
