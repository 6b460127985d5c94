use Prim.Native.Nat.{ℕ, zero, suc, ◌^◌, ◌<◌}
use native.Mathlib.Omega.{arith}
use mathlib.Core.Path.{◌≡◌, ap, ap₂, ◌∙◌}
use lib.Bits.{bit_or, bit_xor, or_zero_l, or_zero_r, xor_zero_r, xor_self}
use Rattle.rules.specs.Tests.{mark_by}
use Rattle.rules.proofs.mark_write.Goals as goal

but_for_a_read : (mask kind key : ℕ) → kind < 2 → bit_or mask (bit_xor (bit_or 0 (2 ^ key)) (mark_by 0 kind 0 key)) ≡ mark_by mask kind 1 key
unfolding mark_by
but_for_a_read mask zero key l = ap (bit_or mask) (xor_self (bit_or 0 (2 ^ key))) ∙ or_zero_r mask
but_for_a_read mask (suc zero) key l = ap (bit_or mask) (xor_zero_r (bit_or 0 (2 ^ key)) ∙ or_zero_l (2 ^ key))
but_for_a_read mask (suc (suc k)) key l = absurd (omega arith)

pub returns : goal.returns
returns c =
    let a = c.args in
    ap₂ (λ x y. bit_or a.mask (bit_xor x y)) c.with.ensures c.mark.ensures ∙ but_for_a_read a.mask a.kind a.key c.requires.0
