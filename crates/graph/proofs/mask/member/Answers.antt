use Rattle.std.proofs.Common.{◌≡◌, ℕ, zero, suc, ◌/◌, ◌%◌, ◌^◌, ◌<◌, cond, eqb, refl, ◌∙◌, arith}
use lib.Bits.{and_mask}
use Rattle.model.specs.Lists.{bit}
use Rattle.graph.proofs.mask.member.Goals as goal

one_or_none : (x : ℕ) → x < 2 → x ≡ cond (eqb x 1) 1 0
one_or_none zero l = refl
one_or_none (suc zero) l = refl
one_or_none (suc (suc x)) l = absurd (omega arith)

pub returns : goal.returns
unfolding bit
returns c = let x = c.args.mask / 2 ^ c.args.v in and_mask x 1 ∙ one_or_none (x % 2) (omega arith)
