-- The numbers of encodings: at most 2, and 0 of one alone; and of pruning. Assumes nothing.
use Rattle.std.specs.Prelude.{ℕ, zero, suc, ◌≡◌, ◌≢◌, ◌≤◌, nat_eq}
use mathlib.Core.Path.{refl}
use native.Mathlib.Omega.{arith}
use Rattle.setting.specs.declared.Encoding.{Encoding}
use Rattle.setting.specs.declared.Encoding.TheVariants.{Plain, Joined, Chained}
use Rattle.setting.specs.Encodings.{encoding_number, pruning_number}

pub number_low : (e : Encoding) → encoding_number e ≤ 2
number_low Plain = omega arith
number_low Joined = omega arith
number_low Chained = omega arith

-- 0 is plain alone
pub number_some : (e : Encoding) → (e ≡ Plain → ⊥) → encoding_number e ≢ 0
number_some Plain f = λ z. elim (f refl) [ ]
number_some Joined f = λ z. omega arith
number_some Chained f = λ z. omega arith

-- pruning is a number of its own, where it is 0 or 1
pub pruned_is : (p : ℕ) → p ≤ 1 → pruning_number (nat_eq p 1) ≡ p
pruned_is zero l = refl
pruned_is (suc zero) l = refl
pruned_is (suc (suc p)) l = absurd (omega arith)
