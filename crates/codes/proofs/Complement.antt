-- Two's complement as the machine finds it, which casts no negative number: -1 less a negative number is cast, and taken from the largest. Assumes nothing.
use Prim.Native.Nat.{ℕ, suc, ◌-◌, ◌<◌, ◌≤◌}
use native.Mathlib.Omega.{arith}
use mathlib.Core.Path.{◌≡◌, refl, sym, ap, subst, ◌∙◌}
use mathlib.Core.Bool.{true, false}
use lib.Dec.{T, ltb→lt}
use lib.IntN.{ℤ, pos, negsuc, nat_abs, ◌-ℤ◌}
use lib.Signed.{non_neg, lt_z}
use mir.Syntax.{w32}
use mir.Val.{Fits, SFits, to_z, of_z}
use mir.Facts.{to_z-of_z}
use Rattle.wear.proofs.Signed.{sub_up}
use Rattle.codes.specs.Images.{twos}

-- a number of 32 bits by its sign
below_0 : (z : ℤ) → SFits w32 z → lt_z z (pos 0) ≡ true → (n : ℕ) × ((z ≡ negsuc n) × (n < 2147483648))
below_0 (pos n) fits t = absurd (omega (arith, ltb→lt n 0 (subst T (sym t) tt)))
below_0 (negsuc n) fits t = (n, (refl, omega (arith, fits.sfits)))

from_0 : (z : ℤ) → SFits w32 z → lt_z z (pos 0) ≡ false → (n : ℕ) × ((z ≡ pos n) × (n < 2147483648))
from_0 (pos n) fits t = (n, (refl, omega (arith, fits.sfits)))
from_0 (negsuc n) fits t = absurd (subst T t tt)

-- -1 less a negative number
less_from : (n : ℕ) → negsuc 0 -ℤ negsuc n ≡ pos n
less_from n =
    let e : suc n - 1 ≡ n = omega arith in
    sub_up (suc n) 1 (omega arith) ∙ ap pos e

-- what a cast of a natural number needs and gives
abbrev Casts : ℤ → Type 0
Casts y = T (non_neg y) × Fits w32 (nat_abs y)

casts : (y : ℤ) (n : ℕ) → y ≡ pos n → n < 2147483648 → Casts y
casts y n e l = subst Casts (sym e) (tt, record { fits = omega arith })

module _ (z : ℤ) (fits : SFits w32 z) where
  -- the number that the machine reads of z's bits, and -1 less it
  abbrev read : ℤ
  read = to_z w32 (of_z w32 z)

  abbrev rest : ℤ
  rest = negsuc 0 -ℤ read

  -- a number that is not negative is cast as it is
  module _ (t : lt_z read (pos 0) ≡ false) where
    abbrev up : (n : ℕ) × ((z ≡ pos n) × (n < 2147483648))
    up = from_0 z fits (sym (ap (λ x. lt_z x (pos 0)) (to_z-of_z fits)) ∙ t)

    pub up_casts : Casts read
    up_casts = casts read up.0 (to_z-of_z fits ∙ up.1.0) up.1.1

    pub up_is : nat_abs read ≡ twos z
    up_is = ap nat_abs (to_z-of_z fits ∙ up.1.0) ∙ sym (ap twos up.1.0)

  -- a negative one is not
  module _ (t : lt_z read (pos 0) ≡ true) where
    abbrev down : (n : ℕ) × ((z ≡ negsuc n) × (n < 2147483648))
    down = below_0 z fits (sym (ap (λ x. lt_z x (pos 0)) (to_z-of_z fits)) ∙ t)

    rest_is : rest ≡ pos down.0
    rest_is = ap (λ x. negsuc 0 -ℤ x) (to_z-of_z fits ∙ down.1.0) ∙ less_from down.0

    pub down_fits : SFits w32 rest
    down_fits = subst (SFits w32) (sym rest_is) (record { sfits = omega (arith, down.1.1) })

    back : to_z w32 (of_z w32 rest) ≡ pos down.0
    back = to_z-of_z down_fits ∙ rest_is

    pub down_casts : Casts (to_z w32 (of_z w32 rest))
    down_casts = casts (to_z w32 (of_z w32 rest)) down.0 back down.1.1

    pub down_low : nat_abs (to_z w32 (of_z w32 rest)) ≤ 4294967295
    down_low = omega (arith, ap nat_abs back, down.1.1)

    pub down_is : 4294967295 - nat_abs (to_z w32 (of_z w32 rest)) ≡ twos z
    down_is = ap (λ y. 4294967295 - nat_abs y) back ∙ sym (ap twos down.1.0)
