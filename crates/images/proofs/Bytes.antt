-- Bytes in their places: a part of a list that gets two bytes, or four, and the same places set one after another. Assumes nothing.
use Prim.Native.Nat.{ℕ, zero, suc, ◌+◌, ◌≤◌}
use native.Mathlib.Omega.{arith}
use mathlib.Core.Path.{◌≡◌, refl, ap, ◌∙◌}
use mathlib.Core.List.{List, [], ◌∷◌}
use lib.ListN.{length, set}
use lib.IntN.{ℤ, pos, negsuc}
use mir.Syntax.{w32}
use mir.Val.{of_z}
use borrow.Rule.Slice.PartMut.{put_mid}
use Rattle.codes.specs.Images.{twos}

two : (at : ℕ) (out : List ℕ) (x y : ℕ) → suc (suc at) ≤ length out → put_mid at 2 out (x ∷ y ∷ []) ≡ set (set out at x) (suc at) y
two zero [] x y l = absurd (omega arith)
two zero (a ∷ []) x y l = absurd (omega arith)
two zero (a ∷ b ∷ out) x y l = refl
two (suc at) [] x y l = absurd (omega arith)
two (suc at) (a ∷ out) x y l = ap (λ (o : List ℕ). a ∷ o) (two at out x y (omega arith))

four : (at : ℕ) (out : List ℕ) (x y z w : ℕ) → suc (suc (suc (suc at))) ≤ length out
    → put_mid at 4 out (x ∷ y ∷ z ∷ w ∷ []) ≡ set (set (set (set out at x) (suc at) y) (suc (suc at)) z) (suc (suc (suc at))) w
four zero [] x y z w l = absurd (omega arith)
four zero (a ∷ []) x y z w l = absurd (omega arith)
four zero (a ∷ b ∷ []) x y z w l = absurd (omega arith)
four zero (a ∷ b ∷ c ∷ []) x y z w l = absurd (omega arith)
four zero (a ∷ b ∷ c ∷ d ∷ out) x y z w l = refl
four (suc at) [] x y z w l = absurd (omega arith)
four (suc at) (a ∷ out) x y z w l = ap (λ (o : List ℕ). a ∷ o) (four at out x y z w (omega arith))

-- the same as the code has it
pub put_two : (at k : ℕ) (out : List ℕ) (x y : ℕ) → k ≡ 2 → at + 2 ≤ length out → put_mid at k out (x ∷ y ∷ []) ≡ set (set out at x) (at + 1) y
put_two at k out x y e l =
    let one : suc at ≡ at + 1 = omega arith in
    ap (λ k. put_mid at k out (x ∷ y ∷ [])) e ∙ two at out x y (omega arith) ∙ ap (λ i. set (set out at x) i y) one

pub put_four : (at k : ℕ) (out : List ℕ) (x y z w : ℕ) → k ≡ 4 → at + 4 ≤ length out
    → put_mid at k out (x ∷ y ∷ z ∷ w ∷ []) ≡ set (set (set (set out at x) (at + 1) y) (at + 2) z) (at + 3) w
put_four at k out x y z w e l =
    let one : suc at ≡ at + 1 = omega arith in
    let more : suc (suc at) ≡ at + 2 = omega arith in
    let last : suc (suc (suc at)) ≡ at + 3 = omega arith in
    ap (λ k. put_mid at k out (x ∷ y ∷ z ∷ w ∷ [])) e
    ∙ four at out x y z w (omega arith)
    ∙ ap (λ i. set (set (set (set out at x) i y) (suc (suc at)) z) (suc (suc (suc at))) w) one
    ∙ ap (λ i. set (set (set (set out at x) (at + 1) y) i z) (suc (suc (suc at))) w) more
    ∙ ap (λ i. set (set (set (set out at x) (at + 1) y) (at + 2) z) i w) last

-- a signed number's own bits are its two's complement
pub unsigned_twos : (z : ℤ) → of_z w32 z ≡ twos z
unsigned_twos (pos n) = refl
unsigned_twos (negsuc n) = omega arith
