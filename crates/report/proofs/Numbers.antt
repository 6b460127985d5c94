-- A number in decimal: its digits are worth the number, each is a digit, and the first is 0 for 0 alone. Assumes nothing.
use Prim.Native.Nat.{ℕ, zero, suc, ◌+◌, ◌-◌, ◌*◌, ◌/◌, ◌%◌, ◌^◌, ◌≤◌, ◌<◌}
use native.Mathlib.Omega.{arith}
use mathlib.Core.Path.{◌≡◌, refl, ◌∙◌}
use mathlib.Core.Bool.{Bool, true, false, cond}
use mathlib.Core.List.{List, [], ◌∷◌, ◌++◌}
use borrow.Author.Tests.{ltb-true, ltb-false}
use lib.Dec.{ltb}
use Rattle.model.specs.Lists.{All}
use Rattle.model.proofs.Basics.{All-app}
use Rattle.report.specs.Text.{digits, decimal, value_from, value_of}

value_append : (n : ℕ) (xs ys : List ℕ) → value_from n (xs ++ ys) ≡ value_from (value_from n xs) ys
value_append n [] ys = refl
value_append n (x ∷ xs) ys = value_append (10 * n + (x - 48)) xs ys

-- a case of `digits`, with what the test says
by_size : (P : List ℕ → Type 0) (n x : ℕ) → (x < 10 → P ((48 + x) ∷ [])) → (10 ≤ x → P (digits n (x / 10) ++ ((48 + x % 10) ∷ []))) → P (digits (suc n) x)
unfolding digits
by_size P n x few many = go (ltb x 10) refl
  where
    go : (b : Bool) → ltb x 10 ≡ b → P (cond b ((48 + x) ∷ []) (digits n (x / 10) ++ ((48 + x % 10) ∷ [])))
    go true e = few (omega (arith, ltb-true))
    go false e = many (omega (arith, ltb-false))

pub digits_value : (n x : ℕ) → x < 10 ^ n → value_of (digits n x) ≡ x
unfolding digits
digits_value zero x l = omega arith
digits_value (suc n) x l =
    by_size (λ ds. value_of ds ≡ x) n x (λ few. omega arith) (λ many. more (digits_value n (x / 10) (omega arith)))
  where
    more : value_of (digits n (x / 10)) ≡ x / 10 → value_of (digits n (x / 10) ++ ((48 + x % 10) ∷ [])) ≡ x
    more e = value_append 0 (digits n (x / 10)) ((48 + x % 10) ∷ []) ∙ omega arith

-- every number of 16 bits, and more, is what its decimal digits are worth
pub decimal_value : (x : ℕ) → x < 100000 → value_of (decimal x) ≡ x
decimal_value x l = digits_value 5 x l

-- bytes '0' to '9'
pub digits_are : (n x : ℕ) → All (λ d. (48 ≤ d) × (d ≤ 57)) (digits n x)
unfolding digits
digits_are zero x = tt
digits_are (suc n) x =
    by_size (All (λ d. (48 ≤ d) × (d ≤ 57))) n x (λ few. ((omega arith, omega arith), tt))
    (λ many. All-app (λ d. (48 ≤ d) × (d ≤ 57)) (digits n (x / 10)) ((48 + x % 10) ∷ []) (digits_are n (x / 10)) ((omega arith, omega arith), tt))
