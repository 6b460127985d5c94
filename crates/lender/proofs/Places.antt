-- A list of the function's own, of 4,096 places, and its first ones, which may be lent.
--     places           that many places that each hold four zeros.        places_long      there are as many
--     all_is           the whole list is the first ones and those behind them.        all_long      it has 4,096 places, whatever the first ones hold
-- Assumes nothing.
use mathlib.Core.Path.{◌≡◌, sym, ap, ◌∙◌}
use Prim.Native.Nat.{ℕ, ◌+◌, ◌-◌, ◌≤◌}
use native.Mathlib.Omega.{arith}
use mathlib.Core.List.{List, ◌++◌}
use lib.ListN.{length, replicate, length-replicate, replicate-append-replicate}
use borrow.Table.Elements.{length_app}
use Rattle.model.specs.declared.Constraint.{Constraint}
use Rattle.model.specs.Lent.{no_constraint}

pub all_is : (mark : Constraint) (n : ℕ) → n ≤ 4096 → replicate 4096 mark ≡ replicate n mark ++ replicate (4096 - n) mark
all_is mark n h = sym (replicate-append-replicate n (4096 - n) mark ∙ ap (λ (k : ℕ). replicate k mark) total)
  where
    total : n + (4096 - n) ≡ 4096
    total = omega arith

pub all_long : (mark : Constraint) (n : ℕ) (zs : List Constraint) → n ≤ 4096 → length zs ≡ length (replicate n mark) → length (zs ++ replicate (4096 - n) mark) ≡ 4096
all_long mark n zs h e = omega (arith, length_app zs (replicate (4096 - n) mark), length-replicate (4096 - n) mark, length-replicate n mark)

-- ---- the list of `lender`

abbrev pub places : List Constraint
places = replicate 4096 no_constraint

pub places_long : length places ≡ 4096
places_long = length-replicate 4096 no_constraint
