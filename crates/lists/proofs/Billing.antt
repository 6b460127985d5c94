-- A list of bills of the function's own, of 20 places, of which the first are lent to Bills.
--     all_is, all_long     the whole list is the places lent and those behind them, and has 20 places
-- Assumes nothing.
use mathlib.Core.Path.{◌≡◌, sym, ap, ◌∙◌}
use Prim.Native.Nat.{ℕ, ◌+◌, ◌-◌, ◌≤◌}
use native.Mathlib.Omega.{arith}
use mathlib.Core.List.{List, ◌++◌}
use lib.ListN.{length, replicate, length-replicate, replicate-append-replicate}
use borrow.Table.Elements.{length_app}
use Rattle.wear.specs.declared.Bill.{Bill}

pub all_is : (mark : Bill) (n : ℕ) → n ≤ 20 → replicate 20 mark ≡ replicate n mark ++ replicate (20 - n) mark
all_is mark n h = sym (replicate-append-replicate n (20 - n) mark ∙ ap (λ (k : ℕ). replicate k mark) total)
  where
    total : n + (20 - n) ≡ 20
    total = omega arith

pub all_long : (mark : Bill) (n : ℕ) (zs : List Bill) → n ≤ 20 → length zs ≡ length (replicate n mark) → length (zs ++ replicate (20 - n) mark) ≡ 20
all_long mark n zs h e = omega (arith, length_app zs (replicate (20 - n) mark), length-replicate (20 - n) mark, length-replicate n mark)
