-- A list in its room, with zeros behind it: a log in that of a case, and times in that of a clock. Assumes nothing.
use Prim.Native.Nat.{ℕ, zero, suc, ◌+◌, ◌-◌, ◌≤◌}
use native.Mathlib.Omega.{arith}
use mathlib.Core.Path.{◌≡◌, refl, sym, ap, ap₂, ◌∙◌}
use mathlib.Core.List.{List, ◌++◌}
use lib.ListN.{length, drop, replicate}
use lib.Seq.{take_at}
use Rattle.model.specs.Times.{Times, times}
use Rattle.answers.specs.declared.Clock.{Clock}
use Rattle.answers.specs.Clocks.{times_in, in_clock, clock_of}

drop_zeros : (n m : ℕ) → drop n (replicate (n + m) 0) ≡ replicate {A = ℕ} m 0
drop_zeros zero m = let e : 0 + m ≡ m = omega arith in ap {B = List ℕ} (λ k. replicate k 0) e
drop_zeros (suc n) m =
    let e : suc n + m ≡ suc (n + m) = omega arith in
    ap {B = List ℕ} (λ k. drop (suc n) (replicate k 0)) e ∙ drop_zeros n m

pub with_zeros : (room : ℕ) (b r : List ℕ) → length b ≤ room → r ≡ b → r ++ drop (length b) (replicate room 0) ≡ b ++ replicate (room - length b) 0
with_zeros room b r l e =
    let sum : room ≡ length b + (room - length b) = omega arith in
    ap₂ {C = List ℕ} (λ (x y : List ℕ). x ++ y) e (ap (λ k. drop (length b) (replicate k 0)) sum ∙ drop_zeros (length b) (room - length b))

-- ---- times

pub in_clock_lem : (seconds r : List ℕ) → length seconds ≤ 32 → r ≡ seconds → r ++ drop (length seconds) (replicate 32 0) ≡ in_clock seconds
unfolding in_clock
in_clock_lem seconds r l e = with_zeros 32 seconds r l e

pub clock_is : (ts : Times) (begin end : List ℕ) → begin ≡ in_clock ts.begins → end ≡ in_clock ts.ends
    → record { count = length ts.begins; begin = begin; end = end; drift = ts.drift } ≡ clock_of ts
unfolding clock_of
clock_is ts begin end p q = ap₂ (λ (x y : List ℕ). at x y) p q
  where
    at : List ℕ → List ℕ → Clock
    at x y = record { count = length ts.begins; begin = x; end = y; drift = ts.drift }

-- what was put into a clock is in it, where both lists have as many entries
pub times_back : (ts : Times) → length ts.begins ≡ length ts.ends → times_in (clock_of ts) ≡ ts
unfolding clock_of in_clock
times_back ts e =
    let n = length ts.begins in
    ap₂ (λ (x y : List ℕ). times x y ts.drift) (take_at ts.begins (replicate (32 - n) 0) n refl)
    (take_at ts.ends (replicate (32 - length ts.ends) 0) n (sym e))
