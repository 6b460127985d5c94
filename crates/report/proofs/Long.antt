-- Input longer than any log, 1,156 bytes, is refused with the number that its first bytes call for; so a program may stop after a part of it that is longer too.
-- Assumes nothing.
use Prim.Native.Nat.{ℕ, ◌+◌, ◌*◌, ◌≤◌, ◌<◌}
use native.Mathlib.Omega.{arith}
use mathlib.Core.Path.{◌≡◌, refl, sym, ap, ap₂, ◌∙◌}
use mathlib.Core.Bool.{Bool, true, false, cond, ◌||◌}
use mathlib.Core.List.{List}
use borrow.Author.Tests.{ltb-true, ltb-false, ne_eqb}
use lib.Dec.{eqb, ltb}
use lib.ListN.{length, take}
use lib.Seq.{get_or-take, length-take-le}
use Rattle.model.specs.Log.{pair_at, transactions_in, operations_in, load_number, history_of}
use Rattle.model.specs.Search.{first_legal}
use Rattle.model.proofs.Numbers.{load_many_t, load_many_n, load_longer}
use Rattle.report.specs.Text.{refused_text}
use Rattle.report.specs.Judge.{decided_text, judge_text}

-- T over 32 or N over 256, by the first four bytes
abbrev pub too_many : List ℕ → Bool
too_many b = ltb 32 (transactions_in b) || ltb 256 (operations_in b)

-- longer than any log: 2 or 35
pub long_number : (b : List ℕ) → 1156 < length b → load_number b ≡ cond (too_many b) 2 35
long_number b l = go (ltb 32 (transactions_in b)) (ltb 256 (operations_in b)) refl refl
  where
    go : (p q : Bool) → ltb 32 (transactions_in b) ≡ p → ltb 256 (operations_in b) ≡ q → load_number b ≡ cond (p || q) 2 35
    go true q u v = sym (load_many_t b (omega arith) (ltb-true 32 (transactions_in b) u))
    go false true u v = sym (load_many_n b (omega arith) (ltb-true 256 (operations_in b) v))
    go false false u v =
        let t = ltb-false 32 (transactions_in b) u in
        let n = ltb-false 256 (operations_in b) v in sym (load_longer b (omega arith) t n (omega (arith, t, n)))

-- ---- the first bytes are enough

pair_take : (b : List ℕ) (n i : ℕ) → i + 1 < n → pair_at (take n b) i ≡ pair_at b i
unfolding pair_at
pair_take b n i l =
    ap₂ {C = ℕ} (λ x y. x + 256 * y) (get_or-take n b i 0 (omega arith)) (get_or-take n b (i + 1) 0 l)

pub long_prefix : (b : List ℕ) (n : ℕ) → 1156 < n → n ≤ length b → load_number (take n b) ≡ load_number b
long_prefix b n l h =
    let t : transactions_in (take n b) ≡ transactions_in b = pair_take b n 0 (omega arith) in
    let o : operations_in (take n b) ≡ operations_in b = pair_take b n 2 (omega arith) in
    long_number (take n b) (omega (arith, length-take-le n b h))
    ∙ ap₂ {C = ℕ} (λ x y. cond (ltb 32 x || ltb 256 y) 2 35) t o
    ∙ sym (long_number b (omega arith))

-- 'refused' and the number, where it is not 0, is all that Judge prints
pub refused_only : (b : List ℕ) (n : ℕ) → load_number b ≡ n → (n ≡ 0 → ⊥) → judge_text b ≡ refused_text n
unfolding judge_text
refused_only b n e f =
    ap₂ (λ t m. cond t (decided_text (history_of b) (first_legal (history_of b))) (refused_text m)) (ap (λ m. eqb m 0) e ∙ ne_eqb n 0 f) e

pub judge_prefix : (b : List ℕ) (n : ℕ) → 1156 < n → n ≤ length b → judge_text (take n b) ≡ judge_text b
judge_prefix b n l h =
    let e = long_number b (omega arith) in
    let some : load_number b ≡ 0 → ⊥ = λ z. not_zero (too_many b) (sym e ∙ z) in
    refused_only (take n b) (load_number b) (long_prefix b n l h) some ∙ sym (refused_only b (load_number b) refl some)
  where
    not_zero : (c : Bool) → ◌≡◌ {A = ℕ} (cond c 2 35) 0 → ⊥
    not_zero true e = omega arith
    not_zero false e = omega arith
