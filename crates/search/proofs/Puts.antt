-- Laws of a constraint put into words: it stands there, and those before it as they were. Assumes nothing.
use Prim.Native.Nat.{ℕ, ◌+◌, ◌*◌, ◌<◌}
use native.Mathlib.Omega.{arith}
use mathlib.Core.Path.{◌≡◌, ap₂, ◌∙◌}
use mathlib.Core.List.{List}
use lib.ListN.{length, get_or, set, length-set}
use lib.Seq.{get_or-set_same, get_or-set_other}
use Rattle.model.specs.declared.Constraint.{Constraint}
use Rattle.search.specs.Constraints.{con_at, with_words}

con_is : (c : Constraint) (fromA toA fromB toB : ℕ) → fromA ≡ c.fromA → toA ≡ c.toA → fromB ≡ c.fromB → toB ≡ c.toB
    → ◌≡◌ {A = Constraint} (record { fromA = fromA; toA = toA; fromB = fromB; toB = toB }) c
con_is c fromA toA fromB toB p q r s =
    ap₂ {C = Constraint} (λ x y. record { fromA = x; toA = y; fromB = fromB; toB = toB }) p q
    ∙ ap₂ {C = Constraint} (λ x y. record { fromA = c.fromA; toA = c.toA; fromB = x; toB = y }) r s

module _ (w : List ℕ) (n : ℕ) (c : Constraint) where
  -- the first word put, the first two, the first three
  abbrev one : List ℕ
  one = set w (4 * n) c.fromA

  abbrev two : List ℕ
  two = set one (4 * n + 1) c.toA

  abbrev three : List ℕ
  three = set two (4 * n + 2) c.fromB

  pub put_long : length (with_words w n c) ≡ length w
  unfolding with_words
  put_long = simp length-set

  -- what stood before is there still
  put_old : (i : ℕ) → i < 4 * n → get_or (with_words w n c) i 0 ≡ get_or w i 0
  unfolding with_words
  put_old i l =
      get_or-set_other three (4 * n + 3) i c.toB 0 (λ e. omega arith) ∙ get_or-set_other two (4 * n + 2) i c.fromB 0 (λ e. omega arith)
      ∙ get_or-set_other one (4 * n + 1) i c.toA 0 (λ e. omega arith) ∙ get_or-set_other w (4 * n) i c.fromA 0 (λ e. omega arith)

  pub put_new : 4 * n + 3 < length w → con_at (with_words w n c) n ≡ c
  unfolding with_words
  put_new l =
      let a : length one ≡ length w = length-set w (4 * n) c.fromA in
      let b : length two ≡ length one = length-set one (4 * n + 1) c.toA in
      let d : length three ≡ length two = length-set two (4 * n + 2) c.fromB in
      con_is c _ _ _ _
      (get_or-set_other three (4 * n + 3) (4 * n) c.toB 0 (λ e. omega arith) ∙ get_or-set_other two (4 * n + 2) (4 * n) c.fromB 0 (λ e. omega arith)
      ∙ get_or-set_other one (4 * n + 1) (4 * n) c.toA 0 (λ e. omega arith) ∙ get_or-set_same w (4 * n) c.fromA 0 (omega arith))
      (get_or-set_other three (4 * n + 3) (4 * n + 1) c.toB 0 (λ e. omega arith) ∙ get_or-set_other two (4 * n + 2) (4 * n + 1) c.fromB 0 (λ e. omega arith)
      ∙ get_or-set_same one (4 * n + 1) c.toA 0 (omega arith))
      (get_or-set_other three (4 * n + 3) (4 * n + 2) c.toB 0 (λ e. omega arith) ∙ get_or-set_same two (4 * n + 2) c.fromB 0 (omega arith))
      (get_or-set_same three (4 * n + 3) c.toB 0 (omega arith))

  pub put_same : (i : ℕ) → i < n → con_at (with_words w n c) i ≡ con_at w i
  put_same i l =
      con_is (con_at w i) _ _ _ _ (put_old (4 * i) (omega arith)) (put_old (4 * i + 1) (omega arith)) (put_old (4 * i + 2) (omega arith)) (put_old (4 * i + 3) (omega arith))
