use Prim.Native.Nat.{ℕ, ◌+◌, ◌%◌, ◌<◌, ◌≤◌}
use native.Mathlib.Omega.{arith}
use mathlib.Core.Path.{◌≡◌, sym, subst}
use mathlib.Core.Logic.{◌≢◌, ⊎_elim}
use mathlib.Core.Bool.{true, false, ◌||◌}
use lib.Dec.{T, eqb, ltb, ltb→lt, lt→ltb, eqb→eq}
use Rattle.model.specs.History.{start}
use Rattle.model.proofs.Basics.{true_eq, false_eq, not_intro, or_out, or_l, or_r, same?}
use borrow.Author.Tests.{eq-eqb}
use Rattle.rules.specs.Tests.{named}
use Rattle.rules.proofs.unnamed.Goals as goal

named_yes : (n a : ℕ) → a < 65536 → (a + 1) % 65536 ≤ n → named n a ≡ true
unfolding named
named_yes n a l k =
    true_eq (ltb a n || eqb a start)
    (⊎_elim (λ (e : a ≡ start). or_r (ltb a n) (eqb a start) (subst T (sym (eq-eqb a start e)) tt))
    (λ (f : a ≢ start). or_l (ltb a n) (eqb a start) (lt→ltb a n (omega arith)))
    (same? a start))

named_no : (n a : ℕ) → a < 65536 → n < (a + 1) % 65536 → named n a ≡ false
unfolding named
named_no n a l k =
    false_eq (ltb a n || eqb a start)
    (not_intro (ltb a n || eqb a start)
    (λ t. ⊎_elim (λ (y : T (ltb a n)). let m = ltb→lt a n y in absurd (omega arith)) (λ (y : T (eqb a start)). let m = eqb→eq a start y in absurd (omega arith)) (or_out (ltb a n) (eqb a start) t)))

pub returns-then-argument-n : goal.returns-then-argument-n
returns-then-argument-n c = simp (named_yes c.args.n c.args.argument c.requires c.if-argument-n.true)

pub returns-else-argument-n : goal.returns-else-argument-n
returns-else-argument-n c = simp (named_no c.args.n c.args.argument c.requires c.if-argument-n.false)
