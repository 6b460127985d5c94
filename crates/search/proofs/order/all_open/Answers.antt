use Rattle.search.proofs.Opens.{opening_none, opening_next, opening_end}
use Prim.Native.Nat.{ℕ}
use native.Mathlib.Omega.{arith}
use mathlib.Core.Path.{refl, sym, ap, subst, ◌∙◌}
use mathlib.Core.List.{List}
use lib.Dec.{T, eqb}
use lib.ListN.{length, length-replicate}
use Rattle.model.specs.Lists.{all}
use Rattle.search.proofs.order.all_open.Goals as goal

pub loop-w-init : goal.loop-w-init
loop-w-init c = let e = c.requires.1 in (refl, opening_none _ _ (ap length e ∙ length-replicate {A = ℕ} 128 0) (subst (λ (l : List ℕ). T (all (λ x. eqb x 0) l)) (sym e) tt), omega arith)

pub loop-w-preserved : goal.loop-w-preserved
loop-w-preserved c = let l = c.loop-w in
    (l.invariant.0, opening_next _ _ _ l.invariant.1 (omega (arith, c.requires.0, l.invariant.0)) _ c.open_word.ensures, omega arith)

pub returns : goal.returns
returns c = let l = c.loop-w in opening_end _ _ _ l.invariant.1 (omega (arith, l.invariant.0, l.invariant.2))
