use mathlib.Core.Path.{◌≡◌, ap₂, ◌∙◌}
use mathlib.Core.List.{List, ◌++◌}
use Prim.Native.Nat.{ℕ}
use native.Mathlib.Omega.{arith}
use lib.ListN.{length, take, drop}
use Rattle.std.proofs.lemmas.List.{length-take-le}
use Rattle.model.specs.declared.Constraint.{Constraint}
use Rattle.listing.proofs.Lists.{upto_none, upto_next, upto_all}
use Rattle.listing.proofs.list.Goals as goal

pub loop-i-init : goal.loop-i-init
loop-i-init c = upto_none c.args.tables.now c.args.chosen.now _

pub loop-i-preserved : goal.loop-i-preserved
loop-i-preserved c = let l = c.loop-i in upto_next c.args.tables.now c.args.chosen.now _ l.i _ _ (omega arith) l.invariant c.nth.ensures

pub returns : goal.returns
returns c =
    let l = c.loop-i in
    let a = c.args in
    let long : length (take c.from.result a.out.now) ≡ a.n = length-take-le c.from.result a.out.now (omega arith) ∙ c.from.ensures in
    ap₂ (λ (x : List Constraint) (k : ℕ). x ++ drop k a.out.now) (upto_all a.tables.now a.chosen.now _ l.i a.n _ (omega arith) long l.invariant) c.from.ensures
