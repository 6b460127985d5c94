use native.Mathlib.Omega.{arith}
use mathlib.Core.Path.{sym, ap, subst, ◌∙◌}
use mathlib.Core.Bool.{Bool, cond}
use Rattle.model.specs.declared.Constraint.{Constraint}
use Rattle.listing.proofs.Lists.{item_aimed}
use Rattle.pruning.specs.Passes.{LowTargets}
use Rattle.pruning.specs.Numbers.{Resolves}
use Rattle.pruning.proofs.NumberTurns.{passing_start, passing_next, passing_end}
use Rattle.pruning.proofs.numbers.pass.Goals as goal
use Rattle.pruning.proofs.numbers.pass.Goals.{then-drops, else-drops}

pub loop-i-init : goal.loop-i-init
loop-i-init c = passing_start _ _ _ _

pub resolve-drops-requires : goal.resolve-drops-requires
resolve-drops-requires c = subst LowTargets (sym c.nth.ensures) (item_aimed _ _)

pub loop-i-preserved : goal.loop-i-preserved
loop-i-preserved c =
    let l = c.loop-i in
    let r = c.resolve-drops in
    passing_next _ _ _ _ l.i l.kept _ l.chosen l.rows _ r.result (omega arith) l.invariant
    (λ g e ti. subst (λ (k : Constraint). Resolves g k r.result r.new.rows) c.nth.ensures (r.ensures g e ti))
    (elim c.if-drops.branch [ then-drops w ↦ w.kept-is ∙ sym (ap (λ (b : Bool). cond b 0 1) w.if-drops.true) | else-drops w ↦ w.kept-is ∙ sym (ap (λ (b : Bool). cond b 0 1) w.if-drops.false) ])

pub returns : goal.returns
returns c =
    let l = c.loop-i in (
      omega (arith, l.invariant.behind, l.invariant.high),
      λ g e ti. passing_end _ _ _ _ l.i l.kept l.chosen l.rows (omega arith) l.invariant g e ti,
    )
