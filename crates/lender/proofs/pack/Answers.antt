-- One constraint more, and at the end all n.
use lib.Seq.{length-take-le, get_or-take}
use Rattle.std.proofs.Common.{◌≡◌, ℕ, List, refl, ap₂, subst, ◌∙◌, arith}
use Rattle.model.specs.declared.Constraint.{Constraint}
use Rattle.model.specs.Lent.{no_constraint}
use Rattle.search.specs.Constraints.{with_words}
use Rattle.lender.specs.Packing.{packed}
use Rattle.lender.proofs.Packs.{packed_none, packed_next}
use Rattle.lender.proofs.pack.Goals as goal

pub loop-i-init : goal.loop-i-init
loop-i-init c = packed_none _ _

pub loop-i-preserved : goal.loop-i-preserved
loop-i-preserved c =
    let l = c.loop-i in
    let n = c.args.n in
    let ys = c.args.list.now in
    let item = get_or-take n ys l.i no_constraint (omega (arith, length-take-le n ys c.requires.0)) in
    c.put_constraint.ensures ∙ ap₂ (λ (w : List ℕ) (x : Constraint). with_words w l.i x) l.invariant item ∙ packed_next l.i ys c.args.out.now

pub returns : goal.returns
returns c =
    let l = c.loop-i in
    let over : l.i ≡ c.args.n = omega (arith, length-take-le c.args.n c.args.list.now c.requires.0) in
    (refl, subst (λ (k : ℕ). l.out ≡ packed k c.args.list.now c.args.out.now) over l.invariant)
