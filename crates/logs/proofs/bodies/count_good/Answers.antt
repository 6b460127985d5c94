use mathlib.Core.Path.{refl, sym, ◌∙◌}
use native.Mathlib.Omega.{arith}
use Rattle.logs.proofs.Flat.{flat_start, flat_begin, flat_next, flat_good, flat_body, flat_record}
use Rattle.rules.proofs.Faultless.{faults_kind}
use borrow.Author.Rules.{rules}
use Rattle.logs.proofs.bodies.count_good.Goals as goal

pub loop-i-init : goal.loop-i-init
loop-i-init c = flat_start _ _

pub body-o-requires : goal.body-o-requires
body-o-requires c = flat_body c.args.log.now c.args.n c.loop-i.i c.requires.0 (omega (arith, c.requires.1))

pub returns-then-faults-ne0 : goal.returns-then-faults-ne0
returns-then-faults-ne0 c = flat_good _ _ _ _ _ _ c.loop-i.invariant

pub mark_write-writes-requires : goal.mark_write-writes-requires
mark_write-writes-requires c = (faults_kind _ _ _ _ (sym c.faults.ensures ∙ c.if-faults-ne0.false), search rules)

pub loop-i-preserved : goal.loop-i-preserved
loop-i-preserved c =
    let b = c.args.log.now in
    let n = c.args.n in
    let l = c.loop-i in
    let word = c.begins-keep.ensures.each l.i (omega (arith, c.requires.0.many, c.requires.1)) in
    let begun = flat_begin b n c.requires.0 l.i l.reads l.writes l.invariant _ _ (c.kept-read.ensures _ word) (c.kept-written.ensures _ word) in
    flat_next b n c.requires.0 l.i _ _ begun _ (c.body-o.ensures.is ∙ flat_record b n l.i c.requires.0 (omega (arith, c.requires.1)))
    (sym c.faults.ensures ∙ c.if-faults-ne0.false) _ _ _ refl c.mark-reads.ensures c.mark_write-writes.ensures

pub returns : goal.returns
returns c = λ t k e. flat_good _ _ _ _ _ _ c.loop-i.invariant t k (omega (arith, e))
