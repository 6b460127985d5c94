use Rattle.search.proofs.Opens.{next_found, next_skip}
use mir.Syntax.{w32}
use mir.Val.{Fits}
use native.Mathlib.Omega.{arith}
use borrow.Author.Rules.{rules}
use Rattle.search.proofs.next_open.Goals as goal

pub returns-then-m-ne0 : goal.returns-then-m-ne0
returns-then-m-ne0 c = let l = c.loop-i in
    next_found c.args.left.now l.i c.bits_from-m.result c.bits_from-m.ensures c.args.n c.args.from l.invariant.0 l.invariant.2 c.requires.2 c.if-m-ne0.true (let f : Fits w32 c.bits_from-m.result = search rules in f.fits)

pub loop-i-preserved : goal.loop-i-preserved
loop-i-preserved c = let l = c.loop-i in
    (omega (arith, l.invariant.0), omega (arith, c.requires.0), next_skip c.args.left.now l.i c.bits_from-m.result c.bits_from-m.ensures c.args.n c.args.from l.invariant.0 l.invariant.2 c.if-m-ne0.false)
