use mir.Syntax.{w32}
use mir.Val.{Fits}
use Rattle.graph.proofs.Rows.{bit_below}
use Rattle.search.proofs.Opens.{hit_found, hit_skip, word_out}
use mathlib.Core.Path.{refl}
use native.Mathlib.Omega.{arith}
use borrow.Author.Rules.{rules}
use Rattle.search.proofs.next_hit.Goals as goal

pub hit_in-requires : goal.hit_in-requires
hit_in-requires c = let l = c.loop-i in
    let f : Fits w32 c.bits_from-set.result = search rules in
    (λ x t. c.requires.3 _ (word_out c.args.left.now l.i _ c.bits_from-set.ensures x (bit_below _ x f.fits t) t).0, c.requires.2, c.requires.4)

pub returns-in-Some : goal.returns-in-Some
returns-in-Some c = let l = c.loop-i in
    hit_found c.args.left.now l.i _ c.bits_from-set.ensures c.args.words.now c.args.rows.now c.args.from c.args.stop c.args.n l.invariant.0 l.invariant.2 _ c.in-Some.ensures c.requires.3 _ refl

pub loop-i-preserved : goal.loop-i-preserved
loop-i-preserved c = let l = c.loop-i in
    (omega (arith, l.invariant.0), omega (arith, c.requires.1, c.requires.4.few), hit_skip c.args.left.now l.i _ c.bits_from-set.ensures c.args.words.now c.args.rows.now c.args.from c.args.stop c.args.n l.invariant.0 l.invariant.2 _ c.in_default.ensures refl)
