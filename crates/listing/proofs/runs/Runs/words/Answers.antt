use native.Mathlib.Omega.{arith}
use mathlib.Core.Path.{sym, ◌∙◌}
use Rattle.graph.proofs.MemberLaws.{members_next}
use Rattle.listing.proofs.Stepping.{words_next, words_none}
use Rattle.listing.proofs.runs.Runs.words.Goals as goal

pub loop-m-preserved : goal.loop-m-preserved
loop-m-preserved c =
    let l = c.loop-m in
    let self = c.args.self in
    let next = members_next l.m c.clear_low-m.result l.invariant.0 c.loop-m-test.true c.clear_low-m.ensures.1 in (
      omega (arith, c.clear_low-m.ensures.0, l.invariant.0),
      l.invariant.1 ∙ words_next self.encoding self.n self.writers.now self.marks.now self.k l.out l.m _ _ _ next c.word.ensures,
    )

pub returns : goal.returns
returns c =
    let l = c.loop-m in
    let self = c.args.self in
    words_none self.encoding self.n self.writers.now self.marks.now self.k l.out l.m c.loop-m-test.false ∙ sym l.invariant.1
