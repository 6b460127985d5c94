use native.Mathlib.Omega.{arith}
use Prim.Native.Nat.{ℕ}
use mathlib.Core.Path.{sym, ap, ◌∙◌}
use lib.Bits.{bit_and, bit_xor}
use lib.ListN.{get_or}
use borrow.Author.Rules.{rules}
use Rattle.graph.proofs.MemberLaws.{members_next}
use Rattle.listing.specs.Runs.{head_by}
use Rattle.listing.proofs.Stepping.{low_is, nexts_next, nexts_none}
use Rattle.listing.proofs.runs.Runs.head.Goals as goal

pub loop-m-preserved : goal.loop-m-preserved
loop-m-preserved c =
    let l = c.loop-m in
    let self = c.args.self in
    let next = members_next l.m c.clear_low-m.result l.invariant.0 c.loop-m-test.true c.clear_low-m.ensures.1 in (
      omega (arith, c.clear_low-m.ensures.0, l.invariant.0),
      l.invariant.1 ∙ nexts_next (get_or self.writers.now self.k 0) self.marks.now self.k l.nexts l.m _ _ _ next (low_is _ _ (search rules) c.lowest-nexts.ensures),
    )

pub returns : goal.returns
unfolding head_by
returns c =
    let l = c.loop-m in
    let self = c.args.self in
    let own = get_or self.writers.now self.k 0 in
    ap (λ (x : ℕ). bit_xor own (bit_and own x)) (nexts_none own self.marks.now self.k l.nexts l.m c.loop-m-test.false ∙ sym l.invariant.1)
