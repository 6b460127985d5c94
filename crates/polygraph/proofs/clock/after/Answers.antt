use Rattle.polygraph.proofs.Timing.{word_next, word_all}
use Prim.Native.Nat.{ℕ}
use lib.Dec.{ltb}
use lib.ListN.{get_or}
use mathlib.Core.Path.{◌∙◌}
use native.Mathlib.Omega.{arith}
use Rattle.polygraph.proofs.clock.after.Goals as goal

pub loop-v-preserved : goal.loop-v-preserved
loop-v-preserved c =
    let a = c.args in
    let l = c.loop-v in
    rw c.from.ensures at c.put_if-mask.ensures ∙ word_next (λ (i : ℕ). ltb a.moment (get_or a.begin.now i 0)) l.v l.mask l.invariant

pub returns : goal.returns
returns c =
    let a = c.args in
    let l = c.loop-v in
    word_all a.begin.now a.moment l.v l.mask (omega arith) (omega (arith, c.requires)) l.invariant
