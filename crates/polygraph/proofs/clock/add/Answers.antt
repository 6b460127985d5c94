use Rattle.polygraph.proofs.Timing.{step_next}
use Rattle.polygraph.specs.Tables.{put_at}
use Rattle.polygraph.specs.Clock.{clock_step, with_clock}
use Rattle.model.specs.Lists.{fold, up_to}
use Rattle.model.specs.Times.{times}
use lib.ListN.{length, get_or, set}
use lib.Bits.{bit_or}
use mathlib.Core.Path.{◌≡◌, ap, ◌∙◌}
use native.Mathlib.Omega.{arith}
use Rattle.polygraph.proofs.clock.add.Goals as goal

pub loop-u-preserved : goal.loop-u-preserved
unfolding put_at
loop-u-preserved c =
    let a = c.args in
    let l = c.loop-u in
    step_next (times a.clock.begin.now a.clock.end.now a.clock.drift) a.out.now l.out _ l.u l.invariant
    (ap (λ x. set l.out l.u (bit_or (get_or l.out l.u 0) x)) (rw (c.from.ensures, c.from-in-loop-u.ensures) at c.after.ensures))

pub returns : goal.returns
unfolding with_clock
returns c =
    let a = c.args in
    let l = c.loop-u in
    let end : l.u ≡ length a.clock.end.now = omega arith in
    l.invariant ∙ ap (λ n. fold (clock_step (times a.clock.begin.now a.clock.end.now a.clock.drift)) a.out.now (up_to n)) end
