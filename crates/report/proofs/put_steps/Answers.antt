use native.Mathlib.Omega.{arith}
use borrow.Author.Rules.{rules}
use Rattle.report.proofs.Texts.{wrote_next, wrote_as, steps_next, steps_length}
use Rattle.report.specs.Text.{letters, number_text, step_text}
use Rattle.model.specs.Lists.{each}
use mathlib.Core.Path.{◌≡◌, ap}
use lib.ListN.{length, take}
use lib.Seq.{length-take-le, take_all}
use Rattle.report.proofs.put_steps.Goals as goal

pub put_number-end-requires : goal.put_number-end-requires
put_number-end-requires c =
    let o = take c.args.n c.args.order in
    let whole : length c.args.order ≡ 32 = search rules in
    omega (arith, steps_length o c.loop-t.t-index, length-take-le c.args.n c.args.order (omega arith))

pub loop-t-preserved : goal.loop-t-preserved
loop-t-preserved c =
    let l = c.loop-t in
    let o = take c.args.n c.args.order in
    wrote_next l.invariant (wrote_as (ap (number_text (letters " ")) c.from.ensures) c.put_number-end.ensures) (steps_next o l.t-index (omega arith))

pub returns : goal.returns
returns c =
    let o = take c.args.n c.args.order in
    wrote_as (ap (each step_text) (take_all c.loop-t.t-index o (omega arith))) c.loop-t.invariant
