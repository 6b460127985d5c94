use native.Mathlib.Omega.{arith}
use Rattle.report.proofs.Texts.{wrote_two, steps_length}
use Rattle.report.specs.Text.{order_text}
use Rattle.report.proofs.put_order.Goals as goal

pub push-requires : goal.push-requires
push-requires c = omega (arith, steps_length c.args.order c.args.n)

pub returns : goal.returns
unfolding order_text
returns c = wrote_two c.put_word-a.ensures (wrote_two c.put_steps-b.ensures c.push.ensures)
