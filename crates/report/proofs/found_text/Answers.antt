use native.Mathlib.Omega.{arith}
use Rattle.report.proofs.Texts.{wrote_two, order_length}
use Rattle.report.specs.Text.{found_text}
use Rattle.report.proofs.found_text.Goals as goal

pub put_table-requires : goal.put_table-requires
put_table-requires c = omega (arith, order_length c.args.order c.args.n)

pub returns : goal.returns
unfolding found_text
returns c = wrote_two c.put_order-end.ensures c.put_table.ensures
