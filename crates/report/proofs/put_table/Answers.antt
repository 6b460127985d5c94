use native.Mathlib.Omega.{arith}
use Rattle.report.proofs.Texts.{wrote_none, wrote_next, wrote_as, table_none, table_next, table_length}
use Rattle.report.specs.Text.{marked}
use mathlib.Core.Path.{sym}
use Rattle.report.proofs.put_table.Goals as goal

pub loop-k-init : goal.loop-k-init
loop-k-init c = wrote_as (sym (table_none _ _)) (wrote_none _ _ (omega arith))

pub put_if_written-end-requires : goal.put_if_written-end-requires
put_if_written-end-requires c = omega (arith, table_length (marked c.args.writers) c.args.table c.loop-k.k)

pub loop-k-preserved : goal.loop-k-preserved
unfolding marked
loop-k-preserved c =
    let l = c.loop-k in
    wrote_next l.invariant c.put_if_written-end.ensures (table_next (marked c.args.writers) c.args.table l.k)
