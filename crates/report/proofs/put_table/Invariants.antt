use Rattle.report.specs.Text.{Wrote, table_text, marked}
use Rattle.report.proofs.put_table.Given as goal

abbrev pub invariant-loop-k : goal.invariant-loop-k
invariant-loop-k l = Wrote l.initial.out l.at (table_text (marked l.writers) l.table l.k) l.out l.end
