use Rattle.std.proofs.Common.{arith, ◌∙◌}
use Rattle.model.proofs.Logs.{is_log_by}
use Rattle.writer.proofs.Answering.{ok_is}
use Rattle.writer.proofs.tests.is_log.Goals as goal

pub returns : goal.returns
returns c = c.is_ok.ensures.value ∙ ok_is _ ∙ is_log_by _ _ c.test.ensures (λ i. omega (arith, c.type_inv.log i))
