use Rattle.checker.proofs.Preparing.{refusal_said}
use Rattle.checker.proofs.deciding.refused.Goals as goal

pub returns : goal.returns
returns c = refusal_said c.args.c c.args.refusal
