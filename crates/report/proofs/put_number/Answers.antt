use native.Mathlib.Omega.{arith}
use Rattle.report.proofs.Texts.{wrote_two, digits_length}
use Rattle.report.specs.Text.{number_text}
use Rattle.report.proofs.put_number.Goals as goal

pub put_digits-requires : goal.put_digits-requires
put_digits-requires c = omega (arith, digits_length 5 c.args.n)

pub returns : goal.returns
unfolding number_text
returns c = wrote_two c.put_word-end.ensures c.put_digits.ensures
