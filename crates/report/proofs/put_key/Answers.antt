use native.Mathlib.Omega.{arith}
use Rattle.report.proofs.Texts.{wrote_two, number_length}
use Rattle.report.specs.Text.{letters, key_text}
use Rattle.report.proofs.put_key.Goals as goal

pub put_number-b-requires : goal.put_number-b-requires
put_number-b-requires c = omega (arith, number_length (letters "key ") c.args.key)

pub push-requires : goal.push-requires
push-requires c =
    omega (
      arith,
      number_length (letters "key ") c.args.key,
      number_length (letters " value ") c.args.value,
    )

pub returns : goal.returns
unfolding key_text
returns c = wrote_two c.put_number-a.ensures (wrote_two c.put_number-b.ensures c.push.ensures)
