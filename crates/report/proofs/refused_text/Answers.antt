use native.Mathlib.Omega.{arith}
use Rattle.report.proofs.Texts.{wrote_two, wrote_as, number_length}
use Rattle.report.specs.Text.{letters, number_text, refused_text}
use mathlib.Core.Path.{ap}
use Rattle.report.proofs.refused_text.Goals as goal

pub push-requires : goal.push-requires
push-requires c = omega (arith, number_length (letters "refused ") c.from.result)

pub returns : goal.returns
unfolding refused_text
returns c =
    let text = wrote_as (ap (number_text (letters "refused ")) c.from.ensures) c.put_number-end.ensures in
    wrote_two text c.push.ensures
