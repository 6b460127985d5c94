use native.Mathlib.Omega.{arith}
use Rattle.codes.specs.Images.{word_at}
use Rattle.images.proofs.word.Goals as goal

pub returns : goal.returns
unfolding word_at
returns c = omega (arith, c.from_le_bytes.ensures)
