use Rattle.codes.specs.Images.{word_bytes, twos, bill_bytes}
use Rattle.images.proofs.Bytes.{unsigned_twos}
use Prim.Native.Nat.{◌+◌}
use mathlib.Core.Path.{ap, ◌∙◌}
use mir.Syntax.{w32}
use mir.Val.{of_z}
use mir.Facts.{to_z-of_z}
use borrow.Author.Rules.{rules}
use Rattle.images.proofs.put_bill.Goals as goal

pub returns : goal.returns
unfolding bill_bytes
returns c =
    let a = c.args in
    c.put_word-3.ensures
    ∙ ap (λ v. word_bytes (a.at + 8) v c.put_word-2.new.out) (c.cast_unsigned.ensures ∙ ap (of_z w32) (to_z-of_z {w = w32} {z = a.b.travel} (search rules)) ∙ unsigned_twos a.b.travel)
    ∙ ap (word_bytes (a.at + 8) (twos a.b.travel)) (c.put_word-2.ensures ∙ ap (word_bytes (a.at + 4) a.b.cents) c.put_word.ensures)
