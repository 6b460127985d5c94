use Rattle.codes.specs.Images.{word_bytes}
use Rattle.images.proofs.Bytes.{put_four}
use Rattle.std.proofs.Common.{◌≡◌, ◌+◌, ◌-◌, ◌/◌, ◌%◌, set, ap, ◌∙◌, arith}
use borrow.Rule.Slice.PartMut.{put_mid}
use Rattle.images.proofs.put_word.Goals as goal

pub returns : goal.returns
unfolding word_bytes
returns c =
    let a = c.args in
    let high : a.v / 16777216 % 256 ≡ a.v / 16777216 = omega arith in
    ap (put_mid a.at (a.at + 4 - a.at) a.out.now) (c.copy_from_slice.ensures.after ∙ c.to_le_bytes.ensures)
    ∙ put_four a.at (a.at + 4 - a.at) a.out.now (a.v % 256) (a.v / 256 % 256) (a.v / 65536 % 256) (a.v / 16777216 % 256) (omega arith) c.requires
    ∙ ap (set (set (set (set a.out.now a.at (a.v % 256)) (a.at + 1) (a.v / 256 % 256)) (a.at + 2) (a.v / 65536 % 256)) (a.at + 3)) high
