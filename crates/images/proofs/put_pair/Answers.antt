use Rattle.codes.specs.Images.{pair_bytes}
use Rattle.images.proofs.Bytes.{put_two}
use Rattle.std.proofs.Common.{◌≡◌, ◌+◌, ◌-◌, ◌/◌, ◌%◌, set, ap, ◌∙◌, arith}
use borrow.Rule.Slice.PartMut.{put_mid}
use Rattle.images.proofs.put_pair.Goals as goal

pub returns : goal.returns
unfolding pair_bytes
returns c =
    let a = c.args in
    let high : a.v / 256 % 256 ≡ a.v / 256 = omega arith in
    ap (put_mid a.at (a.at + 2 - a.at) a.out.now) (c.copy_from_slice.ensures.after ∙ c.to_le_bytes.ensures)
    ∙ put_two a.at (a.at + 2 - a.at) a.out.now (a.v % 256) (a.v / 256 % 256) (omega arith) c.requires
    ∙ ap (set (set a.out.now a.at (a.v % 256)) (a.at + 1)) high
