use Rattle.std.proofs.Common.{[], ◌∷◌, ap₂, ◌∙◌}
use Rattle.writer.proofs.Laying.{row_put, pair_bytes}
use Rattle.writer.proofs.rows.put_row.Goals as goal

pub returns : goal.returns
returns c =
    let a = c.args in
    let two = pair_bytes a.pair _ c.ranges.pair.fits c.to_le_bytes.ensures in
    row_put a.out.now _ a.at a.a a.b a.pair c.requires (c.copy_from_slice.ensures.after ∙ ap₂ (λ x y. a.a ∷ a.b ∷ x ∷ y ∷ []) two.0 two.1)
