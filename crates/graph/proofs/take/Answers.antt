use Rattle.std.proofs.Common.{ℕ, ◌^◌, List, length, get_or, ap, ◌∙◌, arith}
use lib.Bits.{bit_or}
use Rattle.model.specs.Polygraph.{with_side, reach}
use Rattle.graph.specs.Bodies.{extended_row}
use Rattle.graph.proofs.Sweeps.{swept_end}
use Rattle.graph.proofs.Rows.{extend_word, rows_map, reach_length}
use Rattle.graph.proofs.take.Goals as goal

pub returns : goal.returns
returns c =
    let l = c.loop-u in
    let w = c.with-add in
    λ g e ti.
    swept_end _ c.args.rows.now l.rows l.u (l.invariant (ap length e ∙ reach_length g)) (omega arith) (λ (u : ℕ). get_or (reach (with_side g c.args.from c.args.to)) u 0)
    (λ u h.
    ap (λ (x : ℕ). extended_row c.args.from x u (get_or c.args.rows.now u 0)) w.ensures
    ∙ ap (λ (x : List ℕ). extended_row c.args.from (bit_or (get_or x c.args.to 0) (2 ^ c.args.to)) u (get_or x u 0)) e
    ∙ extend_word g c.args.from c.args.to c.ranges.from.fits c.requires ti u h)
    ∙ rows_map (reach (with_side g c.args.from c.args.to)) (reach_length (with_side g c.args.from c.args.to))
