use Rattle.std.proofs.Common.{ℕ, eqb, sym, ap, ◌∙◌, eq-eqb, ne_eqb}
use lib.Bits.{bit_and}
use Rattle.graph.specs.Bodies.{extended_row}
use Rattle.graph.proofs.extend_row.Goals as goal

pub returns-then-from-with-ne0 : goal.returns-then-from-with-ne0
unfolding extended_row
returns-then-from-with-ne0 c =
    let w = c.with in
    simp (ap (λ (x : ℕ). eqb (bit_and c.args.from x) 0) (sym w.ensures) ∙ ne_eqb _ 0 c.if-from-with-ne0.true)

pub returns-else-from-with-ne0 : goal.returns-else-from-with-ne0
unfolding extended_row
returns-else-from-with-ne0 c =
    let w = c.with in
    simp (ap (λ (x : ℕ). eqb (bit_and c.args.from x) 0) (sym w.ensures) ∙ eq-eqb _ 0 c.if-from-with-ne0.false)
