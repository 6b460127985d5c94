use Prim.Native.Nat.{ℕ}
use lib.Bits.{bit_or}
use mathlib.Core.Bool.{Bool, cond}
use mathlib.Core.Path.{sym, ap, ◌∙◌}
use Rattle.model.specs.Lists.{bit}
use Rattle.search.specs.Orders.{led_row}
use Rattle.search.proofs.order.lead_row.Goals as goal

pub returns-then-has : goal.returns-then-has
unfolding led_row
returns-then-has c =
    ap (λ (x : Bool). cond x (bit_or c.args.row c.args.add) c.args.row) (sym c.if-has.true ∙ c.has.ensures ∙ ap (λ (x : ℕ). bit x c.args.v) c.with.ensures)

pub returns-else-has : goal.returns-else-has
unfolding led_row
returns-else-has c =
    ap (λ (x : Bool). cond x (bit_or c.args.row c.args.add) c.args.row) (sym c.if-has.false ∙ c.has.ensures ∙ ap (λ (x : ℕ). bit x c.args.v) c.with.ensures)
