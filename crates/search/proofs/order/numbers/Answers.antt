use lib.Dec.{ltb}
use native.Mathlib.Omega.{arith}
use mathlib.Core.Path.{sym, ap, ◌∙◌}
use Prim.Native.Nat.{ℕ, ◌-◌, ◌<◌}
use Rattle.model.specs.Lists.{bit}
use Rattle.graph.proofs.Rows.{one_shl}
use Rattle.search.proofs.Words.{ones}
use Rattle.search.proofs.order.numbers.Goals as goal

pub returns-then-t-eq32 : goal.returns-then-t-eq32
returns-then-t-eq32 c = λ x. ones 32 x ∙ ap (ltb x) (sym c.if-t-eq32.true)

pub returns : goal.returns
returns c =
    let h : c.args.t < 32 = omega arith in λ x. ap (λ (y : ℕ). bit (y - 1) x) (one_shl c.args.t h) ∙ ones c.args.t x
