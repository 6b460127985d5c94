use Rattle.decision.proofs.Decision.{asked, answered}
use native.Mathlib.Omega.{arith}
use Prim.Native.Nat.{ℕ}
use lib.ListN.{length-replicate}
use Rattle.decision.proofs.first_in.Goals as goal

pub first_closed-requires : goal.first_closed-requires
first_closed-requires g c =
    (asked c.args.log.bytes.now c.args.log.taken c.requires.2.0 _ c.transactions-t.ensures.0 c.args.tables.now c.args.chosen.now _ _ c.requires.2.1 _ (omega (arith, c.requires.0, length-replicate {A = ℕ})) _ c.words.ensures, c.requires.3)

pub returns : goal.returns
returns g c =
    λ at settled. answered c.args.log.bytes.now c.args.log.taken at _ c.transactions-t.ensures.0 c.args.tables.now c.args.chosen.now _ _ settled _ (omega (arith, c.requires.0, length-replicate {A = ℕ})) _ c.words.ensures _ c.first_closed.ensures
