use Rattle.decision.proofs.Decision.{settled_few, settled_partial, cyclic_answer}
use native.Mathlib.Omega.{arith}
use Rattle.decision.proofs.first_settled.Goals as goal

pub returns-then-cyclic : goal.returns-then-cyclic
returns-then-cyclic c =
    λ at settled. cyclic_answer c.args.log.bytes.now c.args.log.taken at c.args.tables.now c.args.chosen.now _ _ settled _ c.cyclic.ensures c.if-cyclic.true

pub first_in-requires : goal.first_in-requires
first_in-requires c =
    (omega arith, omega arith, c.requires, settled_partial c.args.log.bytes.now c.args.log.taken c.requires.0 c.args.tables.now c.args.chosen.now _ _ c.requires.1 _ c.cyclic.ensures c.if-cyclic.false)

pub first_in-requires-then-n-le-SOME : goal.first_in-requires-then-n-le-SOME
first_in-requires-then-n-le-SOME c =
    (omega arith, omega arith, c.requires, settled_partial c.args.log.bytes.now c.args.log.taken c.requires.0 c.args.tables.now c.args.chosen.now _ _ c.requires.1 _ c.cyclic.ensures c.if-cyclic.false)

pub first_in-requires-2 : goal.first_in-requires-2
first_in-requires-2 c =
    let few = settled_few c.args.log.bytes.now c.args.log.taken c.requires.0 c.args.tables.now c.args.chosen.now _ _ c.requires.1 in
    (omega arith, omega arith, c.requires, settled_partial c.args.log.bytes.now c.args.log.taken c.requires.0 c.args.tables.now c.args.chosen.now _ _ c.requires.1 _ c.cyclic.ensures c.if-cyclic.false)
