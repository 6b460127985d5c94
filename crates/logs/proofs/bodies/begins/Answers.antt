use Rattle.std.proofs.Common.{◌≡◌, arith, ap, ◌∙◌}
use Rattle.model.specs.Log.{start_at}
use Rattle.logs.specs.declared.view.Entry.{Entry}
use Rattle.logs.proofs.Starts.{begun_start, begun_next}
use Rattle.logs.proofs.Placing.{placed_within}
use Rattle.logs.proofs.bodies.begins.Goals as goal

pub loop-t-init : goal.loop-t-init
loop-t-init c = begun_start _

pub bounds-out-from : goal.bounds-out-from
bounds-out-from c =
    let is : c.entry-e.result.start ≡ start_at c.args.log.now c.loop-t.t = ap (λ (e : Entry). e.start) c.entry-e.ensures in
    omega (arith, is, c.from.ensures, placed_within c.args.log.now c.args.n c.requires c.loop-t.t (omega arith))

pub loop-t-preserved : goal.loop-t-preserved
loop-t-preserved c =
    let is : c.entry-e.result.start ≡ start_at c.args.log.now c.loop-t.t = ap (λ (e : Entry). e.start) c.entry-e.ensures in
    begun_next c.args.log.now c.loop-t.t c.from.result c.loop-t.out c.loop-t.invariant (c.from.ensures ∙ is)
    (omega (arith, is, c.from.ensures, placed_within c.args.log.now c.args.n c.requires c.loop-t.t (omega arith)))
