use Rattle.std.proofs.Common.{◌≡◌, refl, arith, ap, sym, ◌∙◌}
use Rattle.std.proofs.lemmas.Result.{err_from_is_err_and}
use Rattle.model.specs.Log.{first_number, body_number, bodies_number, start_at, count_at}
use Rattle.refusals.proofs.Numbering.{code_some}
use Rattle.logs.specs.declared.view.Entry.{Entry}
use Rattle.logs.proofs.Numbers.{sofar_start, sofar_stop, sofar_key, sofar_next}
use Rattle.logs.proofs.Placing.{placed_body}
use Rattle.logs.proofs.bodies.of_transaction.Goals as goal

pub loop-m-init : goal.loop-m-init
loop-m-init c = sofar_start _ _ _ _ c.default-seen.ensures

pub body-o-requires : goal.body-o-requires
body-o-requires c =
    let k : c.entry-e.result.count ≡ count_at c.args.log.now c.args.t = ap (λ (e : Entry). e.count) c.entry-e.ensures in
    placed_body c.args.log.now c.args.n c.requires.0 c.args.t c.requires.2 c.loop-m.m (omega (arith, k, c.from-count.ensures))

pub returns-in_err-test : goal.returns-in_err-test
unfolding bodies_number
returns-in_err-test c =
    let k : c.entry-e.result.count ≡ count_at c.args.log.now c.args.t = ap (λ (e : Entry). e.count) c.entry-e.ensures in
    let l = c.loop-m in
    let a = c.args in
    let p = err_from_is_err_and c.from_residual.result c.from_residual.ensures.1 in
    rw (p.1, p.2)
    (sofar_stop a.log.now a.t (start_at a.log.now a.t) l.m a.n l.seen _ _ c.requires.0.count l.invariant c.body-o.ensures.is c.in_err-test.ensures _ (omega (arith, k, c.from-count.ensures)) (code_some _))

pub after-seen-requires : goal.after-seen-requires
after-seen-requires c =
    let l = c.loop-m in
    let a = c.args in
    sofar_key a.log.now a.t (start_at a.log.now a.t) l.m a.n l.seen _ _ c.requires.0.count l.invariant c.body-o.ensures.is c.in_ok-test.ensures refl

pub loop-m-preserved : goal.loop-m-preserved
loop-m-preserved c =
    let l = c.loop-m in
    let a = c.args in
    sofar_next a.log.now a.t (start_at a.log.now a.t) l.m a.n l.seen _ _ c.requires.0.count l.invariant c.body-o.ensures.is c.in_ok-test.ensures refl _ c.after-seen.ensures

pub returns : goal.returns
unfolding bodies_number
returns c =
    let l = c.loop-m in
    let a = c.args in
    let k : c.entry-e.result.count ≡ count_at a.log.now a.t = ap (λ (e : Entry). e.count) c.entry-e.ensures in
    let end : l.m ≡ count_at a.log.now a.t = omega (arith, k, c.from-count.ensures) in
    sym l.invariant.none ∙ ap (first_number (body_number a.log.now a.t (start_at a.log.now a.t))) end
