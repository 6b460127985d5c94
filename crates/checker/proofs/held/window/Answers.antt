use Rattle.checker.proofs.Holding.{case_holds, case_loads, case_timed, held_by}
use Rattle.answers.specs.Clocks.{times_in}
use Rattle.answers.proofs.Holding.{window_fits, clock_fits}
use Rattle.model.specs.Times.{timed_number}
use lib.ListN.{length}
use mathlib.Core.Path.{◌≡◌, refl, ap, ◌∙◌}
use native.Mathlib.Omega.{arith}
use borrow.Author.Rules.{rules}
use Rattle.checker.proofs.held.window.Goals as goal

pub shared_ref_as_front-of : goal.shared_ref_as_front-of
shared_ref_as_front-of c =
    let long : length c.args.c.now.bytes ≡ 1156 = search rules in
    omega (arith, long, window_fits _ _ _ (case_holds c.args.c.now c.requires))

pub of-requires : goal.of-requires
of-requires c = case_loads c.args.c.now c.requires

pub shared_ref_as_front-result : goal.shared_ref_as_front-result
shared_ref_as_front-result c = clock_fits _ _ _ (case_holds c.args.c.now c.requires)

pub shared_ref_as_front-result-2 : goal.shared_ref_as_front-result-2
shared_ref_as_front-result-2 c = clock_fits _ _ _ (case_holds c.args.c.now c.requires)

pub invariant_of-result : goal.invariant_of-result
invariant_of-result c = record { taken = ap (λ b. timed_number b (times_in c.args.c.now.clock)) c.of.ensures ∙ case_timed c.args.c.now c.requires }

pub returns : goal.returns
returns c = held_by c.args.c.now _ c.requires c.of.ensures refl
