-- The constraints left fit the list and the words, and go out.
use Rattle.std.proofs.Common.{ℕ, ◌≤◌, List, sym, ap, subst, ◌∙◌, arith}
use Rattle.model.specs.declared.Constraint.{Constraint}
use Rattle.lender.specs.Packing.{packed}
use Rattle.lender.proofs.Places.{places_long}
use Rattle.lender.proofs.Within.{planned_within}
use Rattle.lender.proofs.written.Goals as goal

pub pack-requires : goal.pack-requires
pack-requires c =
    let a = c.args in
    let p = c.requires.0 in
    let r = c.write-r in
    let low : r.result.left ≤ 4096 = subst (λ (k : ℕ). k ≤ 4096) (sym (r.ensures p.h p.e p.plan).left_is) (planned_within p.h p.e a.pruning a.tables.now a.chosen.now a.rows a.n p.plan) in
    (omega (arith, low, r.auto.list, places_long), omega (arith, low))

pub returns : goal.returns
returns c =
    let r = c.write-r in
    λ h e plan.
    (let k = r.ensures h e plan in
    record {
      rows_are = k.rows_are;
      left_is = k.left_is;
      words_are = c.pack.ensures.1 ∙ ap (λ (j : ℕ). packed j r.new.list c.args.out.now) c.from.ensures ∙ ap (λ (l : List Constraint). packed r.result.left l c.args.out.now) k.list_is;
    })
