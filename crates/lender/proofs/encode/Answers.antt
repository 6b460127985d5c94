-- The constraints left fit the list and the words, and go out.
use Rattle.std.proofs.Common.{◌≡◌, ℕ, ◌≤◌, List, length, sym, ap, subst, ◌∙◌, arith}
use Rattle.model.specs.declared.Constraint.{Constraint}
use Rattle.checker.specs.declared.Encoding.{Encoding}
use Rattle.checker.specs.Encodings.{encode_answer, encode_rows}
use Rattle.lender.specs.Packing.{packed}
use Rattle.lender.proofs.Places.{places_long}
use Rattle.lender.proofs.Within.{left_within}
use Rattle.lender.proofs.encode.Goals as goal

pub pack-requires : goal.pack-requires
pack-requires c =
    let a = c.args in
    let e = c.encode-e in
    let is : e.result ≡ encode_answer a.c a.encoding a.pruning 4096 (length a.rows.now) = e.ensures.result ∙ ap (λ (j : ℕ). encode_answer a.c a.encoding a.pruning j (length a.rows.now)) places_long in
    let low : e.result.left ≤ 4096 = subst (λ (x : Encoding). x.left ≤ 4096) (sym is) (left_within a.c a.encoding a.pruning 4096 (length a.rows.now)) in
    (omega (arith, low, e.auto.list, places_long), omega (arith, low))

pub returns : goal.returns
returns c =
    let a = c.args in
    let e = c.encode-e in (
      e.ensures.result ∙ ap (λ (j : ℕ). encode_answer a.c a.encoding a.pruning j (length a.rows.now)) places_long,
      e.ensures.rows ∙ ap (λ (j : ℕ). encode_rows a.c a.encoding a.pruning j a.rows.now) places_long,
      c.pack.ensures.1 ∙ ap (λ (l : List Constraint). packed e.result.left l a.out.now) e.ensures.list,
    )
