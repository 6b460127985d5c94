use Rattle.model.specs.Lent.{written_table}
use lib.ListN.{length, drop}
use lib.Seq.{length-take-le}
use mathlib.Core.List.{◌++◌}
use mathlib.Core.Path.{◌≡◌, sym, ap, ◌∙◌}
use borrow.Author.Rules.{rules}
use Rattle.answers.proofs.results.write_table.Goals as goal

pub copy_from_slice-requires : goal.copy_from_slice-requires
copy_from_slice-requires c =
    let long : length c.table-values.result ≡ 32 = search rules in
    length-take-le 32 c.args.out.now c.requires.1 ∙ sym long

pub returns : goal.returns
unfolding written_table
returns c = ap (λ t. t ++ drop 32 c.args.out.now) (c.copy_from_slice.ensures.after ∙ c.table-values.ensures)
