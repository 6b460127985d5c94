-- The first places of the list are lent to Encode, and then to `pack`.
use Rattle.std.proofs.Common.{◌∙◌}
use Rattle.std.proofs.lemmas.List.{take-replicate}
use Rattle.lists.proofs.Parts.{first_again, lent_long, encoded}
use Rattle.lists.proofs.encode.Goals as goal

pub returns : goal.returns
returns c =
    let a = c.args in
    let e = c.encode-e in
    encoded a.c a.encoding a.pruning a.rows.now a.out.now a.places a.mark _ _ e.new.list e.result e.new.rows c.pack.new.out (take-replicate a.places 4096 a.mark c.requires.0) e.ensures.result e.ensures.rows e.ensures.list
    (first_again a.places e.new.list _ (e.auto.list ∙ lent_long a.places 4096 a.mark c.requires.0)) c.pack.ensures.1
