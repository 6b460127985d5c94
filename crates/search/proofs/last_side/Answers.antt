use mathlib.Core.Path.{refl}
use Rattle.search.specs.Steps.{Last}
use Rattle.search.proofs.Steps.{is_false, off_is, shut_other}
use Rattle.search.proofs.last_side.Goals as goal

pub returns : goal.returns
returns c =
    let n = is_false _ _ (off_is _ _ _ _ c.requires.2 c.closed_off.ensures) c.if-closed_off.false in
    Last.side_a n (shut_other c.args.rows.now c.args.k c.requires.3 n) refl refl
