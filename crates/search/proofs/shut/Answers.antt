use Rattle.search.proofs.Steps.{shut_is, off_is}
use Rattle.search.proofs.shut.Goals as goal

pub returns : goal.returns
returns c =
    shut_is c.args.rows.now _ _ _ (off_is _ _ _ _ c.requires.2 c.closed_off.ensures) (off_is _ _ _ _ c.requires.2 c.closed_off-2.ensures)
