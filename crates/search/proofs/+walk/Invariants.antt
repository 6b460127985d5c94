-- The measure of `walk`: how many pairs stand in no order. Assumes nothing.
use Rattle.search.specs.Steps.{open_pairs}
use Rattle.search.proofs.+walk.Given as goal

abbrev pub decreases-walk : goal.decreases-walk
decreases-walk l = open_pairs l.rows
