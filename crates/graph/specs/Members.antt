-- The members of a set of nodes, lowest first: what a loop through the bits of a word goes through. Assumes nothing.
use Rattle.std.specs.Prelude.{ℕ, List}
use Rattle.model.specs.Lists.{keep, up_to, bit}

unfoldable pub members : ℕ → List ℕ
members w = keep (bit w) (up_to 32)
