-- From which nodes edges lead away. Assumes nothing.
use Rattle.std.specs.Prelude.{ℕ, ◌<◌, T, List}
use Rattle.model.specs.Polygraph.{has}

-- edges leave nodes below n alone
abbrev pub LeavesBelow : List ℕ → ℕ → Type 0
LeavesBelow g n = (u v : ℕ) → T (has g u v) → u < n
