-- Row words with the edges by the office clock, row by row as the code adds them. A law in proofs/ says that they are the model's. Assumes nothing.
use Rattle.std.specs.Prelude.{ℕ, ◌+◌, List, ltb, length, get_or}
use Rattle.model.specs.Lists.{fold, up_to, word_of}
use Rattle.model.specs.Times.{Times}
use Rattle.polygraph.specs.Tables.{put_at}

-- the transactions that began after a moment
unfoldable pub begun_after : List ℕ → ℕ → ℕ
begun_after begins moment = word_of 32 (λ v. ltb moment (get_or begins v 0))

-- and after the end of u, with the drift added
abbrev pub after_end : Times → ℕ → ℕ
after_end ts u = begun_after ts.begins (get_or ts.ends u 0 + ts.drift)

unfoldable pub clock_step : Times → List ℕ → ℕ → List ℕ
clock_step ts w u = put_at w u (after_end ts u)

-- for each u that has an end
unfoldable pub with_clock : Times → List ℕ → List ℕ
with_clock ts w = fold (clock_step ts) w (up_to (length ts.ends))
