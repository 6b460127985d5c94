-- Refusals of a setting and of the places of lent lists: document 01, the two pages of refusals. Assumes nothing.
use Rattle.std.specs.Prelude.{ℕ, cond, ltb}

-- 12 setting out of range: encoding 0 to 2, pruning 0 or 1
unfoldable pub setting_refusal : ℕ → ℕ → ℕ
setting_refusal e pruning = cond (ltb 2 e) 12 (cond (ltb 1 pruning) 12 0)

-- 25 a lent list too short: fewer places than constraints before pruning, then 32 row words
unfoldable pub places_refusal : ℕ → ℕ → ℕ → ℕ
places_refusal count places words = cond (ltb places count) 25 (cond (ltb words 32) 25 0)
