-- The numbers of settings: document 01, 'The encodings'. Assumes nothing.
use Rattle.std.specs.Prelude.{ℕ, ◌≡◌, ◌<◌, Bool, cond, Result, Ok, Err}
use Rattle.refusals.specs.declared.Refusal.{Refusal}
use Rattle.refusals.specs.declared.Refusal.TheVariants.{NoSuchSetting}
use Rattle.setting.specs.declared.Encoding.{Encoding}
use Rattle.setting.specs.declared.Encoding.TheVariants.{Plain, Joined, Chained}

abbrev pub encoding_number : Encoding → ℕ
encoding_number Plain = 0
encoding_number Joined = 1
encoding_number Chained = 2

-- of a setting that is pruned or not
abbrev pub pruning_number : Bool → ℕ
pruning_number pruned = cond pruned 1 0

-- the encoding with a number, or the refusal of a number that none has
abbrev pub IsEncoding : ℕ → Result Encoding Refusal → Type 0
IsEncoding n (Ok e) = encoding_number e ≡ n
IsEncoding n (Err r) = (2 < n) × (r ≡ NoSuchSetting)
