-- The times of a window as a case keeps them. Assumes nothing.
use Rattle.std.specs.Prelude.{ℕ, ◌-◌, List, ◌++◌, length, take, replicate}
use Rattle.model.specs.Times.{Times, times}
use Rattle.answers.specs.declared.Clock.{Clock}

-- the times in it: as many entries as it says, of those that it has room for
abbrev pub times_in : Clock → Times
times_in k = times (take k.count k.begin) (take k.count k.end) k.drift

-- a list in its room, with zeros behind it
unfoldable pub in_clock : List ℕ → List ℕ
in_clock seconds = seconds ++ replicate (32 - length seconds) 0

unfoldable pub clock_of : Times → Clock
clock_of ts = record { count = length ts.begins; begin = in_clock ts.begins; end = in_clock ts.ends; drift = ts.drift }

-- none, and drift 0
unfoldable pub no_clock : Clock
no_clock = record { count = 0; begin = replicate 32 0; end = replicate 32 0; drift = 0 }
