-- What a case that isn't fresh holds, and the bytes of a log in the room of a case. Assumes nothing.
use Prim.Native.Nat.{ℕ, ◌≤◌}
use native.Mathlib.Omega.{arith}
use mathlib.Core.Path.{◌≡◌, ap, ap₂, ◌∙◌}
use mathlib.Core.Bool.{false}
use mathlib.Core.List.{List, ◌++◌}
use lib.Dec.{T}
use lib.ListN.{length, drop, replicate}
use Rattle.model.specs.Log.{load_number}
use Rattle.model.specs.Times.{times, timed_number}
use Rattle.model.specs.Window.{Window}
use Rattle.model.proofs.Loaded.{loaded}
use Rattle.answers.specs.declared.Stage.TheVariants.{Loaded as SaysLoaded}
use Rattle.checker.specs.declared.Case.{Case}
use Rattle.logs.specs.declared.times.TimedLog.{TimedLog}
use Rattle.checker.specs.Holding.{HeldBy}
use Rattle.checker.specs.Cases.{contents, stage_of, in_room, loaded_case}
use Rattle.answers.specs.Stages.{holds_window, claims_order, is_fresh}
use Rattle.answers.specs.declared.Clock.{Clock}
use Rattle.answers.specs.Clocks.{times_in, clock_of}
use Rattle.answers.proofs.Rooms.{with_zeros}
use Rattle.answers.proofs.Holding.{counted_loads, log_loads, window_loads}

-- ---- a case that isn't fresh holds a log that Load takes

pub case_holds : (c : Case) → is_fresh (stage_of c) ≡ false → T (holds_window c.bytes c.length c.clock)
unfolding stage_of
case_holds c e = counted_loads c.stage (holds_window c.bytes c.length c.clock) (claims_order c.bytes c.length c.order) e

pub case_loads : (c : Case) → is_fresh (stage_of c) ≡ false → load_number (contents c) ≡ 0
case_loads c e = log_loads c.bytes c.length c.clock (case_holds c e)

-- .. with the times that it holds
pub case_timed : (c : Case) → is_fresh (stage_of c) ≡ false → timed_number (contents c) (times_in c.clock) ≡ 0
case_timed c e = window_loads c.bytes c.length c.clock (case_holds c e)

-- so what is taken out of it
pub held_by : (c : Case) (w : TimedLog) → is_fresh (stage_of c) ≡ false → w.log.bytes.now ≡ contents c → times w.clock.begin.now w.clock.end.now w.clock.drift ≡ times_in c.clock → HeldBy c w
held_by c w e log clock = record {
  counts = e;
  log_is = log;
  times_are = clock;
}

-- ---- the room

-- a log that Load takes has at most 4 + 4 * 32 + 4 * 256 bytes
pub log_room : (b : List ℕ) → load_number b ≡ 0 → length b ≤ 1156
log_room b e = let l = loaded b e in omega (arith, l.few, l.many, l.long)

pub in_room_lem : (b r : List ℕ) → length b ≤ 1156 → r ≡ b → r ++ drop (length b) (replicate 1156 0) ≡ in_room b
unfolding in_room
in_room_lem b r l e = with_zeros 1156 b r l e

pub loaded_is : (w : Window) (bytes values : List ℕ) (clock : Clock) → bytes ≡ in_room w.bytes → values ≡ w.starting → clock ≡ clock_of w.clock
    → record { stage = SaysLoaded; bytes = bytes; length = length w.bytes; starting = values; clock = clock; order = replicate 32 0 } ≡ loaded_case w
unfolding loaded_case
loaded_is w bytes values clock e s k = ap₂ (λ xs vs. held xs vs clock) e s ∙ ap (held (in_room w.bytes) w.starting) k
  where
    held : List ℕ → List ℕ → Clock → Case
    held xs vs at = record { stage = SaysLoaded; bytes = xs; length = length w.bytes; starting = vs; clock = at; order = replicate 32 0 }
