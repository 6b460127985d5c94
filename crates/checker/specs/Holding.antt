-- What `held::window` gives of a case that isn't fresh: its log and times. Assumes nothing.
use Rattle.std.specs.Prelude.{◌≡◌, false}
use Rattle.model.specs.Times.{times}
use Rattle.logs.specs.declared.times.TimedLog.{TimedLog}
use Rattle.answers.specs.Clocks.{times_in}
use Rattle.answers.specs.Stages.{is_fresh}
use Rattle.checker.specs.declared.Case.{Case}
use Rattle.checker.specs.Cases.{contents, stage_of}

pub record HeldBy (c : Case) (w : TimedLog) : Type 0 where
  pub counts : is_fresh (stage_of c) ≡ false
  pub log_is : w.log.bytes.now ≡ contents c
  pub times_are : times w.clock.begin.now w.clock.end.now w.clock.drift ≡ times_in c.clock
