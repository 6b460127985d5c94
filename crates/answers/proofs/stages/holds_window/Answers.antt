use mathlib.Core.Path.{◌∙◌}
use Rattle.answers.proofs.Answering.{ok_number}
use Rattle.answers.proofs.Holding.{window_none, window_far, window_some, over, under}
use Rattle.answers.proofs.stages.holds_window.Goals as goal

pub returns-then-length-bytes : goal.returns-then-length-bytes
returns-then-length-bytes c = window_none _ _ c.args.clock (over _ _ c.if-length-bytes.true)

pub returns-then-count-gt32 : goal.returns-then-count-gt32
returns-then-count-gt32 c = window_far _ _ c.args.clock (under _ _ c.if-length-bytes.false) (over _ _ c.if-count-gt32.true)

pub returns : goal.returns
returns c =
    c.is_ok.ensures.value ∙ ok_number c.load_timed.result
    ∙ window_some _ _ c.args.clock _ (under _ _ c.if-length-bytes.false) (under _ _ c.if-count-gt32.false) c.load_timed.ensures.number
