-- One constraint more that stays, or the one that is dropped.
use native.Mathlib.Omega.{arith}
use Rattle.pruning.proofs.Turns.{upto_next, upto_hit, upto_stop}
use Rattle.pruning.proofs.skim.Goals as goal

pub returns-in-Some : goal.returns-in-Some
returns-in-Some c = upto_hit _ _ _ _ _ _ _ _ c.loop-i.invariant c.requires.2 (omega arith) _ c.in-Some.ensures.is

pub loop-i-preserved : goal.loop-i-preserved
loop-i-preserved c = upto_next _ _ _ _ _ _ _ _ c.loop-i.invariant c.requires.2 (omega arith) c.in_default.ensures.is

pub returns : goal.returns
returns c = upto_stop _ _ _ _ _ _ _ _ c.loop-i.invariant (omega arith)
