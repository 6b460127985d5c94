use Rattle.checker.proofs.Loads.{refusal_none, load_refused, load_taken}
use mathlib.Core.Path.{sym}
use Rattle.checker.proofs.Case.load.Goals as goal

pub returns-in-Err : goal.returns-in-Err
returns-in-Err c =
    record {
      result = load_refused c.args.self _ c.in-Err.refusal c.in-Err.ensures;
      number = c.in-Err.ensures;
    }

pub loaded-loaded-requires : goal.loaded-loaded-requires
loaded-loaded-requires c = refusal_none c.args.self _ (sym c.in-Ok.ensures)

pub returns-in-Ok : goal.returns-in-Ok
returns-in-Ok c =
    record {
      result = load_taken c.args.self _ _ (sym c.in-Ok.ensures) c.loaded-loaded.ensures;
      number = c.in-Ok.ensures;
    }
