-- What Judge finds once Load took the log. Assumes nothing.
use Rattle.std.specs.Prelude.{◌≡◌, List, ℕ}
use Rattle.std.proofs.Math.Option.{some}
use Rattle.model.specs.Log.{load_number, history_of}
use Rattle.model.specs.Window.{from_zeros}
use Rattle.model.specs.Search.{first_legal}
use Rattle.checker.specs.declared.Case.{Case}
use Rattle.checker.specs.Cases.{loaded_case}
use Rattle.checker.specs.Decisions.{decided_case}

-- a log that Load takes has an order, and the case is decided with the first
pub record OrderedBy (log : List ℕ) (c : Case) : Type 0 where
  pub loads : load_number log ≡ 0
  pub order : List ℕ
  pub first : first_legal (history_of log) ≡ some order
  pub case_is : c ≡ decided_case (loaded_case (from_zeros log)) (some order)
