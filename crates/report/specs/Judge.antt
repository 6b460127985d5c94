-- What the program Judge prints for the bytes of its input: document 01, 'The program Judge'. Assumes nothing.
use Rattle.std.specs.Prelude.{ℕ, Bool, cond, List, eqb}
use Rattle.std.proofs.Math.Option.{Option, none, some}
use Rattle.model.specs.Lists.{any, up_to}
use Rattle.model.specs.History.{History, size, writes, replay}
use Rattle.model.specs.Log.{load_number, history_of}
use Rattle.model.specs.Window.{zeros}
use Rattle.model.specs.Search.{first_legal}
use Rattle.report.specs.Text.{refused_text, no_order_text, found_text}

-- some transaction writes the key
unfoldable pub written : History → ℕ → Bool
written h k = any (λ t. writes h t k) (up_to (size h))

-- 'no order', or 'order' and the transaction numbers, then a line for each key written with the value that the order leaves; Judge starts from 32 zeros
unfoldable pub decided_text : History → Option (List ℕ) → List ℕ
decided_text h none = no_order_text
decided_text h (some o) = found_text o (written h) (replay h zeros o)

-- 'refused' and Load's number, as Decide, in Judge's setting and on its list, refuses no log that Load takes; else what the first legal order gives
unfoldable pub judge_text : List ℕ → List ℕ
judge_text b = cond (eqb (load_number b) 0) (decided_text (history_of b) (first_legal (history_of b))) (refused_text (load_number b))
