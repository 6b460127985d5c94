-- Judge's text has at most 902 bytes, whatever the input: a buffer of 1,024 holds it. Assumes nothing.
use Prim.Native.Nat.{ℕ, ◌≤◌}
use native.Mathlib.Omega.{arith}
use mathlib.Core.Path.{◌≡◌, refl, ap}
use mathlib.Core.Bool.{Bool, true, false, cond}
use mathlib.Core.List.{List}
use mathlib.Core.Option.{Option, none, some}
use borrow.Author.Tests.{eqb-true}
use lib.Dec.{eqb}
use lib.ListN.{length, take, length-append}
use lib.Seq.{take_all}
use Rattle.model.specs.History.{History, size, replay}
use Rattle.model.specs.Window.{zeros}
use Rattle.model.specs.Log.{load_number, history_of}
use Rattle.model.specs.Search.{first_legal}
use Rattle.model.proofs.Loaded.{loaded, history_size}
use Rattle.model.proofs.First.{first_some, legal_length}
use Rattle.report.specs.Text.{letters, number_text, refused_text, order_text, table_text, found_text}
use Rattle.report.specs.Judge.{written, decided_text, judge_text}
use Rattle.report.proofs.Texts.{number_length, order_length, table_length}

found_length : (o : List ℕ) (w : ℕ → Bool) (table : List ℕ) → length o ≤ 32 → length (found_text o w table) ≤ 902
unfolding found_text
found_length o w table few =
    let e : length (order_text (take 32 o)) ≡ length (order_text o) = ap (λ l. length (order_text l)) (take_all 32 o few) in
    omega (arith, length-append (order_text o) (table_text w table 32), order_length o 32, table_length w table 32)

decided_length : (h : History) (answer : Option (List ℕ)) → first_legal h ≡ answer → size h ≤ 32 → length (decided_text h answer) ≤ 902
unfolding decided_text
decided_length h none e few = omega arith
decided_length h (some o) e few = found_length o (written h) (replay h zeros o) (omega (arith, legal_length h o (first_some h o e).0))

pub judge_length : (b : List ℕ) → length (judge_text b) ≤ 902
unfolding judge_text refused_text
judge_length b = go (eqb (load_number b) 0) refl
  where
    h : History
    h = history_of b

    go : (t : Bool) → eqb (load_number b) 0 ≡ t → length (cond t (decided_text h (first_legal h)) (refused_text (load_number b))) ≤ 902
    go true e =
        let ok = loaded b (eqb-true (load_number b) 0 e) in
        decided_length h (first_legal h) refl (omega (arith, ok.few, history_size b))
    go false e =
        omega (
          arith,
          length-append (number_text (letters "refused ") (load_number b)) (letters "\n"),
          number_length (letters "refused ") (load_number b),
        )
