-- Laws of Decide with a start and times as bytes: what it gives and leaves, test by test, and without times. Assumes nothing.
use mathlib.Core.Path.{◌≡◌, ap, ◌∙◌}
use mathlib.Core.Logic.{◌≢◌}
use Prim.Native.Nat.{ℕ}
use mathlib.Core.Bool.{cond}
use mathlib.Core.List.{List, []}
use lib.Dec.{eqb}
use lib.ListN.{length}
use Rattle.model.specs.Times.{times}
use Rattle.model.specs.Window.{Window, window}
use Rattle.codes.specs.Codes.{window_code, window_order, window_table, start_window, decide_from_code, decide_from_order, decide_from_table, lengths_number, strict_window, decide_strict_code, decide_strict_order, decide_strict_table}
use Rattle.codes.specs.Images.{values_in, seconds_in}
use Rattle.codes.proofs.Starting.{start_refused, start_taken, values_32}
use Rattle.codes.proofs.Timing.{where_untimed, unread_code, unread_list, where_read}

module _ (log start begin end : List ℕ) (drift e pruning : ℕ) (order table : List ℕ) where
  -- the code, and the two lists after it
  abbrev pub Strict : ℕ → List ℕ → List ℕ → Type 0
  Strict n order' table' =
      (n ≡ decide_strict_code log start begin end drift e pruning (length order) (length table))
      × ((order' ≡ decide_strict_order log start begin end drift e pruning order (length table))
      × (table' ≡ decide_strict_table log start begin end drift e pruning (length order) table))

  -- the same of a window
  abbrev Of : Window → ℕ → List ℕ → List ℕ → Type 0
  Of v n order' table' =
      (n ≡ window_code v e pruning (length order) (length table))
      × ((order' ≡ window_order v e pruning order (length table)) × (table' ≡ window_table v e pruning (length order) table))

  abbrev w : Window
  w = strict_window log (values_in start) begin end drift

  pub start_short : length start ≢ 64 → Strict 36 order table
  unfolding decide_strict_code decide_strict_order decide_strict_table
  start_short f = (start_refused _ 36 start f, (start_refused _ order start f, start_refused _ table start f))

  module _ (l : length start ≡ 64) (n : ℕ) (is : n ≡ lengths_number log begin end) where
    pub times_unread : n ≢ 0 → Strict n order table
    unfolding decide_strict_code decide_strict_order decide_strict_table window_code window_order window_table
    times_unread f = (
      start_taken _ 36 start l n (unread_code log begin end n is (values_in start) drift (values_32 start) f _),
      (
        start_taken _ order start l order (unread_list log begin end n is (values_in start) drift (values_32 start) f _ order),
        start_taken _ table start l table (unread_list log begin end n is (values_in start) drift (values_32 start) f _ table),
      ),
    )

    pub times_read : n ≡ 0 → (values begins ends : List ℕ) → values ≡ values_in start → begins ≡ seconds_in begin → ends ≡ seconds_in end
        → (m : ℕ) (order' table' : List ℕ) → Of (window log values (times begins ends drift)) m order' table' → Strict m order' table'
    unfolding decide_strict_code decide_strict_order decide_strict_table
    times_read z values begins ends v b s m order' table' d =
        let same : window log values (times begins ends drift) ≡ w = λ i. window log (v i) (times (b i) (s i) drift) in (
          start_taken _ 36 start l m
              (where_read log begin end n is z _ 37 m (d.0 ∙ ap (λ (x : Window). window_code x e pruning (length order) (length table)) same)),
          (
            start_taken _ order start l order'
                (where_read log begin end n is z _ order order' (d.1.0 ∙ ap (λ (x : Window). window_order x e pruning order (length table)) same)),
            start_taken _ table start l table'
                (where_read log begin end n is z _ table table' (d.1.1 ∙ ap (λ (x : Window). window_table x e pruning (length order) table) same)),
          ),
        )

-- two empty lists, and drift 0
pub untimed : (log start : List ℕ) (e pruning : ℕ) (order table : List ℕ)
    → (decide_strict_code log start [] [] 0 e pruning (length order) (length table) ≡ decide_from_code log start e pruning (length order) (length table))
    × (decide_strict_order log start [] [] 0 e pruning order (length table) ≡ decide_from_order log start e pruning order (length table))
    × (decide_strict_table log start [] [] 0 e pruning (length order) table ≡ decide_from_table log start e pruning (length order) table)
unfolding decide_strict_code decide_strict_order decide_strict_table decide_from_code decide_from_order decide_from_table seconds_in
untimed log start e pruning order table =
    let w = start_window log start in (
      ap (λ x. cond (eqb (length start) 64) x 36) (where_untimed log (window_code w e pruning (length order) (length table)) 37),
      ap (λ x. cond (eqb (length start) 64) x order) (where_untimed log (window_order w e pruning order (length table)) order),
      ap (λ x. cond (eqb (length start) 64) x table) (where_untimed log (window_table w e pruning (length order) table) table),
    )
