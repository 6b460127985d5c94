-- Seconds as bytes read back as they are; so the strict functions give, of lists of seconds as bytes, what the window with these lists gives.
--     seconds_back     what is read of seconds as bytes.        by_window       whatever lengths they have
--     checked, encoded, decided, billed        the same of each function
-- Assumes nothing.
use mathlib.Core.Path.{◌≡◌, refl, sym, ap, ap₂, subst, ◌∙◌}
use mathlib.Core.Logic.{inl, inr, ⊎_elim, ◌≢◌}
use Prim.Native.Nat.{ℕ, zero, suc, ◌+◌, ◌*◌, ◌/◌, ◌%◌, ◌<◌}
use native.Mathlib.Nat.{not-suc-le-zero}
use native.Mathlib.Omega.{arith}
use mathlib.Core.Bool.{not, cond}
use mathlib.Core.List.{List, [], ◌∷◌, map}
use lib.Dec.{T, eqb}
use lib.ListN.{length}
use lib.Seq.{ext_get_or}
use borrow.Author.Tests.{ne_eqb}
use Rattle.model.specs.Lists.{up_to}
use Rattle.model.specs.Log.{transactions_in, load_number, byte_at}
use Rattle.model.specs.Times.{times}
use Rattle.model.specs.Refusals.{Matching}
use Rattle.model.specs.Window.{Window, window, window_number, zeros}
use Rattle.model.proofs.Basics.{decide, true_eq, false_eq, same?}
use Rattle.model.proofs.Windows.{number_of_log, lists_iff}
use Rattle.model.proofs.Words.{length_up_to, get_or_up_to}
use Rattle.codes.specs.Images.{word_at, seconds_in, second_bytes, values_in}
use Rattle.codes.specs.Codes.{where_loaded, four_each, where_timed, strict_window, check_window, window_code, window_order, window_table, encode_window, encode_window_after, window_bills_code, window_bills_after}
use Rattle.codes.specs.Codes.{check_strict_code, decide_strict_code, decide_strict_order, decide_strict_table, encode_strict_code, encode_strict_after, bills_code, bills_after}
use Rattle.codes.proofs.Starting.{start_taken, values_32}
use Rattle.codes.proofs.Timing.{four_in, where_matched, where_mismatched, where_unasked}

bytes_long : (ss : List ℕ) → length (second_bytes ss) ≡ 4 * length ss
unfolding second_bytes
bytes_long [] = omega arith
bytes_long (s ∷ ss) = omega (arith, bytes_long ss)

-- the four bytes of one, and those behind them
word_here : (s : ℕ) (bs : List ℕ) → word_at (s % 256 ∷ s / 256 % 256 ∷ s / 65536 % 256 ∷ s / 16777216 ∷ bs) 0 ≡ s
unfolding word_at
word_here s bs = omega arith

word_behind : (a b c d : ℕ) (bs : List ℕ) (i : ℕ) → word_at (a ∷ b ∷ c ∷ d ∷ bs) (4 * suc i) ≡ word_at bs (4 * i)
unfolding word_at
word_behind a b c d bs i =
    let m = 4 * suc i in
    let n = 4 * i in
    let zeroth = at m n (omega arith) in
    let first = at (m + 1) (n + 1) (omega arith) in
    let second = at (m + 2) (n + 2) (omega arith) in
    let third = at (m + 3) (n + 3) (omega arith) in
    omega (arith, zeroth, first, second, third)
  where
    at : (p q : ℕ) → p ≡ suc (suc (suc (suc q))) → byte_at (a ∷ b ∷ c ∷ d ∷ bs) p ≡ byte_at bs q
    at p q shift = ap (byte_at (a ∷ b ∷ c ∷ d ∷ bs)) shift

words : (ss : List ℕ) (i : ℕ) → i < length ss → word_at (second_bytes ss) (4 * i) ≡ byte_at ss i
unfolding second_bytes
words [] i l = absurd (not-suc-le-zero l)
words (s ∷ ss) zero l = word_here s (second_bytes ss)
words (s ∷ ss) (suc i) l = word_behind (s % 256) (s / 256 % 256) (s / 65536 % 256) (s / 16777216) (second_bytes ss) i ∙ words ss i (omega arith)

pub seconds_back : (ss : List ℕ) → seconds_in (second_bytes ss) ≡ ss
unfolding seconds_in
seconds_back ss =
    let n = length (second_bytes ss) / 4 in
    let f : ℕ → ℕ = λ i. word_at (second_bytes ss) (4 * i) in
    let long : n ≡ length ss = omega (arith, bytes_long ss) in
    ext_get_or 0 (map f (up_to n)) ss (length_up_to f n ∙ long)
    (λ j l. get_or_up_to f 0 n j (omega (arith, length_up_to f n)) ∙ words ss j (omega (arith, length_up_to f n, long)))

module _ (log starting begins ends : List ℕ) (drift : ℕ) (long : length starting ≡ 32) where
  abbrev w : Window
  w = window log starting (times begins ends drift)

  pub window_back : strict_window log starting (second_bytes begins) (second_bytes ends) drift ≡ w
  window_back = ap₂ (λ b e. window log starting (times b e drift)) (seconds_back begins) (seconds_back ends)

  -- lists that match have four bytes for each
  fits : Matching (transactions_in log) (times begins ends drift) → T (four_each (transactions_in log) (second_bytes begins) (second_bytes ends))
  fits m =
      four_in (transactions_in log) (second_bytes begins) (second_bytes ends)
      (⊎_elim (λ l. inl (omega (arith, bytes_long begins, l.0), omega (arith, bytes_long ends, l.1)))
      (λ l. inr (omega (arith, bytes_long begins, l.0), omega (arith, bytes_long ends, l.1))) m)

  pub by_window : {X : Type 0} (x u y : X) → (window_number w ≡ 37 → u ≡ y) → where_timed log (second_bytes begins) (second_bytes ends) (where_loaded w x u) y ≡ where_loaded w x u
  by_window x u y same =
      let fit = four_each (transactions_in log) (second_bytes begins) (second_bytes ends) in
      ⊎_elim
      (λ (z : load_number log ≡ 0).
      ⊎_elim (λ (t : T fit). where_matched log (second_bytes begins) (second_bytes ends) (where_loaded w x u) y (true_eq fit t))
      (λ (f : T (not fit)).
      let is : window_number w ≡ 37 =
      number_of_log w long ∙ (lists_iff log (times begins ends drift)).1 (record { taken = z; neither = λ m. subst T (false_eq fit f) (fits m) }) in
      where_mismatched log (second_bytes begins) (second_bytes ends) (where_loaded w x u) y z (false_eq fit f)
      ∙ sym (same is)
      ∙ sym (ap (λ b. cond b x u) (ne_eqb (window_number w) 0 (λ q. omega (arith, q, is)))))
      (decide fit))
      (λ (f : load_number log ≢ 0). where_unasked log (second_bytes begins) (second_bytes ends) (where_loaded w x u) y f)
      (same? (load_number log) 0)

module _ (log begins ends : List ℕ) (drift : ℕ) where
  abbrev v : Window
  v = window log zeros (times begins ends drift)

  abbrev back : strict_window log zeros (second_bytes begins) (second_bytes ends) drift ≡ v
  back = window_back log zeros begins ends drift refl

  pub checked : (order : List ℕ) → check_strict_code log (second_bytes begins) (second_bytes ends) drift order ≡ check_window v order
  unfolding check_strict_code check_window
  checked order =
      ap (λ (x : Window). where_timed log (second_bytes begins) (second_bytes ends) (check_window x order) 37) back
      ∙ by_window log zeros begins ends drift refl _ (window_number v) 37 (λ e. e)

  module _ (e pruning : ℕ) where
    pub encoded : (room : ℕ) → encode_strict_code log (second_bytes begins) (second_bytes ends) drift e pruning room ≡ encode_window v e pruning room
    unfolding encode_strict_code encode_window
    encoded room =
        ap (λ (x : Window). where_timed log (second_bytes begins) (second_bytes ends) (encode_window x e pruning room) 37) back
        ∙ by_window log zeros begins ends drift refl _ (window_number v) 37 (λ e. e)

    pub encoded_list_lem : (out : List ℕ) → encode_strict_after log (second_bytes begins) (second_bytes ends) drift e pruning out ≡ encode_window_after v e pruning out
    unfolding encode_strict_after encode_window_after
    encoded_list_lem out =
        ap (λ (x : Window). where_timed log (second_bytes begins) (second_bytes ends) (encode_window_after x e pruning out) out) back
        ∙ by_window log zeros begins ends drift refl _ out out (λ e. refl)

module _ (log start begins ends : List ℕ) (drift : ℕ) (is64 : length start ≡ 64) where
  abbrev u : Window
  u = window log (values_in start) (times begins ends drift)

  abbrev back_from : strict_window log (values_in start) (second_bytes begins) (second_bytes ends) drift ≡ u
  back_from = window_back log (values_in start) begins ends drift (values_32 start)

  -- with a start, whatever is given of the window
  from_start : {X : Type 0} (f : Window → X) (x v y z : X) → f u ≡ where_loaded u x v → (window_number u ≡ 37 → v ≡ y)
      → cond (eqb (length start) 64) (where_timed log (second_bytes begins) (second_bytes ends) (f (strict_window log (values_in start) (second_bytes begins) (second_bytes ends) drift)) y) z ≡ f u
  from_start f x v y z is same =
      sym
      (start_taken _ z start is64 _
      (sym
      (ap (λ (w : Window). where_timed log (second_bytes begins) (second_bytes ends) (f w) y) back_from
      ∙ ap (λ a. where_timed log (second_bytes begins) (second_bytes ends) a y) is
      ∙ by_window log (values_in start) begins ends drift (values_32 start) x v y same
      ∙ sym is)))

  module _ (e pruning : ℕ) where
    pub decided : (order table : ℕ) → decide_strict_code log start (second_bytes begins) (second_bytes ends) drift e pruning order table ≡ window_code u e pruning order table
    unfolding decide_strict_code window_code
    decided order table = from_start (λ w. window_code w e pruning order table) _ (window_number u) 37 36 refl (λ e. e)

    pub decided_order : (order : List ℕ) (table : ℕ) → decide_strict_order log start (second_bytes begins) (second_bytes ends) drift e pruning order table ≡ window_order u e pruning order table
    unfolding decide_strict_order window_order
    decided_order order table = from_start (λ w. window_order w e pruning order table) _ order order order refl (λ e. refl)

    pub decided_table : (order : ℕ) (table : List ℕ) → decide_strict_table log start (second_bytes begins) (second_bytes ends) drift e pruning order table ≡ window_table u e pruning order table
    unfolding decide_strict_table window_table
    decided_table order table = from_start (λ w. window_table w e pruning order table) _ table table table refl (λ e. refl)

  pub billed : (room : ℕ) → bills_code log start (second_bytes begins) (second_bytes ends) drift room ≡ window_bills_code u room
  unfolding bills_code window_bills_code
  billed room = from_start (λ w. window_bills_code w room) _ (window_number u) 37 36 refl (λ e. e)

  pub billed_list : (out : List ℕ) → bills_after log start (second_bytes begins) (second_bytes ends) drift out ≡ window_bills_after u out
  unfolding bills_after window_bills_after
  billed_list out = from_start (λ w. window_bills_after w out) _ out out out refl (λ e. refl)
