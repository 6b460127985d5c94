-- Laws of times as bytes: what stands where they have the lengths that are asked of them, and where they have not.
--     where_matched, where_mismatched      by their lengths, beside a log that is taken.        where_untimed   without any
--     lengths_read, lengths_same   of the number for which they are not read: where it is 0 they are few, and as many as are asked for; both have as many
--     unread_code, unread_list, where_read     what stands where it is not 0, and where it is
--     thirty_seven         where exactly 37 is given
-- Assumes nothing.
use mathlib.Core.Path.{◌≡◌, refl, sym, ap, ap₂, subst, ◌∙◌}
use mathlib.Core.Logic.{◌⊎◌, inl, inr, ⊎_elim, ◌↔◌, ◌≢◌}
use Prim.Native.Nat.{ℕ, ◌*◌, ◌/◌, ◌≤◌}
use native.Mathlib.Omega.{arith}
use mathlib.Core.Bool.{Bool, true, false, not, cond, ◌||◌}
use mathlib.Core.List.{List, []}
use lib.Dec.{T, eqb, eqb→eq}
use lib.ListN.{length}
use borrow.Author.Tests.{eq-eqb, ne_eqb}
use Rattle.model.specs.Lists.{implies}
use Rattle.model.specs.Log.{transactions_in, load_number, or_else}
use Rattle.model.specs.Times.{times}
use Rattle.model.specs.Refusals.{Matching}
use Rattle.model.specs.Window.{Window, window_number}
use Rattle.model.proofs.Basics.{decide, true_eq, false_eq, and_l, and_r, and_in, or_l, or_r, or_out, same?, eq-eqb as of_eq}
use Rattle.model.proofs.Loaded.{loaded, or_else_none, or_else_some}
use Rattle.model.proofs.Numbers.{numbers_listed}
use Rattle.model.proofs.Windows.{number_by_log, number_of_log, lists_iff}
use Rattle.model.proofs.Words.{length_up_to}
use Rattle.codes.specs.Codes.{where_loaded, bytes_each, four_each, where_timed, lengths_number, strict_window}
use Rattle.codes.specs.Images.{seconds_in}

-- both lists have so many bytes
bytes_out : (n : ℕ) (begin end : List ℕ) → T (bytes_each n begin end) → (length begin ≡ n) × (length end ≡ n)
bytes_out n begin end t = (
  eqb→eq (length begin) n (and_l (eqb (length begin) n) (eqb (length end) n) t),
  eqb→eq (length end) n (and_r (eqb (length begin) n) (eqb (length end) n) t),
)

pub four_out : (n : ℕ) (begin end : List ℕ) → T (four_each n begin end)
    → ((length begin ≡ 0) × (length end ≡ 0)) ⊎ ((length begin ≡ 4 * n) × (length end ≡ 4 * n))
four_out n begin end t =
    ⊎_elim (λ x. inl (bytes_out 0 begin end x)) (λ x. inr (bytes_out (4 * n) begin end x)) (or_out (bytes_each 0 begin end) (bytes_each (4 * n) begin end) t)

pub four_in : (n : ℕ) (begin end : List ℕ) → ((length begin ≡ 0) × (length end ≡ 0)) ⊎ ((length begin ≡ 4 * n) × (length end ≡ 4 * n))
    → T (four_each n begin end)
four_in n begin end fits =
    ⊎_elim (λ l. or_l (bytes_each 0 begin end) (bytes_each (4 * n) begin end) (both 0 l)) (λ l. or_r (bytes_each 0 begin end) (bytes_each (4 * n) begin end) (both (4 * n) l)) fits
  where
    both : (m : ℕ) → (length begin ≡ m) × (length end ≡ m) → T (bytes_each m begin end)
    both m l = and_in (eqb (length begin) m) (eqb (length end) m) (of_eq l.0) (of_eq l.1)

-- then there are as many seconds
seconds_long : (bytes : List ℕ) → length (seconds_in bytes) ≡ length bytes / 4
unfolding seconds_in
seconds_long bytes = length_up_to _ (length bytes / 4)

seconds_match : (n : ℕ) (begin end : List ℕ) (drift : ℕ) → T (four_each n begin end) → Matching n (times (seconds_in begin) (seconds_in end) drift)
seconds_match n begin end drift t =
    ⊎_elim
    (λ l. inl (omega (arith, l.0, seconds_long begin), omega (arith, l.1, seconds_long end)))
    (λ l. inr (omega (arith, l.0, seconds_long begin), omega (arith, l.1, seconds_long end)))
    (four_out n begin end t)

-- ---- what stands, by the lengths

module _ (log begin end : List ℕ) where
  abbrev fit : Bool
  fit = four_each (transactions_in log) begin end

  module _ {X : Type 0} (x y : X) where
    pub where_matched : fit ≡ true → where_timed log begin end x y ≡ x
    where_matched f = ap (λ b. cond (implies (eqb (load_number log) 0) b) x y) f ∙ go (eqb (load_number log) 0)
      where
        go : (b : Bool) → cond (implies b true) x y ≡ x
        go true = refl
        go false = refl

    pub where_mismatched : load_number log ≡ 0 → fit ≡ false → where_timed log begin end x y ≡ y
    where_mismatched z f = ap₂ (λ a b. cond (implies a b) x y) (eq-eqb (load_number log) 0 z) f

    pub where_unasked : load_number log ≢ 0 → where_timed log begin end x y ≡ x
    where_unasked f = ap (λ b. cond (implies b fit) x y) (ne_eqb (load_number log) 0 f)

pub where_untimed : (log : List ℕ) {X : Type 0} (x y : X) → where_timed log [] [] x y ≡ x
where_untimed log x y = where_matched log [] [] x y refl

-- ---- the number for which they are not read

module _ (log begin end : List ℕ) (n : ℕ) (is : n ≡ lengths_number log begin end) where
  abbrev none : Bool
  none = bytes_each 0 begin end

  abbrev four : Bool
  four = bytes_each (4 * transactions_in log) begin end

  -- of lists that are not both empty
  told : T (not none) → n ≡ or_else (load_number log) (cond four 0 37)
  unfolding lengths_number
  told f = is ∙ ap (λ b. cond b 0 (or_else (load_number log) (cond four 0 37))) (false_eq none f)

  -- both empty; or a log that is refused, with its number; or one that is taken, and lists that have their bytes, or 37
  abbrev Cases : Type 0
  Cases =
      ((n ≡ 0) × T none)
      ⊎ (((load_number log ≢ 0) × (n ≡ load_number log))
      ⊎ (((load_number log ≡ 0) × ((n ≡ 0) × T four))
      ⊎ ((load_number log ≡ 0) × ((n ≡ 37) × (fit log begin end ≡ false)))))

  cases : Cases
  unfolding lengths_number
  cases =
      ⊎_elim
      (λ (t : T none). inl (is ∙ ap (λ b. cond b 0 (or_else (load_number log) (cond four 0 37))) (true_eq none t), t))
      (λ (f : T (not none)).
      inr
      (⊎_elim
      (λ (z : load_number log ≡ 0).
      let by = told f ∙ or_else_none (load_number log) (cond four 0 37) z in
      inr
      (⊎_elim (λ (t : T four). inl (z, (by ∙ ap {B = ℕ} (λ b. cond b 0 37) (true_eq four t), t)))
      (λ (g : T (not four)).
      inr (z, (by ∙ ap {B = ℕ} (λ b. cond b 0 37) (false_eq four g), ap₂ (λ a b. a || b) (false_eq none f) (false_eq four g))))
      (decide four)))
      (λ (g : load_number log ≢ 0). inl (g, told f ∙ or_else_some (load_number log) (cond four 0 37) g))
      (same? (load_number log) 0)))
      (decide none)

  pub lengths_read : n ≡ 0 → (fit log begin end ≡ true) × ((length begin ≤ 128) × (length end ≤ 128))
  lengths_read z =
      ⊎_elim
      (λ x.
      let l = bytes_out 0 begin end x.1 in
      (true_eq (fit log begin end) (or_l none four x.1), (omega (arith, l.0), omega (arith, l.1))))
      (⊎_elim (λ x. absurd (x.0 (sym x.1 ∙ z)))
      (⊎_elim
      (λ x.
      let l = bytes_out (4 * transactions_in log) begin end x.1.1 in
      let few = (loaded log x.0).few in
      (true_eq (fit log begin end) (or_r none four x.1.1), (omega (arith, l.0, few), omega (arith, l.1, few))))
      (λ x. absurd (omega (arith, x.1.0, z)))))
      cases

  -- then they are as long as each other
  pub lengths_same : n ≡ 0 → length begin ≡ length end
  lengths_same z =
      ⊎_elim (λ l. l.0 ∙ sym l.1) (λ l. l.0 ∙ sym l.1) (four_out (transactions_in log) begin end (subst T (sym (lengths_read z).0) tt))

  pub where_read : n ≡ 0 → {X : Type 0} (x y r : X) → r ≡ x → r ≡ where_timed log begin end x y
  where_read z x y r e = e ∙ sym (where_matched log begin end x y (lengths_read z).0)

  module _ (starting : List ℕ) (drift : ℕ) (long : length starting ≡ 32) (not0 : n ≢ 0) where
    abbrev w : Window
    w = strict_window log starting begin end drift

    number_is : load_number log ≢ 0 → window_number w ≡ load_number log
    number_is f = number_of_log w long ∙ number_by_log log w.clock f

    unread : {X : Type 0} (x u y v : X) → (load_number log ≢ 0 → n ≡ load_number log → v ≡ u) → (n ≡ 37 → v ≡ y)
        → v ≡ where_timed log begin end (where_loaded w x u) y
    unread x u y v f g =
        ⊎_elim (λ a. absurd (not0 a.0))
        (⊎_elim
        (λ a.
        f a.0 a.1
        ∙ sym (where_unasked log begin end (where_loaded w x u) y a.0 ∙ ap (λ b. cond b x u) (ne_eqb (window_number w) 0 (λ z. a.0 (sym (number_is a.0) ∙ z)))))
        (⊎_elim (λ a. absurd (not0 a.1.0)) (λ a. g a.1.0 ∙ sym (where_mismatched log begin end (where_loaded w x u) y a.0 a.1.1))))
        cases

    pub unread_code : (x : ℕ) → n ≡ where_timed log begin end (where_loaded w x (window_number w)) 37
    unread_code x = unread x (window_number w) 37 n (λ f e. e ∙ sym (number_is f)) (λ e. e)

    pub unread_list : {X : Type 0} (x y : X) → y ≡ where_timed log begin end (where_loaded w x y) y
    unread_list x y = unread x y y y (λ f e. refl) (λ e. refl)

-- ---- where 37 is given

-- what the calls give of a window that is taken
abbrev pub Told : ℕ → Type 0
Told n = (n ≤ 25) ⊎ (n ≡ 255)

module _ (log starting begin end : List ℕ) (drift x : ℕ) (long : length starting ≡ 32) (told : window_number (strict_window log starting begin end drift) ≡ 0 → Told x) where
  abbrev v : Window
  v = strict_window log starting begin end drift

  abbrev code : ℕ
  code = where_loaded v x (window_number v)

  by_number : code ≡ 37 → window_number v ≡ 37
  by_number e =
      ⊎_elim
      (λ (z : window_number v ≡ 0).
      let is : x ≡ 37 = sym (ap (λ b. cond b x (window_number v)) (eq-eqb (window_number v) 0 z)) ∙ e in
      absurd (⊎_elim (λ l. omega (arith, l, is)) (λ l. omega (arith, l, is)) (told z)))
      (λ (f : window_number v ≢ 0). sym (ap (λ b. cond b x (window_number v)) (ne_eqb (window_number v) 0 f)) ∙ e)
      (same? (window_number v) 0)

  by_log : load_number log ≢ 0 → code ≡ 37 → ⊥
  by_log f e =
      let is : load_number log ≡ 37 = sym (number_of_log v long ∙ number_by_log log v.clock f) ∙ by_number e in
      ⊎_elim (λ l. omega (arith, l, is)) (⊎_elim (λ l. omega (arith, l, is)) (λ l. omega (arith, l, is))) (numbers_listed log)

  by_lists : T (fit log begin end) → code ≡ 37 → ⊥
  by_lists t e =
      ((lists_iff log v.clock).0 (sym (number_of_log v long) ∙ by_number e)).neither (seconds_match (transactions_in log) begin end drift t)

  pub thirty_seven : (where_timed log begin end code 37 ≡ 37) ↔ ((load_number log ≡ 0) × (fit log begin end ≡ false))
  thirty_seven = (
    λ e.
        ⊎_elim
        (λ (z : load_number log ≡ 0).
        ⊎_elim (λ (t : T (fit log begin end)). absurd (by_lists t (sym (where_matched log begin end code 37 (true_eq (fit log begin end) t)) ∙ e)))
        (λ (f : T (not (fit log begin end))). (z, false_eq (fit log begin end) f)) (decide (fit log begin end)))
        (λ (f : load_number log ≢ 0). absurd (by_log f (sym (where_unasked log begin end code 37 f) ∙ e)))
        (same? (load_number log) 0),
    λ p. where_mismatched log begin end code 37 p.0 p.1,
  )
