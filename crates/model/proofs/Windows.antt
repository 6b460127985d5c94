-- Load's number of a window, by its starting table, its log and its times. Assumes nothing.
use Prim.Native.Nat.{ℕ, ◌≤◌}
use native.Mathlib.Omega.{arith}
use mathlib.Core.Path.{◌≡◌, refl, sym, ap, subst, ◌∙◌}
use mathlib.Core.Logic.{◌⊎◌, inl, inr, ⊎_elim, ◌↔◌, ◌≢◌}
use mathlib.Core.Bool.{cond}
use mathlib.Core.List.{List}
use lib.Dec.{eqb}
use lib.ListN.{length}
use Rattle.model.specs.Log.{transactions_in, load_number}
use Rattle.model.specs.Times.{Times, times_number, timed_number}
use Rattle.model.specs.Refusals.{Mismatched, Untimely}
use Rattle.model.specs.Window.{Window, window_number, from_zeros}
use Rattle.model.proofs.Basics.{true_eq, false_eq, eq-eqb, ne_eqb, same?}
use Rattle.model.proofs.Loaded.{or_else_none, or_else_some}
use Rattle.model.proofs.Times.{times_good, times_37, times_38, times_cases, number_none, timed_log}
use Rattle.model.proofs.Numbers.{numbers_listed}

-- ---- a log with times: the log's number first, then that of the times

module _ (b : List ℕ) (ts : Times) where
  pub number_by_log : load_number b ≢ 0 → timed_number b ts ≡ load_number b
  unfolding timed_number
  number_by_log f = or_else_some (load_number b) (times_number (transactions_in b) ts) f

  pub number_by_times : load_number b ≡ 0 → timed_number b ts ≡ times_number (transactions_in b) ts
  unfolding timed_number
  number_by_times e = or_else_none (load_number b) (times_number (transactions_in b) ts) e

  -- the log's, or of a log that is taken one of three
  timed_cases : (P : ℕ → Type 0) → (load_number b ≢ 0 → P (load_number b)) → P 0 → (Mismatched b ts → P 37) → (Untimely b ts → P 38) → P (timed_number b ts)
  timed_cases P log none lists times =
      ⊎_elim
      (λ (e : load_number b ≡ 0).
      ⊎_elim (λ ok. to (number_by_times e ∙ times_good (transactions_in b) ts ok) none)
      (⊎_elim (λ f. to (number_by_times e ∙ times_37 (transactions_in b) ts f) (lists (record { taken = e; neither = f })))
      (λ x. to (number_by_times e ∙ times_38 (transactions_in b) ts x.0 x.1) (times (record { taken = e; lists = x.0; why = x.1 }))))
      (times_cases (transactions_in b) ts))
      (λ (f : load_number b ≢ 0). to (number_by_log f) (log f))
      (same? (load_number b) 0)
    where
      to : {n : ℕ} → timed_number b ts ≡ n → P n → P (timed_number b ts)
      to e p = subst P (sym e) p

  pub timed_numbers : (timed_number b ts ≤ 11) ⊎ ((timed_number b ts ≡ 34) ⊎ ((timed_number b ts ≡ 35) ⊎ ((timed_number b ts ≡ 37) ⊎ (timed_number b ts ≡ 38))))
  timed_numbers =
      timed_cases (λ n. (n ≤ 11) ⊎ ((n ≡ 34) ⊎ ((n ≡ 35) ⊎ ((n ≡ 37) ⊎ (n ≡ 38)))))
      (λ f. ⊎_elim (λ l. inl l) (λ x. inr (⊎_elim (λ z. inl z) (λ z. inr (inl z)) x)) (numbers_listed b))
      (inl (omega arith)) (λ x. inr (inr (inr (inl refl)))) (λ x. inr (inr (inr (inr refl))))

  not_log : (n : ℕ) → 36 ≤ n → load_number b ≡ n → ⊥
  not_log n l e = ⊎_elim (λ z. omega (arith, z, e, l)) (λ x. ⊎_elim (λ z. omega (arith, z, e, l)) (λ z. omega (arith, z, e, l)) x) (numbers_listed b)

  pub lists_iff : (timed_number b ts ≡ 37) ↔ Mismatched b ts
  lists_iff = (
    timed_cases (λ n. n ≡ 37 → Mismatched b ts) (λ f e. absurd (not_log 37 (omega arith) e)) (λ e. absurd (omega (arith, e))) (λ x e. x) (λ x e. absurd (omega (arith, e))),
    λ x. number_by_times x.taken ∙ times_37 (transactions_in b) ts x.neither,
  )

  pub untimely_iff : (timed_number b ts ≡ 38) ↔ Untimely b ts
  untimely_iff = (
    timed_cases (λ n. n ≡ 38 → Untimely b ts) (λ f e. absurd (not_log 38 (omega arith) e)) (λ e. absurd (omega (arith, e))) (λ x e. absurd (omega (arith, e))) (λ x e. x),
    λ x. number_by_times x.taken ∙ times_38 (transactions_in b) ts x.lists x.why,
  )

-- ---- a window

-- with 32 values it is that of the log and its times, with any other count 36
pub number_of_log : (w : Window) → length w.starting ≡ 32 → window_number w ≡ timed_number w.bytes w.clock
unfolding window_number
number_of_log w e = ap (λ b. cond b (timed_number w.bytes w.clock) 36) (true_eq (eqb (length w.starting) 32) (eq-eqb e))

pub number_of_table : (w : Window) → length w.starting ≢ 32 → window_number w ≡ 36
unfolding window_number
number_of_table w f = ap (λ b. cond b (timed_number w.bytes w.clock) 36) (false_eq (eqb (length w.starting) 32) (ne_eqb f))

-- with 32 zeros and without times it is the log's
pub number_of_zeros : (b : List ℕ) → window_number (from_zeros b) ≡ load_number b
number_of_zeros b = number_of_log (from_zeros b) refl ∙ number_none b 0 (omega arith)

-- a log with times is never given 36
not_36 : (b : List ℕ) (ts : Times) → timed_number b ts ≢ 36
not_36 b ts e =
    ⊎_elim (λ l. omega (arith, l, e)) (⊎_elim (λ z. omega (arith, z, e)) (⊎_elim (λ z. omega (arith, z, e)) (⊎_elim (λ z. omega (arith, z, e)) (λ z. omega (arith, z, e))))) (timed_numbers b ts)

pub table_iff : (w : Window) → (window_number w ≡ 36) ↔ (length w.starting ≢ 32)
table_iff w = ((λ e l. not_36 w.bytes w.clock (sym (number_of_log w l) ∙ e)), number_of_table w)

-- a window that is taken has 32 values, and a log and times that are
pub taken_long : (w : Window) → window_number w ≡ 0 → length w.starting ≡ 32
taken_long w e = ⊎_elim (λ l. l) (λ f. absurd (omega (arith, e, number_of_table w f))) (same? (length w.starting) 32)

pub taken_timed : (w : Window) → window_number w ≡ 0 → timed_number w.bytes w.clock ≡ 0
taken_timed w e = sym (number_of_log w (taken_long w e)) ∙ e

pub taken_log : (w : Window) → window_number w ≡ 0 → load_number w.bytes ≡ 0
taken_log w e = timed_log w.bytes w.clock (taken_timed w e)

-- all numbers
pub window_numbers : (w : Window) → (window_number w ≤ 11) ⊎ ((34 ≤ window_number w) × (window_number w ≤ 38))
window_numbers w =
    ⊎_elim
    (λ (l : length w.starting ≡ 32).
    let is = number_of_log w l in
    ⊎_elim (λ low. inl (omega (arith, low, is)))
    (⊎_elim (λ z. inr (omega (arith, z, is), omega (arith, z, is)))
    (⊎_elim (λ z. inr (omega (arith, z, is), omega (arith, z, is))) (⊎_elim (λ z. inr (omega (arith, z, is), omega (arith, z, is))) (λ z. inr (omega (arith, z, is), omega (arith, z, is))))))
    (timed_numbers w.bytes w.clock))
    (λ (f : length w.starting ≢ 32). let is = number_of_table w f in inr (omega (arith, is), omega (arith, is)))
    (same? (length w.starting) 32)
