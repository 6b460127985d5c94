-- The times of a case: what it must hold of them to count as loaded, where 37 and 38 are given, and what Load and Decide leave of them. Assumes nothing.
--     holds_out, holds_in      a case counts as loaded or decided exactly where it says so and holds a window, field by field
--     exactly          a number of the log or its times is Load's exactly where the case counts as fresh and the starting table is 32 values
--     case-as-before   a case without times counts as it did, and holds the log's history
use Prim.Native.Nat.{ℕ, ◌≤◌, ◌<◌}
use native.Mathlib.Omega.{arith}
use mathlib.Core.Path.{◌≡◌, refl, sym, ap, ◌∙◌}
use mathlib.Core.Logic.{inl, inr, ⊎_elim, ◌↔◌, ◌≢◌}
use mathlib.Core.Bool.{Bool, true, false, ◌&&◌}
use mathlib.Core.List.{[]}
use lib.Dec.{eqb, leb, le→leb}
use lib.ListN.{length, take}
use lib.Seq.{length-take-le, get_or-take}
use Rattle.model.specs.Log.{transactions_in, load_number, history_of}
use Rattle.model.specs.Times.{Times, times, timed_number, timed_history}
use Rattle.model.specs.Refusals.{GoodTimes}
use Rattle.model.specs.Window.{Window, window_number}
use Rattle.model.proofs.Basics.{true_eq, eq-eqb, and_in, same?}
use Rattle.model.proofs.Times.{timed_times, times_good, timed_none, number_none}
use Rattle.model.proofs.Windows.{number_by_times, number_of_log, number_of_table}
use Rattle.answers.specs.declared.Clock.{Clock}
use Rattle.answers.specs.declared.Stage.{Stage}
use Rattle.answers.specs.declared.Stage.TheVariants.{Fresh, Loaded, Ordered, NoOrder}
use Rattle.answers.specs.Clocks.{times_in, clock_of}
use Rattle.answers.specs.Stages.{holds_window, claims_order, counted, is_fresh}
use Rattle.answers.proofs.Holding.{window_fits, window_loads, clock_fits, log_loads}
use Rattle.checker.specs.declared.Case.{Case}
use Rattle.checker.specs.Cases.{contents, history_in, stage_of, loaded_case, Holds}
use Rattle.checker.specs.Calls.{load_refusal, case_after_load}
use Rattle.checker.proofs.Holding.{case_holds}
use Rattle.checker.proofs.Chain.{taken}
use Rattle.checker.proofs.Loads.{refusal_fresh, refusal_other}

-- ---- what a case must hold

-- a stage that is not fresh was not said to be, and is not made so where the window is held
said_too : (s : Stage) (held orders : Bool) → is_fresh (counted s held orders) ≡ false → is_fresh s ≡ false
unfolding counted
said_too Fresh held orders e = e
said_too Loaded held orders e = refl
said_too Ordered held orders e = refl
said_too NoOrder held orders e = refl

kept_so : (s : Stage) (orders : Bool) → is_fresh s ≡ false → is_fresh (counted s true orders) ≡ false
unfolding counted
kept_so Fresh orders e = e
kept_so Loaded orders e = refl
kept_so Ordered true e = refl
kept_so Ordered false e = refl
kept_so NoOrder orders e = refl

module _ (c : Case) (begins : length c.clock.begin ≡ 32) (ends : length c.clock.end ≡ 32) where
  abbrev k : Clock
  k = c.clock

  abbrev ts : Times
  ts = times_in k

  long : k.count ≤ 32 → (length ts.begins ≡ k.count) × (length ts.ends ≡ k.count)
  long l = (length-take-le k.count k.begin (omega (arith, begins)), length-take-le k.count k.end (omega (arith, ends)))

  pub holds_out : is_fresh (stage_of c) ≡ false → (is_fresh c.stage ≡ false) × Holds c
  unfolding stage_of
  holds_out e =
      let w = case_holds c e in
      let low = clock_fits c.bytes c.length k w in
      let l = long low in
      let good = timed_times (contents c) ts (window_loads c.bytes c.length k w) in (
        said_too c.stage (holds_window c.bytes c.length k) (claims_order c.bytes c.length c.order) e,
        record {
          room = window_fits c.bytes c.length k w;
          log = log_loads c.bytes c.length k w;
          entries = low;
          all_or_none = ⊎_elim (λ z. inl (sym l.0 ∙ z.0)) (λ z. inr (sym l.0 ∙ z.0)) good.lengths;
          each_in_turn = λ t m.
              omega (
                arith,
                good.ordered t (omega (arith, m, l.0)),
                get_or-take k.count k.begin t 0 m,
                get_or-take k.count k.end t 0 m,
              );
          short = good.short;
        },
      )

  pub holds_in : (is_fresh c.stage ≡ false) × Holds c → is_fresh (stage_of c) ≡ false
  unfolding stage_of holds_window
  holds_in x =
      let h = x.1 in
      let l = long h.entries in
      let good : GoodTimes (transactions_in (contents c)) ts =
      record {
        lengths = ⊎_elim (λ z. inl (l.0 ∙ z, l.1 ∙ z)) (λ z. inr (l.0 ∙ z, l.1 ∙ z)) h.all_or_none;
        ordered = λ t m.
            let m' : t < k.count = omega (arith, m, l.0) in
            omega (arith, h.each_in_turn t m', get_or-take k.count k.begin t 0 m', get_or-take k.count k.end t 0 m');
        short = h.short;
      } in
      let number = number_by_times (contents c) ts h.log ∙ times_good (transactions_in (contents c)) ts good in
      let held : holds_window c.bytes c.length k ≡ true =
      true_eq (holds_window c.bytes c.length k)
      (and_in (leb c.length (length c.bytes)) (leb k.count 32 && eqb (timed_number (contents c) ts) 0) (le→leb c.length (length c.bytes) h.room)
      (and_in (leb k.count 32) (eqb (timed_number (contents c) ts) 0) (le→leb k.count 32 h.entries) (eq-eqb number))) in
      let orders = claims_order c.bytes c.length c.order in
      ap (λ b. is_fresh (counted c.stage b orders)) held ∙ kept_so c.stage orders x.0

-- ---- Load's numbers 37 and 38

pub exactly : (c : Case) (w : Window) (n : ℕ) (P : Type 0) → n ≢ 21 → n ≢ 36 → (timed_number w.bytes w.clock ≡ n) ↔ P
    → (load_refusal c w ≡ n) ↔ ((is_fresh (stage_of c) ≡ true) × (length w.starting ≡ 32) × P)
exactly c w n P not-21 not_36 is = (
  (λ e. go (is_fresh (stage_of c)) refl e),
  λ x. refusal_fresh c w x.0 ∙ number_of_log w x.1 ∙ is.1 x.2,
)
  where
    go : (b : Bool) → is_fresh (stage_of c) ≡ b → load_refusal c w ≡ n → (b ≡ true) × (length w.starting ≡ 32) × P
    go false f e = absurd (not-21 (sym e ∙ refusal_other c w f))
    go true f e =
        let number : window_number w ≡ n = sym (refusal_fresh c w f) ∙ e in
        ⊎_elim (λ (l : length w.starting ≡ 32). (refl, l, is.0 (sym (number_of_log w l) ∙ number)))
        (λ (g : length w.starting ≢ 32). absurd (not_36 (sym number ∙ number_of_table w g))) (same? (length w.starting) 32)

-- ---- what Load leaves

pub load_clock : (c : Case) (w : Window) → load_refusal c w ≡ 0 → (case_after_load c w).clock ≡ clock_of w.clock
unfolding case_after_load loaded_case
load_clock c w runs = ap (λ (x : Case). x.clock) (taken (load_refusal c w) (loaded_case w) c runs)

-- ---- a case without times

module _ (c : Case) (none : c.clock.count ≡ 0) (low : c.clock.drift ≤ 3600) where
  no_entries : times_in c.clock ≡ times [] [] c.clock.drift
  no_entries = ap (λ n. times (take n c.clock.begin) (take n c.clock.end) c.clock.drift) none

  pub history_as_before : history_in c ≡ history_of (contents c)
  history_as_before = ap (λ ts. timed_history (contents c) ts) no_entries ∙ timed_none (contents c) c.clock.drift

  pub stage_as_before : stage_of c ≡ counted c.stage (leb c.length (length c.bytes) && eqb (load_number (contents c)) 0) (claims_order c.bytes c.length c.order)
  unfolding stage_of holds_window
  stage_as_before =
      let number : timed_number (contents c) (times_in c.clock) ≡ load_number (contents c) =
      ap (timed_number (contents c)) no_entries ∙ number_none (contents c) c.clock.drift low in
      let room = leb c.length (length c.bytes) in
      let orders = claims_order c.bytes c.length c.order in
      ap (λ n. counted c.stage (room && (leb n 32 && eqb (timed_number (contents c) (times_in c.clock)) 0)) orders) none
      ∙ ap (λ n. counted c.stage (room && eqb n 0) orders) number
