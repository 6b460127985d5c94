-- What callers see: tables and numbers are the constraints of a history, of which there are at most 4,096. Assumes nothing.
--     runs_room, plain_room         the numbers have a place.        chosen_runs, chosen_bodies       tables and numbers once they are made
use Prim.Native.Nat.{ℕ, ◌≤◌}
use native.Mathlib.Omega.{arith}
use mathlib.Core.Path.{◌≡◌, refl, sym, ap, ap₂, ◌∙◌}
use mathlib.Core.Logic.{⊎_elim, ◌≢◌}
use mathlib.Core.Bool.{Bool, cond}
use mathlib.Core.List.{List, map}
use lib.Dec.{T, eqb}
use lib.ListN.{length, get_or, length-map}
use borrow.Author.Tests.{eq-eqb}
use Rattle.model.specs.declared.Constraint.{Constraint}
use Rattle.model.specs.History.{History, size, well_formed}
use Rattle.model.specs.Polygraph.{plain, joined, chained, constraints}
use Rattle.model.specs.Log.{transactions_in, operations_in, load_number, history_of}
use Rattle.model.proofs.Basics.{same?}
use Rattle.polygraph.specs.Tables.{writers_of, read_marks_of}
use Rattle.listing.specs.Candidates.{item_by}
use Rattle.listing.specs.Choosing.{Chose}
use Rattle.listing.specs.Listing.{Chosen}
use Rattle.listing.specs.Plain.{plain_numbers, PlainTable}
use Rattle.listing.specs.Runs.{run_words, run_numbers}
use Rattle.listing.proofs.Choosing.{chose_all, chose_long}
use Rattle.listing.proofs.Counts.{counts}
use Rattle.listing.proofs.Lists.{items_take}
use Rattle.listing.proofs.PlainFill.{plain_some}
use Rattle.listing.proofs.PlainList.{chosen_plain}
use Rattle.listing.proofs.RunTables.{chosen_joined, chosen_chained}

-- by the encoding's two tests
abbrev pick : History → Bool → Bool → List Constraint
pick h a b = cond a (plain h) (cond b (joined h) (chained h))

constraints_are : (h : History) (e : ℕ) → constraints h e ≡ pick h (eqb e 0) (eqb e 1)
unfolding constraints
constraints_are h e = refl

-- numbers whose constraints are those of a history
module _ (h : History) (e : ℕ) (t cs : List ℕ) (few : length (constraints h e) ≤ 4096) (are : map (item_by t) cs ≡ constraints h e) where
  -- they have room
  room : length cs ≤ 4096
  room = omega (arith, length-map cs (item_by t), ap length are)

  chosen : (ks ls : List ℕ) (n : ℕ) → length ks ≡ 4096 → Chose cs 0 ks n ls → Chosen h e t ls n
  chosen ks ls n places chose =
      let low : n ≤ 4096 = (counts cs 0 n ks ls (omega (arith, room)) chose).1 in
      record {
        count_is = omega (arith, chose.count, length-map cs (item_by t), ap length are);
        low = low;
        items_are = items_take t ls n (omega (arith, chose_long cs 0 n ks ls chose)) ∙ ap (map (item_by t)) (chose_all cs n ks ls (omega arith) chose) ∙ are;
      }

module _ (h : History) (small : size h ≤ 32) (fine : T (well_formed h)) (e n : ℕ) (writers marks w : List ℕ) (nz : e ≢ 0) (low : e ≤ 2) (count : n ≡ size h) (is-writers : writers ≡ writers_of h)
    (is-marks : marks ≡ read_marks_of h) (long : length w ≡ 1025) (few : length (constraints h e) ≤ 4096) where
  runs_are : map (item_by (run_words e n writers marks w)) (run_numbers e writers marks) ≡ constraints h e
  runs_are =
      let words : run_words e n writers marks w ≡ run_words e (size h) (writers_of h) (read_marks_of h) w =
      ap₂ (λ (x : ℕ) (y : List ℕ). run_words e x y marks w) count is-writers ∙ ap (λ y. run_words e (size h) (writers_of h) y w) is-marks in
      let numbers : run_numbers e writers marks ≡ run_numbers e (writers_of h) (read_marks_of h) = ap₂ (run_numbers e) is-writers is-marks in
      ap₂ (λ x y. map (item_by x) y) words numbers
      ∙ ⊎_elim
      (λ (z : e ≡ 1).
      ap (λ x. map (item_by (run_words x (size h) (writers_of h) (read_marks_of h) w)) (run_numbers x (writers_of h) (read_marks_of h))) z ∙ chosen_joined h small w long
      ∙ sym (ap (constraints h) z ∙ constraints_are h 1))
      (λ (z : e ≢ 1).
      let two : e ≡ 2 = omega arith in
      ap (λ x. map (item_by (run_words x (size h) (writers_of h) (read_marks_of h) w)) (run_numbers x (writers_of h) (read_marks_of h))) two ∙ chosen_chained h small w long fine
      ∙ sym (ap (constraints h) two ∙ constraints_are h 2))
      (same? e 1)

  pub runs_room : length (run_numbers e writers marks) ≤ 4096
  runs_room = room h e (run_words e n writers marks w) (run_numbers e writers marks) few runs_are

  pub chosen_runs : (t ks ls : List ℕ) (r : ℕ) → length ks ≡ 4096 → t ≡ run_words e n writers marks w → Chose (run_numbers e writers marks) 0 ks r ls → Chosen h e t ls r
  chosen_runs t ks ls r places is c =
      chosen h e t (run_numbers e writers marks) few (ap (λ x. map (item_by x) (run_numbers e writers marks)) is ∙ runs_are) ks ls r places c

module _ (b : List ℕ) (loads : load_number b ≡ 0) (e : ℕ) (writers : List ℕ) (z : e ≡ 0) (is-writers : writers ≡ writers_of (history_of b)) (few : length (constraints (history_of b) e) ≤ 4096) where
  bodies_are : (t : List ℕ) → PlainTable b (operations_in b) t → get_or t 1024 0 ≡ 0 → map (item_by t) (plain_numbers b writers (transactions_in b)) ≡ constraints (history_of b) e
  bodies_are t table zeroth =
      ap (λ x. map (item_by t) (plain_numbers b x (transactions_in b))) is-writers ∙ chosen_plain b loads t table zeroth
      ∙ sym (constraints_are (history_of b) e ∙ ap (λ (a : Bool). pick (history_of b) a (eqb e 1)) (eq-eqb e 0 z))

  pub plain_room : length (plain_numbers b writers (transactions_in b)) ≤ 4096
  plain_room =
      let s = plain_some b loads in
      room (history_of b) e s.0 (plain_numbers b writers (transactions_in b)) few (bodies_are s.0 s.1.0 s.1.1)

  pub chosen_bodies : (t ks ls : List ℕ) (r : ℕ) → length ks ≡ 4096 → PlainTable b (operations_in b) t → get_or t 1024 0 ≡ 0
      → Chose (plain_numbers b writers (transactions_in b)) 0 ks r ls → Chosen (history_of b) e t ls r
  chosen_bodies t ks ls r places table zeroth c = chosen (history_of b) e t (plain_numbers b writers (transactions_in b)) few (bodies_are t table zeroth) ks ls r places c
