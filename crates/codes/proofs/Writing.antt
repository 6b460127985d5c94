-- Laws of what is written of a case that is decided, and of a polygraph: the table is too short, the order is, or both have room.
-- Assumes nothing.
use mathlib.Core.Path.{◌≡◌, sym, ap, ◌∙◌}
use Prim.Native.Nat.{ℕ, ◌+◌, ◌*◌, ◌<◌, ◌≤◌}
use native.Mathlib.Omega.{arith}
use mathlib.Core.Bool.{cond}
use mathlib.Core.List.{List}
use lib.Dec.{eqb}
use lib.ListN.{length, replicate}
use borrow.Author.Tests.{eq-eqb, ne_eqb, lt-ltb, le-ltb}
use Rattle.model.specs.declared.Constraint.{Constraint}
use Rattle.model.specs.History.{History}
use Rattle.model.specs.Polygraph.{polygraph}
use Rattle.model.specs.Lent.{no_constraint, encoded_list, encoded_count}
use Rattle.checker.specs.declared.Case.{Case}
use Rattle.checker.specs.Results.{order_refused, order_left, table_left}
use Rattle.lender.specs.Packing.{packed}
use Rattle.codes.specs.Codes.{room_code, order_of, table_of, sent_code, sent_after}
use Rattle.codes.specs.Images.{filled, value_in, row_in, words_in, constraint_in, pair_bytes, polygraph_in}
use Rattle.codes.proofs.Filling.{filled_same, constraint_packed}

-- what is left in the two lists, with the number
abbrev pub Written : Case → List ℕ → List ℕ → ℕ → List ℕ → List ℕ → Type 0
Written c order table r order' table' = (r ≡ room_code c (length order) (length table)) × ((order' ≡ order_of c order (length table)) × (table' ≡ table_of c (length order) table))

module _ (c : Case) (order table : List ℕ) where
  abbrev code : ℕ
  code = room_code c (length order) (length table)

  -- where there is no room for one of them
  pub kept : (code ≡ 0 → ⊥) → (order ≡ order_of c order (length table)) × (table ≡ table_of c (length order) table)
  unfolding order_of table_of
  kept not0 = (sym (ap (λ b. cond b (order_left c order) order) (ne_eqb code 0 not0)), sym (ap (λ b. cond b (filled (value_in (table_left c (replicate 32 0))) 32 table) table) (ne_eqb code 0 not0)))

  pub table_short : length table < 64 → Written c order table 25 order table
  unfolding room_code
  table_short l =
      let is : code ≡ 25 = ap {B = ℕ} (λ b. cond b 25 (order_refused c (length order))) (lt-ltb (length table) 64 l) in
      let k = kept (λ z. absurd (omega (arith, is, z))) in
      (sym is, k)

  module _ (n : ℕ) (is : n ≡ order_refused c (length order)) (room : 64 ≤ length table) where
    as_order : code ≡ n
    unfolding room_code
    as_order = ap (λ b. cond b 25 (order_refused c (length order))) (le-ltb (length table) 64 room) ∙ sym is

    pub order_short : (n ≡ 0 → ⊥) → Written c order table n order table
    order_short not0 = (sym as_order, kept (λ z. not0 (sym as_order ∙ z)))

    pub both_written : (order' : List ℕ) → order' ≡ order_left c order → (table' : List ℕ) → n ≡ 0
        → table' ≡ filled (value_in (table_left c (replicate 32 0))) 32 table → Written c order table 0 order' table'
    unfolding order_of table_of
    both_written order' left table' z t = (
      sym (as_order ∙ z),
      (
        left ∙ sym (ap (λ b. cond b (order_left c order) order) (eq-eqb code 0 (as_order ∙ z))),
        t ∙ sym (ap (λ b. cond b (filled (value_in (table_left c (replicate 32 0))) 32 table) table) (eq-eqb code 0 (as_order ∙ z))),
      ),
    )

-- ---- a polygraph

-- the code, and the list after it
abbrev pub Sends : History → ℕ → ℕ → List ℕ → ℕ → List ℕ → Type 0
Sends h e pruning out m out' = (m ≡ sent_code h e pruning (length out)) × (out' ≡ sent_after h e pruning out)

module _ (h : History) (e pruning : ℕ) (out : List ℕ) (n : ℕ) (is : n ≡ encoded_count h e pruning) where
  abbrev ys : List Constraint
  ys = encoded_list h e pruning (replicate 4096 no_constraint)

  abbrev image : ℕ → List ℕ
  image m = polygraph_in m (polygraph h e pruning).known ys out

  pub out_short : length out < 130 + 10 * n → Sends h e pruning out 25 out
  unfolding sent_code sent_after
  out_short l =
      let q : sent_code h e pruning (length out) ≡ 25 = ap {B = ℕ} (λ b. cond b 25 0) (lt-ltb (length out) (130 + 10 * encoded_count h e pruning) (omega (arith, is, l))) in
      (sym q, sym (ap (λ k. cond (eqb k 0) (image (encoded_count h e pruning)) out) q))

  pub out_written : 130 + 10 * n ≤ length out → n ≤ 4096 → (rows words out' : List ℕ) → rows ≡ (polygraph h e pruning).known → words ≡ packed n ys (replicate 16384 0)
      → out' ≡ filled (words_in words) n (filled (row_in rows) 32 (pair_bytes 0 n out)) → Sends h e pruning out 0 out'
  unfolding sent_code sent_after polygraph_in
  out_written l few rows words out' rs ws o =
      let q : sent_code h e pruning (length out) ≡ 0 = ap {B = ℕ} (λ b. cond b 25 0) (le-ltb (length out) (130 + 10 * encoded_count h e pruning) (omega (arith, is, l))) in
      let whole : out' ≡ image (encoded_count h e pruning) =
      o ∙ filled_same (words_in words) (constraint_in ys) n (λ i less x. constraint_packed n ys words ws few i less x) (filled (row_in rows) 32 (pair_bytes 0 n out))
      ∙ ap (λ g. filled (constraint_in ys) n (filled (row_in g) 32 (pair_bytes 0 n out))) rs ∙ ap image is in
      (sym q, whole ∙ sym (ap (λ k. cond (eqb k 0) (image (encoded_count h e pruning)) out) q))
