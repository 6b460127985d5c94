-- What each call adds to the history that notes hold. Assumes nothing.
use Prim.Native.Nat.{ℕ, suc, ◌+◌, ◌-◌, ◌<◌}
use native.Mathlib.Omega.{arith}
use native.Mathlib.Numerals.{add-one}
use mathlib.Core.Path.{◌≡◌, refl, sym, ap, ap₂, ◌∙◌}
use mathlib.Core.Logic.{◌≢◌}
use mathlib.Core.Bool.{Bool, true, false, cond}
use mathlib.Core.List.{List, [], ◌∷◌, ◌++◌, map}
use borrow.Author.Tests.{ne_eqb}
use lib.Dec.{eqb}
use lib.ListN.{length, set, length-set}
use lib.Seq.{get_or-set_same, get_or-set_other}
use Rattle.model.specs.Lists.{up_to}
use Rattle.model.specs.History.{History, Transaction, Operation, untimed}
use Rattle.model.specs.Writing.{sum_of, all_operations, transaction_from, history_from}
use Rattle.model.proofs.Words.{length_up_to}
use Rattle.model.proofs.Loops.{map_snoc}
use Rattle.model.proofs.Writing.{sum_suc, sum_same, map_same, from_suc, from_same, from_size, from_operations}
use Rattle.writer.specs.Rows.{at, operation_in}
use Rattle.writer.specs.Held.{noted_in, held, is_open, with_transaction, with_operation, Sized}
use Rattle.writer.specs.Calls.{fresh_notes, opened_notes, noted_at, noted_notes, closed_notes}
use Rattle.writer.specs.declared.Notes.{Notes}
use Rattle.writer.proofs.Holding.{NoteRoom}

pub with_last : (h : History) (t : Transaction) (o : Operation)
    → with_operation (h ++ (t ∷ [])) o ≡ h ++ (record { cabinet = t.cabinet; operations = t.operations ++ (o ∷ []); begin = t.begin; until = t.until } ∷ [])
with_last [] t o = refl
with_last (x ∷ []) t o = refl
with_last (x ∷ y ∷ h) t o = ap (λ r. x ∷ r) (with_last (y ∷ h) t o)

-- ---- fresh notes, and notes that are closed

pub fresh_held : held fresh_notes ≡ []
unfolding held fresh_notes history_from
fresh_held = refl

pub fresh_sized : Sized fresh_notes
unfolding fresh_notes
fresh_sized = record { cabinets = refl; counts = refl; kinds = refl; keys = refl; arguments = refl }

pub fresh_shut : is_open fresh_notes ≡ false
unfolding is_open fresh_notes
fresh_shut = refl

pub shut : (none : Bool) → cond none false false ≡ false
shut true = refl
shut false = refl

module _ (n : Notes) where
  pub close_shuts : is_open (closed_notes n) ≡ false
  unfolding is_open closed_notes
  close_shuts = shut (eqb n.transactions 0)

  pub open_opens : (cabinet : ℕ) → is_open (opened_notes n cabinet) ≡ true
  unfolding is_open opened_notes
  open_opens cabinet = ap (λ x. cond x false true) (ne_eqb (n.transactions + 1) 0 (λ e. omega arith))

  pub note_open : (kind key argument : ℕ) → is_open (noted_notes n kind key argument) ≡ is_open n
  unfolding is_open noted_notes noted_at
  note_open kind key argument = refl

  pub close_held : held (closed_notes n) ≡ held n
  unfolding held closed_notes
  close_held = refl

  pub close_sized : Sized n → Sized (closed_notes n)
  unfolding closed_notes
  close_sized s = record { cabinets = s.cabinets; counts = s.counts; kinds = s.kinds; keys = s.keys; arguments = s.arguments }

  -- ---- the sizes

  pub held_size : length (held n) ≡ n.transactions
  unfolding held
  held_size = from_size n.transactions (at n.cabinets) (at n.counts) (operation_in n.kinds n.keys n.arguments)

  pub held_noted : length (all_operations (held n)) ≡ noted_in n
  unfolding held noted_in
  held_noted =
      let o = operation_in n.kinds n.keys n.arguments in
      ap length (from_operations n.transactions (at n.cabinets) (at n.counts) o) ∙ length_up_to o (sum_of (at n.counts) n.transactions)

  -- ---- a transaction more

  module _ (cabinet : ℕ) (s : Sized n) (l : n.transactions < 32) where
    pub open_sized : Sized (opened_notes n cabinet)
    unfolding opened_notes
    open_sized =
        record {
          cabinets = length-set n.cabinets n.transactions cabinet ∙ s.cabinets;
          counts = length-set n.counts n.transactions 0 ∙ s.counts;
          kinds = s.kinds;
          keys = s.keys;
          arguments = s.arguments;
        }

    pub open_held : held (opened_notes n cabinet) ≡ with_transaction (held n) cabinet
    unfolding held opened_notes
    open_held =
        let t = n.transactions in
        let c = at (set n.cabinets t cabinet) in
        let k = at (set n.counts t 0) in
        let o = operation_in n.kinds n.keys n.arguments in
        let other : (xs : List ℕ) (x i : ℕ) → i < t → at (set xs t x) i ≡ at xs i =
        λ xs x i j. get_or-set_other xs t i x 0 (λ z. omega arith) in
        ap (λ m. history_from m c k o) (add-one t)
        ∙ from_suc t c k o
        ∙ ap₂ (λ x (y : Transaction). x ++ (y ∷ []))
        (from_same t c (at n.cabinets) k (at n.counts) o o (other n.cabinets cabinet) (other n.counts 0) (λ i j. refl))
        (ap₂ {C = Transaction} (λ x y. untimed x (map (λ m. o (sum_of k t + m)) (up_to y)))
        (get_or-set_same n.cabinets t cabinet 0 (omega (arith, s.cabinets))) (get_or-set_same n.counts t 0 0 (omega (arith, s.counts))))

  -- ---- an operation more

  module _ (kind key argument : ℕ) (s : Sized n) (r : NoteRoom n) where
    pub note_sized : Sized (noted_notes n kind key argument)
    unfolding noted_notes noted_at
    note_sized =
        record {
          cabinets = s.cabinets;
          counts = length-set n.counts (n.transactions - 1) (at n.counts (n.transactions - 1) + 1) ∙ s.counts;
          kinds = length-set n.kinds (noted_in n) kind ∙ s.kinds;
          keys = length-set n.keys (noted_in n) key ∙ s.keys;
          arguments = length-set n.arguments (noted_in n) argument ∙ s.arguments;
        }

    pub note_held : held (noted_notes n kind key argument) ≡ with_operation (held n) (record { kind = kind; key = key; argument = argument })
    unfolding held noted_notes noted_at noted_in
    note_held =
        let t = n.transactions - 1 in
        let i = noted_in n in
        let c = at n.cabinets in
        let k = at n.counts in
        let o = operation_in n.kinds n.keys n.arguments in
        let k' = at (set n.counts t (k t + 1)) in
        let o' = operation_in (set n.kinds i kind) (set n.keys i key) (set n.arguments i argument) in
        let last : n.transactions ≡ suc t = omega (arith, r.some) in
        let place : i ≡ sum_of k t + k t = ap (sum_of k) last ∙ sum_suc k t in
        let counts : (j : ℕ) → j < t → k' j ≡ k j = λ j q. get_or-set_other n.counts t j (k t + 1) 0 (λ z. omega arith) in
        let sum : sum_of k' t ≡ sum_of k t = sum_same k' k t counts in
        let count : k' t ≡ suc (k t) = get_or-set_same n.counts t (k t + 1) 0 (omega (arith, s.counts, r.some, r.few)) ∙ add-one (k t) in
        let other : (j : ℕ) → j < i → o' j ≡ o j =
        λ j q.
        let d : j ≢ i = λ z. omega arith in
        ap₂ {C = Operation} (λ x y. record { kind = x; key = y; argument = at (set n.arguments i argument) j })
        (get_or-set_other n.kinds i j kind 0 d) (get_or-set_other n.keys i j key 0 d)
        ∙ ap (λ x. record { kind = at n.kinds j; key = at n.keys j; argument = x }) (get_or-set_other n.arguments i j argument 0 d) in
        let here : o' i ≡ record { kind = kind; key = key; argument = argument } =
        ap₂ {C = Operation} (λ x y. record { kind = x; key = y; argument = at (set n.arguments i argument) i })
        (get_or-set_same n.kinds i kind 0 (omega (arith, s.kinds, r.many))) (get_or-set_same n.keys i key 0 (omega (arith, s.keys, r.many)))
        ∙ ap (λ x. record { kind = kind; key = key; argument = x }) (get_or-set_same n.arguments i argument 0 (omega (arith, s.arguments, r.many))) in
        let before : map (λ m. o' (sum_of k' t + m)) (up_to (k t)) ≡ map (λ m. o (sum_of k t + m)) (up_to (k t)) =
        map_same (λ m. o' (sum_of k' t + m)) (λ m. o (sum_of k t + m)) (k t)
        (λ m q. ap (λ x. o' (x + m)) sum ∙ other (sum_of k t + m) (omega arith)) in
        let operations : map (λ m. o' (sum_of k' t + m)) (up_to (k' t)) ≡ map (λ m. o (sum_of k t + m)) (up_to (k t)) ++ (record { kind = kind; key = key; argument = argument } ∷ []) =
        ap (λ x. map (λ m. o' (sum_of k' t + m)) (up_to x)) count
        ∙ map_snoc (λ m. o' (sum_of k' t + m)) (up_to (k t)) (k t)
        ∙ ap₂ (λ x (y : Operation). x ++ (y ∷ [])) before (ap o' (ap (λ x. x + k t) sum ∙ sym place) ∙ here) in
        ap (λ m. history_from m c k' o') last
        ∙ from_suc t c k' o'
        ∙ ap₂ (λ x (y : List Operation). x ++ (untimed (c t) y ∷ []))
        (from_same t c c k' k o' o (λ j q. refl) counts (λ j q. other j (omega (arith, sum, place)))) operations
        ∙ sym (with_last (history_from t c k o) (transaction_from c k o t) (record { kind = kind; key = key; argument = argument }))
        ∙ ap (λ x. with_operation x (record { kind = kind; key = key; argument = argument })) (sym (from_suc t c k o) ∙ ap (λ m. history_from m c k o) (sym last))
