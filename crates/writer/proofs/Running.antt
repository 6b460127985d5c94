-- The numbers of the calls, each under its condition; and a run of calls notes what it means. Assumes nothing.
use Prim.Native.Nat.{ℕ, ◌+◌, ◌≤◌, ◌<◌}
use native.Mathlib.Omega.{arith}
use mathlib.Core.Path.{◌≡◌, refl, sym, ap, ap₂, subst, ◌∙◌}
use mathlib.Core.Bool.{Bool, true, false, not, cond, ◌&&◌}
use mathlib.Core.List.{List, [], ◌∷◌, ◌++◌, append-nil}
use borrow.Author.Tests.{lt-ltb, le-ltb, ltb-true, ltb-false}
use lib.Dec.{ltb}
use lib.ListN.{length, length-append}
use Rattle.model.specs.Lists.{fold}
use Rattle.model.specs.History.{History, Transaction, Operation, untimed, size, operation_count}
use Rattle.model.specs.Writing.{all_operations}
use Rattle.model.proofs.Loops.{each_snoc}
use Rattle.model.proofs.Writing.{count_all}
use Rattle.writer.specs.Held.{noted_in, held, is_open, with_transaction, with_operation, Sized}
use Rattle.writer.specs.Calls.{fresh_notes, open_refusal, opened_notes, opening, note_refusal, noted_at, noted_notes, noting, close_refusal, closed_notes, closing}
use Rattle.writer.specs.Runs.{Call, opens, reads, writes, closes, called, Story, told, meant, run, meant_by}
use Rattle.writer.specs.declared.Notes.{Notes}
use Rattle.writer.proofs.Answering.{taken_notes, refused_notes}
use Rattle.writer.proofs.Holding.{note_room}
use Rattle.writer.proofs.Adding.{fresh_held, fresh_shut, fresh_sized, held_size, held_noted, close_held, close_sized, close_shuts, open_held, open_sized, open_opens, note_held, note_sized, note_open}

-- ---- the numbers

module _ (n : Notes) where
  -- what the numbers count is what is held
  pub held_count : operation_count (held n) ≡ noted_in n
  held_count = count_all 0 (held n) ∙ omega (arith, held_noted n)

  pub open_32 : is_open n ≡ true → open_refusal n ≡ 32
  unfolding open_refusal
  open_32 o = simp o

  pub open_33 : is_open n ≡ false → 32 ≤ size (held n) → open_refusal n ≡ 33
  unfolding open_refusal
  open_33 o l = simp (o, le-ltb n.transactions 32 (omega (arith, held_size n)))

  pub open_0 : is_open n ≡ false → size (held n) < 32 → open_refusal n ≡ 0
  unfolding open_refusal
  open_0 o l = simp (o, lt-ltb n.transactions 32 (omega (arith, held_size n)))

  pub note_31 : is_open n ≡ false → note_refusal n ≡ 31
  unfolding note_refusal
  note_31 o = simp o

  pub note_beyond : is_open n ≡ true → 32 < size (held n) → note_refusal n ≡ 33
  unfolding note_refusal
  note_beyond o l = simp (o, lt-ltb 32 n.transactions (omega (arith, held_size n)))

  pub note_33 : is_open n ≡ true → 256 ≤ operation_count (held n) → note_refusal n ≡ 33
  unfolding note_refusal
  note_33 o l =
      ap {B = ℕ} (λ b. cond b (cond (ltb 32 n.transactions) 33 (cond (ltb (noted_in n) 256) 0 33)) 31) o
      ∙ ap {B = ℕ} (λ b. cond (ltb 32 n.transactions) 33 (cond b 0 33)) (le-ltb (noted_in n) 256 (omega (arith, held_count)))
      ∙ go (ltb 32 n.transactions)
    where
      go : (b : Bool) → ◌≡◌ {A = ℕ} (cond b 33 33) 33
      go true = refl
      go false = refl

  pub note_0 : is_open n ≡ true → size (held n) ≤ 32 → operation_count (held n) < 256 → note_refusal n ≡ 0
  unfolding note_refusal
  note_0 o few many =
      simp (o, le-ltb 32 n.transactions (omega (arith, held_size n)), lt-ltb (noted_in n) 256 (omega (arith, held_count)))

  pub close_31 : is_open n ≡ false → close_refusal n ≡ 31
  unfolding close_refusal
  close_31 o = simp o

  pub close_0 : is_open n ≡ true → close_refusal n ≡ 0
  unfolding close_refusal
  close_0 o = simp o

-- ---- runs

open_count_lem : (h : History) (cabinet : ℕ) → operation_count (with_transaction h cabinet) ≡ operation_count h
open_count_lem h cabinet =
    let x : Transaction = untimed cabinet [] in
    count_all 0 (h ++ (x ∷ []))
    ∙ ap (λ os. 0 + length os) (each_snoc (λ (t : Transaction). t.operations) h x ∙ append-nil (all_operations h))
    ∙ sym (count_all 0 h)

operations_more : (h : History) (o : Operation) → length (all_operations (with_operation h o)) ≤ 1 + length (all_operations h)
operations_more [] o = omega arith
operations_more (t ∷ []) o =
    omega (arith, ap length (append-nil (t.operations ++ (o ∷ []))), length-append t.operations (o ∷ []), ap length (append-nil t.operations))
operations_more (t ∷ u ∷ h) o =
    omega (arith, length-append t.operations (all_operations (with_operation (u ∷ h) o)), length-append t.operations (all_operations (u ∷ h)), operations_more (u ∷ h) o)

note_count : (h : History) (o : Operation) → operation_count (with_operation h o) ≤ 1 + operation_count h
note_count h o = omega (arith, count_all 0 (with_operation h o), count_all 0 h, operations_more h o)

-- the notes tell the story, and are within the room
record Tells (n : Notes) (s : Story) : Type 0 where
  pub sized : Sized n
  pub few : n.transactions ≤ 32
  pub many : operation_count s.history ≤ 256
  pub holds : held n ≡ s.history
  pub open_is : is_open n ≡ s.unclosed

fresh_few : fresh_notes.transactions ≤ 32
unfolding fresh_notes
fresh_few = omega arith

module _ (n : Notes) where
  open_few : (cabinet : ℕ) → n.transactions < 32 → (opened_notes n cabinet).transactions ≤ 32
  unfolding opened_notes
  open_few cabinet l = omega arith

  note_few : (kind key argument : ℕ) → n.transactions ≤ 32 → (noted_notes n kind key argument).transactions ≤ 32
  unfolding noted_notes noted_at
  note_few kind key argument l = l

  close_few : n.transactions ≤ 32 → (closed_notes n).transactions ≤ 32
  unfolding closed_notes
  close_few l = l

decided : (b : Bool) {A : Type 0} → (b ≡ true → A) → (b ≡ false → A) → A
decided true f g = f refl
decided false f g = g refl

module _ (n : Notes) (s : Story) (t : Tells n s) where
  abbrev h : ℕ
  h = size s.history

  size_is : n.transactions ≡ h
  size_is = sym (held_size n) ∙ ap size t.holds

  count_is : operation_count (held n) ≡ operation_count s.history
  count_is = ap operation_count t.holds

  -- a call that adds nothing
  same : (m : Notes) (u : Story) → m ≡ n → u ≡ s → Tells m u
  same m u e f = subst (λ x. Tells x u) (sym e) (subst (λ x. Tells n x) (sym f) t)

  -- a call that adds something
  other : (m x : Notes) (u y : Story) → m ≡ x → u ≡ y → Tells x y → Tells m u
  other m x u y e f r = subst (λ z. Tells z u) (sym e) (subst (λ z. Tells x z) (sym f) r)

  step_open : (cabinet : ℕ) → Tells (opening n cabinet).notes (meant s (opens cabinet))
  unfolding opening meant
  step_open cabinet =
      let after = opened_notes n cabinet in
      let new : Story = record { history = with_transaction s.history cabinet; unclosed = true } in
      let m = (opening n cabinet).notes in
      let u = meant s (opens cabinet) in
      decided s.unclosed
      (λ e. same m u (refused_notes (open_refusal n) n after (λ z. omega (arith, open_32 n (t.open_is ∙ e)))) (ap (λ b. cond (not b && ltb h 32) new s) e))
      (λ e. decided (ltb h 32)
      (λ f.
      let low : n.transactions < 32 = omega (arith, ltb-true h 32 f, size_is) in
      let zero_is = open_0 n (t.open_is ∙ e) (omega (arith, held_size n)) in
      other m after u new (taken_notes (open_refusal n) n after zero_is) (ap₂ (λ a b. cond (not a && b) new s) e f)
      (record {
        sized = open_sized n cabinet t.sized low;
        few = open_few n cabinet low;
        many = omega (arith, open_count_lem s.history cabinet, t.many);
        holds = open_held n cabinet t.sized low ∙ ap (λ x. with_transaction x cabinet) t.holds;
        open_is = open_opens n cabinet;
      }))
      (λ f.
      same m u (refused_notes (open_refusal n) n after (λ z. omega (arith, open_33 n (t.open_is ∙ e) (omega (arith, ltb-false h 32 f, size_is, held_size n)))))
      (ap₂ (λ a b. cond (not a && b) new s) e f)))

  step_note : (kind key argument : ℕ) → Tells (noting n kind key argument).notes (told s (record { kind = kind; key = key; argument = argument }))
  unfolding noting
  step_note kind key argument =
      let o : Operation = record { kind = kind; key = key; argument = argument } in
      let after = noted_notes n kind key argument in
      let new : Story = record { history = with_operation s.history o; unclosed = true } in
      let m = (noting n kind key argument).notes in
      let u = told s o in
      let c = operation_count s.history in
      decided s.unclosed
      (λ e. decided (ltb c 256)
      (λ f.
      let zero_is = note_0 n (t.open_is ∙ e) (omega (arith, held_size n, t.few)) (omega (arith, ltb-true c 256 f, count_is)) in
      let room = note_room n zero_is in
      other m after u new (taken_notes (note_refusal n) n after zero_is) (ap₂ (λ a b. cond (a && b) new s) e f)
      (record {
        sized = note_sized n kind key argument t.sized room;
        few = note_few n kind key argument t.few;
        many = omega (arith, note_count s.history o, ltb-true c 256 f);
        holds = note_held n kind key argument t.sized room ∙ ap (λ x. with_operation x o) t.holds;
        open_is = note_open n kind key argument ∙ t.open_is ∙ e;
      }))
      (λ f.
      same m u (refused_notes (note_refusal n) n after (λ z. omega (arith, note_33 n (t.open_is ∙ e) (omega (arith, ltb-false c 256 f, count_is)))))
      (ap₂ (λ a b. cond (a && b) new s) e f)))
      (λ e. same m u (refused_notes (note_refusal n) n after (λ z. omega (arith, note_31 n (t.open_is ∙ e)))) (ap (λ b. cond (b && ltb c 256) new s) e))

  step_close : Tells (closing n).notes (meant s closes)
  unfolding closing meant
  step_close =
      let after = closed_notes n in
      let new : Story = record { history = s.history; unclosed = false } in
      let m = (closing n).notes in
      decided s.unclosed
      (λ e.
      other m after new new (taken_notes (close_refusal n) n after (close_0 n (t.open_is ∙ e))) refl
      (record { sized = close_sized n t.sized; few = close_few n t.few; many = t.many; holds = close_held n ∙ t.holds; open_is = close_shuts n }))
      (λ e.
      same m new (refused_notes (close_refusal n) n after (λ z. omega (arith, close_31 n (t.open_is ∙ e))))
      (ap (λ b. record { history = s.history; unclosed = b }) (sym e)))

  step : (c : Call) → Tells (called n c) (meant s c)
  unfolding called meant
  step (opens cabinet) = step_open cabinet
  step (reads key argument) = step_note 0 key argument
  step (writes key value) = step_note 1 key value
  step closes = step_close

runs : (calls : List Call) (n : Notes) (s : Story) → Tells n s → Tells (fold called n calls) (fold meant s calls)
runs [] n s t = t
runs (c ∷ calls) n s t = runs calls (called n c) (meant s c) (step n s t c)

pub run_tells : (calls : List Call) → let n = run calls in let s = meant_by calls in
    (held n ≡ s.history) × (is_open n ≡ s.unclosed) × (size s.history ≤ 32) × (operation_count s.history ≤ 256)
run_tells calls =
    let t = runs calls fresh_notes (record { history = []; unclosed = false }) (record { sized = fresh_sized; few = fresh_few; many = omega arith; holds = fresh_held; open_is = fresh_shut }) in
    (t.holds, t.open_is, omega (arith, t.few, held_size (run calls), ap size t.holds), t.many)
