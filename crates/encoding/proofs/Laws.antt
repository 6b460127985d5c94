-- What choosing, listing, pruning and clearing leave is the polygraph. Assumes nothing.
--     room_bodies, by_bodies, room_runs, by_runs      the numbers have a place; the tables and the numbers of encoding 0, and of encodings 1 and 2
--     planned_timed    the plan with times
--     aimed            pruning may go over the list once the constraints are listed.        encoded      what is left at the end
--     written_left     the first constraints listed, and the places behind them cleared
use Prim.Native.Nat.{ℕ, ◌+◌, ◌-◌, ◌≤◌, ◌<◌}
use native.Mathlib.Omega.{arith}
use mathlib.Core.Path.{◌≡◌, refl, sym, ap, ap₂, subst, ◌∙◌}
use mathlib.Core.Logic.{◌≢◌}
use mathlib.Core.List.{List, ◌++◌}
use lib.ListN.{length, get_or, take, drop, replicate, get_or-append}
use lib.Seq.{take_at, drop_at, drop-drop}
use Rattle.model.specs.History.{History, size}
use Rattle.model.specs.Polygraph.{Polygraph, rows, constraints, polygraph}
use Rattle.model.specs.Log.{transactions_in, operations_in, history_of}
use Rattle.model.specs.Times.{Times, timed_number, timed_history}
use Rattle.model.specs.Lent.{no_constraint, encoded_list, encoded_count}
use Rattle.model.specs.declared.Constraint.{Constraint}
use Rattle.model.proofs.Counting.{constraints_log}
use Rattle.model.proofs.Loaded.{Bytes, history_size, well_formed_lem}
use Rattle.model.proofs.Times.{timed_constraints}
use Rattle.polygraph.specs.Clock.{with_clock}
use Rattle.polygraph.proofs.Timing.{clock_rows}
use Rattle.listing.specs.Candidates.{items_by}
use Rattle.listing.specs.Choosing.{Space, Chose}
use Rattle.listing.specs.Listing.{Chosen}
use Rattle.listing.specs.Plain.{plain_numbers, PlainTable}
use Rattle.listing.specs.Runs.{run_words, run_numbers}
use Rattle.listing.proofs.Lists.{items_length, items_aimed}
use Rattle.listing.proofs.Whole.{plain_room, chosen_bodies, runs_room, chosen_runs}
use Rattle.pruning.specs.Passes.{Aims, pruned, settled, Pruning}
use Rattle.pruning.specs.declared.Pruned.{Pruned}
use Rattle.encoding.specs.Writing.{TablesOf, Planned, Encoded}

-- ---- the tables and the numbers

module _ (b : List ℕ) (n : ℕ) (writers marks : List ℕ) (ok : TablesOf b n writers marks) (w ks : List ℕ) (space : Space w ks) where
  few : (e : ℕ) → length (constraints (history_of b) e) ≤ 4096
  few e = constraints_log b ok.loads e

  pub room_bodies : length (plain_numbers b writers (transactions_in b)) ≤ 4096
  room_bodies = plain_room b ok.loads 0 writers refl ok.writers_are (few 0)

  pub by_bodies : (e : ℕ) (t ls : List ℕ) (r : ℕ) → e ≡ 0 → PlainTable b (operations_in b) t × (get_or t 1024 0 ≡ 0) × Chose (plain_numbers b writers (transactions_in b)) 0 ks r ls
      → Chosen (history_of b) e t ls r
  by_bodies e t ls r z p = chosen_bodies b ok.loads e writers z ok.writers_are (few e) t ks ls r space.places p.0 p.1 p.2

  module _ (bytes : Bytes b) (e : ℕ) (nz : e ≢ 0) (l : e ≤ 2) where
    count : n ≡ size (history_of b)
    count = ok.count ∙ sym (history_size b)

    small : size (history_of b) ≤ 32
    small = omega (arith, ok.few, count)

    pub room_runs : length (run_numbers e writers marks) ≤ 4096
    room_runs = runs_room (history_of b) small (well_formed_lem b bytes ok.loads) e n writers marks w nz l count ok.writers_are ok.marks_are space.words (few e)

    pub by_runs : (t ls : List ℕ) (r : ℕ) → (t ≡ run_words e n writers marks w) × Chose (run_numbers e writers marks) 0 ks r ls → Chosen (history_of b) e t ls r
    by_runs t ls r p =
        chosen_runs (history_of b) small (well_formed_lem b bytes ok.loads) e n writers marks w nz l count ok.writers_are ok.marks_are space.words (few e) t ks ls r space.places p.0 p.1

-- ---- with times: the same constraints, and the edges by the clock beside those of the log

pub planned_timed : (b : List ℕ) (ts : Times) → timed_number b ts ≡ 0 → (e : ℕ) (t ks rs out : List ℕ) (n : ℕ) → Chosen (history_of b) e t ks n → rs ≡ rows (history_of b) e → out ≡ with_clock ts rs
    → Planned (timed_history b ts) e t ks out n
planned_timed b ts taken e t ks rs out n c known is =
    let same : constraints (timed_history b ts) e ≡ constraints (history_of b) e = ap (λ (f : ℕ → List Constraint). f e) (timed_constraints ts (history_of b)) in
    record {
      chosen_are = record { count_is = c.count_is ∙ ap length (sym same); low = c.low; items_are = c.items_are ∙ sym same };
      rows_are = is ∙ ap (with_clock ts) known ∙ clock_rows b ts taken e;
    }

-- ---- what is written

module _ (t ks rs : List ℕ) (n : ℕ) where
  abbrev cs : List Constraint
  cs = items_by t ks n

  pub aimed : (ys zs : List Constraint) → zs ≡ items_by t ks n ++ drop n ys → Aims zs n
  aimed ys zs e k l =
      subst (λ (x : Constraint). (x.toA < 32) × (x.toB < 32))
      (sym (ap (λ (xs : List Constraint). get_or xs k no_constraint) e ∙ get_or-append cs (drop n ys) no_constraint k (omega (arith, items_length t ks n))))
      (items_aimed t ks n k l)

  -- pruned, and the places behind them cleared
  module _ (h : History) (e pruning : ℕ) (plan : Planned h e t ks rs n) where
    items_are : cs ≡ constraints h e
    items_are = plan.chosen_are.items_are

    settled_is : settled pruning (record { known = rs; choices = cs }) ≡ polygraph h e pruning
    unfolding settled pruned polygraph
    settled_is = ap₂ (λ (g : List ℕ) (xs : List Constraint). settled pruning (record { known = g; choices = xs })) plan.rows_are items_are

    pub encoded : (ys l₁ l₂ l₃ : List Constraint) (r : Pruned) → l₁ ≡ items_by t ks n ++ drop n ys → Pruning rs l₁ n pruning r l₂
        → l₃ ≡ take r.left l₂ ++ (replicate (n - r.left) no_constraint ++ drop n l₂) → Encoded h e pruning ys r l₃
    unfolding encoded_list encoded_count
    encoded ys l₁ l₂ l₃ r e₁ p e₃ =
        let front : take n l₁ ≡ cs = ap (take n) e₁ ∙ take_at cs (drop n ys) n (items_length t ks n) in
        let back : drop n l₁ ≡ drop n ys = ap (drop n) e₁ ∙ drop_at cs (drop n ys) n (items_length t ks n) in
        let q : settled pruning (record { known = rs; choices = take n l₁ }) ≡ polygraph h e pruning =
        ap (λ (xs : List Constraint). settled pruning (record { known = rs; choices = xs })) front ∙ settled_is in
        let left : r.left ≡ length (polygraph h e pruning).choices = p.left_is ∙ ap (λ (x : Polygraph). length x.choices) q in
        record {
          list_is = e₃
              ∙ ap₂ (λ (xs zs : List Constraint). xs ++ (replicate (n - r.left) no_constraint ++ zs)) (p.front ∙ ap (λ (x : Polygraph). x.choices) q) (p.back ∙ back)
              ∙ ap₂ (λ (k j : ℕ). (polygraph h e pruning).choices ++ (replicate (k - j) no_constraint ++ drop k ys)) plan.chosen_are.count_is left;
          rows_are = p.rows_are ∙ ap (λ (x : Polygraph). x.known) q;
          left_is = left;
        }

pub written_left : (t ks : List ℕ) (left n : ℕ) → left ≤ n → (ys l₁ l₂ : List Constraint) → l₁ ≡ items_by t ks left ++ drop left ys → l₂ ≡ take left l₁ ++ (replicate (n - left) no_constraint ++ drop n l₁)
    → l₂ ≡ items_by t ks left ++ (replicate (n - left) no_constraint ++ drop n ys)
written_left t ks left n low ys l₁ l₂ e₁ e₂ =
    let front : take left l₁ ≡ items_by t ks left = ap (take left) e₁ ∙ take_at (items_by t ks left) (drop left ys) left (items_length t ks left) in
    let back : drop left l₁ ≡ drop left ys = ap (drop left) e₁ ∙ drop_at (items_by t ks left) (drop left ys) left (items_length t ks left) in
    let d : n ≡ left + (n - left) = omega arith in
    let behind : drop n l₁ ≡ drop n ys =
    ap (λ (x : ℕ). drop x l₁) d ∙ sym (drop-drop (n - left) left l₁) ∙ ap (drop (n - left)) back ∙ drop-drop (n - left) left ys ∙ ap (λ (x : ℕ). drop x ys) (sym d) in
    e₂ ∙ ap₂ (λ (xs zs : List Constraint). xs ++ (replicate (n - left) no_constraint ++ zs)) front behind
