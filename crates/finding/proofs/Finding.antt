-- What Decide finds over a log, by its tests. Assumes nothing.
use Prim.Native.Nat.{ℕ, ◌≤◌}
use native.Mathlib.Omega.{arith}
use mathlib.Core.Path.{◌≡◌, refl, sym, ap, ap₂, subst, ◌∙◌}
use mathlib.Core.Logic.{◌≢◌, ◌⊎◌, ⊎_elim}
use mathlib.Core.Bool.{Bool, true, false, cond}
use mathlib.Core.List.{List}
use lib.Dec.{T, eqb, eqb→eq}
use lib.ListN.{length}
use Rattle.std.specs.Prelude.{Option, Ok, Err}
use Rattle.refusals.specs.declared.Refusal.{Refusal}
use Rattle.refusals.specs.Numbers.{code}
use Rattle.refusals.proofs.Numbering.{code_some}
use borrow.Author.Tests.{eq-eqb, ne_eqb}
use Rattle.model.specs.declared.Constraint.{Constraint}
use Rattle.model.specs.History.{History, size}
use Rattle.model.specs.Log.{load_number}
use Rattle.model.specs.Times.{Times, timed_number, timed_history}
use Rattle.model.specs.Polygraph.{Polygraph, reach, rows, constraints, polygraph}
use Rattle.model.specs.Lent.{encoded_count}
use Rattle.model.specs.RowWords.{Tidy}
use Rattle.model.proofs.Counting.{constraints_timed}
use Rattle.model.proofs.Times.{loadable_timed}
use Rattle.model.proofs.Reach.{within_tidy}
use Rattle.model.proofs.Pruning.{unpruned_sound}
use Rattle.listing.specs.Candidates.{items_by}
use Rattle.listing.proofs.Lists.{items_length}
use Rattle.pruning.specs.Passes.{pruned, settled}
use Rattle.pruning.specs.Numbers.{PrunedTo}
use Rattle.encoding.specs.Writing.{Planned}
use Rattle.decision.specs.Answer.{SettledIn, first_answer}
use Rattle.answers.specs.Settings.{setting_refusal, places_refusal}
use Rattle.answers.proofs.Answering.{setting_zero, pruning_zero, places_zero, places_enough}
use Rattle.finding.specs.Settings.{polygraph_refusal}
use Rattle.finding.specs.Finding.{Finds}

-- ---- pruning, by its number

settled_one : (pruning : ℕ) (p : Polygraph) → pruning ≡ 1 → settled pruning p ≡ pruned p
unfolding settled
settled_one pruning p e = ap (λ b. cond b (pruned p) p) (eq-eqb pruning 1 e)

settled_other : (pruning : ℕ) (p : Polygraph) → pruning ≢ 1 → settled pruning p ≡ p
unfolding settled
settled_other pruning p f = ap (λ b. cond b (pruned p) p) (ne_eqb pruning 1 f)

module _ (t ks ls : List ℕ) (n r pruning : ℕ) (g ws : List ℕ) where
  abbrev whole : Polygraph
  whole = record { known = g; choices = items_by t ks n }

  pub pruned_to : pruning ≡ 1 → PrunedTo (pruned whole) t ls r ws → PrunedTo (settled pruning whole) t ls r ws
  pruned_to e p = subst (λ (q : Polygraph). PrunedTo q t ls r ws) (sym (settled_one pruning whole e)) p

pub kept_all : (t ks : List ℕ) (n pruning : ℕ) (g ws : List ℕ) → pruning ≢ 1 → ws ≡ reach g → PrunedTo (settled pruning (record { known = g; choices = items_by t ks n })) t ks n ws
kept_all t ks n pruning g ws f e =
    subst (λ (q : Polygraph). PrunedTo q t ks n ws) (sym (settled_other pruning _ f)) (record { choices_are = refl; rows_are = e })

-- the known edges of a log that Load takes with its times stay below T
pub rows_tidy : (b : List ℕ) (ts : Times) → timed_number b ts ≡ 0 → (e : ℕ) (rs : List ℕ) → rs ≡ rows (timed_history b ts) e → Tidy rs
rows_tidy b ts ok e rs is =
    let h = timed_history b ts in let l = loadable_timed b ts ok in
    subst Tidy (sym is) (within_tidy (rows h e) (size h) l.few (unpruned_sound h l e).0)

-- ---- a refusal

module _ (h : History) (e pruning places words : ℕ) where
  pub setting_number : setting_refusal e pruning ≢ 0 → polygraph_refusal h e pruning places words ≡ setting_refusal e pruning
  setting_number f = ap (λ b. cond b (places_refusal (length (constraints h e)) places words) (setting_refusal e pruning)) (ne_eqb (setting_refusal e pruning) 0 f)

  -- the number where the setting is taken
  pub counted_number : (n : ℕ) → setting_refusal e pruning ≡ 0 → n ≡ length (constraints h e) → polygraph_refusal h e pruning places words ≡ places_refusal n places words
  counted_number n z c =
      ap (λ b. cond b (places_refusal (length (constraints h e)) places words) (setting_refusal e pruning)) (eq-eqb (setting_refusal e pruning) 0 z)
      ∙ ap (λ k. places_refusal k places words) (sym c)

module _ (h : History) (e pruning places : ℕ) (listed : Bool) (t ks : List ℕ) (r : Refusal) where
  pub setting_finds : code r ≡ setting_refusal e pruning → Finds (polygraph_refusal h e pruning places 32) h e pruning places listed t ks (Err r)
  setting_finds is = record { number_is = is ∙ sym (setting_number h e pruning places 32 (λ z. code_some r (is ∙ z))); found = tt }

  pub places_finds : (n : ℕ) → setting_refusal e pruning ≡ 0 → n ≡ length (constraints h e) → code r ≡ places_refusal n places 32 → Finds (polygraph_refusal h e pruning places 32) h e pruning places listed t ks (Err r)
  places_finds n z c is = record { number_is = is ∙ sym (counted_number h e pruning places 32 n z c); found = tt }

-- ---- the answer: `used` is the pruning that was done

module _ (h : History) (e pruning places : ℕ) (listed : Bool) (used : ℕ) (same : (listed ≡ true → used ≡ pruning) × ((used ≡ pruning) ⊎ (used ≡ 0))) (t ks ls rs : List ℕ) (n left : ℕ) (closed : List ℕ) (plan : Planned h e t ks rs n)
    (zero : setting_refusal e pruning ≡ 0) (room : places_refusal n places 32 ≡ 0) (within : left ≤ n) (kept : PrunedTo (settled used (record { known = rs; choices = items_by t ks n })) t ls left closed) where
  settled_is : settled used (record { known = rs; choices = items_by t ks n }) ≡ polygraph h e used
  unfolding settled pruned polygraph
  settled_is = ap₂ (λ (g : List ℕ) (xs : List Constraint). settled used (record { known = g; choices = xs })) plan.rows_are plan.chosen_are.items_are

  used_items : items_by t ls left ≡ (polygraph h e used).choices
  used_items = kept.choices_are ∙ ap (λ (p : Polygraph). p.choices) settled_is

  items : listed ≡ true → items_by t ls left ≡ (polygraph h e pruning).choices
  items l = used_items ∙ ap (λ (p : ℕ). (polygraph h e p).choices) (same.0 l)

  pub settled_in : SettledIn h t ls left closed
  settled_in = record {
    encoding = e;
    pruning = used;
    low = let k = setting_zero e pruning zero in omega arith;
    once = ⊎_elim (λ (u : used ≡ pruning). omega (arith, pruning_zero e pruning zero)) (λ (u : used ≡ 0). omega arith) same.1;
    items_are = used_items;
    rows_are = kept.rows_are ∙ ap (λ (p : Polygraph). reach p.known) settled_is;
  }

  pub answer_finds : (o : Option (List ℕ)) → o ≡ first_answer h → Finds (polygraph_refusal h e pruning places 32) h e pruning places listed t ls (Ok (record { order = o; count = n; left = left }))
  unfolding encoded_count
  answer_finds o is = record {
    number_is = sym (counted_number h e pruning places 32 n zero plan.chosen_are.count_is ∙ room);
    found = record {
      order_is = is;
      count_is = plan.chosen_are.count_is;
      left_is = λ l. sym (items_length t ls left) ∙ ap length (items l);
      items_are = items;
      few = plan.chosen_are.low;
      fits = (places_zero n places 32 room).0;
      within = within;
    };
  }

-- ---- places

-- Of a log that Load takes, with whatever times, 4,096 places are always enough: the setting alone can be refused.
pub enough_for_a_log : (b : List ℕ) (ts : Times) → load_number b ≡ 0 → (e pruning places words : ℕ) → 4096 ≤ places → 32 ≤ words
    → polygraph_refusal (timed_history b ts) e pruning places words ≡ setting_refusal e pruning
enough_for_a_log b ts taken e pruning places words l m = go (eqb setting 0) (λ t. eqb→eq setting 0 t)
  where
    setting : ℕ
    setting = setting_refusal e pruning

    n : ℕ
    n = length (constraints (timed_history b ts) e)

    go : (t : Bool) → (T t → setting ≡ 0) → cond t (places_refusal n places words) setting ≡ setting
    go true f = places_enough n places words (omega (arith, constraints_timed b taken e ts)) m ∙ sym (f tt)
    go false f = refl
