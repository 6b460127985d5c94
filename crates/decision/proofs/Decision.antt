-- The search is asked about the history's polygraph, and its answer is the first legal order. Assumes nothing.
use Prim.Native.Nat.{ℕ, ◌*◌, ◌≤◌}
use native.Mathlib.Omega.{arith}
use mathlib.Core.Path.{◌≡◌, sym, ap, subst, ◌∙◌}
use mathlib.Core.Bool.{Bool, true, false}
use mathlib.Core.List.{List}
use lib.Dec.{T}
use lib.ListN.{length}
use Rattle.std.specs.Prelude.{Option, None, Some}
use Rattle.model.specs.History.{History, size, legal}
use Rattle.model.specs.Log.{transactions_in, load_number, history_of}
use Rattle.model.specs.Polygraph.{Polygraph, reach, polygraph}
use Rattle.model.specs.Times.{Times, timed_history}
use Rattle.model.specs.RowWords.{Tidy, cyclic}
use Rattle.model.proofs.Basics.{clash}
use Rattle.model.proofs.First.{first_missing}
use Rattle.model.proofs.Known.{Loadable}
use Rattle.model.proofs.Loaded.{loadable_log}
use Rattle.model.proofs.Times.{timed_loadable, timed_log_size}
use Rattle.model.proofs.Counting.{constraints_timed}
use Rattle.model.proofs.Pruning.{legal_iff, polygraph_sound, polygraph_length, way_forward}
use Rattle.model.proofs.Reach.{within_tidy}
use Rattle.model.proofs.Sides.{cyclic_in}
use Rattle.graph.proofs.Rows.{reach_idem}
use Rattle.listing.specs.Candidates.{items_by}
use Rattle.listing.proofs.Lists.{items_length}
use Rattle.search.specs.Constraints.{list_of}
use Rattle.search.specs.Orders.{Asked, Answered}
use Rattle.search.specs.Steps.{PartialOrder}
use Rattle.search.proofs.Answer.{asked_of, answer_none, answer_some}
use Rattle.search.proofs.Steps.{is_true, is_false}
use Rattle.search.proofs.Firsts.{closed_asked, closed_answered}
use Rattle.decision.specs.Words.{WordsOf}
use Rattle.decision.specs.Answer.{SettledIn, answer_of, first_answer}

-- a log that Load takes, with any times
fit : (b : List ℕ) → load_number b ≡ 0 → (at : Times) → Loadable (timed_history b at)
fit b ok at = timed_loadable at (history_of b) (loadable_log b ok)

-- in no setting has it more than 4,096 constraints
pub settled_few : (b : List ℕ) → load_number b ≡ 0 → (at : Times) (ts ks : List ℕ) (n : ℕ) (closed : List ℕ) → SettledIn (timed_history b at) ts ks n closed → n ≤ 4096
settled_few b ok at ts ks n closed s =
    omega (
      arith,
      items_length ts ks n,
      ap length s.items_are,
      polygraph_length (timed_history b at) s.encoding s.pruning,
      constraints_timed b ok s.encoding at,
    )

-- ---- known edges with a cycle, and without one

module _ (b : List ℕ) (ok : load_number b ≡ 0) (at : Times) (ts ks : List ℕ) (n : ℕ) (closed : List ℕ) (settled : SettledIn (timed_history b at) ts ks n closed) (r : Bool) (is : (g : List ℕ) → closed ≡ reach g → r ≡ cyclic g) where
  abbrev h₀ : History
  h₀ = timed_history b at

  abbrev known : List ℕ
  known = (polygraph h₀ settled.encoding settled.pruning).known

  tidy : Tidy known
  tidy = let l = fit b ok at in within_tidy known (size h₀) l.few (polygraph_sound h₀ l settled.encoding settled.pruning).0

  pub settled_partial : r ≡ false → PartialOrder closed
  settled_partial q =
      let closes : reach closed ≡ closed = subst (λ (x : List ℕ). reach x ≡ x) (sym settled.rows_are) (reach_idem known tidy) in
      record { closed = closes; acyclic = is_false r (cyclic closed) (is closed (sym closes)) q }

  -- an order that respects the known edges would put a number before itself
  none_legal : r ≡ true → (o : List ℕ) → T (legal h₀ o) → ⊥
  none_legal q o k =
      let respects = ((legal_iff h₀ (fit b ok at) settled.encoding settled.pruning settled.low o).0 k).1.0 in
      clash (cyclic known) (is_true r (cyclic known) (is known settled.rows_are) q) (cyclic_in known (λ u x. let z = way_forward o known tidy respects u u x in omega arith))

  pub cyclic_answer : r ≡ true → None ≡ first_answer h₀
  unfolding first_answer answer_of
  cyclic_answer q = sym (ap answer_of (first_missing h₀ (none_legal q)))

-- ---- the search's answer

module _ (b : List ℕ) (ok : load_number b ≡ 0) (at : Times) (t : ℕ) (size_is : t ≡ transactions_in b) (ts ks : List ℕ) (n : ℕ) (closed : List ℕ) (settled : SettledIn (timed_history b at) ts ks n closed)
    (m : ℕ) (room : 4 * n ≤ m) (w : List ℕ) (put : WordsOf (items_by ts ks n) n m w) where
  abbrev h : History
  h = timed_history b at

  abbrev p : Polygraph
  p = polygraph h settled.encoding settled.pruning

  same : p.choices ≡ list_of w n
  same = sym (put.list ∙ settled.items_are)

  t_is : t ≡ size h
  t_is = size_is ∙ sym (timed_log_size b at)

  asked_open : Asked (size h) w n p.known
  asked_open = asked_of h (fit b ok at) settled.encoding settled.pruning settled.low w n same (omega (arith, put.long)) (settled_few b ok at ts ks n closed settled)

  pub asked : Asked t w n closed
  asked = subst (λ (x : ℕ). Asked x w n closed) (sym t_is) (closed_asked (size h) w n p.known asked_open closed settled.rows_are)

  answer_is : (r : Option (List ℕ)) → Answered t w n closed r → Answered (size h) w n p.known r
  answer_is r a = closed_answered (size h) w n p.known asked_open closed settled.rows_are r (subst (λ (x : ℕ). Answered x w n closed r) t_is a)

  answer_at : (r : Option (List ℕ)) → Answered (size h) w n p.known r → r ≡ first_answer h
  unfolding first_answer answer_of
  answer_at None a = sym (ap answer_of (answer_none h (fit b ok at) settled.encoding settled.pruning settled.low w n same a))
  answer_at (Some out) a =
      let x = answer_some h (fit b ok at) settled.encoding settled.pruning settled.low w n same out a in
      ap (λ (o : List ℕ). Some o) x.1 ∙ sym (ap answer_of x.0)

  pub answered : (r : Option (List ℕ)) → Answered t w n closed r → r ≡ first_answer h
  answered r a = answer_at r (answer_is r a)
