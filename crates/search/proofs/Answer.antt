-- What `first_closed` answers for a history: the first legal order, or none, in all six settings. Assumes nothing.
-- For the caller: `asked_of` meets what the call requires, and `answer_none` and `answer_some` turn what it ensures into the model's words.
use Prim.Native.Nat.{ℕ, suc, ◌+◌, ◌*◌, ◌-◌, ◌≤◌, ◌<◌}
use native.Mathlib.Omega.{arith}
use mathlib.Core.Path.{◌≡◌, refl, sym, ap, subst, ◌∙◌}
use mathlib.Core.Option.{none, some}
use mathlib.Core.List.{List, [], ◌∷◌, ◌++◌}
use lib.Dec.{T}
use lib.ListN.{length, get_or, take, drop, replicate, length-drop, take-append-drop}
use lib.Seq.{get_or-drop, length-take-le}
use Rattle.model.specs.Lists.{All, up_to}
use Rattle.model.specs.History.{History, size, legal}
use Rattle.model.specs.Polygraph.{polygraph, RespectsOne}
use Rattle.model.specs.declared.Constraint.{Constraint}
use Rattle.model.specs.RowWords.{Aimed}
use Rattle.model.specs.Search.{first_legal}
use Rattle.model.specs.Lent.{order_numbers}
use Rattle.model.proofs.Basics.{All-map-in, All-map-out, up_to_in, up_to_out}
use Rattle.model.proofs.Known.{Loadable}
use Rattle.model.proofs.Pruning.{legal_iff, polygraph_sound}
use Rattle.model.proofs.First.{first_legal_lem, found_unique, first_missing}
use Rattle.search.specs.Constraints.{con_at, list_of}
use Rattle.search.specs.Orders.{Solution, First, Asked}

-- ---- numbers behind an order

all_zero : (l : List ℕ) → ((j : ℕ) → get_or l j 0 ≡ 0) → l ≡ replicate (length l) 0
all_zero [] f = refl
all_zero (x ∷ l) f = ap (λ (y : ℕ). y ∷ l) (f 0) ∙ ap (λ (y : List ℕ). 0 ∷ y) (all_zero l (λ j. f (suc j)))

-- 32 numbers, zero from place t on
zeros_behind : (t : ℕ) (out : List ℕ) → t ≤ 32 → length out ≡ 32 → ((j : ℕ) → t ≤ j → get_or out j 0 ≡ 0) → out ≡ order_numbers (some (take t out))
unfolding order_numbers
zeros_behind t out few long f =
    let a : drop t out ≡ replicate (length (drop t out)) 0 = all_zero (drop t out) (λ j. get_or-drop t out j 0 ∙ f (t + j) (omega arith)) in
    let b : length (drop t out) ≡ 32 - length (take t out) = omega (arith, length-drop t out, length-take-le t out (omega arith)) in
    sym (take-append-drop t out) ∙ ap (λ (y : List ℕ). take t out ++ y) (a ∙ ap (λ (k : ℕ). replicate k 0) b)

-- ---- a history whose polygraph it is

module _ (h : History) (ok : Loadable h) (e pruning : ℕ) (l : e < 3) (w : List ℕ) (n : ℕ) (same : (polygraph h e pruning).choices ≡ list_of w n) where
  all_out : (P : Constraint → Type 0) → All P (polygraph h e pruning).choices → (i : ℕ) → i < n → P (con_at w i)
  unfolding list_of
  all_out P x i k = up_to_out (λ i. P (con_at w i)) n (All-map-out P (con_at w) (up_to n) (subst (All P) same x)) i k

  all_in : (P : Constraint → Type 0) → ((i : ℕ) → i < n → P (con_at w i)) → All P (polygraph h e pruning).choices
  unfolding list_of
  all_in P f = subst (All P) (sym same) (All-map-in P (con_at w) (up_to n) (up_to_in (λ i. P (con_at w i)) n f))

  -- what `first_closed` asks
  pub asked_of : 4 * n ≤ length w → n ≤ 4096 → Asked (size h) w n (polygraph h e pruning).known
  asked_of long few =
      let p = polygraph_sound h ok e pruning in
      let aimed = all_out (Aimed (size h)) p.1 in
      record {
        few = ok.few;
        given = record { there = long; few = few; nodes = λ i k. (omega (arith, (aimed i k).toA-small, ok.few), omega (arith, (aimed i k).toB-small, ok.few)) };
        within = p.0;
        aimed = aimed;
      }

  solution_legal : (o : List ℕ) → Solution (size h) w n (polygraph h e pruning).known o → T (legal h o)
  solution_legal o k = (legal_iff h ok e pruning l o).1 (k.order, (k.known, all_in (RespectsOne o) k.keeps))

  legal_solution : (o : List ℕ) → T (legal h o) → Solution (size h) w n (polygraph h e pruning).known o
  legal_solution o k =
      let r = (legal_iff h ok e pruning l o).0 k in
      record { order = r.0; known = r.1.0; keeps = all_out (RespectsOne o) r.1.1 }

  -- the answer says that there is none
  pub answer_none : ((o : List ℕ) → Solution (size h) w n (polygraph h e pruning).known o → ⊥) → first_legal h ≡ none
  answer_none z = first_missing h (λ o k. z o (legal_solution o k))

  -- or it is the first legal order, with zeros behind it
  pub answer_some : (out : List ℕ) → First (size h) w n (polygraph h e pruning).known out
      → (first_legal h ≡ some (take (size h) out)) × (out ≡ order_numbers (some (take (size h) out)))
  answer_some out z = (
    found_unique h (first_legal h) (some (take (size h) out)) (first_legal_lem h) (solution_legal (take (size h) out) z.solves, λ o k. z.lowest o (legal_solution o k)),
    zeros_behind (size h) out ok.few z.long z.zeros,
  )
