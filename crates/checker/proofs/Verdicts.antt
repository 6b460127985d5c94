-- What Decide gives is demand 3's answer. Assumes nothing.
use Prim.Native.Nat.{ℕ, ◌-◌}
use mathlib.Core.Path.{◌≡◌, refl, sym, subst, ◌∙◌}
use mathlib.Core.Logic.{◌⊎◌}
use mathlib.Core.Bool.{Bool, true, false, cond}
use mathlib.Core.List.{List}
use mathlib.Core.Option.{Option, none, some}
use lib.Dec.{T, eqb}
use Rattle.std.specs.Prelude.{Ok, Err}
use Rattle.refusals.specs.Numbers.{number_of, refusal_of, answer_of}
use Rattle.checker.proofs.Encodes.{encode_known}
use lib.ListN.{length, take, replicate}
use lib.Seq.{take_at}
use Rattle.model.specs.History.{History, size, legal}
use Rattle.model.specs.Lent.{order_numbers, encoded_count}
use Rattle.model.specs.Search.{first_legal, LexLess}
use Rattle.model.proofs.First.{Found, first_legal_lem, legal_length}
use Rattle.checker.specs.declared.Case.{Case}
use Rattle.checker.specs.declared.Decision.{Decision}
use Rattle.checker.specs.Cases.{history_in}
use Rattle.checker.specs.Decisions.{decide_refusal, verdict_for, decided, refused_decision, deciding, Answers}
use Rattle.answers.specs.Numbers.{verdict_number}

-- the order's T numbers, of the 32
pub numbers_of : (h : History) (o : List ℕ) → T (legal h o) → take (size h) (order_numbers (some o)) ≡ o
unfolding order_numbers
numbers_of h o l = take_at o (replicate (32 - length o) 0) (size h) (legal_length h o l)

found_answers : (h : History) (x : Option (List ℕ)) → Found h x → Answers h (Ok (verdict_for x)) (order_numbers x)
unfolding Answers
found_answers h none f = f
found_answers h (some o) f =
    let e = sym (numbers_of h o f.0) in
    (subst (λ p. T (legal h p)) e f.0, λ p l. subst (λ q. (p ≡ q) ⊎ LexLess q p) e (f.1 p l))

pub deciding_answers : (c : Case) (e pruning places : ℕ)
    → let d = deciding c e pruning places in Answers (history_in c) d.verdict d.order
unfolding deciding decided refused_decision Answers
deciding_answers c e pruning places = go (eqb (decide_refusal c e pruning places) 0)
  where
    h : History
    h = history_in c

    yes : Decision
    yes = decided c (first_legal h) (encoded_count h e pruning)

    go : (b : Bool) → let d = cond b yes (refused_decision c (decide_refusal c e pruning places)) in Answers h d.verdict d.order
    go true = found_answers h (first_legal h) (first_legal_lem h)
    go false = tt

-- the number is document 01's
pub deciding_number : (c : Case) (e pruning places : ℕ) → verdict_number (deciding c e pruning places).verdict ≡ decide_refusal c e pruning places
unfolding deciding decided refused_decision answer_of
deciding_number c e pruning places = go (eqb n 0) ∙ encode_known c e pruning places 32
  where
    n : ℕ
    n = decide_refusal c e pruning places

    h : History
    h = history_in c

    go : (b : Bool) → verdict_number (cond b (decided c (first_legal h) (encoded_count h e pruning)) (refused_decision c n)).verdict
        ≡ number_of {X = Unit {0}} (cond b (Ok tt) (Err (refusal_of n)))
    go true = refl
    go false = refl
