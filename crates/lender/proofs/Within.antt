-- What is shown of a list fits it: the count that Encode gives is at most that of the places, and that of a polygraph that was planned at most 4,096.
-- Assumes nothing.
use mathlib.Core.Path.{◌≡◌}
use Prim.Native.Nat.{ℕ, zero-le, ◌≤◌}
use mathlib.Core.List.{List}
use native.Mathlib.Nat.{le_trans}
use native.Mathlib.Omega.{arith}
use mathlib.Core.Bool.{Bool, true, false, not, cond}
use lib.Dec.{T, eqb, eqb→eq, ltb, nltb→le}
use lib.ListN.{length}
use Rattle.model.specs.History.{History}
use Rattle.model.specs.Polygraph.{constraints, polygraph}
use Rattle.model.specs.Lent.{encoded_count}
use Rattle.model.proofs.Basics.{eqb_ne}
use Rattle.model.proofs.Pruning.{polygraph_length}
use Rattle.encoding.specs.Writing.{Planned}
use Rattle.checker.specs.declared.Case.{Case}
use Rattle.checker.specs.Cases.{history_in, stage_of}
use Rattle.answers.specs.Stages.{is_fresh}
use Rattle.checker.specs.Encodings.{encode_refusal, encode_answer}
use Rattle.answers.specs.Settings.{setting_refusal, places_refusal}

-- where nothing is refused, the constraints before pruning fit the places
pub counted_within : (c : Case) (e pruning places words : ℕ) → encode_refusal c e pruning places words ≡ 0 → length (constraints (history_in c) e) ≤ places
unfolding encode_refusal places_refusal
counted_within c e pruning places words =
    go (is_fresh (stage_of c)) (eqb (setting_refusal e pruning) 0) (ltb places n) (ltb words 32) (λ t z. eqb_ne t z) (λ t. nltb→le places n t)
  where
    n : ℕ
    n = length (constraints (history_in c) e)

    go : (f s l w : Bool) → (T (not s) → setting_refusal e pruning ≡ 0 → ⊥) → (T (not l) → n ≤ places)
        → ◌≡◌ {A = ℕ} (cond f 22 (cond s (cond l 25 (cond w 25 0)) (setting_refusal e pruning))) 0 → n ≤ places
    go true s l w r q z = absurd (omega arith)
    go false true true w r q z = absurd (omega arith)
    go false true false w r q z = q tt
    go false false l w r q z = absurd (r tt z)

pub left_within : (c : Case) (e pruning places words : ℕ) → (encode_answer c e pruning places words).left ≤ places
unfolding encode_answer encoded_count
left_within c e pruning places words = go (eqb (encode_refusal c e pruning places words) 0) (λ t. eqb→eq (encode_refusal c e pruning places words) 0 t)
  where
    go : (b : Bool) → (T b → encode_refusal c e pruning places words ≡ 0) → cond b (length (polygraph (history_in c) e pruning).choices) 0 ≤ places
    go true p = le_trans (polygraph_length (history_in c) e pruning) (counted_within c e pruning places words (p tt))
    go false p = zero-le

pub planned_within : (h : History) (e pruning : ℕ) (tables chosen rs : List ℕ) (n : ℕ) → Planned h e tables chosen rs n → encoded_count h e pruning ≤ 4096
unfolding encoded_count
planned_within h e pruning tables chosen rs n p = omega (arith, polygraph_length h e pruning, p.chosen_are.count_is, p.chosen_are.low)
