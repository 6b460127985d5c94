-- What Encode gives and leaves, refused or not: document 01, 'The calls' and the two pages of refusals. Assumes nothing.
use Rattle.std.specs.Prelude.{ℕ, ◌≤◌, ◌≡◌, cond, List, eqb, length, Result, IfOk}
use Rattle.model.specs.Lent.{encoded_list, encoded_rows, encoded_count}
use Rattle.model.specs.declared.Constraint.{Constraint}
use Rattle.encoding.specs.Writing.{Planned, Writable}
use Rattle.checker.specs.declared.Case.{Case}
use Rattle.checker.specs.declared.Encoding.{Encoding}
use Rattle.checker.specs.Cases.{history_in, stage_of}
use Rattle.answers.specs.Stages.{is_fresh}
use Rattle.answers.specs.Numbers.{reply_of}
use Rattle.refusals.specs.declared.Refusal.{Refusal}
use Rattle.refusals.specs.Numbers.{number_of}
use Rattle.encoding.specs.declared.Known.{Known}
use Rattle.finding.specs.Settings.{polygraph_refusal}

-- Encode tests 22, a fresh case, then 12, 25.
unfoldable pub encode_refusal : Case → ℕ → ℕ → ℕ → ℕ → ℕ
encode_refusal c e pruning places words = cond (is_fresh (stage_of c)) 22 (polygraph_refusal (history_in c) e pruning places words)

-- the answer: the case as it was, the number, and the count left, 0 for a refusal
unfoldable pub encode_answer : Case → ℕ → ℕ → ℕ → ℕ → Encoding
encode_answer c e pruning places words = record {
  case = c;
  reply = reply_of (encode_refusal c e pruning places words);
  left = cond (eqb (encode_refusal c e pruning places words) 0) (encoded_count (history_in c) e pruning) 0;
}

-- the two lent lists after Encode: as they were where the call is refused
unfoldable pub encode_list : Case → ℕ → ℕ → List Constraint → ℕ → List Constraint
encode_list c e pruning ys words = cond (eqb (encode_refusal c e pruning (length ys) words) 0) (encoded_list (history_in c) e pruning ys) ys

unfoldable pub encode_rows : Case → ℕ → ℕ → ℕ → List ℕ → List ℕ
encode_rows c e pruning places ws = cond (eqb (encode_refusal c e pruning places (length ws)) 0) (encoded_rows (history_in c) e pruning ws) ws

-- Encode's result and both lists
pub record Encodes (c : Case) (e pruning : ℕ) (ys : List Constraint) (ws : List ℕ) (r : Encoding) (zs : List Constraint) (vs : List ℕ) : Type 0 where
  pub result : r ≡ encode_answer c e pruning (length ys) (length ws)
  pub number : number_of r.reply ≡ encode_refusal c e pruning (length ys) (length ws)
  pub list : zs ≡ encode_list c e pruning ys (length ws)
  pub rows : vs ≡ encode_rows c e pruning (length ys) ws

-- what is planned before anything is written: the polygraph, with a place for each constraint among the numbers and in the list, and for its row words
pub record Ready (c : Case) (e pruning places words : ℕ) (t ks : List ℕ) (k : Known) : Type 0 where
  pub low : pruning ≤ 1
  pub plan : Planned (history_in c) e t ks k.rows k.count
  pub writable : Writable k.count places
  pub room : 32 ≤ words

pub record Plans (c : Case) (e pruning places words : ℕ) (t ks : List ℕ) (r : Result Known Refusal) : Type 0 where
  pub number_is : number_of r ≡ encode_refusal c e pruning places words
  pub ready : IfOk r (λ k. Ready c e pruning places words t ks k)
