-- The candidates of a key are the model's list between each two of its runs. Assumes nothing.
--     key_between      where the constraint of each candidate is the model's.        pair_at_lem, chain_at      it is, where the two words have what they should
use Prim.Native.Nat.{ℕ, ◌+◌, ◌*◌, ◌/◌, ◌≤◌, ◌<◌}
use native.Mathlib.Omega.{arith}
use mathlib.Core.Path.{◌≡◌, refl, ap, ap₂, ◌∙◌}
use mathlib.Core.Bool.{Bool, false, ◌&&◌}
use mathlib.Core.List.{List, [], ◌∷◌, ◌++◌, map}
use lib.Dec.{eqb, ltb}
use lib.ListN.{get_or}
use Rattle.model.specs.Lists.{keep, each, up_to, bit}
use Rattle.model.specs.declared.Constraint.{Constraint}
use Rattle.model.specs.History.{History, size}
use Rattle.model.specs.Polygraph.{ends, between}
use Rattle.model.proofs.Basics.{All-every}
use Rattle.graph.specs.Members.{members}
use Rattle.graph.proofs.MemberLaws.{In, members_all, members_are, members_ascend}
use Rattle.listing.specs.Candidates.{row_of, left_of, right_of, ends_by, pair_item, chain_item, plain_item, choose, item_by}
use Rattle.listing.specs.Choosing.{in_row}
use Rattle.listing.specs.Runs.{pairs_of, pairs_in}
use Rattle.listing.proofs.Sequences.{map_map, each_all, keep_keep, keep_cut}
use Rattle.listing.proofs.Pairs.{pairs_map, pairs_on, pairs_each}

-- the number of a candidate
abbrev pub number : ℕ → ℕ → ℕ → ℕ
number k i j = (k * 32 + i) * 32 + j

-- ---- the constraint of a candidate, from the words of the two

module _ (t : List ℕ) (k i j : ℕ) (kl : k < 32) (il : i < 32) (jl : j < 32) where
  abbrev two : ℕ → ℕ → Constraint
  two x y = record { fromA = x; toA = j; fromB = y; toB = i }

  row_is : row_of (number k i j) ≡ k * 32 + i
  row_is = omega arith

  left_is : left_of (number k i j) ≡ i
  left_is = omega arith

  right_is : right_of (number k i j) ≡ j
  right_is = omega arith

  right_word_lem : row_of (number k i j) / 32 * 32 + right_of (number k i j) ≡ k * 32 + j
  right_word_lem = omega arith

  -- in terms of places, for any places
  abbrev pair : ℕ → ℕ → ℕ → ℕ → Constraint
  pair l r x y = record { fromA = ends_by (get_or t x 0) l r; toA = r; fromB = ends_by (get_or t y 0) r l; toB = l }

  abbrev chain : ℕ → ℕ → ℕ → ℕ → Constraint
  chain l r x y = record { fromA = get_or t x 0; toA = r; fromB = get_or t y 0; toB = l }

  abbrev picked : ℕ → Constraint
  picked e = choose (eqb e 2) (chain_item t (number k i j)) (choose (eqb e 0) (plain_item t (number k i j)) (pair_item t (number k i j)))

  pub pair_at_lem : get_or t 1024 0 ≡ 1 → item_by t (number k i j) ≡ record { fromA = ends_by (get_or t (k * 32 + i) 0) i j; toA = j; fromB = ends_by (get_or t (k * 32 + j) 0) j i; toB = i }
  unfolding item_by pair_item
  pair_at_lem e = ap picked e ∙ ap₂ (λ x y. pair (left_of (number k i j)) (right_of (number k i j)) x y) row_is right_word_lem ∙ ap₂ (λ l r. pair l r (k * 32 + i) (k * 32 + j)) left_is right_is

  pub chain_at : get_or t 1024 0 ≡ 2 → item_by t (number k i j) ≡ record { fromA = get_or t (k * 32 + i) 0; toA = j; fromB = get_or t (k * 32 + j) 0; toB = i }
  unfolding item_by chain_item
  chain_at e = ap picked e ∙ ap₂ (λ x y. chain (left_of (number k i j)) (right_of (number k i j)) x y) row_is right_word_lem ∙ ap₂ (λ l r. chain l r (k * 32 + i) (k * 32 + j)) left_is right_is

-- ---- the candidates of a key

module _ (h : History) (few : size h ≤ 32) (k F : ℕ) (first : ℕ → Bool) (last : ℕ → ℕ) (t : List ℕ) (bits : (i : ℕ) → i < 32 → bit F i ≡ first i) (low : (i : ℕ) → size h ≤ i → first i ≡ false) where
  abbrev con : ℕ → ℕ → Constraint
  con i j = record { fromA = ends h k (last i) j; toA = j; fromB = ends h k (last j) i; toB = i }

  abbrev xs : List ℕ
  xs = keep first (up_to (size h))

  members_keep : members F ≡ keep first (up_to (size h))
  members_keep = members_are F first bits ∙ keep_cut first (size h) 32 few low

  rows_are : (ys : List ℕ) → pairs_of (λ i js. map (item_by t) (in_row (k * 32 + i) js)) ys ≡ pairs_of (λ i js. map (λ j. item_by t (number k i j)) js) ys
  unfolding pairs_of in_row
  rows_are [] = refl
  rows_are (i ∷ js) = ap₂ (λ x y. x ++ y) (map_map (item_by t) (λ j. (k * 32 + i) * 32 + j) js) (rows_are js)

  pub key_between : ((i j : ℕ) → In F i → In F j → i < j → item_by t (number k i j) ≡ record { fromA = ends h k (last i) j; toA = j; fromB = ends h k (last j) i; toB = i })
      → map (item_by t) (pairs_in k (members F)) ≡ between h k first last
  unfolding pairs_in between
  key_between item =
      pairs_map (item_by t) (λ i js. in_row (k * 32 + i) js) (members F)
      ∙ rows_are (members F)
      ∙ pairs_on (λ i j. item_by t (number k i j)) con (In F) (members F) (members_ascend F) (members_all F) item
      ∙ pairs_each (λ i js. map (con i) js) (members F) (members_ascend F)
      ∙ ap (λ l. each (λ i. map (con i) (keep (ltb i) l)) l) members_keep
      ∙ each_all (λ i. map (con i) (keep (ltb i) xs)) (λ i. map (con i) (keep (λ j. ltb i j && first j) (up_to (size h)))) xs
      (All-every (λ i. map (con i) (keep (ltb i) xs) ≡ map (con i) (keep (λ j. ltb i j && first j) (up_to (size h)))) (λ i. ap (map (con i)) (keep_keep first (ltb i) (up_to (size h)))) xs)
