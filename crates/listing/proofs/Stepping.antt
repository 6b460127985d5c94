-- The loops over the runs of a key, lowest first: heads, words, pairs. Assumes nothing.
--     low_is, nexts_next, nexts_none      the successors of a key's writes.        few_none, few_some      fewer than two
--     words_next, words_none, pairs_next, pairs_none      the words of a key's runs, and its candidates
use Prim.Native.Nat.{ℕ, suc, ◌+◌, ◌-◌, ◌*◌, ◌^◌, ◌<◌}
use native.Mathlib.Omega.{arith}
use mathlib.Core.Path.{◌≡◌, sym, ap, ◌∙◌}
use mathlib.Core.Logic.{⊎_elim, ◌≢◌}
use mathlib.Core.Bool.{true, not, ◌&&◌}
use mathlib.Core.List.{List, [], ◌∷◌, ◌++◌}
use lib.Dec.{eqb, ltb}
use lib.Bits.{bit_and, bit_or}
use lib.Count.{count_trailing_zeros}
use lib.ListN.{length, get_or, set}
use borrow.Author.Tests.{lt-ltb, le-ltb, eq-eqb, ne_eqb}
use Rattle.model.specs.Lists.{bit}
use Rattle.model.proofs.Basics.{same?}
use Rattle.model.proofs.Masks.{same_bits}
use Rattle.graph.specs.Members.{members}
use Rattle.graph.proofs.MemberLaws.{members_none, members_next}
use Rattle.listing.specs.Choosing.{in_row}
use Rattle.listing.specs.Runs.{low_of, nexts_of, word_by, words_by, pairs_of, pairs_in, is_few}
use Rattle.listing.proofs.Choosing.{members_cleared}

-- ---- heads

pub low_is : (r x : ℕ) → r < 2 ^ 32 → ((s : ℕ) → bit r s ≡ (bit x s && eqb s (count_trailing_zeros 32 x))) → r ≡ low_of x
unfolding low_of
low_is r x l f = same_bits 32 r (λ v. bit x v && eqb v (count_trailing_zeros 32 x)) l (λ i k. f i)

module _ (own : ℕ) (marks : List ℕ) (k : ℕ) where
  pub nexts_next : (w m z r y : ℕ) → members m ≡ z ∷ members r → y ≡ low_of (bit_and (get_or marks (k * 32 + z) 0) own)
      → nexts_of own marks k w (members m) ≡ nexts_of own marks k (bit_or w y) (members r)
  unfolding nexts_of
  nexts_next w m z r y e f = ap (nexts_of own marks k w) e ∙ ap (λ x. nexts_of own marks k (bit_or w x) (members r)) (sym f)

  pub nexts_none : (w m : ℕ) → m ≡ 0 → w ≡ nexts_of own marks k w (members m)
  unfolding nexts_of
  nexts_none w m e = sym (ap (λ x. nexts_of own marks k w (members x)) e ∙ ap (nexts_of own marks k w) members_none)

-- ---- fewer than two

pub few_none : (w : ℕ) → w ≡ 0 → true ≡ is_few w
unfolding is_few
few_none w e = sym (ap (λ x. ltb (length (members x)) 2) e ∙ ap (λ x. ltb (length x) 2) members_none)

pub few_some : (w r : ℕ) → w < 2 ^ 32 → w ≢ 0 → r < w → ((s : ℕ) → bit r s ≡ (bit w s && not (eqb s (count_trailing_zeros 32 w)))) → eqb r 0 ≡ is_few w
unfolding is_few
few_some w r l ne less f =
    let e : length (members w) ≡ suc (length (members r)) = ap length (members_next w r l ne f) in
    ⊎_elim
    (λ (z : r ≡ 0).
    let none : length (members r) ≡ 0 = ap (λ x. length (members x)) z ∙ ap length members_none in
    eq-eqb r 0 z ∙ sym (lt-ltb (length (members w)) 2 (omega arith)))
    (λ (z : r ≢ 0).
    let more : length (members r) ≡ suc (length (members (bit_and r (r - 1)))) = ap length (members_cleared r (omega arith) z) in
    ne_eqb r 0 z ∙ sym (le-ltb (length (members w)) 2 (omega arith)))
    (same? r 0)

-- ---- the words of a key's runs

module _ (e n : ℕ) (writers marks : List ℕ) (k : ℕ) where
  pub words_next : (w : List ℕ) (m z r y : ℕ) → members m ≡ z ∷ members r → y ≡ word_by e n writers marks k z
      → words_by e n writers marks k w (members m) ≡ words_by e n writers marks k (set w (k * 32 + z) y) (members r)
  unfolding words_by
  words_next w m z r y p q = ap (words_by e n writers marks k w) p ∙ ap (λ x. words_by e n writers marks k (set w (k * 32 + z) x) (members r)) (sym q)

  pub words_none : (w : List ℕ) (m : ℕ) → m ≡ 0 → w ≡ words_by e n writers marks k w (members m)
  unfolding words_by
  words_none w m p = sym (ap (λ x. words_by e n writers marks k w (members x)) p ∙ ap (words_by e n writers marks k w) members_none)

-- ---- its candidates

pub pairs_next : (k m z r : ℕ) → members m ≡ z ∷ members r → pairs_in k (members m) ≡ in_row (k * 32 + z) (members r) ++ pairs_in k (members r)
unfolding pairs_in pairs_of
pairs_next k m z r e = ap (pairs_in k) e

pub pairs_none : (k m : ℕ) → m ≡ 0 → pairs_in k (members m) ≡ []
unfolding pairs_in pairs_of
pairs_none k m e = ap (λ x. pairs_in k (members x)) e ∙ ap (pairs_in k) members_none
