-- How candidates' numbers are listed: one after another, in 4,096 places. Assumes nothing.
use Rattle.std.specs.Prelude.{ℕ, suc, ◌+◌, ◌*◌, ◌≡◌, List, [], ◌∷◌, map, length, set}

-- the numbers of a list, from place n on
unfoldable pub set_all : List ℕ → ℕ → List ℕ → List ℕ
set_all ks n [] = ks
set_all ks n (c ∷ cs) = set_all (set ks n c) (suc n) cs

-- the numbers cs are listed after `from` others, where ks stood: r are listed then, and ls stands there
pub record Chose (cs : List ℕ) (from : ℕ) (ks : List ℕ) (r : ℕ) (ls : List ℕ) : Type 0 where
  pub count : r ≡ from + length cs
  pub list : ls ≡ set_all ks from cs

-- the numbers of some columns of a row
unfoldable pub in_row : ℕ → List ℕ → List ℕ
in_row row js = map (λ j. row * 32 + j) js

-- the space that a listing is lent: words for the tables, and places for the numbers
pub record Space (t ks : List ℕ) : Type 0 where
  pub words : length t ≡ 1025
  pub places : length ks ≡ 4096
