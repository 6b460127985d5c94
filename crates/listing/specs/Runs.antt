-- The tables of runs, as the code fills them: for encoding 1 every write stands for itself, for encoding 2 a head stands for its chain. Assumes nothing.
use Rattle.std.specs.Prelude.{ℕ, zero, suc, ◌+◌, ◌*◌, ◌^◌, Bool, true, cond, ◌&&◌, List, [], ◌∷◌, ◌++◌, eqb, ltb, length, get_or, set}
use Rattle.std.specs.Int.Bits.{bit_and, bit_or, bit_xor}
use Rattle.std.specs.Int.Count.{count_trailing_zeros}
use Rattle.model.specs.Lists.{each, fold, up_to, bit, word_of}
use Rattle.model.specs.History.{History, size, writes}
use Rattle.model.specs.Polygraph.{is_head, tail_within}
use Rattle.graph.specs.Members.{members}
use Rattle.polygraph.specs.Edges.{successors_by}
use Rattle.listing.specs.Choosing.{in_row}

-- ---- those that stand for a run

-- the lowest member of a set, as a set
unfoldable pub low_of : ℕ → ℕ
low_of w = word_of 32 (λ v. bit w v && eqb v (count_trailing_zeros 32 w))

-- the successors of the writes us of key k, where own are the key's writers, with the set w
unfoldable pub nexts_of : ℕ → List ℕ → ℕ → ℕ → List ℕ → ℕ
nexts_of own marks k w us = fold (λ x u. bit_or x (low_of (bit_and (get_or marks (k * 32 + u) 0) own))) w us

-- the heads of key k, whose writers are own: those that are nobody's successor
unfoldable pub head_by : ℕ → List ℕ → ℕ → ℕ
head_by own marks k = bit_xor own (bit_and own (nexts_of own marks k 0 (members own)))

unfoldable pub first_by : ℕ → List ℕ → List ℕ → ℕ → ℕ
first_by e writers marks k = cond (eqb e 2) (head_by (get_or writers k 0) marks k) (get_or writers k 0)

-- ---- the last write of a run, and its word

-- follow the successors
unfoldable pub tail_by : ℕ → List ℕ → ℕ → ℕ → ℕ → ℕ
tail_by n nexts k zero u = u
tail_by n nexts k (suc m) u = cond (ltb (get_or nexts (k * 32 + u) 0) n) (tail_by n nexts k m (get_or nexts (k * 32 + u) 0)) u

unfoldable pub last_by : ℕ → ℕ → List ℕ → ℕ → ℕ → ℕ
last_by e n nexts k g = cond (eqb e 2) (tail_by n nexts k n g) g

-- the readers of the last write p; in encoding 2, where none of them writes the key, the sources of every side from the run
unfoldable pub sources_by : ℕ → ℕ → ℕ → ℕ
sources_by e p readers = cond (eqb e 2) (cond (eqb readers 0) (2 ^ p) readers) readers

-- the word of the run that g stands for
unfoldable pub word_by : ℕ → ℕ → List ℕ → List ℕ → ℕ → ℕ → ℕ
word_by e n writers marks k g =
    sources_by e (last_by e n (successors_by n writers marks) k g) (get_or marks (k * 32 + last_by e n (successors_by n writers marks) k g) 0)

-- the words of the runs gs of a key
unfoldable pub words_by : ℕ → ℕ → List ℕ → List ℕ → ℕ → List ℕ → List ℕ → List ℕ
words_by e n writers marks k w gs = fold (λ x g. set x (k * 32 + g) (word_by e n writers marks k g)) w gs

-- ---- candidates: each two of a key's runs

-- of each two of a list, the first first
unfoldable pub pairs_of : {B : Type 0} → (ℕ → List ℕ → List B) → List ℕ → List B
pairs_of f [] = []
pairs_of f (i ∷ js) = f i js ++ pairs_of f js

unfoldable pub pairs_in : ℕ → List ℕ → List ℕ
pairs_in k gs = pairs_of (λ i js. in_row (k * 32 + i) js) gs

-- fewer than two: then there is no candidate
unfoldable pub is_few : ℕ → Bool
is_few w = ltb (length (members w)) 2

-- ---- a key, and all

-- whether nothing is to be done for a key
unfoldable pub is_idle : ℕ → List ℕ → List ℕ → ℕ → Bool
is_idle e writers marks k = cond (is_few (get_or writers k 0)) true (is_few (first_by e writers marks k))

unfoldable pub key_words : ℕ → ℕ → List ℕ → List ℕ → List ℕ → ℕ → List ℕ
key_words e n writers marks w k = cond (is_idle e writers marks k) w (words_by e n writers marks k w (members (first_by e writers marks k)))

unfoldable pub key_numbers : ℕ → List ℕ → List ℕ → ℕ → List ℕ
key_numbers e writers marks k = cond (is_idle e writers marks k) [] (pairs_in k (members (first_by e writers marks k)))

unfoldable pub run_words : ℕ → ℕ → List ℕ → List ℕ → List ℕ → List ℕ
run_words e n writers marks w = set (fold (key_words e n writers marks) w (up_to 32)) 1024 e

unfoldable pub run_numbers : ℕ → List ℕ → List ℕ → List ℕ
run_numbers e writers marks = each (key_numbers e writers marks) (up_to 32)

-- what the model says of them
unfoldable pub first_of : History → ℕ → ℕ → ℕ → Bool
first_of h e k i = cond (eqb e 2) (is_head h k i) (writes h i k)

unfoldable pub last_of : History → ℕ → ℕ → ℕ → ℕ
last_of h e k i = cond (eqb e 2) (tail_within h k (size h) i) i
