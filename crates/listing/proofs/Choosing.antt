-- Numbers listed one after another. Assumes nothing.
--     chose_none, chose_one, chose_app     no number, one, and some after others.        chose_all     the first of the places have them.        chose_long     there are as many places
--     each_room        the room of a loop that lists one group after another
--     Going            what is left to list makes the whole: the invariant of a loop that takes the lowest first.        going_next, going_end, going_room
--     members_cleared, row_next, row_room, row_none       the numbers of a row, lowest first
use Prim.Native.Nat.{ℕ, zero, suc, ◌+◌, ◌-◌, ◌*◌, ◌^◌, ◌≤◌, ◌<◌}
use native.Mathlib.Omega.{arith}
use mathlib.Core.Path.{◌≡◌, refl, sym, ap, ap₂, subst, ◌∙◌}
use mathlib.Core.Logic.{⊎_elim, ◌≢◌}
use mathlib.Core.List.{List, [], ◌∷◌, ◌++◌, append-nil, append_assoc}
use lib.Bits.{bit_and}
use lib.Count.{count_trailing_zeros}
use lib.ListN.{length, take, set, length-append, length-set}
use lib.Seq.{take-suc-set}
use Rattle.model.specs.Lists.{each, up_to}
use Rattle.model.proofs.Basics.{same?}
use Rattle.model.proofs.Loops.{each_snoc}
use Rattle.graph.specs.Members.{members}
use Rattle.graph.proofs.WordLaws.{low_cleared}
use Rattle.graph.proofs.MemberLaws.{members_none, members_next}
use Rattle.listing.specs.Choosing.{set_all, Chose, in_row}

pub chose_none : (n : ℕ) (ks : List ℕ) → Chose [] n ks n ks
unfolding set_all
chose_none n ks = record { count = omega arith; list = refl }

pub chose_one : (n c : ℕ) (ks : List ℕ) → Chose (c ∷ []) n ks (n + 1) (set ks n c)
unfolding set_all
chose_one n c ks = record { count = refl; list = refl }

set_app : (xs ys : List ℕ) (n : ℕ) (ks : List ℕ) → set_all (set_all ks n xs) (n + length xs) ys ≡ set_all ks n (xs ++ ys)
unfolding set_all
set_app [] ys n ks = let e : n + 0 ≡ n = omega arith in ap (λ k. set_all ks k ys) e
set_app (x ∷ xs) ys n ks =
    let e : n + suc (length xs) ≡ suc n + length xs = omega arith in
    ap (λ k. set_all (set_all (set ks n x) (suc n) xs) k ys) e ∙ set_app xs ys (suc n) (set ks n x)

pub chose_app : (xs ys : List ℕ) (from n r : ℕ) (ks ls ms : List ℕ) → Chose xs from ks n ls → Chose ys n ls r ms → Chose (xs ++ ys) from ks r ms
chose_app xs ys from n r ks ls ms p q = record {
  count = omega (arith, p.count, q.count, length-append xs ys);
  list = q.list ∙ ap₂ (λ l k. set_all l k ys) p.list p.count ∙ set_app xs ys from ks;
}

-- what stands first stays, and the numbers follow
set_take : (cs : List ℕ) (n : ℕ) (ks : List ℕ) → n + length cs ≤ length ks → take (n + length cs) (set_all ks n cs) ≡ take n ks ++ cs
unfolding set_all
set_take [] n ks l = let z : n + 0 ≡ n = omega arith in ap (λ k. take k ks) z ∙ sym (append-nil (take n ks))
set_take (c ∷ cs) n ks l =
    let z : n + suc (length cs) ≡ suc n + length cs = omega arith in
    ap (λ k. take k (set_all (set ks n c) (suc n) cs)) z
    ∙ set_take cs (suc n) (set ks n c) (omega (arith, length-set ks n c))
    ∙ ap (λ x. x ++ cs) (take-suc-set ks n c (omega arith)) ∙ append_assoc (take n ks) (c ∷ []) cs

pub chose_all : (cs : List ℕ) (r : ℕ) (ks ls : List ℕ) → r ≤ length ks → Chose cs 0 ks r ls → take r ls ≡ cs
chose_all cs r ks ls l c =
    let z : r ≡ 0 + length cs = c.count in
    ap₂ take z c.list ∙ set_take cs 0 ks (omega arith)

set_long : (cs : List ℕ) (n : ℕ) (ks : List ℕ) → length (set_all ks n cs) ≡ length ks
unfolding set_all
set_long [] n ks = refl
set_long (c ∷ cs) n ks = set_long cs (suc n) (set ks n c) ∙ length-set ks n c

pub chose_long : (cs : List ℕ) (from r : ℕ) (ks ls : List ℕ) → Chose cs from ks r ls → length ls ≡ length ks
chose_long cs from r ks ls c = ap length c.list ∙ set_long cs from ks

-- ---- a loop that lists one group after another

each_low : (f : ℕ → List ℕ) (i n : ℕ) → i < n → length (each f (up_to i)) + length (f i) ≤ length (each f (up_to n))
each_low f i zero l = absurd (omega arith)
each_low f i (suc n) l =
    let e : length (each f (up_to (suc n))) ≡ length (each f (up_to n)) + length (f n) = ap length (each_snoc f (up_to n) n) ∙ length-append (each f (up_to n)) (f n) in
    ⊎_elim (λ (z : i ≡ n). rw z (omega arith)) (λ (z : i ≢ n). omega (arith, each_low f i n (omega arith))) (same? i n)

-- with the groups before i listed, there is room for the next where there is for all
pub each_room : (f : ℕ → List ℕ) (i n from r : ℕ) (ks ls : List ℕ) → i < n → Chose (each f (up_to i)) from ks r ls → r + length (f i) ≤ from + length (each f (up_to n))
each_room f i n from r ks ls l c = omega (arith, c.count, each_low f i n l)

-- ---- a loop that takes the lowest first

abbrev pub Going : List ℕ → ℕ → List ℕ → List ℕ → ℕ → List ℕ → Type 0
Going all from ks rest n ls = (r : ℕ) (ms : List ℕ) → Chose rest n ls r ms → Chose all from ks r ms

module _ (all : List ℕ) (from : ℕ) (ks : List ℕ) where
  pub going_next : (rest xs more : List ℕ) (n k : ℕ) (ls ms : List ℕ) → rest ≡ xs ++ more → Going all from ks rest n ls → Chose xs n ls k ms → Going all from ks more k ms
  going_next rest xs more n k ls ms e g c r os d = g r os (subst (λ x. Chose x n ls r os) (sym e) (chose_app xs more n k r ls ms os c d))

  pub going_end : (rest : List ℕ) (n : ℕ) (ls : List ℕ) → rest ≡ [] → Going all from ks rest n ls → Chose all from ks n ls
  going_end rest n ls e g = g n ls (subst (λ x. Chose x n ls n ls) (sym e) (chose_none n ls))

  -- there is room for what comes next where there is for all
  pub going_room : (rest xs more : List ℕ) (n : ℕ) (ls : List ℕ) → rest ≡ xs ++ more → Going all from ks rest n ls → n + length xs ≤ from + length all
  going_room rest xs more n ls e g =
      omega (arith, (g (n + length rest) (set_all ls n rest) (record { count = refl; list = refl })).count, ap length e, length-append xs more)

-- ---- the numbers of a row

pub members_cleared : (w : ℕ) → w < 2 ^ 32 → w ≢ 0 → members w ≡ count_trailing_zeros 32 w ∷ members (bit_and w (w - 1))
members_cleared w l ne = members_next w (bit_and w (w - 1)) l ne (λ s. low_cleared 32 w s ne l)

pub row_next : (row z : ℕ) (js ks : List ℕ) → js ≡ z ∷ ks → in_row row js ≡ ((row * 32 + z) ∷ []) ++ in_row row ks
unfolding in_row
row_next row z js ks e = ap (in_row row) e

-- while columns are left, there is room for the next
pub row_room : {all ks ls : List ℕ} {from n : ℕ} (row m : ℕ) → m < 2 ^ 32 → m ≢ 0 → Going all from ks (in_row row (members m)) n ls → n < from + length all
row_room {all} {ks} {ls} {from} {n} row m l ne g =
    omega (arith, going_room all from ks _ ((row * 32 + count_trailing_zeros 32 m) ∷ []) (in_row row (members (bit_and m (m - 1)))) n ls (row_next row _ _ _ (members_cleared m l ne)) g)

pub row_none : (row m : ℕ) → m ≡ 0 → in_row row (members m) ≡ []
unfolding in_row
row_none row m e = ap (λ x. in_row row (members x)) e ∙ ap (in_row row) members_none
