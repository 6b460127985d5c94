-- `first_legal` is the first legal order: it is legal, every other legal order stands after it, and where it is none there is none.
-- Assumes nothing.
use Prim.Native.Nat.{ℕ, zero, suc, ◌≤◌, ◌<◌}
use native.Mathlib.Omega.{arith}
use native.Mathlib.Nat.{not-suc-le-zero}
use mathlib.Core.Path.{◌≡◌, refl, sym, ap, subst}
use mathlib.Core.Logic.{◌⊎◌, inl, inr, ⊎_elim, ◌≢◌}
use mathlib.Core.Bool.{Bool, true, false, not, cond, ◌&&◌}
use mathlib.Core.List.{List, [], ◌∷◌, ◌++◌, map}
use mathlib.Core.Option.{Option, none, some}
use lib.Dec.{T, eqb}
use lib.ListN.{length}
use Rattle.model.specs.Lists.{All, keep, each, up_to, count}
use Rattle.model.specs.History.{History, size, is_order, keeps_precedence, every_read_explained, legal}
use Rattle.model.specs.Search.{arrangements, first_of, first_legal, LexLess}
use Rattle.model.proofs.Basics.{and_l, ne_eqb, same?, All-imp, All-every, All-app, All-keep-in, All-keep-out, All-each-in, All-each-out, All-map-in, All-map-out, up_to_in}
use Rattle.model.proofs.Places.{Once, once_tail, count_here, count_there, order_out, order_once, order_length}
use Rattle.model.proofs.Topology.{count_keep, count_up_to}

-- ---- every order is among the arrangements

pub All-count : (Q : ℕ → Type 0) (x : ℕ) (xs : List ℕ) → All Q xs → 1 ≤ count x xs → Q x
All-count Q x [] a l = absurd (not-suc-le-zero l)
All-count Q x (y ∷ xs) a l =
    ⊎_elim (λ (e : y ≡ x). subst Q e a.0) (λ (e : y ≢ x). All-count Q x xs a.1 (omega (arith, count_there y x xs e))) (same? y x)

-- all elements other than x
others : (x : ℕ) (xs o : List ℕ) → Once (x ∷ o) → All (λ y. 1 ≤ count y xs) o → All (λ y. 1 ≤ count y (keep (λ z. not (eqb z x)) xs)) o
others x xs [] once a = tt
others x xs (y ∷ o) once a =
    (subst (λ c. 1 ≤ c) (sym (count_keep (λ z. not (eqb z x)) y xs (ne_eqb differs))) a.0, others x xs o rest a.1)
  where
    differs : y ≢ x
    differs e = omega (arith, once x, count_here x x (y ∷ o) refl, count_here y x o e)

    rest : Once (x ∷ o)
    rest z =
        ⊎_elim
        (λ (e : x ≡ z).
        ⊎_elim (λ (f : y ≡ z). omega (arith, once z, count_here x z (y ∷ o) e, count_here y z o f, count_here x z o e))
        (λ (f : y ≢ z). omega (arith, once z, count_here x z (y ∷ o) e, count_there y z o f, count_here x z o e)) (same? y z))
        (λ (e : x ≢ z).
        ⊎_elim (λ (f : y ≡ z). omega (arith, once z, count_there x z (y ∷ o) e, count_here y z o f, count_there x z o e))
        (λ (f : y ≢ z). omega (arith, once z, count_there x z (y ∷ o) e, count_there y z o f, count_there x z o e)) (same? y z))
        (same? x z)

arranged : (P : List ℕ → Type 0) (m : ℕ) (xs o : List ℕ) → length o ≡ m → Once o → All (λ y. 1 ≤ count y xs) o → All P (arrangements m xs) → P o
unfolding arrangements
arranged P zero xs [] e once a all = all.0
arranged P zero xs (x ∷ o) e once a all = absurd (omega arith)
arranged P (suc m) xs [] e once a all = absurd (omega arith)
arranged P (suc m) xs (x ∷ o) e once a all =
    arranged (λ (o : List ℕ). P (x ∷ o)) m (keep (λ y. not (eqb y x)) xs) o (omega arith) (once_tail x o once) (others x xs o once a.1)
    (All-map-out P (λ (o : List ℕ). x ∷ o) (arrangements m (keep (λ y. not (eqb y x)) xs))
    (All-count (λ x. All P (map (λ (o : List ℕ). x ∷ o) (arrangements m (keep (λ y. not (eqb y x)) xs)))) x xs
    (All-each-out P (λ x. map (λ (o : List ℕ). x ∷ o) (arrangements m (keep (λ y. not (eqb y x)) xs))) xs all) a.0))

-- what holds of every arrangement holds of every order
pub all_orders : (P : List ℕ → Type 0) (n : ℕ) → All P (arrangements n (up_to n)) → (o : List ℕ) → T (is_order n o) → P o
all_orders P n a o t =
    let r = order_out n o t in
    arranged P n (up_to n) o (order_length r) (order_once r)
    (All-imp (λ x. x < n) (λ x. 1 ≤ count x (up_to n)) (λ x l. omega (arith, count_up_to x n l)) o r.small) a

-- ---- the arrangements stand in lexicographic order

abbrev pub Ascending : List ℕ → Type 0
Ascending [] = Unit {0}
Ascending (x ∷ xs) = All (λ y. x < y) xs × Ascending xs

abbrev Sorted : List (List ℕ) → Type 0
Sorted [] = Unit {0}
Sorted (x ∷ xs) = All (LexLess x) xs × Sorted xs

ascending_keep : (p : ℕ → Bool) (xs : List ℕ) → Ascending xs → Ascending (keep p xs)
ascending_keep p [] a = tt
ascending_keep p (x ∷ xs) a =
    go (p x) (All-keep-in (λ y. x < y) p xs (All-imp (λ y. x < y) (λ y. T (p y) → x < y) (λ y l t. l) xs a.0)) (ascending_keep p xs a.1)
  where
    go : (b : Bool) → All (λ y. x < y) (keep p xs) → Ascending (keep p xs) → Ascending (cond b (x ∷ keep p xs) (keep p xs))
    go true r s = (r, s)
    go false r s = s

ascending_snoc : (xs : List ℕ) (n : ℕ) → Ascending xs → All (λ x. x < n) xs → Ascending (xs ++ (n ∷ []))
ascending_snoc [] n a b = (tt, tt)
ascending_snoc (x ∷ xs) n a b = (All-app (λ y. x < y) xs (n ∷ []) a.0 (b.0, tt), ascending_snoc xs n a.1 b.1)

pub ascending_up_to : (n : ℕ) → Ascending (up_to n)
ascending_up_to zero = tt
ascending_up_to (suc n) = ascending_snoc (up_to n) n (ascending_up_to n) (up_to_in (λ x. x < n) n (λ i l. l))

sorted_keep : (p : List ℕ → Bool) (xs : List (List ℕ)) → Sorted xs → Sorted (keep p xs)
sorted_keep p [] a = tt
sorted_keep p (x ∷ xs) a =
    go (p x) (All-keep-in (LexLess x) p xs (All-imp (LexLess x) (λ y. T (p y) → LexLess x y) (λ y l t. l) xs a.0)) (sorted_keep p xs a.1)
  where
    go : (b : Bool) → All (LexLess x) (keep p xs) → Sorted (keep p xs) → Sorted (cond b (x ∷ keep p xs) (keep p xs))
    go true r s = (r, s)
    go false r s = s

sorted_append : (xs ys : List (List ℕ)) → Sorted xs → Sorted ys → All (λ x. All (LexLess x) ys) xs → Sorted (xs ++ ys)
sorted_append [] ys a b c = b
sorted_append (x ∷ xs) ys a b c = (All-app (LexLess x) xs ys a.0 c.0, sorted_append xs ys a.1 b c.1)

sorted_cons : (x : ℕ) (os : List (List ℕ)) → Sorted os → Sorted (map (λ (o : List ℕ). x ∷ o) os)
sorted_cons x [] a = tt
sorted_cons x (o ∷ os) a = (
  All-map-in (LexLess (x ∷ o)) (λ (o : List ℕ). x ∷ o) os (All-imp (LexLess o) (λ p. LexLess (x ∷ o) (x ∷ p)) (λ p l. inr (refl, l)) os a.0),
  sorted_cons x os a.1,
)

-- the arrangements that begin with x, before those that begin with a later number
sorted_each : (f : ℕ → List (List ℕ)) → ((x : ℕ) → Sorted (f x)) → (xs : List ℕ) → Ascending xs
    → Sorted (each (λ x. map (λ (o : List ℕ). x ∷ o) (f x)) xs)
sorted_each f s [] a = tt
sorted_each f s (x ∷ xs) a =
    sorted_append (map (λ (o : List ℕ). x ∷ o) (f x)) (each (λ x. map (λ (o : List ℕ). x ∷ o) (f x)) xs) (sorted_cons x (f x) (s x)) (sorted_each f s xs a.1)
    (All-map-in (λ p. All (LexLess p) (each (λ x. map (λ (o : List ℕ). x ∷ o) (f x)) xs)) (λ (o : List ℕ). x ∷ o) (f x)
    (All-every (λ p. All (LexLess (x ∷ p)) (each (λ x. map (λ (o : List ℕ). x ∷ o) (f x)) xs))
    (λ p.
    All-each-in (LexLess (x ∷ p)) (λ x. map (λ (o : List ℕ). x ∷ o) (f x)) xs
    (All-imp (λ y. x < y) (λ y. All (LexLess (x ∷ p)) (map (λ (o : List ℕ). y ∷ o) (f y)))
    (λ y l. All-map-in (LexLess (x ∷ p)) (λ (o : List ℕ). y ∷ o) (f y) (All-every (λ q. LexLess (x ∷ p) (y ∷ q)) (λ q. inl l) (f y))) xs a.0))
    (f x)))

sorted_arrangements : (m : ℕ) (xs : List ℕ) → Ascending xs → Sorted (arrangements m xs)
unfolding arrangements
sorted_arrangements zero xs a = (tt, tt)
sorted_arrangements (suc m) xs a =
    sorted_each (λ x. arrangements m (keep (λ y. not (eqb y x)) xs))
    (λ x. sorted_arrangements m (keep (λ y. not (eqb y x)) xs) (ascending_keep (λ y. not (eqb y x)) xs a)) xs a

-- ---- the first legal order

pub legal_order : (h : History) (o : List ℕ) → T (legal h o) → T (is_order (size h) o)
unfolding legal
legal_order h o t = and_l (is_order (size h) o) (keeps_precedence h o && every_read_explained h o) t

abbrev pub Found : History → Option (List ℕ) → Type 0
Found h none = (o : List ℕ) → T (legal h o) → ⊥
Found h (some o) = T (legal h o) × ((p : List ℕ) → T (legal h p) → (p ≡ o) ⊎ LexLess o p)

first_found : (h : History) (l : List (List ℕ)) → All (λ o. T (legal h o)) l → Sorted l
    → ((P : List ℕ → Type 0) → All P l → (o : List ℕ) → T (legal h o) → P o) → Found h (first_of l)
first_found h [] a s f = λ o t. f (λ o. ⊥) tt o t
first_found h (o ∷ os) a s f =
    (a.0, λ p t. f (λ p. (p ≡ o) ⊎ LexLess o p) (inl refl, All-imp (LexLess o) (λ p. (p ≡ o) ⊎ LexLess o p) (λ p l. inr l) os s.0) p t)

pub first_legal_lem : (h : History) → Found h (first_legal h)
unfolding first_legal
first_legal_lem h =
    let all = arrangements (size h) (up_to (size h)) in
    first_found h (keep (legal h) all) (All-keep-in (λ o. T (legal h o)) (legal h) all (All-every (λ o. T (legal h o) → T (legal h o)) (λ o t. t) all))
    (sorted_keep (legal h) all (sorted_arrangements (size h) (up_to (size h)) (ascending_up_to (size h))))
    (λ P a o t. all_orders (λ o. T (legal h o) → P o) (size h) (All-keep-out P (legal h) all a) o (legal_order h o t) t)

-- the same, where the answer is known
pub first_some : (h : History) (o : List ℕ) → first_legal h ≡ some o → Found h (some o)
first_some h o e = subst (Found h) e (first_legal_lem h)

pub first_none : (h : History) → first_legal h ≡ none → Found h none
first_none h e = subst (Found h) e (first_legal_lem h)

-- ---- there is one first legal order

lex_asym : (a b : List ℕ) → LexLess a b → LexLess b a → ⊥
lex_asym [] [] p q = p
lex_asym [] (y ∷ b) p q = q
lex_asym (x ∷ a) [] p q = p
lex_asym (x ∷ a) (y ∷ b) p q = go p q (λ i j. lex_asym a b i j)
  where
    go : (x < y) ⊎ ((x ≡ y) × LexLess a b) → (y < x) ⊎ ((y ≡ x) × LexLess b a) → (LexLess a b → LexLess b a → ⊥) → ⊥
    go (inl i) (inl j) ih = omega arith
    go (inl i) (inr j) ih = omega (arith, j.0)
    go (inr i) (inl j) ih = omega (arith, i.0)
    go (inr i) (inr j) ih = ih i.1 j.1

pub found_unique : (h : History) (x y : Option (List ℕ)) → Found h x → Found h y → x ≡ y
found_unique h none none a b = refl
found_unique h none (some p) a b = absurd (a p b.0)
found_unique h (some o) none a b = absurd (b o a.0)
found_unique h (some o) (some p) a b =
    ⊎_elim (λ e. ap {B = Option (List ℕ)} some (sym e))
    (λ l. ⊎_elim (λ e. ap {B = Option (List ℕ)} some e) (λ m. absurd (lex_asym o p l m)) (b.1 o a.0))
    (a.1 p b.0)

-- where no order is legal, there is none
pub first_missing : (h : History) → ((o : List ℕ) → T (legal h o) → ⊥) → first_legal h ≡ none
first_missing h f = found_unique h (first_legal h) none (first_legal_lem h) f

-- a legal order has T numbers
pub legal_length : (h : History) (o : List ℕ) → T (legal h o) → length o ≡ size h
legal_length h o t = order_length (order_out (size h) o (legal_order h o t))

-- the first legal order looks at a history only through its size and its legal orders
pub first_by_lem : (g h : History) → size g ≡ size h → legal g ≡ legal h → first_legal g ≡ first_legal h
unfolding first_legal
first_by_lem g h n l = λ i. first_of (keep (l i) (arrangements (n i) (up_to (n i))))
