-- Lists made of lists. Nothing here knows of tables. Assumes nothing.
use Prim.Native.Nat.{ℕ, zero, suc, ◌+◌, ◌-◌, ◌≤◌}
use native.Mathlib.Omega.{arith}
use mathlib.Core.Path.{◌≡◌, refl, sym, ap, ap₂, ◌∙◌}
use mathlib.Core.Bool.{Bool, true, false, cond, ◌&&◌}
use mathlib.Core.List.{List, [], ◌∷◌, ◌++◌, map, append-nil, append_assoc}
use lib.Dec.{T}
use Rattle.model.specs.Lists.{keep, each, up_to, All}
use Rattle.model.proofs.Basics.{true_eq}
use Rattle.model.proofs.Loops.{keep_snoc, map_snoc}

module _ {A B : Type 0} where
  pub map_app : (f : A → B) (xs ys : List A) → map f (xs ++ ys) ≡ map f xs ++ map f ys
  map_app f [] ys = refl
  map_app f (x ∷ xs) ys = ap (λ l. f x ∷ l) (map_app f xs ys)

  pub map_all : (f g : A → B) (xs : List A) → All (λ x. f x ≡ g x) xs → map f xs ≡ map g xs
  map_all f g [] a = refl
  map_all f g (x ∷ xs) a = ap₂ (λ y l. y ∷ l) a.0 (map_all f g xs a.1)

  pub each_all : (f g : A → List B) (xs : List A) → All (λ x. f x ≡ g x) xs → each f xs ≡ each g xs
  each_all f g [] a = refl
  each_all f g (x ∷ xs) a = ap₂ (λ y l. y ++ l) a.0 (each_all f g xs a.1)

  keep_map : (p : B → Bool) (f : A → B) (xs : List A) → keep p (map f xs) ≡ map f (keep (λ x. p (f x)) xs)
  keep_map p f [] = refl
  keep_map p f (x ∷ xs) = go (p (f x)) (keep_map p f xs)
    where
      go : (b : Bool) → keep p (map f xs) ≡ map f (keep (λ x. p (f x)) xs) → cond b (f x ∷ keep p (map f xs)) (keep p (map f xs)) ≡ map f (cond b (x ∷ keep (λ x. p (f x)) xs) (keep (λ x. p (f x)) xs))
      go true e = ap (λ l. f x ∷ l) e
      go false e = e

module _ {A B C : Type 0} where
  pub map_map : (g : B → C) (f : A → B) (xs : List A) → map g (map f xs) ≡ map (λ x. g (f x)) xs
  map_map g f [] = refl
  map_map g f (x ∷ xs) = ap (λ l. g (f x) ∷ l) (map_map g f xs)

  pub map_each : (g : B → C) (f : A → List B) (xs : List A) → map g (each f xs) ≡ each (λ x. map g (f x)) xs
  map_each g f [] = refl
  map_each g f (x ∷ xs) = map_app g (f x) (each f xs) ∙ ap (λ l. map g (f x) ++ l) (map_each g f xs)

  pub each_map : (f : B → List C) (g : A → B) (xs : List A) → each f (map g xs) ≡ each (λ x. f (g x)) xs
  each_map f g [] = refl
  each_map f g (x ∷ xs) = ap (λ l. f (g x) ++ l) (each_map f g xs)

module _ {A : Type 0} (p : A → Bool) where
  keep_app : (xs ys : List A) → keep p (xs ++ ys) ≡ keep p xs ++ keep p ys
  keep_app [] ys = refl
  keep_app (x ∷ xs) ys = go (p x) (keep_app xs ys)
    where
      go : (b : Bool) → keep p (xs ++ ys) ≡ keep p xs ++ keep p ys → cond b (x ∷ keep p (xs ++ ys)) (keep p (xs ++ ys)) ≡ cond b (x ∷ keep p xs) (keep p xs) ++ keep p ys
      go true e = ap (λ l. x ∷ l) e
      go false e = e

  pub keep_every : (xs : List A) → All (λ x. T (p x)) xs → keep p xs ≡ xs
  keep_every [] a = refl
  keep_every (x ∷ xs) a = ap₂ (λ (b : Bool) l. cond b (x ∷ l) l) (true_eq (p x) a.0) (keep_every xs a.1)

  pub keep_keep : (q : A → Bool) (xs : List A) → keep q (keep p xs) ≡ keep (λ x. q x && p x) xs
  keep_keep q [] = refl
  keep_keep q (x ∷ xs) = go (p x) (keep_keep q xs)
    where
      go : (a : Bool) → keep q (keep p xs) ≡ keep (λ x. q x && p x) xs
          → keep q (cond a (x ∷ keep p xs) (keep p xs)) ≡ cond (q x && a) (x ∷ keep (λ x. q x && p x) xs) (keep (λ x. q x && p x) xs)
      go true e = here (q x)
        where
          here : (c : Bool) → cond c (x ∷ keep q (keep p xs)) (keep q (keep p xs)) ≡ cond (c && true) (x ∷ keep (λ x. q x && p x) xs) (keep (λ x. q x && p x) xs)
          here true = ap (λ l. x ∷ l) e
          here false = e
      go false e = e ∙ none (q x)
        where
          none : (c : Bool) → keep (λ x. q x && p x) xs ≡ cond (c && false) (x ∷ keep (λ x. q x && p x) xs) (keep (λ x. q x && p x) xs)
          none true = refl
          none false = refl

pub up_to_add : (m n : ℕ) → up_to (m + n) ≡ up_to m ++ map (λ j. m + j) (up_to n)
up_to_add m zero = let e : m + 0 ≡ m = omega arith in ap up_to e ∙ sym (append-nil (up_to m))
up_to_add m (suc n) =
    let e : m + suc n ≡ suc (m + n) = omega arith in
    ap up_to e ∙ ap (λ l. l ++ ((m + n) ∷ [])) (up_to_add m n) ∙ append_assoc (up_to m) (map (λ j. m + j) (up_to n)) ((m + n) ∷ [])
    ∙ ap (λ l. up_to m ++ l) (sym (map_snoc (λ j. m + j) (up_to n) n))

-- what fails from m on is not kept from m on
pub keep_cut : (p : ℕ → Bool) (m n : ℕ) → m ≤ n → ((i : ℕ) → m ≤ i → p i ≡ false) → keep p (up_to n) ≡ keep p (up_to m)
keep_cut p m n l f =
    let e : n ≡ m + (n - m) = omega arith in
    ap (λ x. keep p (up_to x)) e ∙ ap (keep p) (up_to_add m (n - m)) ∙ keep_app p (up_to m) (map (λ j. m + j) (up_to (n - m)))
    ∙ ap (λ x. keep p (up_to m) ++ x) (keep_map p (λ j. m + j) (up_to (n - m)) ∙ ap (map (λ j. m + j)) (none (n - m))) ∙ append-nil (keep p (up_to m))
  where
    none : (k : ℕ) → keep (λ j. p (m + j)) (up_to k) ≡ []
    none zero = refl
    none (suc k) =
        keep_snoc (λ j. p (m + j)) (up_to k) k ∙ ap₂ (λ l (b : Bool). l ++ cond b (k ∷ []) []) (none k) (f (m + k) (omega arith))
