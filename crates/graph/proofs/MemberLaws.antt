-- The bits of a word, lowest first: the laws of every loop that takes the lowest bit of a word and clears it. Assumes nothing.
--     members_none, members_next     nothing is left of 0; the lowest comes first, and the rest are those of the word without it.        low_below     the lowest is below 32
--     Looped, looped_none, item_in, item_before, item_next, items_end      a loop through what an iterator gives
--     members_all                    each is a bit of the word.                 members_any      a test of some member
--     members_are                    of a word that is known by its bits.       Ascending, members_ascend
use Rattle.std.proofs.Common.{◌≡◌, ℕ, zero, suc, ◌^◌, ◌<◌, Bool, true, false, cond, not, ◌&&◌, ◌||◌, T, eqb, ◌≢◌, List, [], ◌∷◌, ◌++◌, sym, refl, ap, subst, ◌∙◌, ap₂, ⊎_elim, not-suc-le-zero, arith}
use lib.Count.{count_trailing_zeros}
use Rattle.model.specs.Lists.{any, keep, up_to, bit, All}
use lib.Dec.{eqb→eq}
use Rattle.model.proofs.Basics.{same?, true_eq, false_eq, iff_eq, eq-T, clash, not_intro, or_out, or_r, eq-eqb, ne_eqb, and_l, and_r, and_in, All-imp, All-two, All-keep-in, up_to_in, any_up_to_in, any_up_to_out}
use Rattle.model.proofs.Masks.{bit_none}
use Rattle.model.proofs.Loops.{keep_snoc}
use Rattle.graph.specs.Members.{members}
use Rattle.graph.proofs.WordLaws.{lowest}

-- ---- numbers that pass a test

module _ {A : Type 0} (p q : A → Bool) where
  pub keep_same : (xs : List A) → All (λ x. p x ≡ q x) xs → keep p xs ≡ keep q xs
  keep_same [] a = refl
  keep_same (x ∷ xs) a = ap₂ (λ (b : Bool) l. cond b (x ∷ l) l) a.0 (keep_same xs a.1)

pub keep_none : (p : ℕ → Bool) (n : ℕ) → ((i : ℕ) → i < n → p i ≡ false) → keep p (up_to n) ≡ []
keep_none p zero f = refl
keep_none p (suc n) f =
    keep_snoc p (up_to n) n ∙ ap₂ (λ l (b : Bool). l ++ cond b (n ∷ []) []) (keep_none p n (λ i l. f i (omega arith))) (f n (omega arith))

keep_each : {A : Type 0} (p : A → Bool) (xs : List A) → All (λ x. T (p x)) (keep p xs)
keep_each p [] = tt
keep_each p (x ∷ xs) = go (p x) (λ t. t) (keep_each p xs)
  where
    go : (b : Bool) → (T b → T (p x)) → All (λ x. T (p x)) (keep p xs) → All (λ x. T (p x)) (cond b (x ∷ keep p xs) (keep p xs))
    go true f a = (f tt, a)
    go false f a = a

keep_any : {A : Type 0} (p t : A → Bool) (xs : List A) → any t (keep p xs) ≡ any (λ x. p x && t x) xs
keep_any p t [] = refl
keep_any p t (x ∷ xs) = go (p x) (keep_any p t xs)
  where
    go : (b : Bool) → any t (keep p xs) ≡ any (λ x. p x && t x) xs → any t (cond b (x ∷ keep p xs) (keep p xs)) ≡ ((b && t x) || any (λ x. p x && t x) xs)
    go true e = ap (λ b. t x || b) e
    go false e = e

-- the lowest that passes comes first
keep_first : (p q : ℕ → Bool) (n z : ℕ) → z < n → p z ≡ true → ((i : ℕ) → i < z → p i ≡ false) → ((i : ℕ) → q i ≡ (p i && not (eqb i z)))
    → keep p (up_to n) ≡ z ∷ keep q (up_to n)
keep_first p q zero z l t f g = absurd (not-suc-le-zero l)
keep_first p q (suc n) z l t f g =
    keep_snoc p (up_to n) n
    ∙ ⊎_elim
    (λ (e : z ≡ n).
    let at : q n ≡ false = g n ∙ ap₂ (λ a b. a && not b) (ap p (sym e) ∙ t) (true_eq (eqb n z) (eq-eqb (sym e))) in
    ap₂ (λ l (b : Bool). l ++ cond b (n ∷ []) []) (keep_none p n (λ i k. f i (omega arith))) (ap p (sym e) ∙ t)
    ∙ ap₂ (λ x y. x ∷ y) (sym e)
    (sym (keep_snoc q (up_to n) n ∙ ap₂ (λ l (b : Bool). l ++ cond b (n ∷ []) []) (keep_none q n (λ i k. g i ∙ ap (λ a. a && not (eqb i z)) (f i (omega arith)))) at)))
    (λ (e : z ≢ n).
    ap (λ l. l ++ cond (p n) (n ∷ []) []) (keep_first p q n z (omega arith) t f g)
    ∙ ap (λ (b : Bool). z ∷ (keep q (up_to n) ++ cond b (n ∷ []) [])) (sym (g n ∙ ap (λ b. p n && not b) (false_eq (eqb n z) (ne_eqb (λ k. e (sym k)))) ∙ both (p n)))
    ∙ ap (λ l. z ∷ l) (sym (keep_snoc q (up_to n) n)))
    (same? z n)
  where
    both : (b : Bool) → (b && true) ≡ b
    both true = refl
    both false = refl

-- ---- the members of a set

pub members_none : members 0 ≡ []
unfolding members
members_none = keep_none (bit 0) 32 (λ i l. bit_none i)

pub members_next : (w r : ℕ) → w < 2 ^ 32 → w ≢ 0 → ((s : ℕ) → bit r s ≡ (bit w s && not (eqb s (count_trailing_zeros 32 w)))) → members w ≡ count_trailing_zeros 32 w ∷ members r
unfolding members
members_next w r l ne f =
    let z = lowest 32 w l ne in
    keep_first (bit w) (bit r) 32 (count_trailing_zeros 32 w) z.below z.is_set z.clear f

pub low_below : (w : ℕ) → w < 2 ^ 32 → w ≢ 0 → count_trailing_zeros 32 w < 32
low_below w l ne = (lowest 32 w l ne).below

-- one who is a member
pub record In (w x : ℕ) : Type 0 where
  pub low : x < 32
  pub is : T (bit w x)

pub members_all : (w : ℕ) → All (In w) (members w)
unfolding members
members_all w =
    All-two (λ x. x < 32) (λ x. T (bit w x)) (In w) (λ x l t. record { low = l; is = t }) (keep (bit w) (up_to 32))
    (All-keep-in (λ x. x < 32) (bit w) (up_to 32) (up_to_in (λ x. T (bit w x) → x < 32) 32 (λ x l t. l))) (keep_each (bit w) (up_to 32))

-- the first of those that are left is a member
pub member_first : (w x : ℕ) (xs : List ℕ) → members w ≡ x ∷ xs → In w x
member_first w x xs e = (subst (All (In w)) e (members_all w)).0

pub members_any : (w : ℕ) (t : ℕ → Bool) → any t (members w) ≡ any (λ u. bit w u && t u) (up_to 32)
unfolding members
members_any w t = keep_any (bit w) t (up_to 32)

pub members_are : (w : ℕ) (p : ℕ → Bool) → ((i : ℕ) → i < 32 → bit w i ≡ p i) → members w ≡ keep p (up_to 32)
unfolding members
members_are w p f = keep_same (bit w) p (up_to 32) (up_to_in (λ i. bit w i ≡ p i) 32 f)

-- whether one is a member
member_is : (w s : ℕ) → s < 32 → any (eqb s) (members w) ≡ bit w s
member_is w s l =
    members_any w (eqb s)
    ∙ iff_eq (any (λ u. bit w u && eqb s u) (up_to 32)) (bit w s)
    (λ t.
    let z = any_up_to_out (λ u. bit w u && eqb s u) 32 t in
    subst (λ x. T (bit w x)) (sym (eqb→eq s z.0 (and_r (bit w z.0) (eqb s z.0) z.1))) (and_l (bit w z.0) (eqb s z.0) z.1))
    (λ t. any_up_to_in (λ u. bit w u && eqb s u) 32 s l (and_in (bit w s) (eqb s s) t (eq-eqb {m = s} {n = s} refl)))

-- ---- ascending

abbrev pub Ascending : List ℕ → Type 0
Ascending [] = Unit {0}
Ascending (x ∷ xs) = All (λ y. x < y) xs × Ascending xs

ascending_snoc : (xs : List ℕ) (n : ℕ) → All (λ x. x < n) xs → Ascending xs → Ascending (xs ++ (n ∷ []))
ascending_snoc [] n a s = (tt, tt)
ascending_snoc (x ∷ xs) n a s = (more xs s.0, ascending_snoc xs n a.1 s.1)
  where
    more : (ys : List ℕ) → All (λ y. x < y) ys → All (λ y. x < y) (ys ++ (n ∷ []))
    more [] b = (a.0, tt)
    more (y ∷ ys) b = (b.0, more ys b.1)

up_to_ascend : (n : ℕ) → Ascending (up_to n)
up_to_ascend zero = tt
up_to_ascend (suc n) = ascending_snoc (up_to n) n (up_to_in (λ x. x < n) n (λ i l. l)) (up_to_ascend n)

pub keep_ascend : (p : ℕ → Bool) (xs : List ℕ) → Ascending xs → Ascending (keep p xs)
keep_ascend p [] s = tt
keep_ascend p (x ∷ xs) s = go (p x) (keep_ascend p xs s.1)
  where
    go : (b : Bool) → Ascending (keep p xs) → Ascending (cond b (x ∷ keep p xs) (keep p xs))
    go true r = (All-keep-in (λ y. x < y) p xs (All-imp (λ y. x < y) (λ y. T (p y) → x < y) (λ y l t. l) xs s.0), r)
    go false r = r

pub members_ascend : (w : ℕ) → Ascending (members w)
unfolding members
members_ascend w = keep_ascend (bit w) (up_to 32) (up_to_ascend 32)

-- ---- a loop through what an iterator gives of a set: m holds those that are left, and P holds of the others

module _ (w x r : ℕ) (is : members w ≡ x ∷ members r) where
  split_bit : (s : ℕ) → s < 32 → bit w s ≡ (eqb s x || bit r s)
  split_bit s l = sym (member_is w s l) ∙ ap (any (eqb s)) is ∙ ap (λ b. eqb s x || b) (member_is r s l)

  -- x comes before all that are left
  split_less : (s : ℕ) → In r s → x < s
  split_less s i =
      let a = subst Ascending is (members_ascend w) in
      all_any (λ y. x < y) (members r) a.0 s (eq-T (sym (member_is r s i.low)) i.is)
    where
      all_any : (Q : ℕ → Type 0) (ys : List ℕ) → All Q ys → (s : ℕ) → T (any (eqb s) ys) → Q s
      all_any Q [] a s t = absurd t
      all_any Q (y ∷ ys) a s t = ⊎_elim (λ (e : T (eqb s y)). subst Q (sym (eqb→eq s y e)) a.0) (λ e. all_any Q ys a.1 s e) (or_out (eqb s y) (any (eqb s) ys) t)

module _ (P : ℕ → Type 0) (set : ℕ) where
  pub record Looped (m : ℕ) : Type 0 where
    pub part : (b : ℕ) → In m b → T (bit set b)
    pub done : (b : ℕ) → In set b → T (not (bit m b)) → P b

  pub looped_none : Looped set
  looped_none = record { part = λ b i. i.is; done = λ b i n. absurd (clash (bit set b) i.is n) }

  module _ (m : ℕ) (s : Looped m) where
    module _ (x r : ℕ) (is : members m ≡ x ∷ members r) where
      pub item_in : In set x
      item_in = let i = member_first m x (members r) is in record { low = i.low; is = s.part x i }

      pub item_before : (b : ℕ) → b < x → In set b → P b
      item_before b h i =
          s.done b i
          (not_intro (bit m b)
          (λ t. ⊎_elim (λ (e : T (eqb b x)). let q = eqb→eq b x e in absurd (omega arith)) (λ (e : T (bit r b)). let q = split_less m x r is b (record { low = i.low; is = e }) in absurd (omega arith))
          (or_out (eqb b x) (bit r b) (eq-T (split_bit m x r is b i.low) t))))

      pub item_next : P x → Looped r
      item_next p = record {
        part = λ b i. s.part b (record { low = i.low; is = eq-T (sym (split_bit m x r is b i.low)) (or_r (eqb b x) (bit r b) i.is) });
        done = λ b i n.
            ⊎_elim (λ (e : b ≡ x). subst P (sym e) p)
            (λ (e : b ≢ x).
            s.done b i
            (not_intro (bit m b)
            (λ t. ⊎_elim (λ (q : T (eqb b x)). absurd (e (eqb→eq b x q))) (λ (q : T (bit r b)). clash (bit r b) q n) (or_out (eqb b x) (bit r b) (eq-T (split_bit m x r is b i.low) t)))))
            (same? b x);
      }

    pub items_end : members m ≡ [] → (b : ℕ) → In set b → P b
    items_end e b i = s.done b i (not_intro (bit m b) (λ t. eq-T (sym (member_is m b i.low) ∙ ap (any (eqb b)) e) t))
