-- Read-backs: the write before each explains it, and a transaction's operations without them, all together and as a loop meets them. Assumes nothing.
use Prim.Native.Nat.{ℕ, zero, suc, ◌+◌, ◌<◌}
use native.Mathlib.Omega.{arith}
use native.Mathlib.Numerals.{add-one}
use mathlib.Core.Path.{◌≡◌, refl, sym, ap, ◌∙◌}
use mathlib.Core.Logic.{◌⊎◌, inl, inr, ⊎_elim}
use mathlib.Core.Bool.{Bool, true, false, not, cond, ◌&&◌, ◌||◌, or-true, or_comm, and-true, and_assoc}
use mathlib.Core.List.{List, [], ◌∷◌, ◌++◌, map}
use lib.Dec.{T, eqb, eqb→eq}
use Rattle.model.specs.Lists.{All, implies, all, any, keep, keep_after, all_after, fold, each, up_to, up_to_element}
use Rattle.model.specs.History.{Operation, History, start, size, last_writer, explained, every_read_explained, sees, every_read_names_what_it_sees, operations_of, is_read, is_write, is_read_back, outward, outward_of, read_backs, keys_once, good_keys, writes, reads}
use Rattle.model.specs.Polygraph.{Constraint, good_read, only, plain_of}
use Rattle.model.proofs.Basics.{eq-T, iff_eq, eq-eqb, all_up_to_in, all_up_to_out, not_intro, and_l, and_r, or_out, or_l, or_r, true_eq, false_eq, ne_eqb, All-imp, All-two, all_out}
use Rattle.model.proofs.Loops.{map_snoc, fold_snoc, any_snoc}
use Rattle.model.proofs.Legal.{each_reads, good_other}

abbrev out : List Operation → Operation → Bool
out earlier o = not (is_read_back earlier o)

abbrev pub written : List Operation → ℕ → Bool
written earlier k = any (λ p. is_write p && eqb p.key k) earlier

read_no_write : (o : Operation) → T (is_read o) → is_write o ≡ false
read_no_write o r = false_eq (is_write o) (ne_eqb (λ (e : o.kind ≡ 1). omega (arith, eqb→eq o.kind 0 r)))

back_reads : (earlier : List Operation) (o : Operation) → T (is_read_back earlier o) → T (is_read o)
unfolding is_read_back
back_reads earlier o t = and_l (is_read o) (written earlier o.key) t

-- what is left out are reads
pub keep_out : (earlier os : List Operation) → keep is_write (keep_after out earlier os) ≡ keep is_write os
keep_out earlier [] = refl
keep_out earlier (o ∷ os) = go (is_read_back earlier o) (back_reads earlier o) (keep_out (o ∷ earlier) os)
  where
    rest : List Operation
    rest = keep_after out (o ∷ earlier) os

    go : (b : Bool) → (T b → T (is_read o)) → keep is_write rest ≡ keep is_write os
        → keep is_write (cond (not b) (o ∷ rest) rest) ≡ cond (is_write o) (o ∷ keep is_write os) (keep is_write os)
    go true r e = e ∙ sym (ap (λ w. cond w (o ∷ keep is_write os) (keep is_write os)) (read_no_write o (r tt)))
    go false r e = ap (λ l. cond (is_write o) (o ∷ l) l) e

-- and nothing more is left out a second time
pub out_out : (e f os : List Operation) → ((k : ℕ) → written e k ≡ written f k) → keep_after out e (keep_after out f os) ≡ keep_after out f os
unfolding is_read_back
out_out e f [] s = refl
out_out e f (o ∷ os) s =
    go (is_read_back f o) (back_reads f o) (ap (λ w. is_read o && w) (s o.key))
    (out_out (o ∷ e) (o ∷ f) os (λ k. ap (λ w. (is_write o && eqb o.key k) || w) (s k)))
    (λ r. out_out e (o ∷ f) os (λ k. s k ∙ sym (ap (λ w. (w && eqb o.key k) || written f k) (read_no_write o r))))
  where
    rest : List Operation
    rest = keep_after out (o ∷ f) os

    go : (b : Bool) → (T b → T (is_read o)) → is_read_back e o ≡ b → keep_after out (o ∷ e) rest ≡ rest → (T (is_read o) → keep_after out e rest ≡ rest)
        → keep_after out e (cond (not b) (o ∷ rest) rest) ≡ cond (not b) (o ∷ rest) rest
    go true r q x y = y (r tt)
    go false r q x y = ap (λ w. cond (not w) (o ∷ keep_after out (o ∷ e) rest) (keep_after out (o ∷ e) rest)) q ∙ ap (λ l. o ∷ l) x

-- ---- each is explained by the write before it

backs_written : (earlier os whole : List Operation) → ((p : Operation → Bool) → T (any p earlier) → T (any p whole))
    → ((p : Operation → Bool) → T (any p os) → T (any p whole)) → All (λ o. T (written whole o.key)) (keep_after is_read_back earlier os)
unfolding is_read_back
backs_written earlier [] whole f g = tt
backs_written earlier (o ∷ os) whole f g =
    go (is_read_back earlier o) (λ t. f (λ p. is_write p && eqb p.key o.key) (and_r (is_read o) (written earlier o.key) t))
    (backs_written (o ∷ earlier) os whole
    (λ p t. ⊎_elim (λ x. g p (or_l (p o) (any p os) x)) (λ x. f p x) (or_out (p o) (any p earlier) t))
    (λ p t. g p (or_r (p o) (any p os) t)))
  where
    rest : List Operation
    rest = keep_after is_read_back (o ∷ earlier) os

    go : (b : Bool) → (T b → T (written whole o.key)) → All (λ o. T (written whole o.key)) rest
        → All (λ o. T (written whole o.key)) (cond b (o ∷ rest) rest)
    go true x r = (x tt, r)
    go false x r = r

-- where the keys are good, a read-back names its own transaction, which writes the key
pub backs_own : (h : History) (t : ℕ) → T (good_keys t (operations_of h t))
    → All (λ o. (o.argument ≡ t) × T (writes h t o.key)) (read_backs (operations_of h t))
unfolding good_keys read_backs writes
backs_own h t g =
    let os = operations_of h t in
    let backs = read_backs os in
    let own = all (λ o. eqb o.argument t) backs in
    All-two (λ o. T (eqb o.argument t)) (λ o. T (written os o.key)) (λ o. (o.argument ≡ t) × T (writes h t o.key))
    (λ o x y. (eqb→eq o.argument t x, y)) backs
    (all_out (λ o. eqb o.argument t) backs
    (and_r (keys_once [] backs) own (and_r (keys_once [] (outward os)) (keys_once [] backs && own) g)))
    (backs_written [] os os (λ p x. absurd x) (λ p x. x))

-- ---- every operation is one of the two

own_plain : (h : History) (t : ℕ) (o : Operation) → o.argument ≡ t → plain_of h t o ≡ []
unfolding plain_of
own_plain h t o e =
    ap (λ b. cond b list []) (false_eq (is_read o && good_read h o.key t o.argument)
    (not_intro (is_read o && good_read h o.key t o.argument) (λ x. good_other h o.key t o.argument (and_r (is_read o) (good_read h o.key t o.argument) x) e)))
  where
    list : List Constraint
    list =
        map (λ v. record { fromA = only t; toA = v; fromB = only v; toB = o.argument })
        (keep (λ v. writes h v o.key && (not (eqb v o.argument) && not (eqb v t))) (up_to (size h)))

parted : (P Q : Operation → Type 0) (earlier os : List Operation) → All P (keep_after out earlier os) → All Q (keep_after is_read_back earlier os)
    → All (λ o. P o ⊎ Q o) os
parted P Q earlier [] a b = tt
parted P Q earlier (o ∷ os) a b = go (is_read_back earlier o) a b (λ x y. parted P Q (o ∷ earlier) os x y)
  where
    outs : List Operation
    outs = keep_after out (o ∷ earlier) os

    backs : List Operation
    backs = keep_after is_read_back (o ∷ earlier) os

    go : (b : Bool) → All P (cond (not b) (o ∷ outs) outs) → All Q (cond b (o ∷ backs) backs)
        → (All P outs → All Q backs → All (λ o. P o ⊎ Q o) os) → (P o ⊎ Q o) × All (λ o. P o ⊎ Q o) os
    go true a b ih = (inr b.0, ih a b.1)
    go false a b ih = (inl a.0, ih a.1 b)

-- a read looks at earlier transactions, or names its own
pub reads_or_own : (h : History) (t : ℕ) → T (good_keys t (operations_of h t))
    → All (λ o. (T (is_read o) → T (reads h t o.key o.argument)) ⊎ (o.argument ≡ t)) (operations_of h t)
unfolding outward read_backs
reads_or_own h t g =
    parted (λ o. T (is_read o) → T (reads h t o.key o.argument)) (λ o. o.argument ≡ t) [] (operations_of h t) (each_reads h t)
    (All-imp (λ o. (o.argument ≡ t) × T (writes h t o.key)) (λ o. o.argument ≡ t) (λ o x. x.0) (read_backs (operations_of h t)) (backs_own h t g))

each_parted : {B : Type 0} (g : Operation → List B) (earlier os : List Operation) → All (λ o. g o ≡ []) (keep_after is_read_back earlier os)
    → each g (keep_after out earlier os) ≡ each g os
each_parted g earlier [] a = refl
each_parted {B} g earlier (o ∷ os) a = go (is_read_back earlier o) a (each_parted g (o ∷ earlier) os)
  where
    outs : List Operation
    outs = keep_after out (o ∷ earlier) os

    backs : List Operation
    backs = keep_after is_read_back (o ∷ earlier) os

    go : (b : Bool) → All (λ o. g o ≡ []) (cond b (o ∷ backs) backs) → (All (λ o. g o ≡ []) backs → each g outs ≡ each g os)
        → each g (cond (not b) (o ∷ outs) outs) ≡ g o ++ each g os
    go true a ih = ih a.1 ∙ ap (λ l. l ++ each g os) (sym a.0)
    go false a ih = ap (λ l. g o ++ l) (ih a)

-- where the keys are good, encoding 0 may go through all operations: a read-back names its own transaction and gives no constraint
pub plain_all : (h : History) (t : ℕ) → T (good_keys t (operations_of h t)) → each (plain_of h t) (outward_of h t) ≡ each (plain_of h t) (operations_of h t)
unfolding outward read_backs
plain_all h t g =
    each_parted (plain_of h t) [] (operations_of h t)
    (All-imp (λ o. (o.argument ≡ t) × T (writes h t o.key)) (λ o. plain_of h t o ≡ []) (λ o x. own_plain h t o x.0) (read_backs (operations_of h t)) (backs_own h t g))

-- what a read-back sees is what it names, so that all reads name what they see where those are explained that look at earlier transactions
sees_parted : (h : History) (o : List ℕ) (t : ℕ) (earlier os : List Operation) → All (λ r. r.argument ≡ t) (keep_after is_read_back earlier os)
    → all (λ r. implies (is_read r) (explained h o t r)) (keep_after out earlier os)
    ≡ all_after (λ earlier r. implies (is_read r) (eqb (sees h o t earlier r) r.argument)) earlier os
unfolding explained sees
sees_parted h o t earlier [] a = refl
sees_parted h o t earlier (r ∷ os) a = go (is_read_back earlier r) a (sees_parted h o t (r ∷ earlier) os)
  where
    outs : List Operation
    outs = keep_after out (r ∷ earlier) os

    backs : List Operation
    backs = keep_after is_read_back (r ∷ earlier) os

    later : Bool
    later = all_after (λ earlier r. implies (is_read r) (eqb (sees h o t earlier r) r.argument)) (r ∷ earlier) os

    own : r.argument ≡ t → implies (is_read r) (eqb t r.argument) ≡ true
    own e = ap (implies (is_read r)) (true_eq (eqb t r.argument) (eq-eqb (sym e))) ∙ or-true (not (is_read r))

    go : (b : Bool) → All (λ r. r.argument ≡ t) (cond b (r ∷ backs) backs)
        → (All (λ r. r.argument ≡ t) backs → all (λ r. implies (is_read r) (explained h o t r)) outs ≡ later)
        → all (λ r. implies (is_read r) (explained h o t r)) (cond (not b) (r ∷ outs) outs)
        ≡ (implies (is_read r) (eqb (cond b t (last_writer h r.key start (up_to_element t o))) r.argument) && later)
    go true a ih = ih a.1 ∙ ap (λ x. x && later) (sym (own a.0))
    go false a ih = ap (λ x. implies (is_read r) (explained h o t r) && x) (ih a)

pub explained_sees : (h : History) → ((t : ℕ) → t < size h → T (good_keys t (operations_of h t))) → (o : List ℕ)
    → every_read_explained h o ≡ every_read_names_what_it_sees h o
unfolding every_read_explained every_read_names_what_it_sees outward read_backs
explained_sees h g o =
    iff_eq (all told (up_to (size h))) (all seen (up_to (size h)))
    (λ x. all_up_to_in seen (size h) (λ t l. eq-T (same t l) (all_up_to_out told (size h) x t l)))
    (λ x. all_up_to_in told (size h) (λ t l. eq-T (sym (same t l)) (all_up_to_out seen (size h) x t l)))
  where
    told : ℕ → Bool
    told t = all (λ r. implies (is_read r) (explained h o t r)) (outward_of h t)

    seen : ℕ → Bool
    seen t = all_after (λ earlier r. implies (is_read r) (eqb (sees h o t earlier r) r.argument)) [] (operations_of h t)

    same : (t : ℕ) → t < size h → told t ≡ seen t
    same t l =
        sees_parted h o t [] (operations_of h t)
        (All-imp (λ o. (o.argument ≡ t) × T (writes h t o.key)) (λ o. o.argument ≡ t) (λ o x. x.0) (read_backs (operations_of h t)) (backs_own h t (g t l)))

-- ---- one operation more

-- f (n - 1), ..., f 1, f 0: what stands before operation n, the nearest first
abbrev pub behind : (ℕ → Operation) → ℕ → List Operation
behind f zero = []
behind f (suc n) = f n ∷ behind f n

pub any_behind : (q : Operation → Bool) (f : ℕ → Operation) (n : ℕ) → any q (behind f n) ≡ any (λ i. q (f i)) (up_to n)
any_behind q f zero = refl
any_behind q f (suc n) =
    ap (λ x. q (f n) || x) (any_behind q f n) ∙ or_comm (q (f n)) (any (λ i. q (f i)) (up_to n)) ∙ sym (any_snoc (λ i. q (f i)) (up_to n) n)

abbrev push : List Operation → Operation → List Operation
push l o = o ∷ l

after_snoc : (p : List Operation → Operation → Bool) (earlier os : List Operation) (y : Operation)
    → keep_after p earlier (os ++ (y ∷ [])) ≡ keep_after p earlier os ++ cond (p (fold push earlier os) y) (y ∷ []) []
after_snoc p earlier [] y = refl
after_snoc p earlier (o ∷ os) y = go (p earlier o) (after_snoc p (o ∷ earlier) os y)
  where
    more : List Operation
    more = keep_after p (o ∷ earlier) (os ++ (y ∷ []))

    rest : List Operation
    rest = keep_after p (o ∷ earlier) os

    end : List Operation
    end = cond (p (fold push (o ∷ earlier) os) y) (y ∷ []) []

    go : (b : Bool) → more ≡ rest ++ end → cond b (o ∷ more) more ≡ cond b (o ∷ rest) rest ++ end
    go true e = ap (λ l. o ∷ l) e
    go false e = e

push_behind : (f : ℕ → Operation) (n : ℕ) → fold push [] (map f (up_to n)) ≡ behind f n
push_behind f zero = refl
push_behind f (suc n) =
    ap (fold push []) (map_snoc f (up_to n) n) ∙ fold_snoc push [] (map f (up_to n)) (f n) ∙ ap (λ l. f n ∷ l) (push_behind f n)

pub outward_next : (f : ℕ → Operation) (n : ℕ)
    → outward (map f (up_to (suc n))) ≡ outward (map f (up_to n)) ++ cond (is_read_back (behind f n) (f n)) [] (f n ∷ [])
unfolding outward
outward_next f n =
    ap outward (map_snoc f (up_to n) n) ∙ after_snoc out [] (map f (up_to n)) (f n)
    ∙ ap (λ l. outward (map f (up_to n)) ++ cond (not (is_read_back l (f n))) (f n ∷ []) []) (push_behind f n)
    ∙ ap (λ l. outward (map f (up_to n)) ++ l) (go (is_read_back (behind f n) (f n)))
  where
    go : (b : Bool) → cond (not b) (f n ∷ []) [] ≡ cond b [] (f n ∷ [])
    go true = refl
    go false = refl

pub all_outward_next : (p : Operation → Bool) (f : ℕ → Operation) (n : ℕ)
    → all p (outward (map f (up_to (suc n)))) ≡ (all p (outward (map f (up_to n))) && (is_read_back (behind f n) (f n) || p (f n)))
all_outward_next p f n = ap (all p) (outward_next f n) ∙ go (is_read_back (behind f n) (f n)) (outward (map f (up_to n)))
  where
    go : (b : Bool) (os : List Operation) → all p (os ++ cond b [] (f n ∷ [])) ≡ (all p os && (b || p (f n)))
    go true [] = refl
    go false [] = and-true (p (f n))
    go b (o ∷ os) = ap (λ x. p o && x) (go b os) ∙ sym (and_assoc (p o) (all p os) (b || p (f n)))

-- ---- all of them, by number

pub all_outward : (p : Operation → Bool) (f : ℕ → Operation) (n : ℕ)
    → all p (outward (map f (up_to n))) ≡ all (λ m. is_read_back (behind f m) (f m) || p (f m)) (up_to n)
unfolding outward
all_outward p f zero = refl
all_outward p f (suc n) =
    all_outward_next p f n ∙ ap (λ x. x && (is_read_back (behind f n) (f n) || p (f n))) (all_outward p f n) ∙ snoc (up_to n)
  where
    q : ℕ → Bool
    q m = is_read_back (behind f m) (f m) || p (f m)

    snoc : (xs : List ℕ) → (all q xs && q n) ≡ all q (xs ++ (n ∷ []))
    snoc [] = sym (and-true (q n))
    snoc (x ∷ xs) = and_assoc (q x) (all q xs) (q n) ∙ ap (λ y. q x && y) (snoc xs)

-- ---- a loop that keeps the keys written so far

-- w says of each key whether one of the first n operations writes it
pub record Wrote (f : ℕ → Operation) (n : ℕ) (w : ℕ → Bool) : Type 0 where
  pub at : (k : ℕ) → w k ≡ written (behind f n) k

pub wrote_none : (f : ℕ → Operation) (w : ℕ → Bool) → ((k : ℕ) → w k ≡ false) → Wrote f 0 w
wrote_none f w e = record { at = e }

pub wrote_next : (f : ℕ → Operation) (n : ℕ) (w v : ℕ → Bool) → Wrote f n w → ((k : ℕ) → v k ≡ (w k || (is_write (f n) && eqb (f n).key k))) → Wrote f (n + 1) v
wrote_next f n w v x e =
    record {
      at = λ k.
          e k ∙ ap (λ y. y || (is_write (f n) && eqb (f n).key k)) (x.at k) ∙ or_comm (written (behind f n) k) (is_write (f n) && eqb (f n).key k)
          ∙ ap (λ m. written (behind f m) k) (sym (add-one n));
    }

-- a read finds its own key among them, itself passed, where it is a read-back
pub wrote_back : (f : ℕ → Operation) (n : ℕ) (w : ℕ → Bool) → Wrote f (n + 1) w → T (is_read (f n)) → w (f n).key ≡ is_read_back (behind f n) (f n)
unfolding is_read_back
wrote_back f n w x r =
    x.at key ∙ ap (λ m. written (behind f m) key) (add-one n) ∙ ap (λ y. (y && eqb key key) || written (behind f n) key) (read_no_write (f n) r)
    ∙ sym (ap (λ y. y && written (behind f n) key) (true_eq (is_read (f n)) r))
  where
    key : ℕ
    key = (f n).key
