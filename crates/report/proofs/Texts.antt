-- Laws of text that grows at its end, and how long each part of Judge's text can be. Assumes nothing.
use Prim.Native.Nat.{ℕ, zero, suc, ◌+◌, ◌*◌, ◌/◌, ◌%◌, ◌-◌, ◌≤◌, ◌<◌}
use native.Mathlib.Omega.{arith}
use native.Mathlib.Numerals.{add-one}
use mathlib.Core.Path.{◌≡◌, refl, sym, ap, ap₂, subst, ◌∙◌}
use mathlib.Core.Bool.{Bool, true, false, cond}
use mathlib.Core.List.{List, [], ◌∷◌, ◌++◌, append_assoc}
use borrow.Author.Tests.{lt-ltb, le-ltb}
use lib.Dec.{ltb}
use lib.ListN.{length, get_or, set, take, drop, length-append, length-set, take-append-drop}
use lib.Seq.{take-suc, take_all, take_at, drop_at, drop-drop, set_split, length-take-le}
use Rattle.model.specs.Lists.{each, up_to}
use Rattle.model.proofs.Loops.{each_snoc}
use Rattle.report.specs.Text.{letters, digits, number_text, step_text, order_text, key_text, line_if, table_text, Wrote, Printed}

-- ---- growing

pub wrote_none : (x : List ℕ) (at : ℕ) → at ≤ length x → Wrote x at [] x at
wrote_none x at l = record { count = omega arith; fits = l; room = refl; whole = sym (take-append-drop at x) }

pub wrote_one : (x : List ℕ) (at b : ℕ) → at < length x → Wrote x at (b ∷ []) (set x at b) (at + 1)
wrote_one x at b l = record {
  count = refl;
  fits = omega arith;
  room = length-set x at b;
  whole = set_split x at b l ∙ ap (λ n. take at x ++ (b ∷ drop n x)) (sym (add-one at));
}

-- the one law of what is added to what was added
pub wrote_two : {x : List ℕ} {at : ℕ} {p y : List ℕ} {r : ℕ} {q z : List ℕ} {s : ℕ} → Wrote x at p y r → Wrote y r q z s → Wrote x at (p ++ q) z s
wrote_two {x} {at} {p} {y} {r} {q} {z} {s} a b =
    record {
      count = omega (arith, a.count, b.count, length-append p q);
      fits = omega (arith, a.room, b.fits);
      room = b.room ∙ a.room;
      whole = b.whole ∙ ap₂ (λ (u v : List ℕ). u ++ (q ++ v)) front behind ∙ append_assoc (take at x) p (q ++ drop s x) ∙ ap (λ (u : List ℕ). take at x ++ u) (sym (append_assoc p q (drop s x)));
    }
  where
    parts : y ≡ (take at x ++ p) ++ drop r x
    parts = a.whole ∙ sym (append_assoc (take at x) p (drop r x))

    long : length (take at x ++ p) ≡ r
    long = omega (arith, a.count, a.fits, length-append (take at x) p, length-take-le at x (omega (arith, a.count, a.fits)))

    front : take r y ≡ take at x ++ p
    front = ap (take r) parts ∙ take_at (take at x ++ p) (drop r x) r long

    behind : drop s y ≡ drop s x
    behind =
        ap (λ n. drop n y) b.count
        ∙ sym (drop-drop (length q) r y)
        ∙ ap (drop (length q)) (ap (drop r) parts ∙ drop_at (take at x ++ p) (drop r x) r long)
        ∙ drop-drop (length q) r x
        ∙ ap (λ n. drop n x) (sym b.count)

pub wrote_as : {x : List ℕ} {at : ℕ} {p q y : List ℕ} {r : ℕ} → p ≡ q → Wrote x at p y r → Wrote x at q y r
wrote_as {x} {at} {p} {q} {y} {r} e w = subst (λ l. Wrote x at l y r) e w

-- a part that ends where the next begins
pub wrote_next : {x : List ℕ} {at : ℕ} {p y : List ℕ} {r : ℕ} {q z : List ℕ} {s : ℕ} {w : List ℕ} → Wrote x at p y r → Wrote y r q z s → p ++ q ≡ w → Wrote x at w z s
wrote_next a b e = wrote_as e (wrote_two a b)

-- what starts at 0 is the whole text
pub printed : {x p q y : List ℕ} {r : ℕ} → Wrote x 0 p y r → p ≡ q → Printed q x y r
printed {x} {p} {q} {y} {r} w e = record {
  count = omega (arith, w.count, ap length e);
  fits = omega (arith, w.fits, w.room);
  part = sym (length-take-le r y (omega (arith, w.fits, w.room)));
  whole = w.whole ∙ ap (λ (l : List ℕ). l ++ drop r x) e;
}

pub printed_as : {p q x y : List ℕ} {r : ℕ} → Printed p x y r → p ≡ q → Printed q x y r
printed_as {p} {q} {x} {y} {r} w e = subst (λ l. Printed l x y r) e w

-- ---- one round more of each loop

pub take_next : (l : List ℕ) (i : ℕ) → i < length l → take i l ++ (get_or l i 0 ∷ []) ≡ take (i + 1) l
take_next l i h = sym (take-suc l i 0 h) ∙ ap (λ n. take n l) (sym (add-one i))

-- of a word, i letters are there
pub word_room : {x : List ℕ} {at : ℕ} (l : List ℕ) (i : ℕ) {y : List ℕ} {r : ℕ} → Wrote x at (take i l) y r → i < length l → at + length l ≤ length x → r < length y
word_room l i w h f =
    let e : length (take i l) ≡ i = length-take-le i l (omega arith) in
    omega (arith, w.count, w.room)

pub word_end : {x : List ℕ} {at : ℕ} (l : List ℕ) (i : ℕ) {y : List ℕ} {r : ℕ} → Wrote x at (take i l) y r → length l ≤ i → Wrote x at l y r
word_end l i w h = wrote_as (take_all i l h) w

pub steps_next : (l : List ℕ) (i : ℕ) → i < length l → each step_text (take i l) ++ step_text (get_or l i 0) ≡ each step_text (take (i + 1) l)
steps_next l i h =
    sym (each_snoc step_text (take i l) (get_or l i 0)) ∙ ap (each step_text) (take_next l i h)

pub table_none : (written : ℕ → Bool) (table : List ℕ) → table_text written table 0 ≡ []
unfolding table_text
table_none written table = refl

pub table_next : (written : ℕ → Bool) (table : List ℕ) (k : ℕ) → table_text written table k ++ line_if (written k) k (get_or table k 0) ≡ table_text written table (k + 1)
unfolding table_text
table_next written table k =
    sym (each_snoc (λ k. line_if (written k) k (get_or table k 0)) (up_to k) k)
    ∙ ap (λ n. each (λ k. line_if (written k) k (get_or table k 0)) (up_to n)) (sym (add-one k))

-- ---- lengths

pub digits_length : (n x : ℕ) → length (digits n x) ≤ n
unfolding digits
digits_length zero x = omega arith
digits_length (suc n) x = go (ltb x 10) (digits_length n (x / 10))
  where
    go : (b : Bool) → length (digits n (x / 10)) ≤ n → length (cond b ((48 + x) ∷ []) (digits n (x / 10) ++ ((48 + x % 10) ∷ []))) ≤ suc n
    go true l = omega arith
    go false l = omega (arith, length-append (digits n (x / 10)) ((48 + x % 10) ∷ []))

-- ---- a number's digits, by cases

pub digits_none : (n x : ℕ) → n ≡ 0 → digits n x ≡ []
unfolding digits
digits_none n x e = ap (λ m. digits m x) e

pub digits_one : (n x : ℕ) → (n ≡ 0 → ⊥) → x < 10 → digits n x ≡ (48 + x % 10) ∷ []
unfolding digits
digits_one zero x f l = absurd (f refl)
digits_one (suc n) x f l =
    let e : x % 10 ≡ x = omega arith in
    ap (λ b. cond b ((48 + x) ∷ []) (digits n (x / 10) ++ ((48 + x % 10) ∷ []))) (lt-ltb x 10 l) ∙ ap (λ y. (48 + y) ∷ []) (sym e)

pub digits_more : (n x : ℕ) → (n ≡ 0 → ⊥) → 10 ≤ x → digits n x ≡ digits (n - 1) (x / 10) ++ ((48 + x % 10) ∷ [])
unfolding digits
digits_more zero x f l = absurd (f refl)
digits_more (suc n) x f l =
    let e : suc n - 1 ≡ n = omega arith in
    ap (λ b. cond b ((48 + x) ∷ []) (digits n (x / 10) ++ ((48 + x % 10) ∷ []))) (le-ltb x 10 l)
    ∙ ap (λ m. digits m (x / 10) ++ ((48 + x % 10) ∷ [])) (sym e)

pub digits_more_length : (n x : ℕ) → (n ≡ 0 → ⊥) → 10 ≤ x → length (digits n x) ≡ length (digits (n - 1) (x / 10)) + 1
digits_more_length n x f l =
    ap length (digits_more n x f l) ∙ length-append (digits (n - 1) (x / 10)) ((48 + x % 10) ∷ [])

-- ---- how long each part can be

pub number_length : (letters : List ℕ) (n : ℕ) → length (number_text letters n) ≤ length letters + 5
unfolding number_text
number_length letters n = omega (arith, length-append letters (digits 5 n), digits_length 5 n)

pub steps_length : (l : List ℕ) (i : ℕ) → length (each step_text (take i l)) ≤ 6 * i
steps_length l zero = omega arith
steps_length [] (suc i) = omega arith
steps_length (x ∷ l) (suc i) =
    omega (arith, length-append (step_text x) (each step_text (take i l)), number_length (letters " ") x, steps_length l i)

pub order_length : (l : List ℕ) (i : ℕ) → length (order_text (take i l)) ≤ 6 + 6 * i
unfolding order_text
order_length l i = omega (arith, length-append (each step_text (take i l)) (10 ∷ []), steps_length l i)

pub key_length : (k v : ℕ) → length (key_text k v) ≤ 22
unfolding key_text
key_length k v =
    let first : List ℕ = letters "key " in
    let second : List ℕ = letters " value " in
    omega (
      arith,
      length-append (number_text first k) (number_text second v ++ (10 ∷ [])),
      length-append (number_text second v) (10 ∷ []),
      number_length first k,
      number_length second v,
    )

pub line_length : (b : Bool) (k v : ℕ) → length (line_if b k v) ≤ 22
unfolding line_if
line_length true k v = key_length k v
line_length false k v = omega arith

pub table_length : (written : ℕ → Bool) (table : List ℕ) (k : ℕ) → length (table_text written table k) ≤ 22 * k
table_length written table zero = omega (arith, ap length (table_none written table))
table_length written table (suc k) =
    let e : length (table_text written table (suc k)) ≡ length (table_text written table k ++ line_if (written k) k (get_or table k 0)) =
    ap length (ap (table_text written table) (sym (add-one k)) ∙ sym (table_next written table k)) in
    omega (
      arith,
      length-append (table_text written table k) (line_if (written k) k (get_or table k 0)),
      line_length (written k) k (get_or table k 0),
      table_length written table k,
    )
