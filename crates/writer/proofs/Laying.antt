-- Rows laid over a buffer, one after another. Assumes nothing.
use Prim.Native.Nat.{ℕ, zero, suc, ◌+◌, ◌-◌, ◌*◌, ◌/◌, ◌%◌, ◌≤◌, ◌<◌}
use native.Mathlib.Omega.{arith}
use native.Mathlib.Numerals.{add-one}
use mathlib.Core.Path.{◌≡◌, refl, sym, ap, ap₂, ◌∙◌}
use mathlib.Core.List.{List, [], ◌∷◌, ◌++◌, append_assoc}
use lib.ListN.{length, take, drop, length-append, length-drop, take-append-drop}
use lib.Seq.{length-take-le, take_at, drop-append-add, drop-drop}
use lib.Dec.{T, ltb, ltb→lt}
use borrow.Rule.Slice.PartMut.{put_mid, Post-is}
use Rattle.model.specs.Lists.{each, up_to}
use Rattle.model.specs.Writing.{sum_of, head_bytes, entry_bytes, body_bytes}
use Rattle.model.proofs.Basics.{all_up_to_out}
use Rattle.model.proofs.Loops.{each_snoc}
use Rattle.model.proofs.Writing.{sum_suc, sum_none, rows_length}
use Rattle.writer.specs.Rows.{over, row_bytes, at, entry_rows, contents_rows, operation_in, body_rows}
use Rattle.writer.specs.Room.{narrow}

pub over_none : (x : List ℕ) (p : ℕ) → over x p [] ≡ x
unfolding over
over_none x p = let e : p + 0 ≡ p = omega arith in ap (λ n. take p x ++ drop n x) e ∙ take-append-drop p x

-- what is laid behind a row makes one longer row
pub over_more : (x row more : List ℕ) (p : ℕ) → p ≤ length x → over (over x p row) (p + length row) more ≡ over x p (row ++ more)
unfolding over
over_more x row more p l =
    let front : List ℕ = take p x ++ row in
    let rest : List ℕ = drop (p + length row) x in
    let len : length front ≡ p + length row = length-append (take p x) row ∙ ap (λ n. n + length row) (length-take-le p x l) in
    let whole : take p x ++ (row ++ rest) ≡ front ++ rest = sym (append_assoc (take p x) row rest) in
    let behind : p + length row + length more ≡ length front + length more = ap (λ n. n + length more) (sym len) in
    let end : p + length row + length more ≡ p + length (row ++ more) = omega (arith, length-append row more) in
    ap₂ (λ u v. u ++ (more ++ v))
    (ap (take (p + length row)) whole ∙ take_at front rest (p + length row) len)
    (ap (drop (p + length row + length more)) whole ∙ ap (λ n. drop n (front ++ rest)) behind ∙ drop-append-add front rest (length more)
    ∙ drop-drop (length more) (p + length row) x ∙ ap (λ n. drop n x) end)
    ∙ append_assoc (take p x) row (more ++ drop (p + length (row ++ more)) x)
    ∙ ap (λ r. take p x ++ r) (sym (append_assoc row more (drop (p + length (row ++ more)) x)))

pub over_length : (x row : List ℕ) (p : ℕ) → p + length row ≤ length x → length (over x p row) ≡ length x
unfolding over
over_length x row p l =
    length-append (take p x) (row ++ drop (p + length row) x)
    ∙ omega (arith, length-take-le p x (omega arith), length-append row (drop (p + length row) x), length-drop (p + length row) x)

-- one row more
pub laid_next : (x rows row rows' y z : List ℕ) (p q : ℕ) → p ≤ length x → y ≡ over x p rows → q ≡ p + length rows → z ≡ over y q row → rows ++ row ≡ rows'
    → z ≡ over x p rows'
laid_next x rows row rows' y z p q l was at-is now_is more =
    now_is ∙ ap₂ (λ u v. over u v row) was at-is ∙ over_more x rows row p l ∙ ap (over x p) more

-- a part that is lent from a place on: what is laid over it is laid over the whole
pub laid_behind : (x row : List ℕ) (p : ℕ) → p ≤ length x → take p x ++ over (drop p x) 0 row ≡ over x p row
unfolding over
laid_behind x row p l =
    let e : 0 + length row ≡ length row = omega arith in
    ap (λ n. take p x ++ (row ++ drop n (drop p x))) e ∙ ap (λ r. take p x ++ (row ++ r)) (drop-drop (length row) p x)

-- ---- the rows of the tables

module _ (cabinets counts : List ℕ) where
  row : ℕ → List ℕ
  row t = entry_bytes (at cabinets t) (at counts t) (sum_of (at counts) t)

  pub entries_none : entry_rows cabinets counts 0 ≡ []
  unfolding entry_rows
  entries_none = refl

  pub entries_next : (t : ℕ) → entry_rows cabinets counts t ++ row_bytes (at cabinets t) (at counts t) (sum_of (at counts) t) ≡ entry_rows cabinets counts (t + 1)
  unfolding entry_rows row
  entries_next t = sym (each_snoc row (up_to t) t) ∙ ap (λ n. each row (up_to n)) (sym (add-one t))

  pub entries_length : (n : ℕ) → length (entry_rows cabinets counts n) ≡ 4 * n
  unfolding entry_rows row
  entries_length n = rows_length row (λ i. refl) n

  pub narrow_out : (n : ℕ) → T (narrow counts n) → (t : ℕ) → t < n → at counts t < 256
  unfolding narrow
  narrow_out n s t l = ltb→lt (at counts t) 256 (all_up_to_out (λ t. ltb (at counts t) 256) n s t l)

  pub narrow_sum : (n : ℕ) → T (narrow counts n) → (t : ℕ) → t ≤ n → sum_of (at counts) t ≤ 255 * t
  narrow_sum n s zero l = omega (arith, sum_none (at counts))
  narrow_sum n s (suc t) l = omega (arith, sum_suc (at counts) t, narrow_sum n s t (omega arith), narrow_out n s t (omega arith))

module _ (kinds keys arguments : List ℕ) where
  body : ℕ → List ℕ
  body i = body_bytes (operation_in kinds keys arguments i)

  pub bodies_none : body_rows kinds keys arguments 0 ≡ []
  unfolding body_rows
  bodies_none = refl

  pub bodies_next : (i : ℕ) → body_rows kinds keys arguments i ++ row_bytes (at kinds i) (at keys i) (at arguments i) ≡ body_rows kinds keys arguments (i + 1)
  unfolding body_rows body
  bodies_next i = sym (each_snoc body (up_to i) i) ∙ ap (λ n. each body (up_to n)) (sym (add-one i))

  pub bodies_length : (n : ℕ) → length (body_rows kinds keys arguments n) ≡ 4 * n
  unfolding body_rows body
  bodies_length n = rows_length body (λ i. refl) n

-- ---- one round of each loop

pub row_put : (x w : List ℕ) (p a b pair : ℕ) → p + 4 ≤ length x → w ≡ row_bytes a b pair → put_mid p (p + 4 - p) x w ≡ over x p (row_bytes a b pair)
unfolding over
row_put x w p a b pair l e = ap₂ (λ u v. take p x ++ (u ++ v)) e (Post-is p (p + 4) x (omega arith))

-- the two bytes of a field
pub pair_bytes : (pair : ℕ) (w : List ℕ) → pair < 65536 → w ≡ (pair % 256) ∷ (pair / 256 % 256) ∷ [] → (at w 0 ≡ pair % 256) × (at w 1 ≡ pair / 256)
pair_bytes pair w l e = (ap (λ r. at r 0) e, ap (λ r. at r 1) e ∙ omega arith)

pub entry_laid : (x y z cabinets counts : List ℕ) (t start : ℕ) → 4 ≤ length x
    → y ≡ over x 4 (entry_rows cabinets counts t) → start ≡ sum_of (at counts) t
    → z ≡ over y (4 + 4 * t) (row_bytes (at cabinets t) (at counts t) start) → z ≡ over x 4 (entry_rows cabinets counts (t + 1))
entry_laid x y z cabinets counts t start l was sum now_is =
    laid_next x (entry_rows cabinets counts t) (row_bytes (at cabinets t) (at counts t) (sum_of (at counts) t)) (entry_rows cabinets counts (t + 1)) y z 4 (4 + 4 * t) l was
    (omega (arith, entries_length cabinets counts t))
    (now_is ∙ ap (λ v. over y (4 + 4 * t) (row_bytes (at cabinets t) (at counts t) v)) sum)
    (entries_next cabinets counts t)

-- T and N, and behind them the entries
pub contents_laid : (x y z cabinets counts : List ℕ) (n m lo hi : ℕ) → lo ≡ n % 256 → hi ≡ n / 256 → y ≡ over x 0 (row_bytes lo hi m)
    → z ≡ over y 4 (entry_rows cabinets counts n) → z ≡ over x 0 (contents_rows cabinets counts n m)
unfolding contents_rows
contents_laid x y z cabinets counts n m lo hi low_is high_is head-is entries-are =
    entries-are
    ∙ ap (λ u. over u 4 (entry_rows cabinets counts n)) (head-is ∙ ap₂ (λ u v. over x 0 (row_bytes u v m)) low_is high_is)
    ∙ over_more x (head_bytes n m) (entry_rows cabinets counts n) 0 (omega arith)

pub contents_length : (cabinets counts : List ℕ) (n m : ℕ) → length (contents_rows cabinets counts n m) ≡ 4 + 4 * n
unfolding contents_rows
contents_length cabinets counts n m =
    length-append (head_bytes n m) (entry_rows cabinets counts n) ∙ omega (arith, entries_length cabinets counts n)

pub body_laid : (x y z kinds keys arguments : List ℕ) (i : ℕ)
    → y ≡ over x 0 (body_rows kinds keys arguments i)
    → z ≡ over y (4 * i) (row_bytes (at kinds i) (at keys i) (at arguments i)) → z ≡ over x 0 (body_rows kinds keys arguments (i + 1))
body_laid x y z kinds keys arguments i was now_is =
    laid_next x (body_rows kinds keys arguments i) (row_bytes (at kinds i) (at keys i) (at arguments i)) (body_rows kinds keys arguments (i + 1)) y z 0 (4 * i) (omega arith) was
    (omega (arith, bodies_length kinds keys arguments i))
    now_is
    (bodies_next kinds keys arguments i)

pub entries_room : (x y cabinets counts : List ℕ) (t n : ℕ) → t ≤ n → 4 + 4 * n ≤ length x → y ≡ over x 4 (entry_rows cabinets counts t) → length y ≡ length x
entries_room x y cabinets counts t n l k e =
    ap length e ∙ over_length x (entry_rows cabinets counts t) 4 (omega (arith, entries_length cabinets counts t))

pub laid_length : (x y row : List ℕ) (p : ℕ) → y ≡ over x p row → p + length row ≤ length x → length y ≡ length x
laid_length x y row p e l = ap length e ∙ over_length x row p l
