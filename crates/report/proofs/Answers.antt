-- What is printed after an order, from a table of writers, is Judge's text. Assumes nothing.
use Prim.Native.Nat.{ℕ, zero, suc, ◌≤◌, ◌<◌}
use native.Mathlib.Omega.{arith}
use mathlib.Core.Path.{◌≡◌, refl, sym, ap, ap₂, ◌∙◌}
use mathlib.Core.Bool.{Bool, not}
use mathlib.Core.List.{List, ◌++◌, map}
use mathlib.Core.Option.{some}
use lib.Dec.{T, eqb}
use lib.ListN.{get_or}
use Rattle.model.specs.Lists.{any, bit, each, up_to, word_of}
use Rattle.model.specs.History.{History, size, writes, replay}
use Rattle.model.specs.Window.{zeros}
use Rattle.model.proofs.Basics.{iff_eq, eq-T, any_up_to_out, any_up_to_in}
use Rattle.model.proofs.Words.{bit_word, word_lt, get_or_up_to}
use Rattle.model.proofs.Legal.{writes_small}
use Rattle.model.proofs.Loops.{any_bit, each_snoc}
use Rattle.report.specs.Text.{order_text, line_if, table_text, marked, found_text}
use Rattle.report.specs.Judge.{written, decided_text}

-- tables agree where the keys written agree
each_below : (f g : ℕ → List ℕ) (n : ℕ) → ((k : ℕ) → k < n → f k ≡ g k) → each f (up_to n) ≡ each g (up_to n)
each_below f g zero e = refl
each_below f g (suc n) e =
    each_snoc f (up_to n) n ∙ ap₂ ◌++◌ (each_below f g n (λ k l. e k (omega arith))) (e n (omega arith)) ∙ sym (each_snoc g (up_to n) n)

found_same : (o : List ℕ) (v w : ℕ → Bool) (table : List ℕ) → ((k : ℕ) → k < 32 → v k ≡ w k) → found_text o v table ≡ found_text o w table
unfolding found_text table_text
found_same o v w table e =
    ap (λ l. order_text o ++ l)
    (each_below (λ k. line_if (v k) k (get_or table k 0)) (λ k. line_if (w k) k (get_or table k 0)) 32 (λ k l. ap (λ b. line_if b k (get_or table k 0)) (e k l)))

-- a word is not 0 where the test holds somewhere
any_word : (n m : ℕ) (p : ℕ → Bool) → m ≤ n → ((i : ℕ) → T (p i) → i < m) → not (eqb (word_of n p) 0) ≡ any p (up_to m)
any_word n m p l below =
    sym (any_bit n (word_of n p) (word_lt n p))
    ∙ iff_eq (any (bit (word_of n p)) (up_to n)) (any p (up_to m))
    (λ t.
    let z = any_up_to_out (bit (word_of n p)) n t in
    let q : T (p z.0) = eq-T (bit_word n p z.0 z.2) z.1 in
    any_up_to_in p m z.0 (below z.0 q) q)
    (λ t.
    let z = any_up_to_out p m t in
    let i : z.0 < n = omega (arith, z.2) in
    any_up_to_in (bit (word_of n p)) n z.0 i (eq-T (sym (bit_word n p z.0 i)) z.1))

-- a table of writers, bit t of word k where t writes k, marks the keys written
pub marked_written : (h : History) → size h ≤ 32 → (k : ℕ) → k < 32 → marked (map (λ x. word_of 32 (λ t. writes h t x)) (up_to 32)) k ≡ written h k
unfolding marked written
marked_written h few k l =
    ap (λ w. not (eqb w 0)) (get_or_up_to (λ x. word_of 32 (λ t. writes h t x)) 0 32 k l)
    ∙ any_word 32 (size h) (λ t. writes h t k) few (λ i t. writes_small h i k t)

-- the text that Judge prints after an order is that of any table of writers that marks the keys written
pub found_is : (h : History) (o : List ℕ) (w : ℕ → Bool) → ((k : ℕ) → k < 32 → w k ≡ written h k) → found_text o w (replay h zeros o) ≡ decided_text h (some o)
unfolding decided_text
found_is h o w keys = found_same o w (written h) (replay h zeros o) keys
