-- The tables of runs, key by key. Assumes nothing.
--     key_idle, key_busy       a key without two runs, and one with
--     Keys         what stands there after the first k keys.        keys_none, keys_next, keys_room, keys_all
use Prim.Native.Nat.{ℕ, ◌+◌, ◌≤◌, ◌<◌}
use native.Mathlib.Omega.{arith}
use native.Mathlib.Numerals.{add-one}
use mathlib.Core.Path.{◌≡◌, refl, sym, ap, ap₂, subst, ◌∙◌}
use mathlib.Core.Bool.{Bool, true, false, cond}
use mathlib.Core.List.{List, []}
use lib.ListN.{length, get_or, set}
use Rattle.model.specs.Lists.{each, fold, up_to}
use Rattle.model.proofs.Loops.{each_snoc, fold_snoc}
use Rattle.graph.specs.Members.{members}
use Rattle.listing.specs.Choosing.{Chose}
use Rattle.listing.specs.Runs.{first_by, words_by, pairs_in, is_few, is_idle, key_words, key_numbers, run_words, run_numbers}
use Rattle.listing.proofs.Choosing.{chose_none, chose_app, each_room}

module _ (e : ℕ) (writers marks : List ℕ) where
  module _ (k : ℕ) where
    abbrev F : ℕ
    F = first_by e writers marks k

    pub idle_few : is_few (get_or writers k 0) ≡ true → is_idle e writers marks k ≡ true
    unfolding is_idle
    idle_few p = ap (λ b. cond b true (is_few F)) p

    pub idle_is : (b : Bool) → is_few (get_or writers k 0) ≡ false → is_few (first_by e writers marks k) ≡ b → is_idle e writers marks k ≡ b
    unfolding is_idle
    idle_is b p q = ap₂ (λ x y. cond x true y) p q

    pub key_idle : (n from : ℕ) (w ks : List ℕ) → is_idle e writers marks k ≡ true → (w ≡ key_words e n writers marks w k) × Chose (key_numbers e writers marks k) from ks from ks
    unfolding key_words key_numbers
    key_idle n from w ks p = (
      sym (ap (λ b. cond b w (words_by e n writers marks k w (members F))) p),
      subst (λ b. Chose (cond b [] (pairs_in k (members F))) from ks from ks) (sym p) (chose_none from ks),
    )

    pub key_busy : (n from r : ℕ) (w x ks ls : List ℕ) → is_idle e writers marks k ≡ false → x ≡ words_by e n writers marks k w (members (first_by e writers marks k))
        → Chose (pairs_in k (members (first_by e writers marks k))) from ks r ls → (x ≡ key_words e n writers marks w k) × Chose (key_numbers e writers marks k) from ks r ls
    unfolding key_words key_numbers
    key_busy n from r w x ks ls p q c = (
      q ∙ sym (ap (λ b. cond b w (words_by e n writers marks k w (members F))) p),
      subst (λ b. Chose (cond b [] (pairs_in k (members F))) from ks r ls) (sym p) c,
    )

  -- after the first k keys: the words x, and the count and the numbers, where w and ks stood
  pub record Keys (n : ℕ) (w ks : List ℕ) (k : ℕ) (x : List ℕ) (r : ℕ) (ls : List ℕ) : Type 0 where
    pub words : x ≡ fold (key_words e n writers marks) w (up_to k)
    pub chose : Chose (each (key_numbers e writers marks) (up_to k)) 0 ks r ls

  module _ (n : ℕ) (w ks : List ℕ) where
    pub keys_none : Keys n w ks 0 w 0 ks
    keys_none = record { words = refl; chose = chose_none 0 ks }

    pub keys_next : (k r q : ℕ) (x y ls ms : List ℕ) → Keys n w ks k x r ls → (y ≡ key_words e n writers marks x k) × Chose (key_numbers e writers marks k) r ls q ms
        → Keys n w ks (k + 1) y q ms
    keys_next k r q x y ls ms s p = record {
      words = p.0 ∙ ap (λ z. key_words e n writers marks z k) s.words ∙ sym (fold_snoc (key_words e n writers marks) w (up_to k) k)
          ∙ ap (λ i. fold (key_words e n writers marks) w (up_to i)) (sym (add-one k));
      chose = subst (λ cs. Chose cs 0 ks q ms) (sym (each_snoc (key_numbers e writers marks) (up_to k) k) ∙ ap (λ i. each (key_numbers e writers marks) (up_to i)) (sym (add-one k)))
          (chose_app (each (key_numbers e writers marks) (up_to k)) (key_numbers e writers marks k) 0 r q ks ls ms s.chose p.1);
    }

    pub keys_room : (k r : ℕ) (x ls : List ℕ) → k < 32 → Keys n w ks k x r ls → r + length (key_numbers e writers marks k) ≤ length (run_numbers e writers marks)
    unfolding run_numbers
    keys_room k r x ls l s = omega (arith, each_room (key_numbers e writers marks) k 32 0 r ks ls l s.chose)

    pub keys_all : (k r : ℕ) (x ls : List ℕ) → k ≡ 32 → Keys n w ks k x r ls → (set x 1024 e ≡ run_words e n writers marks w) × Chose (run_numbers e writers marks) 0 ks r ls
    unfolding run_words run_numbers
    keys_all k r x ls p s = (
      ap (λ z. set z 1024 e) (s.words ∙ ap (λ i. fold (key_words e n writers marks) w (up_to i)) p),
      subst (λ i. Chose (each (key_numbers e writers marks) (up_to i)) 0 ks r ls) p s.chose,
    )
