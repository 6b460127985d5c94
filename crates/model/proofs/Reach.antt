-- Reachability through the row words: `reach` has exactly the paths of one or more edges. Assumes nothing.
use Prim.Native.Nat.{ℕ, zero, suc, ◌≤◌, ◌<◌}
use native.Mathlib.Omega.{arith}
use native.Mathlib.Nat.{not-suc-le-zero}
use mathlib.Core.Path.{◌≡◌, refl, sym, ap, subst}
use mathlib.Core.Logic.{◌⊎◌, inl, inr, ⊎_elim, ◌≢◌}
use mathlib.Core.Bool.{◌&&◌, ◌||◌}
use mathlib.Core.List.{List, [], ◌∷◌, ◌++◌}
use lib.Dec.{T}
use Rattle.model.specs.Lists.{fold, up_to}
use Rattle.model.specs.Polygraph.{has, through, reach, Way}
use Rattle.model.specs.RowWords.{Tidy, Within}
use Rattle.model.proofs.Basics.{eq-T, and_l, and_r, and_in, or_out, or_l, or_r, same?}
use Rattle.model.proofs.Words.{bit_rows, rows_small}

-- one round, at nodes below 32
module _ (g : List ℕ) (m u v : ℕ) (hu : u < 32) (hv : v < 32) where
  pub through_out : T (has (through g m) u v) → T (has g u v) ⊎ (T (has g u m) × T (has g m v))
  unfolding through
  through_out t =
      ⊎_elim (λ a. inl a) (λ a. inr (and_l (has g u m) (has g m v) a, and_r (has g u m) (has g m v) a))
      (or_out (has g u v) (has g u m && has g m v) (eq-T (bit_rows (λ u v. has g u v || (has g u m && has g m v)) u v hu hv) t))

  pub through_old : T (has g u v) → T (has (through g m) u v)
  unfolding through
  through_old t =
      eq-T (sym (bit_rows (λ u v. has g u v || (has g u m && has g m v)) u v hu hv)) (or_l (has g u v) (has g u m && has g m v) t)

  through_new : T (has g u m) → T (has g m v) → T (has (through g m) u v)
  unfolding through
  through_new a b =
      eq-T (sym (bit_rows (λ u v. has g u v || (has g u m && has g m v)) u v hu hv))
      (or_r (has g u v) (has g u m && has g m v) (and_in (has g u m) (has g m v) a b))

-- the rounds 0 to n - 1
abbrev pub rounds : List ℕ → ℕ → List ℕ
rounds g n = fold through g (up_to n)

fold_append : {A S : Type 0} (f : S → A → S) (s : S) (xs ys : List A) → fold f s (xs ++ ys) ≡ fold f (fold f s xs) ys
fold_append f s [] ys = refl
fold_append f s (x ∷ xs) ys = fold_append f (f s x) xs ys

pub rounds_suc : (g : List ℕ) (n : ℕ) → rounds g (suc n) ≡ through (rounds g n) n
rounds_suc g n = fold_append through g (up_to n) (n ∷ [])

rounds_old : (g : List ℕ) (n u v : ℕ) → u < 32 → v < 32 → T (has g u v) → T (has (rounds g n) u v)
rounds_old g zero u v hu hv t = t
rounds_old g (suc n) u v hu hv t =
    subst (λ x. T (has x u v)) (sym (rounds_suc g n)) (through_old (rounds g n) n u v hu hv (rounds_old g n u v hu hv t))

-- transitive through every node below n
rounds_trans : (g : List ℕ) (n : ℕ) → n ≤ 32 → (j u v : ℕ) → j < n → u < 32 → v < 32 → T (has (rounds g n) u j) → T (has (rounds g n) j v) → T (has (rounds g n) u v)
rounds_trans g zero l j u v hj hu hv a b = absurd (not-suc-le-zero hj)
rounds_trans g (suc n) l j u v hj hu hv a b =
    subst (λ x. T (has x u v)) (sym e)
    (⊎_elim
    (λ (i : j ≡ n). at_n (subst (λ y. T (has (through r n) u y)) i a') (subst (λ y. T (has (through r n) y v)) i b'))
    (λ (i : j ≢ n).
    let hn : j < n = omega arith in
    below hn (λ x y p q s t. rounds_trans g n (omega arith) j x y hn p q s t) (through_out r n u j hu (omega arith) a') (through_out r n j v (omega arith) hv b'))
    (same? j n))
  where
    r : List ℕ
    r = rounds g n

    e : rounds g (suc n) ≡ through (rounds g n) n
    e = rounds_suc g n

    a' : T (has (through r n) u j)
    a' = subst (λ x. T (has x u j)) e a

    b' : T (has (through r n) j v)
    b' = subst (λ x. T (has x j v)) e b

    at_n : T (has (through r n) u n) → T (has (through r n) n v) → T (has (through r n) u v)
    at_n p q =
        through_new r n u v hu hv
        (⊎_elim (λ x. x) (λ x. x.0) (through_out r n u n hu (omega arith) p))
        (⊎_elim (λ x. x) (λ x. x.1) (through_out r n n v (omega arith) hv q))

    below : j < n → ((x y : ℕ) → x < 32 → y < 32 → T (has r x j) → T (has r j y) → T (has r x y))
        → T (has r u j) ⊎ (T (has r u n) × T (has r n j)) → T (has r j v) ⊎ (T (has r j n) × T (has r n v)) → T (has (through r n) u v)
    below hn ih (inl p) (inl q) = through_old r n u v hu hv (ih u v hu hv p q)
    below hn ih (inl p) (inr q) = through_new r n u v hu hv (ih u n hu (omega arith) p q.0) q.1
    below hn ih (inr p) (inl q) = through_new r n u v hu hv p.0 (ih n v (omega arith) hv p.1 q)
    below hn ih (inr p) (inr q) = through_new r n u v hu hv p.0 q.1

pub within_tidy : (g : List ℕ) (n : ℕ) → n ≤ 32 → Within g n → Tidy g
within_tidy g n few f u v t = let s = f u v t in (omega arith, omega arith)

pub reach_old : (g : List ℕ) (u v : ℕ) → u < 32 → v < 32 → T (has g u v) → T (has (reach g) u v)
unfolding reach
reach_old g u v hu hv t = rounds_old g 32 u v hu hv t

pub reach_trans : (g : List ℕ) (j u v : ℕ) → j < 32 → u < 32 → v < 32 → T (has (reach g) u j) → T (has (reach g) j v) → T (has (reach g) u v)
unfolding reach
reach_trans g j u v hj hu hv a b = rounds_trans g 32 (omega arith) j u v hj hu hv a b

pub way_small : (g : List ℕ) → Tidy g → (u v : ℕ) → Way g u v → (u < 32) × (v < 32)
way_small g tidy u v (Way.step t) = tidy u v t
way_small g tidy u v (Way.more {v = w} t p) = ((tidy u w t).0, (way_small g tidy w v p).1)

pub way_reach : (g : List ℕ) → Tidy g → (u v : ℕ) → Way g u v → T (has (reach g) u v)
way_reach g tidy u v (Way.step t) = let s = tidy u v t in reach_old g u v s.0 s.1 t
way_reach g tidy u v (Way.more {v = w} t p) =
    let s = tidy u w t in
    reach_trans g w u v s.1 s.0 (way_small g tidy w v p).1 (reach_old g u w s.0 s.1 t) (way_reach g tidy w v p)

-- ---- and the other way

pub way_join : (g : List ℕ) (u v w : ℕ) → Way g u v → Way g v w → Way g u w
way_join g u v w (Way.step t) q = Way.more t q
way_join g u v w (Way.more {v = x} t p) q = Way.more t (way_join g x v w p q)

through_tidy : (g : List ℕ) (m : ℕ) → Tidy (through g m)
unfolding through
through_tidy g m u v t = rows_small (λ u v. has g u v || (has g u m && has g m v)) u v t

through_edge : (g : List ℕ) (m u v : ℕ) → T (has (through g m) u v) → Way g u v
through_edge g m u v t =
    let s = through_tidy g m u v t in
    ⊎_elim (λ a. Way.step a) (λ a. Way.more a.0 (Way.step a.1)) (through_out g m u v s.0 s.1 t)

through_way : (g : List ℕ) (m u v : ℕ) → Way (through g m) u v → Way g u v
through_way g m u v (Way.step t) = through_edge g m u v t
through_way g m u v (Way.more {v = w} t p) = way_join g u w v (through_edge g m u w t) (through_way g m w v p)

fold_way : (ms : List ℕ) (g : List ℕ) (u v : ℕ) → Way (fold through g ms) u v → Way g u v
fold_way [] g u v p = p
fold_way (m ∷ ms) g u v p = through_way g m u v (fold_way ms (through g m) u v p)

pub rounds_way : (g : List ℕ) (n u v : ℕ) → T (has (rounds g n) u v) → Way g u v
rounds_way g n u v t = fold_way (up_to n) g u v (Way.step t)

pub reach_way : (g : List ℕ) (u v : ℕ) → T (has (reach g) u v) → Way g u v
unfolding reach
reach_way g = rounds_way g 32

-- the rounds as a loop makes them
pub rounds_all : (g : List ℕ) (n : ℕ) → n ≡ 32 → rounds g n ≡ reach g
unfolding reach
rounds_all g n e = ap (rounds g) e
