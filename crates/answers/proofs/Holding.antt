-- What a case holds, as the code finds it: the log, the order, the stage. Assumes nothing.
use Prim.Native.Nat.{ℕ, ◌≤◌, ◌<◌}
use native.Mathlib.Omega.{arith}
use mathlib.Core.Path.{◌≡◌, refl, sym, ap, ap₂, subst, ◌∙◌}
use mathlib.Core.Bool.{Bool, true, false, not, cond, ◌&&◌}
use mathlib.Core.List.{List}
use lib.Dec.{T, eqb, leb, ltb, eqb→eq, leb→le, le→leb, nltb→le}
use lib.ListN.{length, take}
use Rattle.model.specs.Log.{transactions_in, load_number}
use Rattle.model.specs.History.{is_order}
use Rattle.model.specs.Times.{timed_number}
use Rattle.model.proofs.Times.{timed_log}
use Rattle.model.proofs.Basics.{and_l, and_r, true_eq, false_eq, not_intro}
use Rattle.answers.specs.declared.Stage.{Stage}
use Rattle.answers.specs.declared.Stage.TheVariants.{Fresh, Loaded, Ordered, NoOrder}
use Rattle.answers.specs.declared.Clock.{Clock}
use Rattle.answers.specs.Clocks.{times_in}
use Rattle.answers.specs.Stages.{holds_window, claims_order, counted, is_fresh, refused_by}

-- ---- the log and its times

module _ (bytes : List ℕ) (n : ℕ) (k : Clock) where
  abbrev taken : Bool
  taken = eqb (timed_number (take n bytes) (times_in k)) 0

  pub window_none : leb n (length bytes) ≡ false → false ≡ holds_window bytes n k
  unfolding holds_window
  window_none e = sym (ap (λ b. b && (leb k.count 32 && taken)) e)

  pub window_far : leb n (length bytes) ≡ true → leb k.count 32 ≡ false → false ≡ holds_window bytes n k
  unfolding holds_window
  window_far e f = sym (ap₂ (λ b c. b && (c && taken)) e f)

  pub window_some : (x : ℕ) → leb n (length bytes) ≡ true → leb k.count 32 ≡ true → x ≡ timed_number (take n bytes) (times_in k) → eqb x 0 ≡ holds_window bytes n k
  unfolding holds_window
  window_some x e f p = ap (λ y. eqb y 0) p ∙ sym (ap₂ (λ b c. b && (c && taken)) e f)

  module _ (t : T (holds_window bytes n k)) where
    inner : T (leb k.count 32 && taken)
    unfolding holds_window
    inner = and_r (leb n (length bytes)) (leb k.count 32 && taken) t

    pub window_loads : timed_number (take n bytes) (times_in k) ≡ 0
    window_loads = eqb→eq (timed_number (take n bytes) (times_in k)) 0 (and_r (leb k.count 32) taken inner)

    pub log_loads : load_number (take n bytes) ≡ 0
    log_loads = timed_log (take n bytes) (times_in k) window_loads

    pub window_fits : n ≤ length bytes
    unfolding holds_window
    window_fits = leb→le n (length bytes) (and_l (leb n (length bytes)) (leb k.count 32 && taken) t)

    pub clock_fits : k.count ≤ 32
    clock_fits = leb→le k.count 32 (and_l (leb k.count 32) taken inner)

-- ---- the order

pub claims_is : (bytes : List ℕ) (n : ℕ) (order : List ℕ) (m : ℕ) (r : Bool) → m ≡ transactions_in (take n bytes) → r ≡ is_order m (take m order) → r ≡ claims_order bytes n order
unfolding claims_order
claims_is bytes n order m r p e = e ∙ ap (λ k. is_order k (take k order)) p

-- ---- the stage

-- a case that isn't fresh holds a log that Load takes
pub counted_loads : (s : Stage) (loads orders : Bool) → is_fresh (counted s loads orders) ≡ false → T loads
unfolding counted
counted_loads Fresh loads orders e = absurd (subst T e tt)
counted_loads Loaded false orders e = absurd (subst T e tt)
counted_loads Loaded true orders e = tt
counted_loads Ordered false orders e = absurd (subst T e tt)
counted_loads Ordered true orders e = tt
counted_loads NoOrder false orders e = absurd (subst T e tt)
counted_loads NoOrder true orders e = tt

pub counted_ordered : (s : Stage) (loads orders : Bool) → counted s loads orders ≡ Ordered → T orders
unfolding counted
counted_ordered Fresh loads orders e = let z : ◌≡◌ {A = ℕ} 0 1 = cc in absurd (omega arith)
counted_ordered Loaded false orders e = let z : ◌≡◌ {A = ℕ} 0 1 = cc in absurd (omega arith)
counted_ordered Loaded true orders e = let z : ◌≡◌ {A = ℕ} 0 1 = cc in absurd (omega arith)
counted_ordered Ordered false orders e = let z : ◌≡◌ {A = ℕ} 0 1 = cc in absurd (omega arith)
counted_ordered Ordered true false e = let z : ◌≡◌ {A = ℕ} 0 1 = cc in absurd (omega arith)
counted_ordered Ordered true true e = tt
counted_ordered NoOrder false orders e = let z : ◌≡◌ {A = ℕ} 0 1 = cc in absurd (omega arith)
counted_ordered NoOrder true orders e = let z : ◌≡◌ {A = ℕ} 0 1 = cc in absurd (omega arith)

-- ---- the numbers of Order, Table and Bills

pub refused_fresh : (s : Stage) (needed places : ℕ) → is_fresh s ≡ true → 23 ≡ refused_by s needed places
unfolding refused_by
refused_fresh Fresh needed places e = refl
refused_fresh Loaded needed places e = refl
refused_fresh Ordered needed places e = absurd (subst T (sym e) tt)
refused_fresh NoOrder needed places e = absurd (subst T (sym e) tt)

pub record Free (s : Stage) (needed places : ℕ) : Type 0 where
  pub ordered : s ≡ Ordered
  pub room : needed ≤ places

pub refused_none : (s : Stage) (needed places : ℕ) → refused_by s needed places ≡ 0 → Free s needed places
unfolding refused_by
refused_none Fresh needed places e = absurd (omega (arith, e))
refused_none Loaded needed places e = absurd (omega (arith, e))
refused_none NoOrder needed places e = absurd (omega (arith, e))
refused_none Ordered needed places e = record { ordered = refl; room = go (ltb places needed) e (λ t. nltb→le places needed t) }
  where
    go : (b : Bool) → ◌≡◌ {A = ℕ} (cond b 25 0) 0 → (T (not b) → needed ≤ places) → needed ≤ places
    go true p f = absurd (omega (arith, p))
    go false p f = f tt

-- ---- a length as the code tests it

pub over : (n m : ℕ) → m < n → leb n m ≡ false
over n m l = false_eq (leb n m) (not_intro (leb n m) (λ t. omega (arith, leb→le n m t)))

pub under : (n m : ℕ) → n ≤ m → leb n m ≡ true
under n m l = true_eq (leb n m) (le→leb n m l)

pub holds_true : (b : Bool) → b ≡ true → T b
holds_true b e = subst T (sym e) tt
