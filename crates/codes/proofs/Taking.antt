-- Laws of what stands where Load takes a window, and where it does not; and of a code with a list beside it, where one test chooses both.
--     where_refused, where_taken   of a number that is Load's: what stands where it is not 0, and where it is
--     chosen_kept, chosen_done, chosen_never   a list is as it was beside a code other than 0; what holds of it beside 0; a code that neither side is
-- Assumes nothing.
use mathlib.Core.Path.{◌≡◌, refl, sym, ap, ◌∙◌}
use mathlib.Core.Logic.{◌≢◌}
use Prim.Native.Nat.{ℕ}
use mathlib.Core.Bool.{Bool, true, false, cond}
use borrow.Author.Tests.{eq-eqb, ne_eqb}
use Rattle.model.specs.Window.{Window, window_number}
use Rattle.codes.specs.Codes.{where_loaded}

module _ (w : Window) (n k : ℕ) (is : n ≡ k) (loads : k ≡ window_number w) where
  pub where_refused : {X : Type 0} (x y : X) → (n ≡ 0 → ⊥) → y ≡ where_loaded w x y
  where_refused x y not0 = sym (ap (λ b. cond b x y) (ne_eqb (window_number w) 0 (λ z. not0 (is ∙ loads ∙ z))))

  pub refused_number : (x : ℕ) → (n ≡ 0 → ⊥) → n ≡ where_loaded w x (window_number w)
  refused_number x not0 = is ∙ loads ∙ where_refused x (window_number w) not0

  pub loads_it : n ≡ 0 → window_number w ≡ 0
  loads_it z = sym loads ∙ sym is ∙ z

  pub where_taken : {X : Type 0} (x y r : X) → n ≡ 0 → r ≡ x → r ≡ where_loaded w x y
  where_taken x y r z e = e ∙ sym (ap (λ b. cond b x y) (eq-eqb (window_number w) 0 (loads_it z)))

module _ {X : Type 0} (n m : ℕ) (x y : X) where
  pub chosen_kept : (b : Bool) → (n ≢ 0 → x ≡ y) → cond b n m ≢ 0 → cond b x y ≡ y
  chosen_kept true kept f = kept f
  chosen_kept false kept f = refl

  pub chosen_done : (P : X → Type 0) (b : Bool) → m ≢ 0 → (n ≡ 0 → P x) → cond b n m ≡ 0 → P (cond b x y)
  chosen_done P true f done z = done z
  chosen_done P false f done z = absurd (f z)

pub chosen_never : (n m k : ℕ) (b : Bool) → n ≢ k → m ≢ k → cond b n m ≢ k
chosen_never n m k true f g = f
chosen_never n m k false f g = g
