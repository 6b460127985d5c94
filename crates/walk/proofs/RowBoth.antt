-- A call that a row of the function's own is lent to, as an array's, and something Copy is passed to beside it, a `&` with the token of its lifetime, from a walk: one step. It says nothing of a crate.
--     calls_both_row   the step: [the row; what is passed owns; its token; Γ] to the same at zs. The operands are read where three items that say nothing stand before Γ, so the positions are those of the context
-- Assumes `Logic`.
use mathlib.Core.Path.{◌≡◌}
use Prim.Native.Nat.{ℕ}
use mathlib.Core.List.{List, [], ◌∷◌}
use lib.ListN.{length}
use seplogic.Ra.Ura.{Ura}
use base.Fraction.{full_share}
use mir.Syntax.{Callee, Lifetime, Place, Opd as Operand, Body, seq, call}
use mir.Val.{Val}
use base.Logic.{ent, sep, id⊢}
use base.Fml.{Lft, GName, Share, Fml, flft, flent}
use prog.Wp.{Env, Calls, Loops}
use types.Logic.{Logic, sem}
use sound.WpLaws.{FmC}
use types.Kit.{Item, ‵, ◌⊛◌, some, later, given, Post, runs, lands, Seq, ◌$◌, move, drop, use1, use3, split, join, pick, learn, fsplit, await}
use types.Run.{Opds}
use types.Tokens.{lft_new, lft_end}
use types.SemTy.{cells, Arr}
use denote.RattleType.{RattleType}
use denote.Memory.{mem}
use denote.Slice.{MutSlice, Room, finally}
use denote.Lend.{Held, lends_slice, slice_back}
use denote.Index.{row, whole_out, whole_in}
use denote.Triple.Call.{calls_from}
use Rattle.walk.proofs.Slices.{lent, counted}
use Rattle.walk.proofs.Both.{LeftBoth}

module _ {M : Type 1} {𝓤 : Ura M} {𝓛 : Logic 𝓤} {K : Type 0} {Γ : List (Item 𝓤)} {E : Env 𝓤 𝓛.H} {C : Calls 𝓤 𝓛.H} {Λ : Loops 𝓤 𝓛.H} {q : Post 𝓤 𝓛.H} where
  open 𝓛 use {H, A}

  pub calls_both_row : K → FmC 𝓤 H 𝓛.laws C → {f : Callee} {xs : List Operand} {d : Place} {rest : Body} {vs : List Val} (R : RattleType) (ℓ : Lifetime) (b o : ℕ) (ys : List R.Denot) → Room R (length ys)
      → (Own : Fml) → ent 𝓤 (sem 𝓛 Own) (sep 𝓤 (sem 𝓛 Own) (sem 𝓛 Own)) → (κ₀ : Lft) (s₀ : Share) (φ : Val → List R.Denot → Type 0)
      → ((ν : ℕ) (δ : GName) → ent 𝓤 (sep 𝓤 (sep 𝓤 (A.lft (ν ∷ []) full_share) (sem 𝓛 ((MutSlice ℓ (ν ∷ []) R).own_val (lent b o δ ys) (counted b o (length ys) ∷ [])))) (sep 𝓤 (sem 𝓛 Own) (A.lft κ₀ s₀))) (C f vs (LeftBoth 𝓛 R (length ys) φ κ₀ s₀ ν δ)))
      → ((i j x : Item 𝓤) → Opds K 𝓛 (i ∷ j ∷ x ∷ Γ) E xs vs)
      → ((v : Val) (zs : List R.Denot) → φ v zs → length zs ≡ length ys → Seq K 𝓛 (‵ (row R full_share zs b o) ∷ ‵ Own ∷ ‵ (flft κ₀ s₀) ∷ Γ) (lands C Λ E d v rest q))
      → Seq K 𝓛 (‵ (row R full_share ys b o) ∷ ‵ Own ∷ ‵ (flft κ₀ s₀) ∷ Γ) (runs C Λ E (seq (call f xs d) rest) q)
  calls_both_row t fm {f} {xs} {d} {rest} {vs} R ℓ b o ys room Own twice κ₀ s₀ φ met os k =
      lft_new t tt (λ ν. move t (1 ∷ []) $ use1 𝓛 (‵ (cells (mem R) ys b o)) (whole_in 𝓛 R ys b o) $
      use1 𝓛 (later (some (λ (δ : GName). ‵ ((MutSlice ℓ (ν ∷ []) R).own_val (lent b o δ ys) (counted b o (length ys) ∷ [])) ⊛ ‵ (flent (ν ∷ []) (Held R (length ys) b o δ))))) (lends_slice 𝓛 R ℓ (ν ∷ []) ys b o room) $ await t tt $ pick t (λ δ. split t $
      -- [the row lent; what is kept of it; ν's token; what is passed; its token; Γ]
      move t (3 ∷ []) $ use1 𝓛 (‵ Own ⊛ ‵ Own) twice $ split t $
      -- [Own; Own; the row lent; what is kept of it; ν's token; the token; Γ]
      move t (4 ∷ 2 ∷ []) $ join t $
      -- [ν and the row; Own; Own; what is kept; the token; Γ]
      move t (1 ∷ 4 ∷ []) $ join t $ move t (1 ∷ 0 ∷ []) $ join t $
      -- [all that is passed; Own; what is kept; Γ]
      calls_from t fm ((‵ (flft (ν ∷ []) full_share) ⊛ ‵ ((MutSlice ℓ (ν ∷ []) R).own_val (lent b o δ ys) (counted b o (length ys) ∷ []))) ⊛ (‵ Own ⊛ ‵ (flft κ₀ s₀))) vs (LeftBoth 𝓛 R (length ys) φ κ₀ s₀ ν δ) (met ν δ) (os _ _ _) (λ v.
      use1 𝓛 (later (some (λ (zs : List R.Denot). given (φ v zs × (length zs ≡ length ys)) (‵ (flft (ν ∷ []) full_share) ⊛ (‵ (flft κ₀ s₀) ⊛ ‵ (finally R δ zs)))))) (id⊢ 𝓤 _) $ await t tt $ pick t (λ zs. learn t (λ p. split t $ lft_end t tt $
      move t (1 ∷ []) $ split t $ move t (2 ∷ 4 ∷ 1 ∷ []) $
      -- [ν is dead; what is kept; the row's last; the token; Own; Γ]
      use3 𝓛 (later (‵ ((Arr (mem R) (length ys)).own_at zs b o))) (slice_back 𝓛 R (ν ∷ []) δ zs (length ys) b o) $ await t tt $ fsplit t $ drop t $ use1 𝓛 (‵ (row R full_share zs b o)) (whole_out 𝓛 R zs b o) $
      move t (0 ∷ 2 ∷ 1 ∷ []) $ k v zs p.0 p.1)))))
