-- A call that a `&mut [T]` is lent to, and something Copy is passed to beside it, a `&` with the token of its lifetime, from a walk: one step. It says nothing of a crate.
--     LeftBoth         what a callee's contract gives: after an update, some last list zs, of m elements, with φ v zs, and both tokens
--     result_both      what a contract's `post` gives
--     calls_both       the step: [what the slice owns; its token; what is passed owns; its token; Γ] to the same at zs. The operands are read where four items that say nothing stand before Γ, so the positions are those of the context
-- Assumes `Logic`.
use mathlib.Core.Path.{◌≡◌}
use Prim.Native.Nat.{ℕ}
use mathlib.Core.List.{List, [], ◌∷◌}
use lib.ListN.{length}
use seplogic.Ra.Ura.{Ura}
use base.Fraction.{full_share}
use mir.Syntax.{Callee, Lifetime, Place, Opd as Operand, Body, seq, call}
use mir.Val.{Val}
use base.Logic.{SProp, ent, sep, ex, guard, id⊢}
use base.Fml.{Lft, GName, Share, Fml, ftrue, flft}
use prog.Wp.{Env, Calls, Loops}
use types.Logic.{Logic, sem}
use sound.WpLaws.{FmC}
use types.Kit.{Item, ‵, raw, ◌⊛◌, some, later, given, Post, runs, lands, Seq, ◌$◌, ◌∵◌, !, qed, move, drop, use1, use2, use3, split, join, pick, learn, check, show, await, updating, now as at_once, done}
use types.Run.{Opds}
use types.Tokens.{lft_new, lft_end}
use denote.RattleType.{RattleType}
use denote.Laws.{Is, shows}
use denote.Slice.{MutSlice, Room, finally}
use denote.Steps.{facts, nothing}
use denote.Triple.Call.{calls_from}
use Rattle.walk.proofs.Slices.{lent, counted, LentAgain, lends_again, comes_back}
use Rattle.walk.proofs.Lending.{Answer, Last}

module _ {M : Type 1} {𝓤 : Ura M} (𝓛 : Logic 𝓤) where
  open 𝓛 use {H, A}

  abbrev pub LeftBoth : (R : RattleType) (m : ℕ) → (Val → List R.Denot → Type 0) → Lft → Share → ℕ → GName → Val → SProp 𝓤
  LeftBoth R m φ κ q ν δ v =
      H.⇛ (ex 𝓤 (λ (zs : List R.Denot). guard 𝓤 (φ v zs × (length zs ≡ m)) (sep 𝓤 (A.lft (ν ∷ []) full_share) (sep 𝓤 (A.lft κ q) (sem 𝓛 (finally R δ zs))))))

  module _ where
    pub result_both : (R S : RattleType) (m : ℕ) (κ : Lft) (q : Share) (ν : ℕ) (δ : GName) (E : S.Denot → SProp 𝓤) (Φ : S.Denot → List R.Denot → Type 0) → ((x : S.Denot) → ent 𝓤 (E x) (Last 𝓛 R m (Φ x) δ)) → (v : Val)
        → ent 𝓤 (H.⇛ (ex 𝓤 (λ (x : S.Denot). sep 𝓤 (sep 𝓤 (sep 𝓤 (A.lft κ q) (sep 𝓤 (A.lft (ν ∷ []) full_share) (sem 𝓛 ftrue))) (sem 𝓛 (S.own_val x (v ∷ [])))) (E x)))) (LeftBoth R m (Answer S Φ) κ q ν δ v)
    result_both R S m κ q ν δ E Φ h v =
        qed 𝓛 (later (some (λ (x : S.Denot). ((‵ (flft κ q) ⊛ (‵ (flft (ν ∷ []) full_share) ⊛ ‵ ftrue)) ⊛ ‵ (S.own_val x (v ∷ []))) ⊛ raw (E x))) ∷ []) ∵ updating ! $ await ! tt $ pick ! (λ x. split ! $ move ! (1 ∷ []) $
        use1 𝓛 (some (λ (zs : List R.Denot). given (Φ x zs × (length zs ≡ m)) (‵ (finally R δ zs)))) (h x) $ pick ! (λ zs. learn ! (λ p. move ! (1 ∷ []) $ split ! $ move ! (1 ∷ []) $
        facts ! S (Is S) (shows 𝓛 S) x (v ∷ []) (λ is. split ! $ move ! (1 ∷ []) $ split ! $ move ! (1 ∷ []) $ drop ! $
        at_once ! $ show ! (λ (us : List R.Denot). guard 𝓤 (Answer S Φ v us × (length us ≡ m)) (sep 𝓤 (A.lft (ν ∷ []) full_share) (sep 𝓤 (A.lft κ q) (sem 𝓛 (finally R δ us))))) zs $ check ! ((x, (p.0, is)), p.1) $ done !))))

module _ {M : Type 1} {𝓤 : Ura M} {𝓛 : Logic 𝓤} {K : Type 0} {Γ : List (Item 𝓤)} {E : Env 𝓤 𝓛.H} {C : Calls 𝓤 𝓛.H} {Λ : Loops 𝓤 𝓛.H} {q : Post 𝓤 𝓛.H} where
  open 𝓛 use {H, A}

  pub calls_both : K → FmC 𝓤 H 𝓛.laws C → {f : Callee} {xs : List Operand} {d : Place} {rest : Body} {vs : List Val} (R : RattleType) (ℓ ℓ' : Lifetime) (κ : Lft) (s : Share) (γ : GName) (b o m : ℕ) (ys : List R.Denot) → length ys ≡ m → Room R m
      → (Own : Fml) → ent 𝓤 (sem 𝓛 Own) (sep 𝓤 (sem 𝓛 Own) (sem 𝓛 Own)) → (κ₀ : Lft) (s₀ : Share) (φ : Val → List R.Denot → Type 0)
      → ((ν : ℕ) (δ : GName) → ent 𝓤 (sep 𝓤 (sep 𝓤 (A.lft (ν ∷ []) full_share) (sem 𝓛 ((MutSlice ℓ' (ν ∷ []) R).own_val (lent b o δ ys) (counted b o m ∷ [])))) (sep 𝓤 (sem 𝓛 Own) (A.lft κ₀ s₀))) (C f vs (LeftBoth 𝓛 R m φ κ₀ s₀ ν δ)))
      → ((i j x y : Item 𝓤) → Opds K 𝓛 (i ∷ j ∷ x ∷ y ∷ Γ) E xs vs)
      → ((v : Val) (zs : List R.Denot) → φ v zs → length zs ≡ m → Seq K 𝓛 (‵ ((MutSlice ℓ κ R).own_val (lent b o γ zs) (counted b o m ∷ [])) ∷ ‵ (flft κ s) ∷ ‵ Own ∷ ‵ (flft κ₀ s₀) ∷ Γ) (lands C Λ E d v rest q))
      → Seq K 𝓛 (‵ ((MutSlice ℓ κ R).own_val (lent b o γ ys) (counted b o m ∷ [])) ∷ ‵ (flft κ s) ∷ ‵ Own ∷ ‵ (flft κ₀ s₀) ∷ Γ) (runs C Λ E (seq (call f xs d) rest) q)
  calls_both t fm {f} {xs} {d} {rest} {vs} R ℓ ℓ' κ s γ b o m ys e room Own twice κ₀ s₀ φ met os k =
      lft_new t tt (λ ν. move t (1 ∷ 2 ∷ []) $
      use2 𝓛 (later (some (λ (δ : GName). ‵ ((MutSlice ℓ' (ν ∷ []) R).own_val (lent b o δ ys) (counted b o m ∷ [])) ⊛ ‵ (LentAgain R κ (ν ∷ []) s γ b o m δ ys)))) (lends_again R κ (ν ∷ []) s γ b o m 𝓛 ℓ ℓ' ys) $ await t tt $ pick t (λ δ. split t $
      -- [the slice lent again; what is kept; ν's token; what is passed; its token; Γ]
      move t (3 ∷ []) $ use1 𝓛 (‵ Own ⊛ ‵ Own) twice $ split t $
      -- [Own; Own; the slice lent again; what is kept; ν's token; the token; Γ]
      move t (4 ∷ 2 ∷ []) $ join t $
      -- [ν and the slice; Own; Own; kept; the token; Γ]
      move t (1 ∷ 4 ∷ []) $ join t $ nothing t $ move t (2 ∷ 1 ∷ []) $ join t $
      -- [all that is passed; nothing; Own; what is kept; Γ]
      calls_from t fm ((‵ (flft (ν ∷ []) full_share) ⊛ ‵ ((MutSlice ℓ' (ν ∷ []) R).own_val (lent b o δ ys) (counted b o m ∷ []))) ⊛ (‵ Own ⊛ ‵ (flft κ₀ s₀))) vs (LeftBoth 𝓛 R m φ κ₀ s₀ ν δ) (met ν δ) (os _ _ _ _) (λ v.
      use1 𝓛 (later (some (λ (zs : List R.Denot). given (φ v zs × (length zs ≡ m)) (‵ (flft (ν ∷ []) full_share) ⊛ (‵ (flft κ₀ s₀) ⊛ ‵ (finally R δ zs)))))) (id⊢ 𝓤 _) $ await t tt $ pick t (λ zs. learn t (λ p. split t $ lft_end t tt $
      move t (1 ∷ []) $ split t $ move t (2 ∷ 5 ∷ 1 ∷ []) $ use3 𝓛 (later (‵ ((MutSlice ℓ κ R).own_val (lent b o γ zs) (counted b o m ∷ [])) ⊛ ‵ (flft κ s))) (comes_back R κ (ν ∷ []) s γ b o m 𝓛 ℓ ℓ' ys δ zs e p.1 room) $ await t tt $ split t $
      move t (3 ∷ []) $ drop t $ move t (0 ∷ 1 ∷ 3 ∷ 2 ∷ []) $ k v zs p.0 p.1)))))
