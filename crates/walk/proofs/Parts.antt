-- A row of the function's own that is cut in two, and one that is lent for a call beside a `&mut [T]` that the function was passed. It says nothing of a crate.
--     cut_row, join_row    a row of two lists joined is the row of the first and the rest, as `&mut x[..n]` lends it; and is joined again
--     LeftTwo, result_two      what a callee's contract gives of two slices lent: after an update, some last lists, with φ v zs vs, and both tokens; and what its `post` gives
--     calls_lending_two    the step: [the row; what the slice owns; its token; Γ] to the same at the last lists. The operands are read where three items that say nothing stand before Γ, so the positions are those of the context
-- Assumes `Logic`.
use mathlib.Core.Path.{◌≡◌, refl, sym}
use Prim.Native.Nat.{ℕ}
use mathlib.Core.List.{List, [], ◌∷◌, ◌++◌}
use lib.ListN.{length}
use seplogic.Ra.Ura.{Ura}
use base.Fraction.{full_share}
use mir.Syntax.{Callee, Lifetime, Place, Opd as Operand, Body, seq, call}
use mir.Val.{Val}
use base.Logic.{SProp, ent, sep, ex, guard, id⊢}
use base.Fml.{Lft, GName, Share, ftrue, flft, flent}
use prog.Wp.{Env, Calls, Loops}
use types.Logic.{Logic, sem}
use sound.WpLaws.{FmC}
use types.Kit.{Goal, Item, ‵, raw, ◌⊛◌, some, later, given, Post, runs, lands, Seq, Step, step, ◌$◌, ◌∵◌, !, qed, move, drop, use1, use2, use3, split, join, pick, learn, check, show, rewrite, fsplit, await, updating, now as at_once, done}
use types.Run.{Opds}
use types.Tokens.{lft_new, lft_end}
use types.SemTy.{cells, Arr}
use denote.RattleType.{RattleType}
use denote.Laws.{Is, shows}
use denote.Memory.{mem}
use denote.Slice.{MutSlice, Room, finally}
use denote.Lend.{Held, lends_slice, slice_back}
use denote.Index.{row, whole_out, whole_in}
use denote.Steps.{facts}
use denote.Triple.Call.{calls_from}
use borrow.Table.Elements.{at, cut_app, join_app}
use Rattle.walk.proofs.Slices.{lent, counted, LentAgain, lends_again, comes_back}

module _ {M : Type 1} {𝓤 : Ura M} {𝓛 : Logic 𝓤} {K : Type 0} {Γ : List (Item 𝓤)} {G : Goal 𝓤 𝓛.H} where
  pub cut_row : K → (R : RattleType) (ys us : List R.Denot) (b o : ℕ)
      → Step K 𝓛 (‵ (row R full_share ys b o) ∷ ‵ (cells (mem R) us b (at o (mem R).size (length ys))) ∷ Γ) G (‵ (row R full_share (ys ++ us) b o) ∷ Γ) G
  cut_row t R ys us b o = step (λ z. use1 𝓛 (‵ (cells (mem R) (ys ++ us) b o)) (whole_in 𝓛 R (ys ++ us) b o) $
      use1 𝓛 (‵ (cells (mem R) ys b o) ⊛ ‵ (cells (mem R) us b (at o (mem R).size (length ys)))) (cut_app 𝓛 (mem R) ys us b o) $ split t $ use1 𝓛 (‵ (row R full_share ys b o)) (whole_out 𝓛 R ys b o) $ z)

  pub join_row : K → (R : RattleType) (m : ℕ) (zs us : List R.Denot) → length zs ≡ m → (b o : ℕ)
      → Step K 𝓛 (‵ (row R full_share (zs ++ us) b o) ∷ Γ) G (‵ (row R full_share zs b o) ∷ ‵ (cells (mem R) us b (at o (mem R).size m)) ∷ Γ) G
  join_row t R m zs us e b o = step (λ z. use1 𝓛 (‵ (cells (mem R) zs b o)) (whole_in 𝓛 R zs b o) $
      rewrite t 1 (λ (k : ℕ). ‵ (cells (mem R) us b (at o (mem R).size k))) (sym e) refl $
      use2 𝓛 (‵ (cells (mem R) (zs ++ us) b o)) (join_app 𝓛 (mem R) zs us b o) $ use1 𝓛 (‵ (row R full_share (zs ++ us) b o)) (whole_out 𝓛 R (zs ++ us) b o) $ z)

-- the machine value v is that of a result x of S, of which and of the last lists Φ holds
abbrev pub AnswerTwo : (S : RattleType) {X Y : Type 0} → (S.Denot → List X → List Y → Type 0) → Val → List X → List Y → Type 0
AnswerTwo S Φ v zs vs = (x : S.Denot) × (Φ x zs vs × Is S x (v ∷ []))

module _ {M : Type 1} {𝓤 : Ura M} (𝓛 : Logic 𝓤) (R R₁ : RattleType) (m m₁ : ℕ) where
  open 𝓛 use {H, A}

  abbrev Lists : Type 0
  Lists = List R.Denot × List R₁.Denot

  abbrev Said : (List R.Denot → List R₁.Denot → Type 0) → Lists → Type 0
  Said φ p = φ p.0 p.1 × ((length p.0 ≡ m) × (length p.1 ≡ m₁))

  abbrev pub LeftTwo : (Val → List R.Denot → List R₁.Denot → Type 0) → ℕ → ℕ → GName → GName → Val → SProp 𝓤
  LeftTwo φ ν ν₁ δ δ₁ v =
      H.⇛ (ex 𝓤 (λ (p : Lists). guard 𝓤 (Said (φ v) p) (sep 𝓤 (A.lft (ν ∷ []) full_share) (sep 𝓤 (A.lft (ν₁ ∷ []) full_share) (sep 𝓤 (sem 𝓛 (finally R δ p.0)) (sem 𝓛 (finally R₁ δ₁ p.1)))))))

  -- the same before the update, of the last lists alone
  abbrev pub LastTwo : (List R.Denot → List R₁.Denot → Type 0) → GName → GName → SProp 𝓤
  LastTwo Φ δ δ₁ = ex 𝓤 (λ (p : Lists). guard 𝓤 (Said Φ p) (sep 𝓤 (sem 𝓛 (finally R δ p.0)) (sem 𝓛 (finally R₁ δ₁ p.1))))

  module _ where
    pub result_two : (S : RattleType) (ν ν₁ : ℕ) (δ δ₁ : GName) (E : S.Denot → SProp 𝓤) (Φ : S.Denot → List R.Denot → List R₁.Denot → Type 0) → ((x : S.Denot) → ent 𝓤 (E x) (LastTwo (Φ x) δ δ₁)) → (v : Val)
        → ent 𝓤 (H.⇛ (ex 𝓤 (λ (x : S.Denot). sep 𝓤 (sep 𝓤 (sep 𝓤 (A.lft (ν ∷ []) full_share) (sep 𝓤 (A.lft (ν₁ ∷ []) full_share) (sem 𝓛 ftrue))) (sem 𝓛 (S.own_val x (v ∷ [])))) (E x)))) (LeftTwo (AnswerTwo S Φ) ν ν₁ δ δ₁ v)
    result_two S ν ν₁ δ δ₁ E Φ h v =
        qed 𝓛 (later (some (λ (x : S.Denot). ((‵ (flft (ν ∷ []) full_share) ⊛ (‵ (flft (ν₁ ∷ []) full_share) ⊛ ‵ ftrue)) ⊛ ‵ (S.own_val x (v ∷ []))) ⊛ raw (E x))) ∷ []) ∵ updating ! $ await ! tt $ pick ! (λ x. split ! $ move ! (1 ∷ []) $
        use1 𝓛 (some (λ (p : Lists). given (Said (Φ x) p) (‵ (finally R δ p.0) ⊛ ‵ (finally R₁ δ₁ p.1)))) (h x) $ pick ! (λ p. learn ! (λ says. move ! (1 ∷ []) $ split ! $ move ! (1 ∷ []) $
        facts ! S (Is S) (shows 𝓛 S) x (v ∷ []) (λ is. split ! $ move ! (1 ∷ []) $ split ! $ move ! (1 ∷ []) $ drop ! $
        -- [ν₁'s token; ν's; the last lists]
        move ! (1 ∷ 0 ∷ 2 ∷ []) $ at_once ! $ show ! (λ (u : Lists). guard 𝓤 (Said (AnswerTwo S Φ v) u) (sep 𝓤 (A.lft (ν ∷ []) full_share) (sep 𝓤 (A.lft (ν₁ ∷ []) full_share) (sep 𝓤 (sem 𝓛 (finally R δ u.0)) (sem 𝓛 (finally R₁ δ₁ u.1)))))) p $ check ! ((x, (says.0, is)), says.1) $ done !))))

module _ {M : Type 1} {𝓤 : Ura M} {𝓛 : Logic 𝓤} {K : Type 0} {Γ : List (Item 𝓤)} {E : Env 𝓤 𝓛.H} {C : Calls 𝓤 𝓛.H} {Λ : Loops 𝓤 𝓛.H} {q : Post 𝓤 𝓛.H} where
  open 𝓛 use {H, A}

  pub calls_lending_two : K → FmC 𝓤 H 𝓛.laws C → {f : Callee} {xs : List Operand} {d : Place} {rest : Body} {vals : List Val} (R : RattleType) (ℓ : Lifetime) (b o : ℕ) (ys : List R.Denot) → Room R (length ys)
      → (R₁ : RattleType) (ℓ₁ ℓ₁' : Lifetime) (κ : Lft) (s : Share) (γ : GName) (b₁ o₁ m : ℕ) (ws : List R₁.Denot) → length ws ≡ m → Room R₁ m
      → (φ : Val → List R.Denot → List R₁.Denot → Type 0)
      → ((ν ν₁ : ℕ) (δ δ₁ : GName) → ent 𝓤 (sep 𝓤 (sep 𝓤 (A.lft (ν ∷ []) full_share) (sem 𝓛 ((MutSlice ℓ (ν ∷ []) R).own_val (lent b o δ ys) (counted b o (length ys) ∷ []))))
      (sep 𝓤 (A.lft (ν₁ ∷ []) full_share) (sem 𝓛 ((MutSlice ℓ₁' (ν₁ ∷ []) R₁).own_val (lent b₁ o₁ δ₁ ws) (counted b₁ o₁ m ∷ []))))) (C f vals (LeftTwo 𝓛 R R₁ (length ys) m φ ν ν₁ δ δ₁)))
      → ((i j x : Item 𝓤) → Opds K 𝓛 (i ∷ j ∷ x ∷ Γ) E xs vals)
      → ((v : Val) (zs : List R.Denot) (vs : List R₁.Denot) → φ v zs vs → length zs ≡ length ys → length vs ≡ m
      → Seq K 𝓛 (‵ (row R full_share zs b o) ∷ ‵ ((MutSlice ℓ₁ κ R₁).own_val (lent b₁ o₁ γ vs) (counted b₁ o₁ m ∷ [])) ∷ ‵ (flft κ s) ∷ Γ) (lands C Λ E d v rest q))
      → Seq K 𝓛 (‵ (row R full_share ys b o) ∷ ‵ ((MutSlice ℓ₁ κ R₁).own_val (lent b₁ o₁ γ ws) (counted b₁ o₁ m ∷ [])) ∷ ‵ (flft κ s) ∷ Γ) (runs C Λ E (seq (call f xs d) rest) q)
  calls_lending_two t fm {f} {xs} {d} {rest} {vals} R ℓ b o ys room R₁ ℓ₁ ℓ₁' κ s γ b₁ o₁ m ws e room₁ φ met os k =
      lft_new t tt (λ ν. move t (1 ∷ []) $ use1 𝓛 (‵ (cells (mem R) ys b o)) (whole_in 𝓛 R ys b o) $
      use1 𝓛 (later (some (λ (δ : GName). ‵ ((MutSlice ℓ (ν ∷ []) R).own_val (lent b o δ ys) (counted b o (length ys) ∷ [])) ⊛ ‵ (flent (ν ∷ []) (Held R (length ys) b o δ))))) (lends_slice 𝓛 R ℓ (ν ∷ []) ys b o room) $ await t tt $ pick t (λ δ. split t $
      -- [the row lent; what is kept of it; ν's token; the slice; its token; Γ]
      lft_new t tt (λ ν₁. move t (4 ∷ 5 ∷ []) $
      use2 𝓛 (later (some (λ (δ₁ : GName). ‵ ((MutSlice ℓ₁' (ν₁ ∷ []) R₁).own_val (lent b₁ o₁ δ₁ ws) (counted b₁ o₁ m ∷ [])) ⊛ ‵ (LentAgain R₁ κ (ν₁ ∷ []) s γ b₁ o₁ m δ₁ ws)))) (lends_again R₁ κ (ν₁ ∷ []) s γ b₁ o₁ m 𝓛 ℓ₁ ℓ₁' ws) $ await t tt $ pick t (λ δ₁. split t $
      -- [the slice lent again; what is kept of it; ν₁'s token; the row lent; what is kept of it; ν's token; Γ]
      move t (2 ∷ 0 ∷ []) $ join t $ move t (4 ∷ 2 ∷ []) $ join t $ join t $
      calls_from t fm ((‵ (flft (ν ∷ []) full_share) ⊛ ‵ ((MutSlice ℓ (ν ∷ []) R).own_val (lent b o δ ys) (counted b o (length ys) ∷ []))) ⊛ (‵ (flft (ν₁ ∷ []) full_share) ⊛ ‵ ((MutSlice ℓ₁' (ν₁ ∷ []) R₁).own_val (lent b₁ o₁ δ₁ ws) (counted b₁ o₁ m ∷ [])))) vals
      (LeftTwo 𝓛 R R₁ (length ys) m φ ν ν₁ δ δ₁) (met ν ν₁ δ δ₁) (os _ _ _) (λ v.
      use1 𝓛 (later (some (λ (p : List R.Denot × List R₁.Denot). given (φ v p.0 p.1 × ((length p.0 ≡ length ys) × (length p.1 ≡ m))) (‵ (flft (ν ∷ []) full_share) ⊛ (‵ (flft (ν₁ ∷ []) full_share) ⊛ (‵ (finally R δ p.0) ⊛ ‵ (finally R₁ δ₁ p.1))))))) (id⊢ 𝓤 _) $
      await t tt $ pick t (λ p. learn t (λ h. split t $ lft_end t tt $ move t (1 ∷ []) $ split t $ lft_end t tt $ move t (1 ∷ []) $ split t $
      -- [the row's last list; the slice's; ν₁ is dead; ν is dead; what is kept of the slice; what is kept of the row; Γ]
      move t (2 ∷ 4 ∷ 1 ∷ []) $ use3 𝓛 (later (‵ ((MutSlice ℓ₁ κ R₁).own_val (lent b₁ o₁ γ p.1) (counted b₁ o₁ m ∷ [])) ⊛ ‵ (flft κ s))) (comes_back R₁ κ (ν₁ ∷ []) s γ b₁ o₁ m 𝓛 ℓ₁ ℓ₁' ws δ₁ p.1 e h.1.1 room₁) $ await t tt $ split t $
      move t (3 ∷ 4 ∷ 2 ∷ []) $ use3 𝓛 (later (‵ ((Arr (mem R) (length ys)).own_at p.0 b o))) (slice_back 𝓛 R (ν ∷ []) δ p.0 (length ys) b o) $ await t tt $ fsplit t $ drop t $ use1 𝓛 (‵ (row R full_share p.0 b o)) (whole_out 𝓛 R p.0 b o) $
      k v p.0 p.1 h.0 h.1.0 h.1.1)))))))
