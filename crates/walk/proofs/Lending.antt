-- A call that a `&mut [T]` is lent to, from a walk: one step of `Types/Kit.antt`'s calculus. The slice is lent again for a lifetime of the call, and is had back at the list that the callee left. It says nothing of the crate, and can be copied with `Slices.antt` as it stands, but for the crate's name in a `use` line.
--     Left φ ν δ v     what a callee's contract gives of a slice lent under the name δ for ν: after an update, some last list zs, of m elements, with φ v zs, and ν's token
--     through          a run that meets a contract, from P to Q
--     result_left      what a contract's `post` gives: some result that is owned, beside a last list and what is said of the two
--     calls_lending_row    the same of a row of the function's own
--     calls_lending    the step: [what the slice owns; the token; Γ] to the same at zs. The operands are read where two items that say nothing stand before Γ, so the positions are those of the context
-- Assumes `Logic`.
use mathlib.Core.Path.{◌≡◌}
use Prim.Native.Nat.{ℕ}
use mathlib.Core.List.{List, [], ◌∷◌}
use lib.ListN.{length}
use seplogic.Ra.Ura.{Ura}
use base.Fraction.{full_share}
use mir.Syntax.{Callee, Lifetime, Place, Opd as Operand, Body, seq, call}
use mir.Val.{Val}
use base.Logic.{SProp, ent, sep, ex, guard, via, id⊢}
use base.Fml.{Lft, GName, Share, ftrue, flft, flent}
use prog.Wp.{Env, Calls, Loops}
use types.Logic.{Logic, sem}
use sound.WpLaws.{FmC}
use contract.Monad.{Fun, fm→mono}
use types.Kit.{Item, ‵, raw, ◌⊛◌, some, later, given, Post, runs, lands, Seq, ◌$◌, ◌∵◌, !, qed, move, drop, use1, use2, use3, split, join, pick, learn, check, show, fsplit, await, updating, now as at_once, done}
use types.Run.{Opds}
use types.Tokens.{lft_new, lft_end}
use types.SemTy.{cells, Arr}
use denote.RattleType.{RattleType}
use denote.Laws.{Is, shows}
use denote.Memory.{mem}
use denote.Slice.{MutSlice, Room, finally}
use denote.Lend.{Held, lends_slice, slice_back}
use denote.Index.{row, whole_out, whole_in}
use denote.Steps.{facts}
use denote.Triple.Statement.{Contract, Triple, FmF}
use denote.Triple.Call.{calls_from}
use Rattle.walk.proofs.Slices.{lent, counted, LentAgain, lends_again, comes_back}

-- the machine value v is that of a result x of S, of which and of the last list Φ holds
abbrev pub Answer : (S : RattleType) {X : Type 0} → (S.Denot → List X → Type 0) → Val → List X → Type 0
Answer S Φ v zs = (x : S.Denot) × (Φ x zs × Is S x (v ∷ []))

module _ {M : Type 1} {𝓤 : Ura M} (𝓛 : Logic 𝓤) where
  open 𝓛 use {H, A}

  abbrev pub Left : (R : RattleType) (m : ℕ) → (Val → List R.Denot → Type 0) → ℕ → GName → Val → SProp 𝓤
  Left R m φ ν δ v = H.⇛ (ex 𝓤 (λ (zs : List R.Denot). guard 𝓤 (φ v zs × (length zs ≡ m)) (sep 𝓤 (A.lft (ν ∷ []) full_share) (sem 𝓛 (finally R δ zs)))))

  -- the same before the update, of the last list alone
  abbrev pub Last : (R : RattleType) (m : ℕ) → (List R.Denot → Type 0) → GName → SProp 𝓤
  Last R m Φ δ = ex 𝓤 (λ (zs : List R.Denot). guard 𝓤 (Φ zs × (length zs ≡ m)) (sem 𝓛 (finally R δ zs)))

  pub through : (run : Fun 𝓤) → FmF 𝓤 run → (c : Contract 𝓤) → Triple 𝓤 run c → (x : c.Ghost) {P : SProp 𝓤} → ent 𝓤 P (c.pre x) → (Q : Val → SProp 𝓤) → ((v : Val) → ent 𝓤 (c.post x v) (Q v)) → ent 𝓤 P (run (c.args x) Q)
  through run fm c t x p Q h = via 𝓤 (c.pre x) p (via 𝓤 (run (c.args x) (c.post x)) (t x) (fm→mono 𝓤 (run (c.args x)) (fm (c.args x)) (c.post x) Q h))

  module _ where
    pub result_left : (R S : RattleType) (m : ℕ) (ν : ℕ) (δ : GName) (E : S.Denot → SProp 𝓤) (Φ : S.Denot → List R.Denot → Type 0) → ((x : S.Denot) → ent 𝓤 (E x) (Last R m (Φ x) δ)) → (v : Val)
        → ent 𝓤 (H.⇛ (ex 𝓤 (λ (x : S.Denot). sep 𝓤 (sep 𝓤 (sep 𝓤 (A.lft (ν ∷ []) full_share) (sem 𝓛 ftrue)) (sem 𝓛 (S.own_val x (v ∷ [])))) (E x)))) (Left R m (Answer S Φ) ν δ v)
    result_left R S m ν δ E Φ h v =
        qed 𝓛 (later (some (λ (x : S.Denot). ((‵ (flft (ν ∷ []) full_share) ⊛ ‵ ftrue) ⊛ ‵ (S.own_val x (v ∷ []))) ⊛ raw (E x))) ∷ []) ∵ updating ! $ await ! tt $ pick ! (λ x. split ! $ move ! (1 ∷ []) $
        use1 𝓛 (some (λ (zs : List R.Denot). given (Φ x zs × (length zs ≡ m)) (‵ (finally R δ zs)))) (h x) $ pick ! (λ zs. learn ! (λ p. move ! (1 ∷ []) $ split ! $ move ! (1 ∷ []) $
        facts ! S (Is S) (shows 𝓛 S) x (v ∷ []) (λ is. split ! $ move ! (1 ∷ []) $ drop ! $
        at_once ! $ show ! (λ (us : List R.Denot). guard 𝓤 (Answer S Φ v us × (length us ≡ m)) (sep 𝓤 (A.lft (ν ∷ []) full_share) (sem 𝓛 (finally R δ us)))) zs $ check ! ((x, (p.0, is)), p.1) $ done !))))

module _ {M : Type 1} {𝓤 : Ura M} {𝓛 : Logic 𝓤} {K : Type 0} {Γ : List (Item 𝓤)} {E : Env 𝓤 𝓛.H} {C : Calls 𝓤 𝓛.H} {Λ : Loops 𝓤 𝓛.H} {q : Post 𝓤 𝓛.H} where
  open 𝓛 use {H, A}

  pub calls_lending : K → FmC 𝓤 H 𝓛.laws C → {f : Callee} {xs : List Operand} {d : Place} {rest : Body} {vs : List Val} (R : RattleType) (ℓ ℓ' : Lifetime) (κ : Lft) (s : Share) (γ : GName) (b o m : ℕ) (ys : List R.Denot) → length ys ≡ m → Room R m
      → (φ : Val → List R.Denot → Type 0)
      → ((ν : ℕ) (δ : GName) → ent 𝓤 (sep 𝓤 (A.lft (ν ∷ []) full_share) (sem 𝓛 ((MutSlice ℓ' (ν ∷ []) R).own_val (lent b o δ ys) (counted b o m ∷ [])))) (C f vs (Left 𝓛 R m φ ν δ)))
      → ((i j : Item 𝓤) → Opds K 𝓛 (i ∷ j ∷ Γ) E xs vs)
      → ((v : Val) (zs : List R.Denot) → φ v zs → length zs ≡ m → Seq K 𝓛 (‵ ((MutSlice ℓ κ R).own_val (lent b o γ zs) (counted b o m ∷ [])) ∷ ‵ (flft κ s) ∷ Γ) (lands C Λ E d v rest q))
      → Seq K 𝓛 (‵ ((MutSlice ℓ κ R).own_val (lent b o γ ys) (counted b o m ∷ [])) ∷ ‵ (flft κ s) ∷ Γ) (runs C Λ E (seq (call f xs d) rest) q)
  calls_lending t fm {f} {xs} {d} {rest} {vs} R ℓ ℓ' κ s γ b o m ys e room φ met os k =
      lft_new t tt (λ ν. move t (1 ∷ 2 ∷ []) $
      use2 𝓛 (later (some (λ (δ : GName). ‵ ((MutSlice ℓ' (ν ∷ []) R).own_val (lent b o δ ys) (counted b o m ∷ [])) ⊛ ‵ (LentAgain R κ (ν ∷ []) s γ b o m δ ys)))) (lends_again R κ (ν ∷ []) s γ b o m 𝓛 ℓ ℓ' ys) $ await t tt $ pick t (λ δ. split t $
      -- [the slice lent again; what is kept; ν's token; Γ]
      move t (2 ∷ 0 ∷ []) $ join t $
      calls_from t fm (‵ (flft (ν ∷ []) full_share) ⊛ ‵ ((MutSlice ℓ' (ν ∷ []) R).own_val (lent b o δ ys) (counted b o m ∷ []))) vs (Left 𝓛 R m φ ν δ) (met ν δ) (os _ _) (λ v.
      use1 𝓛 (later (some (λ (zs : List R.Denot). given (φ v zs × (length zs ≡ m)) (‵ (flft (ν ∷ []) full_share) ⊛ ‵ (finally R δ zs))))) (id⊢ 𝓤 _) $ await t tt $ pick t (λ zs. learn t (λ p. split t $ lft_end t tt $
      move t (0 ∷ 2 ∷ 1 ∷ []) $ use3 𝓛 (later (‵ ((MutSlice ℓ κ R).own_val (lent b o γ zs) (counted b o m ∷ [])) ⊛ ‵ (flft κ s))) (comes_back R κ (ν ∷ []) s γ b o m 𝓛 ℓ ℓ' ys δ zs e p.1 room) $ await t tt $ split t $
      k v zs p.0 p.1)))))

  -- the same of a row of the function's own, as an array's (`Arrays.antt`): [the row; Γ] to the same at zs. The operands are read where two items stand before Γ, one more than in the context
  pub calls_lending_row : K → FmC 𝓤 H 𝓛.laws C → {f : Callee} {xs : List Operand} {d : Place} {rest : Body} {vs : List Val} (R : RattleType) (ℓ : Lifetime) (b o : ℕ) (ys : List R.Denot) → Room R (length ys)
      → (φ : Val → List R.Denot → Type 0)
      → ((ν : ℕ) (δ : GName) → ent 𝓤 (sep 𝓤 (A.lft (ν ∷ []) full_share) (sem 𝓛 ((MutSlice ℓ (ν ∷ []) R).own_val (lent b o δ ys) (counted b o (length ys) ∷ [])))) (C f vs (Left 𝓛 R (length ys) φ ν δ)))
      → ((i j : Item 𝓤) → Opds K 𝓛 (i ∷ j ∷ Γ) E xs vs)
      → ((v : Val) (zs : List R.Denot) → φ v zs → length zs ≡ length ys → Seq K 𝓛 (‵ (row R full_share zs b o) ∷ Γ) (lands C Λ E d v rest q))
      → Seq K 𝓛 (‵ (row R full_share ys b o) ∷ Γ) (runs C Λ E (seq (call f xs d) rest) q)
  calls_lending_row t fm {f} {xs} {d} {rest} {vs} R ℓ b o ys room φ met os k =
      lft_new t tt (λ ν. move t (1 ∷ []) $ use1 𝓛 (‵ (cells (mem R) ys b o)) (whole_in 𝓛 R ys b o) $
      use1 𝓛 (later (some (λ (δ : GName). ‵ ((MutSlice ℓ (ν ∷ []) R).own_val (lent b o δ ys) (counted b o (length ys) ∷ [])) ⊛ ‵ (flent (ν ∷ []) (Held R (length ys) b o δ))))) (lends_slice 𝓛 R ℓ (ν ∷ []) ys b o room) $ await t tt $ pick t (λ δ. split t $
      move t (2 ∷ 0 ∷ []) $ join t $
      calls_from t fm (‵ (flft (ν ∷ []) full_share) ⊛ ‵ ((MutSlice ℓ (ν ∷ []) R).own_val (lent b o δ ys) (counted b o (length ys) ∷ []))) vs (Left 𝓛 R (length ys) φ ν δ) (met ν δ) (os _ _) (λ v.
      use1 𝓛 (later (some (λ (zs : List R.Denot). given (φ v zs × (length zs ≡ length ys)) (‵ (flft (ν ∷ []) full_share) ⊛ ‵ (finally R δ zs))))) (id⊢ 𝓤 _) $ await t tt $ pick t (λ zs. learn t (λ p. split t $ lft_end t tt $
      move t (0 ∷ 2 ∷ 1 ∷ []) $ use3 𝓛 (later (‵ ((Arr (mem R) (length ys)).own_at zs b o))) (slice_back 𝓛 R (ν ∷ []) δ zs (length ys) b o) $ await t tt $ fsplit t $ drop t $ use1 𝓛 (‵ (row R full_share zs b o)) (whole_out 𝓛 R zs b o) $
      k v zs p.0 p.1)))))
