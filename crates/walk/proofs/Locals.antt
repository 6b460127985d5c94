-- A local of plain data that a function lends by `&` for a call, and has back after it. It says nothing of a crate.
--     shared b x       the reference to x, which lies in the local b.        Lender       what the lender keeps meanwhile
--     lends_local      a local that holds x: what a `&` to it owns, for a new lifetime, with its token and the lender's part
--     local_back       the token and the lender's part: the local, which holds x
-- The local's MIR type is that of the kind (`Denote/ArrayMemory.antt`'s `Single`, at a type that is written out `tt`). Assumes `Logic`.
use mathlib.Core.Path.{refl}
use Prim.Native.Nat.{ℕ}
use mathlib.Core.List.{List, [], ◌∷◌}
use seplogic.Ra.Ura.{Ura}
use base.Fraction.{full_share}
use mir.Syntax.{Lifetime, Ty}
use base.Logic.{ent}
use mir.Val.{Val, vptr}
use base.Fml.{Fml, fsep, fat, flft, flent}
use types.Logic.{Logic, sem}
use types.Kit.{Goal, Soaks, Item, ‵, ◌⊛◌, later, Seq, Step, step, ◌$◌, move, drop, use1, split, rewrite, fsplit, fjoin, fpick, fpack, await}
use types.Tokens.{lft_new, lft_end, lent_back}
use denote.Laws.{Is, shows}
use denote.Memory.{cell_at, lone, part_at, part_of}
use denote.ArrayMemory.{Single}
use denote.Ref.{Bor, ShrRef}
use denote.Lend.{lends_free}
use denote.Steps.{peeks}
use Rattle.walk.proofs.Kind.{Kind, vals, Good, have}

abbrev pub shared : {X : Type 0} → ℕ → X → Bor X
shared b x = record { ref_ptr = (b, 0); now = x }

abbrev pub Lender : (k : Kind) → k.row.Denot → ℕ → ℕ → Fml
Lender k x b ν = flent (ν ∷ []) (part_at k.row full_share x b 0)

module _ {M : Type 1} {𝓤 : Ura M} {𝓛 : Logic 𝓤} {K : Type 0} {Γ : List (Item 𝓤)} {G : Goal 𝓤 𝓛.H} where
  open 𝓛 use {H}

  pub lends_local : K → Soaks G → (k : Kind) → Single k.row.mir → (ℓ : Lifetime) (x : k.row.Denot) (b : ℕ) → Good k x
      → ((ν : ℕ) → Seq K 𝓛 (‵ ((ShrRef ℓ (ν ∷ []) k.row).own_val (shared b x) (vptr b 0 ∷ [])) ∷ ‵ (flft (ν ∷ []) full_share) ∷ ‵ (Lender k x b ν) ∷ Γ) G)
      → Seq K 𝓛 (‵ (fat full_share (lone k.row.mir) b 0 (k.val x)) ∷ Γ) G
  unfolding part_of
  lends_local t a k s ℓ x b ok go =
      use1 𝓛 (‵ (cell_at full_share k.row.mir (vals k x) b 0)) (in_cell k.row.mir s (k.val x)) $
      have t k x _ ok $ move t (1 ∷ 0 ∷ []) $ fjoin t $ fpack t (List Val) (λ us. fsep (cell_at full_share k.row.mir us b 0) (k.row.own_val x us)) (vals k x) $
      lft_new t a (λ ν. move t (1 ∷ []) $
      use1 𝓛 (later (‵ ((ShrRef ℓ (ν ∷ []) k.row).own_val (shared b x) (vptr b 0 ∷ [])) ⊛ ‵ (Lender k x b ν))) (lends_free 𝓛 k.row ℓ (ν ∷ []) full_share x b 0 ((k.copied 𝓛).lends full_share x b 0)) $ await t a $ split t $
      move t (0 ∷ 2 ∷ 1 ∷ []) $ go ν)
    where
      in_cell : (τs : List Ty) → Single τs → (v : Val) → ent 𝓤 (H.at full_share (lone τs) b 0 v) (sem 𝓛 (cell_at full_share τs (v ∷ []) b 0))
      in_cell [] s v = absurd s
      in_cell (τ ∷ []) s v = 𝓛.laws.at_raw full_share τ b 0 v
      in_cell (τ ∷ σ ∷ τs) s v = absurd s

  pub local_back : K → Soaks G → (k : Kind) → Single k.row.mir → (x : k.row.Denot) (b ν : ℕ)
      → Step K 𝓛 (‵ (fat full_share (lone k.row.mir) b 0 (k.val x)) ∷ Γ) G (‵ (flft (ν ∷ []) full_share) ∷ ‵ (Lender k x b ν) ∷ Γ) G
  unfolding part_of
  local_back t a k s x b ν = step (λ z. lft_end t a $ lent_back t a $ fpick t (λ vs. fsplit t $ move t (1 ∷ []) $
      peeks t k.row (Is k.row) (shows 𝓛 k.row) x vs (λ is. drop t $ rewrite t 0 (λ (us : List Val). ‵ (cell_at full_share k.row.mir us b 0)) (k.tells x vs is) refl $
      use1 𝓛 (‵ (fat full_share (lone k.row.mir) b 0 (k.val x))) (out_cell k.row.mir s (k.val x)) $ z)))
    where
      out_cell : (τs : List Ty) → Single τs → (v : Val) → ent 𝓤 (sem 𝓛 (cell_at full_share τs (v ∷ []) b 0)) (H.at full_share (lone τs) b 0 v)
      out_cell [] s v = absurd s
      out_cell (τ ∷ []) s v = 𝓛.laws.raw_at full_share τ b 0 v
      out_cell (τ ∷ σ ∷ τs) s v = absurd s
