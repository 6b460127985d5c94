-- What the walks of loops name alike. It says nothing of the crate, and can be copied as it stands.
--     word, half, byte    a number of 64 bits, one of 16, and one of 8
--     lent_slice κ R       a `&κ mut [T]`, where R is T
--     Falls f, falls_wf   the states of a loop by a number that falls, which ends
--     Turned              what a turn ends in: a state nearer to the end, or the loop is left and the rest of the body runs
use mathlib.Core.List.{List}
use mathlib.Core.WellFounded.InvImage
use mathlib.Core.WellFounded.{WellFounded}
use Prim.Native.Nat.{ℕ, ◌<◌}
use lib.WfN.{lt-wf_rel}
use seplogic.Ra.Ura.{Ura}
use mir.Syntax.{Body, Lifetime, Ty, mut, w8, w16, w64, ty_int, ty_ref}
use mir.Val.{Val}
use base.Logic.{SProp}
use prog.Wp.{Out, Env, after_seq, after_block, after_turn, Wp, at_return, Tables}
use types.Logic.{Logic}
use types.Kit.{Item}
use types.Run.{Below}
use denote.RattleType.{RattleType}
use denote.Memory.{pointee}
use denote.Slice.{slice_ty}

abbrev pub word : Ty
word = ty_int w64

abbrev pub half : Ty
half = ty_int w16

abbrev pub byte : Ty
byte = ty_int w8

abbrev pub lent_slice : Lifetime → RattleType → Ty
lent_slice κ R = slice_ty (ty_ref κ mut (pointee R.written))

abbrev pub Falls : {X : Type 0} → (X → ℕ) → X → X → Type 0
Falls f t' t = f t' < f t

pub falls_wf : {X : Type 0} (f : X → ℕ) → WellFounded (Falls f)
falls_wf f = InvImage.wf f lt-wf_rel.wf

abbrev pub Turned : {M : Type 1} {𝓤 : Ura M} (𝓛 : Logic 𝓤) (𝓣 : Tables 𝓤 𝓛.H) (E : Env 𝓤 𝓛.H) (Post : Val → SProp 𝓤) (rest : Body) {X : Type 0} → (X → X → Type 0) → (X → List (Item 𝓤)) → X → Out → SProp 𝓤
Turned {𝓤 = 𝓤} 𝓛 𝓣 E Post rest ≺ I t = after_turn 𝓤 𝓛.H (Below 𝓛 ≺ I t) (after_block 𝓤 𝓛.H (after_seq 𝓤 𝓛.H (Wp 𝓤 𝓛.H 𝓣.C 𝓣.Λ E rest (at_return 𝓤 𝓛.H E Post)) (at_return 𝓤 𝓛.H E Post)))
