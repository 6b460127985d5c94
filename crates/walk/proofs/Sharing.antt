-- A call that something Copy is passed to, a `&[T]` or a struct that holds one, from a walk: one step of `Types/Kit.antt`'s calculus. The callee is handed the lifetime's token, which comes back. It says nothing of the crate, and can be copied with `ByValue.antt` as it stands, but for the crate's name in a `use` line.
--     Shares φ κ q v   what a callee's contract gives: after an update, φ v and the token
--     through          a run that meets a contract, from P to Q
--     result_shares    what a contract's `post` gives: some result that is owned, beside what says Φ of it
--     calls_sharing    the step: [what is passed owns; the token; Γ] to the same, with φ v. The operands are read where two items that say nothing stand before Γ, so the positions are those of the context
-- Assumes `Logic`.
use mathlib.Core.List.{List, [], ◌∷◌}
use seplogic.Ra.Ura.{Ura}
use mir.Syntax.{Callee, Place, Opd as Operand, Body, seq, call}
use mir.Val.{Val}
use base.Logic.{SProp, ent, sep, ex, guard, via, id⊢}
use base.Fml.{Lft, Share, Fml, ftrue, flft}
use prog.Wp.{Env, Calls, Loops}
use types.Logic.{Logic, sem}
use sound.WpLaws.{FmC}
use contract.Monad.{Fun, fact, fm→mono}
use types.Kit.{Item, ‵, raw, ◌⊛◌, some, later, given, Post, runs, lands, Seq, ◌$◌, ◌∵◌, !, qed, move, drop, use1, split, join, pick, learn, check, await, updating, now as at_once, done}
use types.Run.{Opds}
use denote.RattleType.{RattleType}
use denote.Laws.{Is, shows}
use denote.Steps.{heard, facts}
use denote.Triple.Statement.{Contract, Triple, FmF}
use denote.Triple.Call.{calls_from}
use Rattle.walk.proofs.ByValue.{Result}

module _ {M : Type 1} {𝓤 : Ura M} (𝓛 : Logic 𝓤) where
  open 𝓛 use {H, A}

  abbrev pub Shares : (Val → Type 0) → Lft → Share → Val → SProp 𝓤
  Shares φ κ q v = H.⇛ (guard 𝓤 (φ v) (A.lft κ q))

  pub through : (run : Fun 𝓤) → FmF 𝓤 run → (c : Contract 𝓤) → Triple 𝓤 run c → (x : c.Ghost) {P : SProp 𝓤} → ent 𝓤 P (c.pre x) → (Q : Val → SProp 𝓤) → ((v : Val) → ent 𝓤 (c.post x v) (Q v)) → ent 𝓤 P (run (c.args x) Q)
  through run fm c t x p Q h = via 𝓤 (c.pre x) p (via 𝓤 (run (c.args x) (c.post x)) (t x) (fm→mono 𝓤 (run (c.args x)) (fm (c.args x)) (c.post x) Q h))

  module _ where
    pub result_shares : (S : RattleType) (κ : Lft) (q : Share) (E : S.Denot → SProp 𝓤) (Φ : S.Denot → Type 0) → ((x : S.Denot) → ent 𝓤 (E x) (fact 𝓤 (Φ x))) → (v : Val)
        → ent 𝓤 (H.⇛ (ex 𝓤 (λ (x : S.Denot). sep 𝓤 (sep 𝓤 (sep 𝓤 (A.lft κ q) (sem 𝓛 ftrue)) (sem 𝓛 (S.own_val x (v ∷ [])))) (E x)))) (Shares (Result S Φ) κ q v)
    result_shares S κ q E Φ h v =
        qed 𝓛 (later (some (λ (x : S.Denot). ((‵ (flft κ q) ⊛ ‵ ftrue) ⊛ ‵ (S.own_val x (v ∷ []))) ⊛ raw (E x))) ∷ []) ∵ updating ! $ await ! tt $ pick ! (λ x. split ! $ move ! (1 ∷ []) $
        use1 𝓛 (raw (fact 𝓤 (Φ x))) (h x) $ heard ! (Φ x) (λ p. split ! $ move ! (1 ∷ []) $ facts ! S (Is S) (shows 𝓛 S) x (v ∷ []) (λ is. split ! $ move ! (1 ∷ []) $ drop ! $ at_once ! $ check ! (x, (p, is)) $ done !)))

module _ {M : Type 1} {𝓤 : Ura M} {𝓛 : Logic 𝓤} {K : Type 0} {Γ : List (Item 𝓤)} {E : Env 𝓤 𝓛.H} {C : Calls 𝓤 𝓛.H} {Λ : Loops 𝓤 𝓛.H} {q : Post 𝓤 𝓛.H} where
  open 𝓛 use {H, A}

  pub calls_sharing : K → FmC 𝓤 H 𝓛.laws C → {f : Callee} {xs : List Operand} {d : Place} {rest : Body} {vs : List Val} (Own : Fml) → ent 𝓤 (sem 𝓛 Own) (sep 𝓤 (sem 𝓛 Own) (sem 𝓛 Own)) → (κ : Lft) (s : Share)
      → (φ : Val → Type 0) → ent 𝓤 (sep 𝓤 (sem 𝓛 Own) (A.lft κ s)) (C f vs (Shares 𝓛 φ κ s)) → ((i j : Item 𝓤) → Opds K 𝓛 (i ∷ j ∷ Γ) E xs vs)
      → ((v : Val) → φ v → Seq K 𝓛 (‵ Own ∷ ‵ (flft κ s) ∷ Γ) (lands C Λ E d v rest q)) → Seq K 𝓛 (‵ Own ∷ ‵ (flft κ s) ∷ Γ) (runs C Λ E (seq (call f xs d) rest) q)
  calls_sharing t fm {f} {xs} {d} {rest} {vs} Own twice κ s φ met os k =
      use1 𝓛 (‵ Own ⊛ ‵ Own) twice $ split t $ move t (1 ∷ 2 ∷ []) $ join t $
      calls_from t fm (‵ Own ⊛ ‵ (flft κ s)) vs (Shares 𝓛 φ κ s) met (os _ _) (λ v.
      use1 𝓛 (later (given (φ v) (‵ (flft κ s)))) (id⊢ 𝓤 _) $ await t tt $ learn t (λ p. move t (1 ∷ 0 ∷ []) $ k v p))
