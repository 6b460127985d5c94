-- An array of a function's own, as a row of elements: what is lent as a slice, and read by the element. It says nothing of a crate.
--     of_array k n     the array of n elements of the kind k, as a kind
--     repeated         `[x; n]` is good where x is
--     array_opens      a local that holds an array is a row.        array_room       a row of n elements is room for the array, so that the local can be freed
--     big_lit          a constant over 255, as the length of an array that is lent whole
-- The local's MIR type is `ty_array τ n`, with τ the element's, which has one MIR type (`Denote/ArrayMemory.antt`'s `Single`, at a type that is written out `tt`).
-- Assumes `Logic`.
use mathlib.Core.Path.{◌≡◌, refl}
use Prim.Native.Nat.{ℕ, zero, suc}
use mathlib.Core.List.{List, [], ◌∷◌, map}
use lib.ListN.{length, replicate, length-replicate}
use seplogic.Ra.Ura.{Ura}
use base.Fraction.{full_share}
use mir.Syntax.{Width, ty_array, int_big}
use mir.Val.{Val, vint, Fits}
use base.Logic.{via, guard_i}
use base.Fml.{fsep, fat, froom}
use prog.Wp.{Env}
use types.Logic.{Logic}
use types.Kit.{Goal, Item, ‵, Step, step, ◌$◌, move, drop, use1, rewrite, fsplit, fjoin, fpick, fpack, feq_i}
use types.Run.{Opd}
use types.Share.{arr_parts}
use denote.Shadow.{shadow}
use denote.Laws.{Is, shows}
use denote.Memory.{cell_at, lone, part_at, shares, part_of}
use denote.Array.{each, array_val, Array, Array-Tells, Array-Lawful, Array-Makes, array_copy}
use denote.ArrayMemory.{Single, Array-apart, Array-whole}
use denote.Copied.{Array-Copied}
use denote.Index.{row}
use denote.Steps.{peeks}
use Rattle.walk.proofs.Kind.{Kind, vals, Good, have}

abbrev pub of_array : Kind → ℕ → Kind
of_array k n = record {
  row = Array k.row n;
  val = λ xs. array_val (map k.val xs);
  tells = Array-Tells k.row (λ x. k.val x ∷ []) k.tells n;
  lawful = λ 𝓛. Array-Lawful 𝓛 k.row (k.lawful 𝓛) n;
  makes = λ 𝓛. Array-Makes 𝓛 k.row (k.makes 𝓛) n;
  copy = λ 𝓛. array_copy 𝓛 k.row (k.copy 𝓛) n;
  one = tt;
  copied = λ 𝓛. Array-Copied 𝓛 k.row (k.copied 𝓛) k.one n;
}

each_repeated : (k : Kind) (x : k.row.Denot) → Good k x → (n : ℕ) → shadow (each k.row.Denot k.row.own_val (replicate n x) (map k.val (replicate n x)))
each_repeated k x ok zero = tt
each_repeated k x ok (suc n) = (ok, each_repeated k x ok n)

pub repeated : (k : Kind) (x : k.row.Denot) → Good k x → (n : ℕ) → Good (of_array k n) (replicate n x)
repeated k x ok n = (map k.val (replicate n x), ((refl, length-replicate n x), each_repeated k x ok n))

module _ {M : Type 1} {𝓤 : Ura M} {𝓛 : Logic 𝓤} {K : Type 0} {Γ : List (Item 𝓤)} {G : Goal 𝓤 𝓛.H} where
  pub array_opens : K → (k : Kind) → Single k.row.mir → (n : ℕ) (xs : List k.row.Denot) (b o : ℕ) → Good (of_array k n) xs
      → Step K 𝓛 (‵ (row k.row full_share xs b o) ∷ Γ) G (‵ (fat full_share (ty_array (lone k.row.mir) n) b o ((of_array k n).val xs)) ∷ Γ) G
  unfolding part_of
  array_opens t k s n xs b o ok = step (λ z. use1 𝓛 (‵ (cell_at full_share (Array k.row n).mir (vals (of_array k n) xs) b o)) (𝓛.laws.at_raw full_share (ty_array (lone k.row.mir) n) b o ((of_array k n).val xs)) $
      have t (of_array k n) xs _ ok $ move t (1 ∷ 0 ∷ []) $ fjoin t $ fpack t (List Val) (λ us. fsep (cell_at full_share (Array k.row n).mir us b o) ((Array k.row n).own_val xs us)) (vals (of_array k n) xs) $
      use1 𝓛 (‵ ((arr_parts (shares k.row) n).part full_share xs b o)) (Array-apart 𝓛 k.row full_share s n xs b o) $ fsplit t $ drop t $ z)

  pub array_room : K → (k : Kind) (n : ℕ) (xs : List k.row.Denot) → length xs ≡ n → (b o : ℕ) → Step K 𝓛 (‵ (froom (ty_array (lone k.row.mir) n) b o) ∷ Γ) G (‵ (row k.row full_share xs b o) ∷ Γ) G
  unfolding part_of
  array_room t k n xs e b o = step (λ z. feq_i t ℕ (length xs) n e $ fjoin t $ use1 𝓛 (‵ (part_at (Array k.row n) full_share xs b o)) (Array-whole 𝓛 k.row full_share n xs b o) $ fpick t (λ vs. fsplit t $ move t (1 ∷ []) $
      peeks t (Array k.row n) (Is (Array k.row n)) (shows 𝓛 (Array k.row n)) xs vs (λ is. drop t $ rewrite t 0 (λ (us : List Val). ‵ (cell_at full_share (Array k.row n).mir us b o)) ((of_array k n).tells xs vs is) refl $
      use1 𝓛 (‵ (fat full_share (ty_array (lone k.row.mir) n) b o ((of_array k n).val xs))) (𝓛.laws.raw_at full_share (ty_array (lone k.row.mir) n) b o ((of_array k n).val xs)) $
      use1 𝓛 (‵ (froom (ty_array (lone k.row.mir) n) b o)) (𝓛.laws.at_room (ty_array (lone k.row.mir) n) b o ((of_array k n).val xs)) $ z)))

module _ {M : Type 1} {𝓤 : Ura M} {𝓛 : Logic 𝓤} {K : Type 0} {Γ : List (Item 𝓤)} {E : Env 𝓤 𝓛.H} where
  pub big_lit : K → {w : Width} {n : ℕ} → Fits w n → Opd K 𝓛 Γ E (int_big w n) (vint w n)
  big_lit t {w} {n} z = record { go = λ Kt h. via 𝓤 (Kt (vint w n)) h (guard_i 𝓤 (Fits w n) (Kt (vint w n)) z) }
