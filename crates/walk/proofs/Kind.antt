-- A type of plain data, with all that a walk asks of it: one record for an array, a struct or a number. It says nothing of the crate, and can be copied as it stands.
--     Kind             its row (`Denote/RattleType.antt`), its machine value, and the laws.        one, copied     its row has one MIR type (`Denote/ArrayMemory.antt`), and what a `&` to it takes of a type that is Copy (`Denote/Copied.antt`)
--     of_field         of a built-in type or an array (`Denote/Struct/Field.antt`).        of_declared      of a struct, by its generated modules
--     Good k x         what the row says of x at its machine value: that its numbers are in their ranges, and an array's length
--     val_is, good     of a value that a call returned at the machine value v: v is its machine value, and it is good
--     have             what it owns is had for nothing, as a step
--     usize_k, u32_k, u16_k, u8_k, bool_k, bytes_k n, words_k n     a number of each width, a bool, and an array of n bytes or of n words of 32 bits.        words_long, words_small      how many, and that each has 32 bits
--     wide             16 bits are widened to 64
-- Assumes nothing, but `have`, which assumes `Logic`.
use mathlib.Core.Path.{◌≡◌, sym, ap, subst}
use Prim.Native.Nat.{ℕ, zero, suc, ◌<◌, ◌^◌}
use native.Mathlib.Omega.{arith}
use lib.Dec.{lit<}
use lib.ListN.{length, get_or}
use denote.Builtin.{u32}
use denote.Array.{each}
use mathlib.Core.List.{List, [], ◌∷◌}
use seplogic.Ra.Ura.{Ura}
use mir.Val.{Val}
use types.Logic.{Logic}
use types.Kit.{Goal, Item, ‵, Step}
use denote.RattleType.{RattleType}
use denote.Shadow.{makes_shadow, shadow}
use denote.Laws.{Is, Typed, Tells, Makes, Lawful, Copy}
use denote.ArrayMemory.{Single}
use denote.Copied.{Copied}
use denote.Steps.{only, owned}
use denote.Struct.Struct.{Plains}
use denote.Struct.Field.{Field, bool-field, u8-field, u16-field, u32-field, usize-field, array_field}
use denote.Struct.Declared as D
use denote.Struct.Laws as LL

pub record Kind : Type 2 where
  pub row : RattleType
  pub val : row.Denot → Val
  pub tells : Tells row (Is row) (λ x. val x ∷ [])
  pub lawful : {M : Type 1} {𝓤 : Ura M} (𝓛 : Logic 𝓤) → Lawful 𝓛 row
  pub makes : {M : Type 1} {𝓤 : Ura M} (𝓛 : Logic 𝓤) → Makes 𝓛 row (Is row)
  pub copy : {M : Type 1} {𝓤 : Ura M} (𝓛 : Logic 𝓤) → Copy 𝓛 row
  pub one : Single row.mir
  pub copied : {M : Type 1} {𝓤 : Ura M} (𝓛 : Logic 𝓤) → Copied 𝓛 row

abbrev pub of_field : (F : Field) → LL.FLaws F → LL.Plain F → LL.Copyable F → Kind
of_field F L P c = record {
  row = F.row;
  val = L.val;
  tells = L.tells;
  lawful = λ 𝓛. L.lawful 𝓛;
  makes = λ 𝓛 x vs p. makes_shadow 𝓛 (F.row.own_val x vs) (P x vs) p;
  copy = λ {M} {𝓤 = 𝓤} 𝓛. c.copies M 𝓤 𝓛;
  one = subst Single (sym c.alone) tt;
  copied = λ {M} {𝓤 = 𝓤} 𝓛. c.copied M 𝓤 𝓛;
}

-- the machine value is `lowered`, as MIR writes it: at a struct with an array it computes to what a load of the array gives, where `LL.val` has a `map (λ v. v)` in it
abbrev pub of_declared : (T : D.Declared) (L : LL.Laws T) → LL.Lowered T → Plains (D.fields T) → LL.Copyables T.parts → Kind
of_declared T L lw P c = record {
  row = D.row T;
  val = lw.lowered;
  tells = lw.val_is;
  lawful = λ 𝓛. LL.lawful T L 𝓛;
  makes = λ 𝓛. LL.makes T P 𝓛;
  copy = λ 𝓛. LL.copy T c 𝓛;
  one = tt;
  copied = λ 𝓛. LL.copied T c 𝓛;
}

abbrev pub u8_k : Kind
u8_k = of_field u8-field LL.u8-laws LL.u8-plain LL.u8-copy

abbrev pub u16_k : Kind
u16_k = of_field u16-field LL.u16-laws LL.u16-plain LL.u16-copy

abbrev pub u32_k : Kind
u32_k = of_field u32-field LL.u32-laws LL.u32-plain LL.u32-copy

abbrev pub usize_k : Kind
usize_k = of_field usize-field LL.usize-laws LL.usize-plain LL.usize-copy

abbrev pub bool_k : Kind
bool_k = of_field bool-field LL.bool-laws LL.bool-plain LL.bool-copy

abbrev pub bytes_k : ℕ → Kind
bytes_k n = of_field (array_field u8-field n) (LL.array_laws u8-field LL.u8-laws n) (LL.array_plain u8-field LL.u8-plain n) (LL.array_copy u8-field LL.u8-copy n)

abbrev pub words_k : ℕ → Kind
words_k n = of_field (array_field u32-field n) (LL.array_laws u32-field LL.u32-laws n) (LL.array_plain u32-field LL.u32-plain n) (LL.array_copy u32-field LL.u32-copy n)

module _ (k : Kind) where
  abbrev pub vals : k.row.Denot → List Val
  vals x = k.val x ∷ []

  abbrev pub Good : k.row.Denot → Type 0
  Good x = Is k.row x (k.val x ∷ [])

  pub val_is : (x : k.row.Denot) (v : Val) → Is k.row x (v ∷ []) → v ≡ k.val x
  val_is x v is = ap only (k.tells x (v ∷ []) is)

  pub good : (x : k.row.Denot) (v : Val) → Is k.row x (v ∷ []) → Good x
  good x v is = subst (Is k.row x) (k.tells x (v ∷ []) is) is

  pub typed : {M : Type 1} {𝓤 : Ura M} (𝓛 : Logic 𝓤) → (x : k.row.Denot) (v : Val) → Is k.row x (v ∷ []) → Typed k.row.mir (v ∷ [])
  typed 𝓛 x v is = (k.lawful 𝓛).typed x (v ∷ []) is

module _ {M : Type 1} {𝓤 : Ura M} {𝓛 : Logic 𝓤} {K : Type 0} {Γ : List (Item 𝓤)} {G : Goal 𝓤 𝓛.H} where
  pub have : K → (k : Kind) (x : k.row.Denot) (v : Val) → Is k.row x (v ∷ []) → Step K 𝓛 (‵ (k.row.own_val x (v ∷ [])) ∷ Γ) G Γ G
  have t k x v is = owned t k.row (Is k.row) (k.makes 𝓛) x (v ∷ []) is

-- ---- an array of words: how many, and that each has 32 bits
words_below : (xs : List ℕ) (us : List Val) → shadow (each ℕ u32.own_val xs us) → (i : ℕ) → get_or xs i 0 < 2 ^ 32
words_below [] us e i = lit< tt
words_below (x ∷ xs) [] e i = absurd e
words_below (x ∷ xs) (u ∷ us) e zero = e.0.1
words_below (x ∷ xs) (u ∷ us) e (suc i) = words_below xs us e.1 i

pub words_long : (n : ℕ) (xs : List ℕ) → Good (words_k n) xs → length xs ≡ n
words_long n xs ok = ok.1.0.1

pub words_small : (n : ℕ) (xs : List ℕ) → Good (words_k n) xs → (i : ℕ) → get_or xs i 0 < 2 ^ 32
words_small n xs ok = words_below xs ok.0 ok.1.1

pub wide : (k : ℕ) → k < 2 ^ 16 → k < 2 ^ 64
wide k h = omega arith
