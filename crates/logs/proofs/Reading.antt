-- Where a log with the number 0 has its fields. Assumes nothing.
use Prim.Native.Nat.{ℕ, ◌+◌, ◌*◌, ◌≤◌, ◌<◌}
use native.Mathlib.Omega.{arith}
use mathlib.Core.Path.{◌≡◌, ap, ap₂}
use mathlib.Core.List.{List}
use lib.ListN.{length}
use Rattle.model.specs.Log.{transactions_in, operations_in, cabinet_at, count_at, start_at, key_at, load_number, operation_at}
use Rattle.model.proofs.Loaded.{loaded, within, body_in, entry_in, body_good}
use Rattle.model.specs.History.{Operation}
use Rattle.logs.specs.Reading.{header_at, as_operation, InLog, IsBody, IsOperation}
use Rattle.rules.specs.declared.Body.{Body}
use Rattle.logs.specs.declared.view.Header.{Header}

pub head_out : (b : List ℕ) (h : Header) → h ≡ header_at b → (h.transactions ≡ transactions_in b) × (h.operations ≡ operations_in b)
head_out b h e = (ap (λ (y : Header). y.transactions) e, ap (λ (y : Header). y.operations) e)

pub few : (b : List ℕ) → load_number b ≡ 0 → transactions_in b ≤ 32
few b e = (loaded b e).few

pub head_in : (b : List ℕ) → load_number b ≡ 0 → 4 ≤ length b
head_in b e = omega (arith, (loaded b e).long)

pub inside_few : (b : List ℕ) (t : ℕ) → InLog b t → t < 32
inside_few b t u = omega (arith, u.below, few b u.loads)

pub inside_entry : (b : List ℕ) (t : ℕ) → InLog b t → 4 + 4 * t + 4 ≤ length b
inside_entry b t u = entry_in b (loaded b u.loads) t u.below

pub inside_body : (b : List ℕ) (t m : ℕ) → InLog b t → m < count_at b t → 4 + 4 * transactions_in b + 4 * (start_at b t + m) + 4 ≤ length b
inside_body b t m u l = body_in b (loaded b u.loads) t m u.below l

pub is_operation : (b : List ℕ) (t m : ℕ) (o : Body) → InLog b t → m < count_at b t → IsBody b (start_at b t + m) o → IsOperation b t m o.kind o.key o.argument
is_operation b t m o u l p =
    let g = body_good b (loaded b u.loads) t m u.below l in
    let k : o.key ≡ key_at b (start_at b t + m) = ap (λ (y : Body). y.key) p.is in
    record {
      kind_is = ap (λ (y : Body). y.kind) p.is;
      key_is = k;
      argument_is = ap (λ (y : Body). y.argument) p.is;
      key_low = omega (arith, g.key, k);
      argument_fits = p.argument_fits;
    }

pub inside_start : (b : List ℕ) (t : ℕ) → InLog b t → start_at b t + count_at b t ≤ 256
inside_start b t u = omega (arith, within b (loaded b u.loads) t u.below, (loaded b u.loads).many)

pub inside_cabinet : (b : List ℕ) (t : ℕ) → InLog b t → cabinet_at b t < 16
inside_cabinet b t u = omega (arith, (loaded b u.loads).cabinets t u.below)

-- the operation that is read is the history's
pub operation_is : (b : List ℕ) (t m : ℕ) (o : Body) → IsOperation b t m o.kind o.key o.argument → as_operation o ≡ operation_at b (start_at b t + m)
operation_is b t m o i = ap₂ (λ f x. f x) (ap₂ made i.kind_is i.key_is) i.argument_is
  where
    made : ℕ → ℕ → ℕ → Operation
    made k x a = record { kind = k; key = x; argument = a }
