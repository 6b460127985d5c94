-- Cycles and sides in row words: `cyclic` is a path that returns to its start, and a side that is added is there whole. Assumes nothing.
use Prim.Native.Nat.{ℕ, ◌<◌}
use mathlib.Core.Path.{sym}
use mathlib.Core.Bool.{not, ◌&&◌, ◌||◌}
use mathlib.Core.List.{List}
use lib.Dec.{T, eqb, eqb_refl}
use Rattle.model.specs.Lists.{implies, bit}
use Rattle.model.specs.Polygraph.{has, with_side, reach, Acyclic}
use Rattle.model.specs.RowWords.{Tidy, cyclic, side_in}
use Rattle.model.proofs.Basics.{clash, not_intro, eq-T, and_in, or_r, implies_in, all_up_to_in, any_up_to_in, any_up_to_out}
use Rattle.model.proofs.Words.{bit_rows}
use Rattle.model.proofs.Reach.{way_reach, reach_way, way_small}

pub cyclic_out : (g : List ℕ) → T (not (cyclic g)) → Tidy g → Acyclic g
unfolding cyclic
cyclic_out g t tidy u w =
    clash (cyclic g) (any_up_to_in (λ u. has (reach g) u u) 32 u (way_small g tidy u u w).0 (way_reach g tidy u u w)) t

pub cyclic_in : (g : List ℕ) → Acyclic g → T (not (cyclic g))
unfolding cyclic
cyclic_in g a =
    not_intro (cyclic g) (λ t. let z = any_up_to_out (λ u. has (reach g) u u) 32 t in a z.0 (reach_way g z.0 z.0 z.1))

pub side_adds : (g : List ℕ) (from to : ℕ) → to < 32 → T (side_in (with_side g from to) from to)
unfolding side_in with_side
side_adds g from to l =
    all_up_to_in (λ s. implies (bit from s) (has (with_side g from to) s to)) 32
    (λ s hs.
    implies_in (bit from s) (has (with_side g from to) s to)
    (λ b.
    eq-T (sym (bit_rows (λ u v. has g u v || (bit from u && eqb v to)) s to hs l))
    (or_r (has g s to) (bit from s && eqb to to) (and_in (bit from s) (eqb to to) b (eqb_refl to)))))
