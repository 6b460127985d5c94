-- The walk: its answers where pruning is stuck, at a leaf and after a choice, and that its measure falls. Assumes nothing.
use Prim.Native.Nat.{ℕ, ◌≤◌, ◌<◌}
use native.Mathlib.Omega.{arith}
use mathlib.Core.Path.{◌≡◌, sym, subst}
use mathlib.Core.Logic.{⊎_elim, ◌≢◌}
use mathlib.Core.Bool.{Bool, true, false, not}
use mathlib.Core.List.{List}
use lib.Dec.{T}
use Rattle.std.specs.Prelude.{Option, None, Some, is_some}
use Rattle.model.specs.Polygraph.{has, closed_off, RespectsOne}
use Rattle.model.specs.declared.Constraint.{Constraint}
use Rattle.model.specs.RowWords.{Within, Aimed, side_in, held}
use Rattle.model.proofs.Basics.{clash, decide, same?, not_intro}
use Rattle.search.specs.Constraints.{con_at, Given, AimedAll, is_open, Fit, Dropped}
use Rattle.search.specs.Steps.{shut, Taken, Narrowed, PrunedState, Ready, Chosen, Walked, NextChoice, open_pairs}
use Rattle.search.proofs.Steps.{no_true, held-A, held-B, held_more, shut-A, shut-B, nodes_of}
use Rattle.search.proofs.Opens.{drop_fewer, drop_stays}
use Rattle.search.proofs.Pairs.{side_falls}

module _ (w : List ℕ) (n : ℕ) (c l : List ℕ) (stuck : Bool) (d m : List ℕ) (x : PrunedState w n c l stuck d m) where
  module _ (q : stuck ≡ false) where
    narrow : Narrowed w n c l d m
    narrow = x.narrowed q

    pub prune_fit : Fit l n → Fit m n
    prune_fit fit i t = fit i (narrow.fewer i t)

    -- no choice is left
    pub walk_leaf : Fit l n → (i : ℕ) → n ≤ i → NextChoice w d m n i → Chosen w n c l d
    walk_leaf fit i h y =
        record {
          partial = narrow.grown.partial;
          more = narrow.grown.more;
          within = narrow.grown.within;
          held = λ j t. ⊎_elim (λ o. y.none j (omega (arith, fit j t)) o) (λ o. narrow.settled j t o) (decide (is_open m j));
        }

    -- ---- a choice at i
    module _ (g : Given w n) (i : ℕ) (h : i < n) (y : NextChoice w d m n i) (con : Constraint) (is : con ≡ con_at w i) where
      whole : T (is_open m i)
      whole = (y.some h).0

      stays : T (not (shut d con))
      stays = subst (λ (z : Constraint). T (not (shut d z))) (sym is) (x.done q i whole)

      not_held : T (not (held d con))
      not_held = subst (λ (z : Constraint). T (not (held d z))) (sym is) (y.some h).1

      pub nodes : (con.toA < 32) × (con.toB < 32)
      nodes = nodes_of w n i con g h is

      aimed : (t : ℕ) → AimedAll t w n → Aimed t con
      aimed t f = subst (Aimed t) (sym is) (f i h)

      pub off-A : T (not (closed_off d con.fromA con.toA))
      off-A = shut-A d con stays

      pub off-B : T (not (closed_off d con.fromB con.toB))
      off-B = shut-B d con stays

      module _ (k : List ℕ) (drop : Dropped m i k) where
        rest_fewer : (j : ℕ) → T (is_open k j) → T (is_open l j)
        rest_fewer j t = narrow.fewer j (drop_fewer m k i drop j t)

        -- a selection after the choice is one before it
        after : (e f : List ℕ) → ((u v : ℕ) → T (has d u v) → T (has e u v)) → ((t : ℕ) → Within d t → AimedAll t w n → Within e t) → T (held e con) → Chosen w n e k f → Chosen w n c l f
        after e f more within here z =
            record {
              partial = z.partial;
              more = λ u v t. z.more u v (more u v (narrow.grown.more u v t));
              within = λ t a b. z.within t (within t (narrow.grown.within t a b) b) b;
              held = λ j t.
                  ⊎_elim
                  (λ a.
                  ⊎_elim (λ (p : j ≡ i). subst (λ (s : ℕ). T (held f (con_at w s))) (sym p) (held_more e f (con_at w i) z.more (subst (λ (s : Constraint). T (held e s)) is here)))
                  (λ (p : j ≢ i). z.held j (drop_stays m k i drop j a p)) (same? j i))
                  (λ a. held_more d f (con_at w j) (λ u v s. z.more u v (more u v s)) (narrow.settled j t a)) (decide (is_open m j));
            }

        module _ (e : List ℕ) (a : Taken d e con.fromA con.toA) where
          pub falls-A : open_pairs e < open_pairs c
          falls-A =
              side_falls c d e con.fromA con.toA narrow.grown.more narrow.grown.partial nodes.0
              (not_intro (side_in d con.fromA con.toA) (λ t. clash (held d con) (held-A d con t) not_held)) off-A a

          pub ready-A : Fit l n → Ready w n e k
          ready-A fit = record { given = g; partial = a.partial; fit = λ j t. fit j (rest_fewer j t) }

          pub chosen-A : (r : Option (List ℕ)) → Walked w n e k r → is_some r ≡ true → Walked w n c l r
          chosen-A (Some f) z h = after e f a.more (λ v p t. a.within v p (aimed v t).fromA-small (aimed v t).toA-small) (held-A e con a.there) z
          chosen-A None z h = no_true h

          module _ (f : List ℕ) (b : Taken d f con.fromB con.toB) where
            pub falls-B : open_pairs f < open_pairs c
            falls-B =
                side_falls c d f con.fromB con.toB narrow.grown.more narrow.grown.partial nodes.1
                (not_intro (side_in d con.fromB con.toB) (λ t. clash (held d con) (held-B d con t) not_held)) off-B b

            pub ready-B : Fit l n → Ready w n f k
            ready-B fit = record { given = g; partial = b.partial; fit = λ j t. fit j (rest_fewer j t) }

            pub chosen-B : (r : Option (List ℕ)) → Walked w n e k r → is_some r ≡ false → (s : Option (List ℕ)) → Walked w n f k s → Walked w n c l s
            chosen-B (Some x) z p s z' = no_true (sym p)
            chosen-B None z p (Some s) z' = after f s b.more (λ v y u. b.within v y (aimed v u).fromB-small (aimed v u).toB-small) (held-B f con b.there) z'
            chosen-B None z p None z' =
                λ o u v.
                ⊎_elim (λ y. z o (a.keeps o (narrow.grown.keeps o u v) y) v) (λ y. z' o (b.keeps o (narrow.grown.keeps o u v) y) v) (subst (RespectsOne o) (sym is) (v i h))
