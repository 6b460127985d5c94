-- The whole: the first solution of row words and constraints, from the closed words, the pruned ones and a walk. Assumes nothing.
use Prim.Native.Nat.{ℕ, ◌≤◌, ◌<◌}
use native.Mathlib.Omega.{arith}
use mathlib.Core.Path.{◌≡◌, sym, subst}
use mathlib.Core.Logic.{⊎_elim}
use mathlib.Core.Bool.{Bool, true, false, not}
use mathlib.Core.List.{List, []}
use lib.Dec.{T, ltb, ltb→lt, lt→ltb}
use lib.ListN.{take}
use Rattle.std.specs.Prelude.{Option, None, Some}
use Rattle.model.specs.Lists.{bit}
use Rattle.model.specs.Polygraph.{reach, RespectsKnown}
use Rattle.model.specs.RowWords.{Tidy, Within, held}
use Rattle.model.proofs.Basics.{decide, eq-T, not_intro}
use Rattle.model.proofs.Reach.{within_tidy, reach_way, reach_old}
use Rattle.model.proofs.Pruning.{way_forward}
use Rattle.search.specs.Constraints.{con_at, is_open}
use Rattle.search.specs.Steps.{PartialOrder, Ready, PrunedState, Narrowed, Chosen, Hopeless, NextOpen}
use Rattle.search.specs.Orders.{Solution, Sure, First, Answered, Asked, Begins, Lighter}
use Rattle.search.proofs.Steps.{way_within}
use Rattle.search.proofs.Picks.{held_sure, sure_more, opposed_sure}
use Rattle.search.proofs.Lowest.{begins_none, first_sure}

module _ (t : ℕ) (w : List ℕ) (n : ℕ) (c : List ℕ) (a : Asked t w n c) (partial : PartialOrder c) where
  module _ (l : List ℕ) (all : (i : ℕ) → is_open l i ≡ ltb i n) where
    pub first_ready : Ready w n c l
    first_ready = record { given = a.given; partial = partial; fit = λ i x. ltb→lt i n (eq-T (all i) x) }

    module _ (stuck : Bool) (d m : List ℕ) (p : PrunedState w n c l stuck d m) where
      pub first_stuck : stuck ≡ true → (o : List ℕ) → Solution t w n c o → ⊥
      first_stuck s o k = p.hopeless s o k.known k.keeps

      module _ (s : stuck ≡ false) where
        narrow : Narrowed w n c l d m
        narrow = p.narrowed s

        pub pruned_ready : Ready w n d m
        pruned_ready =
            record { given = a.given; partial = narrow.grown.partial; fit = λ i x. first_ready.fit i (narrow.fewer i x) }

        settled : (i : ℕ) → i < n → T (not (is_open m i)) → T (held d (con_at w i))
        settled i h x = narrow.settled i (eq-T (sym (all i)) (lt→ltb i n h)) x

        wi : Within d t
        wi = narrow.grown.within t a.within a.aimed

        pub first_some : (out : List ℕ) → First t w n d out → First t w n c out
        first_some out k =
            record {
              long = k.long;
              solves = record { order = k.solves.order; known = λ u v hu hv b. k.solves.known u v hu hv (narrow.grown.more u v b); keeps = k.solves.keeps };
              lowest = λ o y. k.lowest o (record { order = y.order; known = narrow.grown.keeps o y.known y.keeps; keeps = y.keeps });
              zeros = k.zeros;
            }

        module _ (light : List ℕ) (few : Lighter w m light) where
          pub light_ready : Ready w n d light
          light_ready = record { given = a.given; partial = narrow.grown.partial; fit = λ i x. pruned_ready.fit i (few.fewer i x) }

          sure : (i : ℕ) → i < n → T (not (is_open light i)) → Sure t d (con_at w i)
          sure i h x =
              ⊎_elim (λ b. opposed_sure t d (con_at w i) (a.aimed i h).toA-small (a.aimed i h).toB-small (few.gone i b x))
              (λ b. held_sure t a.few w n a.aimed d i h (settled i h b)) (decide (is_open m i))

          -- where nothing is open the constraints change nothing
          pub first_alone : (set : ℕ) → ((y : ℕ) → bit set y ≡ ltb y t) → Begins t [] 0 d [] d set
          first_alone set k = begins_none t a.few d narrow.grown.partial wi set (λ v h. ltb→lt v t (eq-T (k v) h)) (λ v h. eq-T (sym (k v)) (lt→ltb v t h))

          pub first_lowest : (j : ℕ) → NextOpen light 0 n j → n ≤ j → (out : List ℕ) → First t [] 0 d out → First t w n c out
          first_lowest j x h out k =
              first_some out (first_sure t w n d out (λ i l. sure i l (not_intro (is_open light i) (λ y. x.none i (omega arith) (omega arith) y))) k)

          pub first_none : Hopeless w n d → (o : List ℕ) → Solution t w n c o → ⊥
          first_none x o k = x o (narrow.grown.keeps o k.known k.keeps) k.keeps

          pub first_begins : (sel : List ℕ) → Chosen w n d light sel → (set : ℕ) → ((y : ℕ) → bit set y ≡ ltb y t) → Begins t w n d light sel set
          first_begins sel z set k =
              record {
                progress =
                    record {
                      few = a.few;
                      aimed = a.aimed;
                      ready = light_ready;
                      settled = sure;
                      within = wi;
                      witness =
                          record {
                            partial = z.partial;
                            within = z.within t wi a.aimed;
                            back = λ o y r u v hu hv b. r u v hu hv (z.more u v b);
                            sure = λ i h. ⊎_elim (λ b. held_sure t a.few w n a.aimed sel i h (z.held i b)) (λ b. sure_more t d sel (con_at w i) z.more (sure i h b)) (decide (is_open light i));
                          };
                    };
                inside = λ v h. ltb→lt v t (eq-T (k v) h);
                whole = λ v h. eq-T (sym (k v)) (lt→ltb v t h);
              }

-- ---- closed words in place of those that they close

module _ (t : ℕ) (w : List ℕ) (n : ℕ) (g : List ℕ) (a : Asked t w n g) (c : List ℕ) (e : c ≡ reach g) where
  tidy_g : Tidy g
  tidy_g = within_tidy g t a.few a.within

  into : (o : List ℕ) → RespectsKnown o g → RespectsKnown o c
  into o r = subst (RespectsKnown o) (sym e) (λ u v hu hv x. way_forward o g tidy_g r u v (reach_way g u v x))

  back : (o : List ℕ) → RespectsKnown o c → RespectsKnown o g
  back o r u v hu hv x = subst (RespectsKnown o) e r u v hu hv (reach_old g u v hu hv x)

  pub closed_asked : Asked t w n c
  closed_asked = record {
    few = a.few;
    given = a.given;
    within = subst (λ (x : List ℕ). Within x t) (sym e) (λ u v x. way_within g t a.within u v (reach_way g u v x));
    aimed = a.aimed;
  }

  -- an order respects them exactly when it respects the words
  pub closed_answered : (r : Option (List ℕ)) → Answered t w n c r → Answered t w n g r
  closed_answered (Some out) z = record {
    long = z.long;
    solves = record { order = z.solves.order; known = back (take t out) z.solves.known; keeps = z.solves.keeps };
    lowest = λ o s. z.lowest o (record { order = s.order; known = into o s.known; keeps = s.keeps });
    zeros = z.zeros;
  }
  closed_answered None z = λ o s. z o (record { order = s.order; known = into o s.known; keeps = s.keeps })
