-- Known edges, legal orders and polygraph as they were before card 7, which know no times: what a window without times is held against (theorem
-- `without_times_as_before`). What the card left as it was, the kinds of edges but one, the constraints, pruning and the explained reads, is cited from
-- `Polygraph` and `History`. Assumes nothing.
use Rattle.std.specs.Prelude.{ℕ, Bool, cond, ◌&&◌, ◌||◌, List, map, eqb, ltb, length}
use Rattle.std.proofs.Math.Option.{Option}
use Rattle.model.specs.Lists.{implies, all, any, keep, up_to, word_of}
use Rattle.model.specs.History.{History, size, sent_before, before, is_order, every_read_explained}
use Rattle.model.specs.Polygraph.{Polygraph, good_read, next_of_cabinet, start_read, bad_read, chain_edge, constraints, passes}
use Rattle.model.specs.Search.{arrangements, first_of}

-- the four kinds of every encoding, and the further ones of encoding 2
unfoldable pub untimed_edge : History → ℕ → ℕ → ℕ → Bool
untimed_edge h e u v =
    ltb u (size h) && (ltb v (size h)
    && (next_of_cabinet h u v || (any (λ k. good_read h k v u) (up_to 32) || (start_read h u v || ((eqb u v && bad_read h u)
    || (eqb e 2 && chain_edge h u v))))))

abbrev pub untimed_rows : History → ℕ → List ℕ
untimed_rows h e = map (λ u. word_of 32 (untimed_edge h e u)) (up_to 32)

-- these and the constraints, before pruning
abbrev pub untimed_start : History → ℕ → Polygraph
untimed_start h e = record { known = untimed_rows h e; choices = constraints h e }

unfoldable pub untimed_polygraph : History → ℕ → ℕ → Polygraph
untimed_polygraph h e pruning =
    let q = passes (length (constraints h e)) (untimed_start h e) in
    cond (eqb pruning 1) q (untimed_start h e)

-- each cabinet's own order
abbrev pub keeps_cabinets : History → List ℕ → Bool
keeps_cabinets h o = all (λ u. all (λ v. implies (sent_before h u v) (before o u v)) (up_to (size h))) (up_to (size h))

-- every number below T once and nothing else, each cabinet's own order, and every read explained
unfoldable pub untimed_legal : History → List ℕ → Bool
untimed_legal h o = is_order (size h) o && (keeps_cabinets h o && every_read_explained h o)

unfoldable pub untimed_first : History → Option (List ℕ)
untimed_first h = first_of (keep (untimed_legal h) (arrangements (size h) (up_to (size h))))
