-- What `walk` returns at a leaf and after a choice, and that the measure falls at each choice. Assumes nothing.
use Rattle.std.proofs.Common.{ℕ, ◌<◌, sym, ◌∙◌, subst}
use Rattle.search.specs.Steps.{open_pairs}
use Rattle.search.proofs.Walks.{walk_leaf, nodes, off-A, off-B, falls-A, falls-B, ready-A, ready-B, chosen-A, chosen-B}
use Rattle.search.proofs.+walk.Goals as goal

pub returns-then-i-n : goal.returns-then-i-n
returns-then-i-n t c = walk_leaf _ _ _ _ _ _ _ c.prune-stuck.ensures c.if-stuck.false c.requires.fit _ c.if-i-n.true c.next_choice-i.ensures

pub extend-with_a-requires : goal.extend-with_a-requires
extend-with_a-requires t c =
    let p = c.prune-stuck.ensures in
    let q = c.if-stuck.false in
    let g = c.requires.given in
    let h = c.if-i-n.false in
    let y = c.next_choice-i.ensures in
    ((p.narrowed q).grown.partial, (nodes _ _ _ _ _ _ _ p q g _ h y _ c.constraint_at-k.ensures).0, off-A _ _ _ _ _ _ _ p q g _ h y _ c.constraint_at-k.ensures)

pub walk-a-requires : goal.walk-a-requires
walk-a-requires t c =
    let p = c.prune-stuck.ensures in
    let q = c.if-stuck.false in
    let g = c.requires.given in
    let h = c.if-i-n.false in
    let y = c.next_choice-i.ensures in (
      subst (λ (x : ℕ). open_pairs c.extend-with_a.result < x) c.decreases (falls-A _ _ _ _ _ _ _ p q g _ h y _ c.constraint_at-k.ensures _ c.drop_at.ensures _ c.extend-with_a.ensures),
      ready-A _ _ _ _ _ _ _ p q g _ h y _ c.constraint_at-k.ensures _ c.drop_at.ensures _ c.extend-with_a.ensures c.requires.fit,
    )

pub returns-then-is_some : goal.returns-then-is_some
returns-then-is_some t c =
    chosen-A _ _ _ _ _ _ _ c.prune-stuck.ensures c.if-stuck.false c.requires.given _ c.if-i-n.false c.next_choice-i.ensures _ c.constraint_at-k.ensures _ c.drop_at.ensures _ c.extend-with_a.ensures _ c.walk-a.ensures (sym c.is_some.ensures ∙ c.if-is_some.true)

pub extend-with_b-requires : goal.extend-with_b-requires
extend-with_b-requires t c =
    let p = c.prune-stuck.ensures in
    let q = c.if-stuck.false in
    let g = c.requires.given in
    let h = c.if-i-n.false in
    let y = c.next_choice-i.ensures in
    ((p.narrowed q).grown.partial, (nodes _ _ _ _ _ _ _ p q g _ h y _ c.constraint_at-k.ensures).1, off-B _ _ _ _ _ _ _ p q g _ h y _ c.constraint_at-k.ensures)

pub walk-requires : goal.walk-requires
walk-requires t c =
    let p = c.prune-stuck.ensures in
    let q = c.if-stuck.false in
    let g = c.requires.given in
    let h = c.if-i-n.false in
    let y = c.next_choice-i.ensures in (
      subst (λ (x : ℕ). open_pairs c.extend-with_b.result < x) c.decreases (falls-B _ _ _ _ _ _ _ p q g _ h y _ c.constraint_at-k.ensures _ c.drop_at.ensures _ c.extend-with_a.ensures _ c.extend-with_b.ensures),
      ready-B _ _ _ _ _ _ _ p q g _ h y _ c.constraint_at-k.ensures _ c.drop_at.ensures _ c.extend-with_a.ensures _ c.extend-with_b.ensures c.requires.fit,
    )

pub returns : goal.returns
returns t c =
    chosen-B _ _ _ _ _ _ _ c.prune-stuck.ensures c.if-stuck.false c.requires.given _ c.if-i-n.false c.next_choice-i.ensures _ c.constraint_at-k.ensures _ c.drop_at.ensures _ c.extend-with_a.ensures _ c.extend-with_b.ensures _ c.walk-a.ensures (sym c.is_some.ensures ∙ c.if-is_some.false) _ c.walk.ensures
