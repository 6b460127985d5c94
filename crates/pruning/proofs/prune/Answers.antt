-- A pass after a hit, and at the end the polygraph that pruning leaves.
use Rattle.std.proofs.Common.{ℕ, ◌<◌, List, get_or, sym, ap, subst, ◌∙◌, rules, w32, Fits}
use Rattle.model.specs.Polygraph.{reach}
use Rattle.graph.proofs.Rows.{tidy}
use Rattle.pruning.specs.declared.Place.{Place}
use Rattle.pruning.specs.Passes.{with_added, next_place}
use Rattle.pruning.proofs.Turns.{Stands, stands_start, stands_next, stands_end, to_small, todo, todo_less}
use Rattle.pruning.proofs.prune.Goals as goal

pub loop-p-init : goal.loop-p-init
loop-p-init c =
    let a = c.args in
    (search rules, λ u. (let f : Fits w32 (get_or a.rows u 0) = search rules in f.fits), c.closure-closed.ensures, subst (λ (p : Place). Stands a.rows a.list.now a.n a.pruning a.rows a.list.now p) (sym c.begin-p.ensures) (stands_start a.rows a.list.now a.n a.pruning c.requires.0 c.requires.1))

pub add_side-next-requires : goal.add_side-next-requires
add_side-next-requires c =
    let l = c.loop-p in
    to_small l.known l.list c.skim-h.new.list l.p.at l.p.kept l.p.end c.skim-h.result (c.skim-h.ensures l.known l.invariant.2) _ c.in-Some.is

pub extend-grown-requires : goal.extend-grown-requires
extend-grown-requires c =
    let l = c.loop-p in
    to_small l.known l.list c.skim-h.new.list l.p.at l.p.kept l.p.end c.skim-h.result (c.skim-h.ensures l.known l.invariant.2) _ c.in-Some.is

pub loop-p-smaller-in-Some : goal.loop-p-smaller-in-Some
loop-p-smaller-in-Some c =
    let l = c.loop-p in
    let fewer = todo_less l.known l.list c.skim-h.new.list l.p c.skim-h.result c.loop-p-test.true (c.skim-h.ensures l.known l.invariant.2) in
    subst (λ (p : Place). todo p < todo l.p) (sym c.after-p.ensures) fewer

pub loop-p-preserved-in-Some : goal.loop-p-preserved-in-Some
loop-p-preserved-in-Some c =
    let l = c.loop-p in
    let a = c.args in
    let h = c.skim-h.result in
    let skimmed = c.skim-h.ensures l.known l.invariant.2 in (
      search rules,
      λ u. (let f : Fits w32 (get_or c.add_side-next.result u 0) = search rules in f.fits),
      c.extend-grown.ensures l.known l.invariant.2 (tidy l.known l.invariant.0 l.invariant.1) ∙ ap reach (sym c.add_side-next.ensures),
      subst (λ (p : Place). Stands a.rows a.list.now a.n a.pruning c.add_side-next.result c.skim-h.new.list p) (sym c.after-p.ensures)
          (subst (λ (g : List ℕ). Stands a.rows a.list.now a.n a.pruning g c.skim-h.new.list (next_place l.p h)) (ap (with_added l.known) c.in-Some.is ∙ sym c.add_side-next.ensures)
          (stands_next a.rows a.list.now a.n a.pruning l.known l.list c.skim-h.new.list l.p h l.invariant.3 c.loop-p-test.true skimmed (c.skim-h.auto.list ∙ l.auto.list) c.requires.0)),
    )

pub loop-p-smaller : goal.loop-p-smaller
loop-p-smaller c =
    let l = c.loop-p in
    let fewer = todo_less l.known l.list c.skim-h.new.list l.p c.skim-h.result c.loop-p-test.true (c.skim-h.ensures l.known l.invariant.2) in
    subst (λ (p : Place). todo p < todo l.p) (sym c.after-p.ensures) fewer

pub loop-p-preserved : goal.loop-p-preserved
loop-p-preserved c =
    let l = c.loop-p in
    let a = c.args in
    let h = c.skim-h.result in
    let skimmed = c.skim-h.ensures l.known l.invariant.2 in (
      l.invariant.0,
      l.invariant.1,
      l.invariant.2,
      subst (λ (p : Place). Stands a.rows a.list.now a.n a.pruning l.known c.skim-h.new.list p) (sym c.after-p.ensures)
          (subst (λ (g : List ℕ). Stands a.rows a.list.now a.n a.pruning g c.skim-h.new.list (next_place l.p h)) (ap (with_added l.known) c.in_default.is)
          (stands_next a.rows a.list.now a.n a.pruning l.known l.list c.skim-h.new.list l.p h l.invariant.3 c.loop-p-test.true skimmed (c.skim-h.auto.list ∙ l.auto.list) c.requires.0)),
    )

pub returns : goal.returns
returns c =
    let l = c.loop-p in
    let a = c.args in
    stands_end a.rows a.list.now a.n a.pruning l.known l.list l.p l.invariant.3 c.loop-p-test.false c.requires.0
