use native.Mathlib.Omega.{arith}
use Prim.Native.Nat.{◌-◌, ◌+◌}
use mathlib.Core.Path.{sym, ap, ◌∙◌}
use Rattle.polygraph.specs.Edges.{successors_by}
use Rattle.listing.specs.Runs.{tail_by}
use Rattle.listing.proofs.Tailing.{tail_on, tail_stop, tail_end}
use Rattle.listing.proofs.runs.Runs.tail.Goals as goal

pub next_at-s-requires : goal.next_at-s-requires
next_at-s-requires c = (c.args.self.is_key, c.loop.invariant.0)

pub returns-then-s-self : goal.returns-then-s-self
returns-then-s-self c =
    let l = c.loop in
    let self = c.args.self in
    (sym (l.invariant.1 ∙ tail_stop self.n (successors_by self.n self.writers.now self.marks.now) self.k l.counter l.at (omega arith) (omega (arith, c.next_at-s.ensures, c.if-s-self.true))), l.invariant.0)

pub loop-preserved : goal.loop-preserved
loop-preserved c =
    let l = c.loop in
    let self = c.args.self in
    let is = c.next_at-s.ensures in (
      omega (arith, self.few, c.if-s-self.false),
      l.invariant.1 ∙ tail_on self.n (successors_by self.n self.writers.now self.marks.now) self.k l.counter l.at (omega arith) (omega (arith, is, c.if-s-self.false))
          ∙ ap (tail_by self.n (successors_by self.n self.writers.now self.marks.now) self.k (self.n - (l.counter + 1))) (sym is),
    )

pub returns : goal.returns
returns c =
    let l = c.loop in
    let self = c.args.self in
    (sym (l.invariant.1 ∙ tail_end self.n (successors_by self.n self.writers.now self.marks.now) self.k l.counter l.at (omega arith)), l.invariant.0)
