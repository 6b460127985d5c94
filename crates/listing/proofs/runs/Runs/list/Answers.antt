use native.Mathlib.Omega.{arith}
use Prim.Native.Nat.{ℕ}
use mathlib.Core.Path.{sym, ap, subst, ◌∙◌}
use lib.ListN.{length}
use Rattle.graph.specs.Members.{members}
use Rattle.listing.specs.Choosing.{Chose}
use Rattle.listing.specs.Runs.{words_by, pairs_in}
use Rattle.listing.proofs.Keys.{idle_few, idle_is, key_idle, key_busy}
use Rattle.listing.proofs.RunWords.{numbers_are}
use Rattle.listing.proofs.runs.Runs.list.Goals as goal

pub returns-then-few : goal.returns-then-few
returns-then-few c =
    let self = c.args.self in
    key_idle self.encoding self.writers.now self.marks.now self.k self.n c.args.from _ _
    (idle_few self.encoding self.writers.now self.marks.now self.k (sym c.few.ensures ∙ c.if-few.true))

pub returns-then-few-2 : goal.returns-then-few-2
returns-then-few-2 c =
    let self = c.args.self in
    key_idle self.encoding self.writers.now self.marks.now self.k self.n c.args.from _ _
    (idle_is self.encoding self.writers.now self.marks.now self.k _ (sym c.few.ensures ∙ c.if-few.false) (rw (sym c.first-firsts.ensures) (sym c.few-2.ensures ∙ c.if-few-2.true)))

pub pairs-requires : goal.pairs-requires
pairs-requires c =
    let self = c.args.self in
    omega (arith, ap length (numbers_are self.encoding self.n self.writers.now self.marks.now self.k), ap (λ (f : ℕ). length (pairs_in self.k (members f))) c.first-firsts.ensures)

pub returns : goal.returns
returns c =
    let a = c.args in
    let self = a.self in
    let firsts = c.first-firsts in
    key_busy self.encoding self.writers.now self.marks.now self.k self.n a.from _ _ _ _ _
    (idle_is self.encoding self.writers.now self.marks.now self.k _ (sym c.few.ensures ∙ c.if-few.false) (rw (sym firsts.ensures) (sym c.few-2.ensures ∙ c.if-few-2.false)))
    (c.words.ensures ∙ ap (λ (f : ℕ). words_by self.encoding self.n self.writers.now self.marks.now self.k a.out.now (members f)) firsts.ensures)
    (subst (λ (f : ℕ). Chose (pairs_in self.k (members f)) a.from a.chosen.now c.pairs.result c.pairs.new.chosen) firsts.ensures c.pairs.ensures)
