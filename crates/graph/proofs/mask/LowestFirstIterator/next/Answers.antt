use Rattle.std.proofs.Common.{◌<◌, length, ap, ◌∙◌, arith, rules, w32, Fits}
use Rattle.graph.specs.Members.{members}
use Rattle.graph.proofs.MemberLaws.{members_none, members_next}
use Rattle.graph.proofs.mask.LowestFirstIterator.next.Goals as goal

pub returns-then-self-eq0-clause-steps : goal.returns-then-self-eq0-clause-steps
returns-then-self-eq0-clause-steps c = let e = ap members c.if-self-eq0.true ∙ members_none in (e, e)

pub returns-clause-steps : goal.returns-clause-steps
returns-clause-steps c =
    let f : Fits w32 c.args.self.now.left = search rules in members_next _ _ f.fits c.if-self-eq0.false c.clear_low-self.ensures.1

pub returns-clause-goes : goal.returns-clause-goes
returns-clause-goes c =
    let f : Fits w32 c.args.self.now.left = search rules in
    let e = members_next _ _ f.fits c.if-self-eq0.false c.clear_low-self.ensures.1 in
    let less : length (members c.clear_low-self.result) < length (members c.args.self.now.left) = omega (arith, ap length e) in
    search rules
