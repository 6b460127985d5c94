use Rattle.polygraph.proofs.ReadTable.{slot_picked}
use Rattle.polygraph.proofs.slot.Goals as goal

pub returns : goal.returns
returns c =
    let a = c.args in
    slot_picked a.w a.t a.key a.argument c.pick.result c.blend-named.result c.pick-good.result c.member-writes.result
    c.requires c.member-writes.ensures c.pick-good.ensures c.blend-named.ensures c.pick.ensures
