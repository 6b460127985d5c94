use Rattle.checker.proofs.Writing.{replying_is}
use Rattle.checker.proofs.Case.table.Goals as goal

pub returns : goal.returns
returns c =
    let e = c.write_table-reply.ensures in
    record { result = replying_is c.args.self _ _ e.number; number = e.number; list = e.list }
