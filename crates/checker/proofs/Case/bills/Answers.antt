use Rattle.checker.proofs.Writing.{replying_is}
use Rattle.checker.proofs.Case.bills.Goals as goal

pub returns : goal.returns
returns c =
    let e = c.write_bills-reply.ensures in
    record { result = replying_is c.args.self _ _ e.number; number = e.number; list = e.list }
