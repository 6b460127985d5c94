use Rattle.std.proofs.Common.{refl, sym}
use Rattle.std.proofs.lemmas.Result.{err_from_is_err_and}
use Rattle.refusals.proofs.Numbering.{code_some}
use Rattle.writer.proofs.Holding.{room_of, write_room, write_refused, write_taken}
use Rattle.writer.proofs.Notes.write.Goals as goal

pub returns-in_err-test_write-clause-result : goal.returns-in_err-test_write-clause-result
returns-in_err-test_write-clause-result c =
    let p = err_from_is_err_and c.from_residual.result c.from_residual.ensures.1 in
    rw (p.1, p.2)
    ((write_refused _ _ _ c.in_err-test_write.ensures (code_some _)).0)

pub returns-in_err-test_write-clause-list : goal.returns-in_err-test_write-clause-list
returns-in_err-test_write-clause-list c = (write_refused _ _ _ c.in_err-test_write.ensures (code_some _)).1

pub put_log-requires : goal.put_log-requires
put_log-requires c =
    let r = write_room c.args.self.now _ (sym c.in_ok-test_write.ensures) in
    record { within = room_of _ r.log; long = r.long }

pub returns-clause-result : goal.returns-clause-result
returns-clause-result c = (write_taken _ _ _ c.in_ok-test_write.ensures _ _ refl c.put_log.ensures.count c.put_log.ensures.list).0

pub returns-clause-list : goal.returns-clause-list
returns-clause-list c = (write_taken _ _ _ c.in_ok-test_write.ensures _ _ refl c.put_log.ensures.count c.put_log.ensures.list).1
