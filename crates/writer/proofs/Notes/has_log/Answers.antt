use native.Mathlib.Omega.{arith}
use mathlib.Core.Path.{sym, ◌∙◌}
use lib.Seq.{length-take-le}
use Rattle.writer.proofs.Laying.{laid_length}
use Rattle.writer.proofs.Holding.{no_log, log_is, fits}
use Rattle.writer.proofs.Notes.has_log.Goals as goal

pub returns-then-not-in_room : goal.returns-then-not-in_room
returns-then-not-in_room c = no_log _ _ c.in_room.ensures (c.if-not-in_room.true)

pub put_log-length-requires : goal.put_log-length-requires
put_log-length-requires c = fits _ _ (omega arith) (sym c.in_room.ensures ∙ c.if-not-in_room.false)

pub slice_bounds-bytes-end : goal.slice_bounds-bytes-end
slice_bounds-bytes-end c =
    let f = fits c.args.self.now 1156 (omega arith) (sym c.in_room.ensures ∙ c.if-not-in_room.false) in
    omega (arith, c.put_log-length.ensures.count, f.long, laid_length _ _ _ _ c.put_log-length.ensures.list (omega (arith, f.long)))

pub slice_bounds-is_log-end : goal.slice_bounds-is_log-end
slice_bounds-is_log-end c =
    let f = fits c.args.self.now 1156 (omega arith) (sym c.in_room.ensures ∙ c.if-not-in_room.false) in
    sym (length-take-le _ _ (omega (arith, c.put_log-length.ensures.count, f.long, laid_length _ _ _ _ c.put_log-length.ensures.list (omega (arith, f.long)))))

pub returns : goal.returns
returns c = log_is _ _ _ _ _ c.put_log-length.ensures.list c.put_log-length.ensures.count c.is_log.ensures
