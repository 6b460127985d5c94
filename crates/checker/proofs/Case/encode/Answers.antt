-- A refusal writes nothing; else the polygraph of the plan is written to the two lists.
use Rattle.std.proofs.Common.{◌≡◌, ◌∙◌, sym, ap, ◌++◌, length, drop, rules}
use lib.Seq.{length-take-le}
use Rattle.checker.specs.Cases.{history_in}
use Rattle.checker.proofs.Encodes.{encodes_refused, encodes_done}
use Rattle.checker.proofs.Case.encode.Goals as goal

pub returns-in-Err : goal.returns-in-Err
returns-in-Err c =
    let a = c.args in encodes_refused a.self a.encoding a.pruning a.list.now a.rows.now c.in-Err.refusal c.in-Err.ensures.number_is

pub slice_bounds-copy_from_slice-end-in-Ok : goal.slice_bounds-copy_from_slice-end-in-Ok
slice_bounds-copy_from_slice-end-in-Ok c = sym (length-take-le 32 c.args.rows.now c.in-Ok.ensures.ready.room)

pub copy_from_slice-requires : goal.copy_from_slice-requires
copy_from_slice-requires c =
    let long : length c.write-r.result.rows ≡ 32 = search rules in
    length-take-le 32 c.args.rows.now c.in-Ok.ensures.ready.room ∙ sym long

pub returns-in-Ok : goal.returns-in-Ok
returns-in-Ok c =
    let a = c.args in
    let r = c.write-r.result in
    encodes_done a.self a.encoding a.pruning a.list.now a.rows.now c.in-Ok.ensures.number_is r _ _ _ c.from.ensures
    (c.write-r.ensures (history_in a.self) a.encoding c.in-Ok.ensures.ready.plan) (ap (λ l. l ++ drop 32 a.rows.now) c.copy_from_slice.ensures.after)
