use Rattle.std.proofs.Common.{arith, refl}
use Rattle.writer.proofs.Holding.{room_out, held_length, part_fits, part_long, parts_laid}
use Rattle.writer.proofs.rows.put_log.Goals as goal

pub noted-m-requires : goal.noted-m-requires
noted-m-requires c =
    let n = c.args.notes.now in
    let r = room_out n c.requires.within in
    omega (arith, r.few)

pub overflow_mul-contents : goal.overflow_mul-contents
overflow_mul-contents c =
    let n = c.args.notes.now in
    let r = room_out n c.requires.within in
    omega (arith, r.few)

pub overflow_add-contents : goal.overflow_add-contents
overflow_add-contents c =
    let n = c.args.notes.now in
    let r = room_out n c.requires.within in
    omega (arith, r.few)

pub slice_bounds-put_bodies-count : goal.slice_bounds-put_bodies-count
slice_bounds-put_bodies-count c = part_fits c.args.notes.now _ _ c.requires.long c.put_contents.ensures _ refl

pub slice_bounds-put_bodies-start : goal.slice_bounds-put_bodies-start
slice_bounds-put_bodies-start c = part_fits c.args.notes.now _ _ c.requires.long c.put_contents.ensures _ refl

pub put_bodies-requires : goal.put_bodies-requires
put_bodies-requires c =
    let n = c.args.notes.now in
    let r = room_out n c.requires.within in
    (omega (arith, r.many, c.noted-m.ensures), part_long n _ _ c.requires.long c.put_contents.ensures _ refl _ c.noted-m.ensures)

pub overflow_mul-result : goal.overflow_mul-result
overflow_mul-result c =
    let n = c.args.notes.now in
    let r = room_out n c.requires.within in
    omega (arith, r.many, c.noted-m.ensures)

pub overflow_add-result : goal.overflow_add-result
overflow_add-result c =
    let n = c.args.notes.now in
    let r = room_out n c.requires.within in
    omega (arith, r.few, r.many, c.noted-m.ensures)

pub returns : goal.returns
returns c =
    let n = c.args.notes.now in
    record {
      count = omega (arith, held_length n, c.noted-m.ensures);
      list = parts_laid n _ _ c.requires.long c.put_contents.ensures _ refl _ c.noted-m.ensures _ c.put_bodies.ensures;
    }
