use borrow.Author.Tests.{lt-ltb, le-ltb}
use Rattle.std.proofs.Common.{length, arith, sym, ◌∙◌}
use Rattle.writer.specs.Held.{held_log}
use Rattle.writer.specs.Calls.{write_refusal}
use Rattle.writer.proofs.Holding.{room_by, held_length}
use Rattle.writer.proofs.Notes.test_write.Goals as goal

pub overflow_mul-self : goal.overflow_mul-self
overflow_mul-self c =
    let n = c.args.self.now in
    let r = room_by n _ c.has_log.ensures c.if-not-has_log.false in
    omega (arith, r.few)

pub overflow_add-self : goal.overflow_add-self
overflow_add-self c =
    let n = c.args.self.now in
    let r = room_by n _ c.has_log.ensures c.if-not-has_log.false in
    omega (arith, r.few)

pub noted-requires : goal.noted-requires
noted-requires c =
    let n = c.args.self.now in
    let r = room_by n _ c.has_log.ensures c.if-not-has_log.false in
    omega (arith, r.few)

pub overflow_mul-noted : goal.overflow_mul-noted
overflow_mul-noted c =
    let n = c.args.self.now in
    let r = room_by n _ c.has_log.ensures c.if-not-has_log.false in
    omega (arith, r.many, c.noted.ensures)

pub overflow_add-self-2 : goal.overflow_add-self-2
overflow_add-self-2 c =
    let n = c.args.self.now in
    let r = room_by n _ c.has_log.ensures c.if-not-has_log.false in
    omega (arith, r.few, r.many, c.noted.ensures)

pub returns-then-room-self : goal.returns-then-room-self
unfolding write_refusal
returns-then-room-self c =
    let n = c.args.self.now in
    let shut = sym c.is_open.ensures ∙ c.if-is_open.false in
    simp (
      shut,
      sym c.has_log.ensures ∙ c.if-not-has_log.false,
      lt-ltb c.args.room (length (held_log n)) (omega (arith, held_length n, c.noted.ensures)),
    )

pub returns : goal.returns
unfolding write_refusal
returns c =
    let n = c.args.self.now in
    let none = sym c.is_open.ensures ∙ c.if-is_open.false in
    simp (
      none,
      sym c.has_log.ensures ∙ c.if-not-has_log.false,
      le-ltb c.args.room (length (held_log n)) (omega (arith, held_length n, c.noted.ensures)),
    )
