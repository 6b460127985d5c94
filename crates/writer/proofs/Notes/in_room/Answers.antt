use borrow.Author.Tests.{le-leb, lt-leb}
use Rattle.std.proofs.Common.{arith, ap, sym, ◌∙◌}
use lib.Dec.{leb}
use Rattle.writer.specs.Room.{in_room}
use Rattle.writer.proofs.Counting.{narrow_taken}
use Rattle.writer.proofs.Notes.in_room.Goals as goal
use Rattle.writer.proofs.Notes.in_room.Goals.{then-self-le32, else-self-le32}

pub returns-then-noted-le256 : goal.returns-then-noted-le256
unfolding in_room
returns-then-noted-le256 c =
    let n = c.args.self.now in
    elim c.if-self-le32.branch [
      | then-self-le32 w ↦
          let low = ap (λ m. leb m 256) (sym w.noted.ensures) ∙ sym w.value-is ∙ c.if-noted-le256.true in
          narrow_taken n.counts n.transactions _ (omega arith) c.narrow.ensures ∙ simp (le-leb n.transactions 32 w.if-self-le32.true, low)
      | else-self-le32 w ↦ let high = lt-leb n.transactions 32 w.if-self-le32.false in cc
    ]

pub returns-else-noted-le256 : goal.returns-else-noted-le256
unfolding in_room
returns-else-noted-le256 c =
    let n = c.args.self.now in
    elim c.if-self-le32.branch [
      | then-self-le32 w ↦
          let high = ap (λ m. leb m 256) (sym w.noted.ensures) ∙ sym w.value-is ∙ c.if-noted-le256.false in
          c.if-noted-le256.false ∙ simp (le-leb n.transactions 32 w.if-self-le32.true, high)
      | else-self-le32 w ↦ c.if-noted-le256.false ∙ simp (lt-leb n.transactions 32 w.if-self-le32.false)
    ]
