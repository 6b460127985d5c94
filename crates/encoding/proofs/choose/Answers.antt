use Rattle.std.proofs.Common.{ℕ, ◌≢◌, ◌≤◌}
use mathlib.Core.Path.{ap, sym, subst, ◌∙◌}
use Rattle.setting.specs.Encodings.{encoding_number}
use Rattle.setting.proofs.Numbers.{number_low, number_some}
use Rattle.encoding.proofs.Laws.{room_bodies, by_bodies, room_runs, by_runs}
use Rattle.encoding.proofs.choose.Goals as goal

pub table-requires : goal.table-requires
table-requires c =
    (c.requires.1.words, room_bodies c.args.log.bytes.now c.args.n c.args.writers.now c.args.marks.now c.requires.0 _ _ c.requires.1)

pub table-requires-in_default : goal.table-requires-in_default
table-requires-in_default c =
    let some : c.number.result ≢ 0 = λ z. number_some _ c.in_default.not-Plain (sym c.number.ensures ∙ z) in
    let low : c.number.result ≤ 2 = subst (λ (x : ℕ). x ≤ 2) (sym c.number.ensures) (number_low c.args.encoding) in
    (c.requires.0.few, room_runs c.args.log.bytes.now c.args.n c.args.writers.now c.args.marks.now c.requires.0 _ _ c.requires.1 c.args.log.fits _ some low)

pub returns-in-Plain : goal.returns-in-Plain
returns-in-Plain c =
    by_bodies c.args.log.bytes.now c.args.n c.args.writers.now c.args.marks.now c.requires.0 _ _ c.requires.1 _ _ _ _ (ap encoding_number c.in-Plain.is) c.table.ensures

pub returns-in_default : goal.returns-in_default
returns-in_default c =
    let some : c.number.result ≢ 0 = λ z. number_some _ c.in_default.not-Plain (sym c.number.ensures ∙ z) in
    let low : c.number.result ≤ 2 = subst (λ (x : ℕ). x ≤ 2) (sym c.number.ensures) (number_low c.args.encoding) in
    rw (← c.number.ensures) (by_runs c.args.log.bytes.now c.args.n c.args.writers.now c.args.marks.now c.requires.0 _ _ c.requires.1 c.args.log.fits _ some low _ _ _ c.table-in_default.ensures)
