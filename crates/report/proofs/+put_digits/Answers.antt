-- The text of `put_digits` at each return, and that its calls have room. Assumes nothing.
use Rattle.report.proofs.Texts.{digits_more_length, wrote_as, wrote_none, wrote_next, digits_none, digits_one, digits_more}
use Rattle.std.proofs.Common.{arith, length, ap, sym}
use Rattle.report.proofs.+put_digits.Goals as goal

pub returns-then-most-eq0 : goal.returns-then-most-eq0
returns-then-most-eq0 t c = wrote_as (sym (digits_none _ _ c.if-most-eq0.true)) (wrote_none _ _ (omega arith))

pub push-requires : goal.push-requires
push-requires t c = omega (arith, ap length (digits_one c.args.most c.args.n c.if-most-eq0.false c.if-n-lt10.true))

pub returns-then-n-lt10 : goal.returns-then-n-lt10
returns-then-n-lt10 t c = wrote_as (sym (digits_one _ _ c.if-most-eq0.false c.if-n-lt10.true)) c.push.ensures

pub put_digits-end-requires : goal.put_digits-end-requires
put_digits-end-requires t c = (omega arith, omega (arith, digits_more_length c.args.most c.args.n c.if-most-eq0.false c.if-n-lt10.false))

pub push-requires-2 : goal.push-requires-2
push-requires-2 t c = omega (arith, digits_more_length c.args.most c.args.n c.if-most-eq0.false c.if-n-lt10.false)

pub returns : goal.returns
returns t c = wrote_next c.put_digits-end.ensures c.push-2.ensures (sym (digits_more _ _ c.if-most-eq0.false c.if-n-lt10.false))
