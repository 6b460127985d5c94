use Rattle.std.proofs.Common.{arith, ap, sym, ◌∙◌}
use Rattle.std.proofs.lemmas.Result.{err_from_is_err_and}
use Rattle.model.specs.Log.{first_number, bodies_number, entry_number, counts_before}
use Rattle.model.proofs.Numbers.{load_short, load_many_t, load_many_n, load_shorter, load_longer, load_entries, load_sum, load_bodies}
use Rattle.refusals.proofs.Numbering.{code_some}
use Rattle.logs.proofs.Reading.{head_out}
use Rattle.logs.proofs.test.Goals as goal
use Rattle.logs.proofs.test.Goals.{then-t-gt32-via-then-t-gt32, then-t-gt32-via-else-t-gt32+then-n-gt256}

pub returns-then-log-lt4 : goal.returns-then-log-lt4
returns-then-log-lt4 c = load_short _ (omega arith)

pub returns-then-t-gt32 : goal.returns-then-t-gt32
returns-then-t-gt32 c =
    let b = c.args.log.now in
    let is = head_out b _ c.header-h.ensures in
    elim c.then-t-gt32.branch [
      | then-t-gt32-via-then-t-gt32 w ↦ load_many_t b (omega arith) (omega (arith, is.0, is.1))
      | then-t-gt32-via-else-t-gt32+then-n-gt256 w ↦ load_many_n b (omega arith) (omega (arith, is.0, is.1))
    ]

pub returns-then-log-said-2 : goal.returns-then-log-said-2
returns-then-log-said-2 c =
    let b = c.args.log.now in
    let is = head_out b _ c.header-h.ensures in
    load_shorter b (omega arith) (omega (arith, is.0, is.1)) (omega (arith, is.0, is.1)) (omega (arith, is.0, is.1))

pub returns-then-log-said : goal.returns-then-log-said
returns-then-log-said c =
    let b = c.args.log.now in
    let is = head_out b _ c.header-h.ensures in
    load_longer b (omega arith) (omega (arith, is.0, is.1)) (omega (arith, is.0, is.1)) (omega (arith, is.0, is.1))

pub returns-in_err-sum : goal.returns-in_err-sum
returns-in_err-sum c =
    let b = c.args.log.now in
    let is = head_out b _ c.header-h.ensures in
    let t = c.from-t.ensures ∙ is.0 in
    let p = err_from_is_err_and c.from_residual.result c.from_residual.ensures.1 in
    rw (p.1, p.2)
    (load_entries b (omega arith) (omega (arith, is.0, is.1)) (omega (arith, is.0, is.1)) (omega (arith, is.0, is.1)) _ (c.in_err-sum.ensures.number ∙ ap (first_number (entry_number b)) t) (code_some _))

pub returns-then-sum-n : goal.returns-then-sum-n
returns-then-sum-n c =
    let b = c.args.log.now in
    let is = head_out b _ c.header-h.ensures in
    let t = c.from-t.ensures ∙ is.0 in
    load_sum b (omega arith) (omega (arith, is.0, is.1)) (omega (arith, is.0, is.1)) (omega (arith, is.0, is.1)) (sym (ap (first_number (entry_number b)) t) ∙ sym c.in_ok-sum.ensures.number)
    (λ e. c.if-sum-n.true (c.in_ok-sum.ensures.sum ∙ ap (counts_before b) t ∙ e ∙ sym is.1 ∙ sym c.from-n.ensures))

pub returns : goal.returns
returns c =
    let b = c.args.log.now in
    let is = head_out b _ c.header-h.ensures in
    let t = c.from-t.ensures ∙ is.0 in
    c.test-2.ensures ∙ ap (first_number (bodies_number b)) t
    ∙ load_bodies b (omega arith) (omega (arith, is.0, is.1)) (omega (arith, is.0, is.1)) (omega (arith, is.0, is.1)) (sym (ap (first_number (entry_number b)) t) ∙ sym c.in_ok-sum.ensures.number)
    (sym (ap (counts_before b) t) ∙ sym c.in_ok-sum.ensures.sum ∙ c.if-sum-n.false ∙ c.from-n.ensures ∙ is.1)
