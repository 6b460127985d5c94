use mathlib.Core.Path.{sym, ap, subst, ◌∙◌}
use native.Mathlib.Omega.{arith}
use Prim.Native.Nat.{ℕ, ◌≤◌}
use lib.ListN.{length, replicate, length-replicate}
use Rattle.model.specs.History.{History}
use Rattle.model.specs.Lent.{no_constraint, encoded_list}
use Rattle.encoding.specs.Writing.{Planned}
use Rattle.lender.specs.Packing.{packed}
use Rattle.lender.proofs.Packs.{packed_long}
use Rattle.lender.proofs.Within.{planned_within}
use Rattle.codes.proofs.Writing.{Sends, out_short, out_written}
use Rattle.host.proofs.send.Goals as goal

pub returns-then-out-left : goal.returns-then-out-left
returns-then-out-left c =
    let a = c.args in
    let w = c.written-r.ensures in
    record {
      result = λ h e p. (out_short h e a.pruning a.out.now _ (c.from-left.ensures ∙ (w h e p).left_is) c.if-out-left.true).0;
      list = λ h e p. (out_short h e a.pruning a.out.now _ (c.from-left.ensures ∙ (w h e p).left_is) c.if-out-left.true).1;
    }

pub put_polygraph-requires : goal.put_polygraph-requires
put_polygraph-requires c =
    let a = c.args in
    let p = c.requires in
    let w = c.written-r.ensures p.h p.e p.plan in
    let few : c.from-left.result ≤ 4096 =
    subst (λ (k : ℕ). k ≤ 4096) (sym (c.from-left.ensures ∙ w.left_is)) (planned_within p.h p.e a.pruning a.tables.now a.chosen.now a.plan.rows a.plan.count p.plan) in
    let long = packed_long c.written-r.result.left (encoded_list p.h p.e a.pruning (replicate 4096 no_constraint)) (replicate 16384 0) in
    (few, omega (arith, few, ap length w.words_are, long, length-replicate {A = ℕ} 16384 0), c.if-out-left.false)

pub returns : goal.returns
returns c =
    let a = c.args in
    let p = c.requires in
    let few : c.from-left.result ≤ 4096 =
    subst (λ (k : ℕ). k ≤ 4096) (sym (c.from-left.ensures ∙ (c.written-r.ensures p.h p.e p.plan).left_is)) (planned_within p.h p.e a.pruning a.tables.now a.chosen.now a.plan.rows a.plan.count p.plan) in
    let all : (h : History) (e : ℕ) → Planned h e a.tables.now a.chosen.now a.plan.rows a.plan.count → Sends h e a.pruning a.out.now 0 c.put_polygraph.new.out =
    λ h e q.
    let w = c.written-r.ensures h e q in
    out_written h e a.pruning a.out.now _ (c.from-left.ensures ∙ w.left_is) c.if-out-left.false few _ _ _ w.rows_are
    (w.words_are ∙ ap (λ (k : ℕ). packed k (encoded_list h e a.pruning (replicate 4096 no_constraint)) (replicate 16384 0)) (sym c.from-left.ensures)) c.put_polygraph.ensures in
    record {
      result = λ h e q. (all h e q).0;
      list = λ h e q. (all h e q).1;
    }
