use mathlib.Core.Path.{◌≡◌, ap}
use mathlib.Core.List.{List, ◌++◌}
use Prim.Native.Nat.{ℕ}
use lib.ListN.{length, drop}
use borrow.Author.Rules.{rules}
use Rattle.codes.specs.Codes.{ordered_case}
use Rattle.codes.proofs.Writing.{table_short}
use Rattle.codes.proofs.Deciding.{takes, no_room, written}
use Rattle.host.proofs.Windows.{window_of}
use Rattle.host.proofs.write.Goals as goal

pub returns-then-table-lt64 : goal.returns-then-table-lt64
returns-then-table-lt64 c =
    let a = c.args in
    let all = table_short (ordered_case (window_of a.held a.starting) a.numbers) a.order.now a.table.now c.if-table-lt64.true in
    record {
      result = all.0;
      order = all.1.0;
      table = all.1.1;
    }

pub returns-then-order-n : goal.returns-then-order-n
returns-then-order-n c =
    let a = c.args in
    let w = window_of a.held a.starting in
    let long : length a.starting ≡ 32 = search rules in
    let all = no_room w (takes w.bytes a.starting w.clock long a.held.taken) a.numbers c.requires a.order.now a.table.now c.if-table-lt64.false _ c.transactions-n.ensures.0 c.if-order-n.true in
    record {
      result = all.0;
      order = all.1.0;
      table = all.1.1;
    }

pub returns : goal.returns
returns c =
    let a = c.args in
    let w = window_of a.held a.starting in
    let long : length a.starting ≡ 32 = search rules in
    let all = written w (takes w.bytes a.starting w.clock long a.held.taken) a.numbers c.requires a.order.now a.table.now c.if-table-lt64.false _ c.transactions-n.ensures.0 _ _ _
    c.if-order-n.false (ap (λ (xs : List ℕ). xs ++ drop c.transactions-n.result a.order.now) c.copy_from_slice.ensures.after) c.table-values.ensures c.put_values.ensures in
    record {
      result = all.0;
      order = all.1.0;
      table = all.1.1;
    }
