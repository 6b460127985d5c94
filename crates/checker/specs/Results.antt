-- What Order, Table and Bills give and leave, refused or not: document 01, 'The calls' and 'Refused because of the state', and card 8. Assumes nothing.
use Rattle.std.specs.Prelude.{ℕ, ◌≡◌, cond, List, ◌++◌, eqb, length, drop}
use Rattle.model.specs.Log.{transactions_in}
use Rattle.model.specs.Lent.{written_order, written_table}
use Rattle.wear.specs.Wear.{moves}
use Rattle.wear.specs.Bills.{bills_of}
use Rattle.wear.specs.declared.Bill.{Bill}
use Rattle.checker.specs.declared.Case.{Case}
use Rattle.checker.specs.declared.Answer.{Answer}
use Rattle.checker.specs.Cases.{contents, history_in, order_in, stage_of}
use Rattle.answers.specs.Numbers.{reply_of}
use Rattle.refusals.specs.Numbers.{number_of}
use Rattle.answers.specs.Stages.{refused_by}

-- Order needs T places, Table 32, Bills 16.
unfoldable pub order_refused : Case → ℕ → ℕ
order_refused c places = refused_by (stage_of c) (transactions_in (contents c)) places

unfoldable pub table_refused : Case → ℕ → ℕ
table_refused c places = refused_by (stage_of c) 32 places

unfoldable pub bills_refused : Case → ℕ → ℕ
bills_refused c places = refused_by (stage_of c) 16 places

-- the answer: the case as it was, and the number
unfoldable pub replying : Case → ℕ → Answer
replying c number = record { case = c; reply = reply_of number }

-- the lent list after Order and after Table: as it was where the call is refused
unfoldable pub order_left : Case → List ℕ → List ℕ
order_left c ys = cond (eqb (order_refused c (length ys)) 0) (written_order (transactions_in (contents c)) c.order ys) ys

unfoldable pub table_left : Case → List ℕ → List ℕ
table_left c ys = cond (eqb (table_refused c (length ys)) 0) (written_table (history_in c) c.starting (order_in c) ys) ys

-- the sixteen bills of a case that is decided with an order: of the moves in that order's replay from the case's starting table
unfoldable pub bills_in : Case → List Bill
bills_in c = bills_of (moves (history_in c) c.starting (order_in c))

-- the lent list after Bills: the sixteen in front of what stood behind the first sixteen places
unfoldable pub bills_left : Case → List Bill → List Bill
bills_left c ys = cond (eqb (bills_refused c (length ys)) 0) (bills_in c ++ drop 16 ys) ys

-- Bills on a lent list ys: the answer r, and the list zs that it leaves.
pub record Bills (c : Case) (ys : List Bill) (r : Answer) (zs : List Bill) : Type 0 where
  pub result : r ≡ replying c (bills_refused c (length ys))
  pub number : number_of r.reply ≡ bills_refused c (length ys)
  pub list : zs ≡ bills_left c ys
