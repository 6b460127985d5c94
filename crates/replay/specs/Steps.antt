-- The tests of an order and the replay, step by step, as the code makes them. Laws in proofs/ say that they are the model's. Assumes nothing.
use Rattle.std.specs.Prelude.{ℕ, ◌+◌, Bool, cond, List, eqb, ltb, length, get_or, set}
use Rattle.model.specs.Lists.{implies, all, keep, fold, up_to}
use Rattle.model.specs.History.{Operation, History, operations_of, outward_of, is_read, is_write, sent_before}
use Rattle.model.specs.Log.{history_of}
use Rattle.model.specs.Times.{Times}

-- by the places of an order u stands before v where their cabinet sent it first
unfoldable pub kept_by : List ℕ → List ℕ → ℕ → ℕ → Bool
kept_by b places u v = implies (sent_before (history_of b) u v) (ltb (get_or places u 0) (get_or places v 0))

-- by the places of an order u stands before v where v began after the moment
unfoldable pub stands_after : ℕ → ℕ → List ℕ → ℕ → ℕ → Bool
stands_after moment begin places u v = implies (ltb moment begin) (ltb (get_or places u 0) (get_or places v 0))

-- u stands before each that began after its end, with the drift added
unfoldable pub clock_kept : Times → List ℕ → ℕ → Bool
clock_kept ts places u = all (λ v. stands_after (get_or ts.ends u 0 + ts.drift) (get_or ts.begins v 0) places u v) (up_to (length ts.begins))

-- a read names the last writer of its key
unfoldable pub agrees_by : List ℕ → Operation → Bool
agrees_by last o = implies (is_read o) (eqb (get_or last o.key 0) o.argument)

-- all reads of transaction t that look at earlier ones
unfoldable pub reads_agree : History → List ℕ → ℕ → Bool
reads_agree h last t = all (agrees_by last) (outward_of h t)

-- a table with x at the operation's key, where it is a write
unfoldable pub put_by : List ℕ → Operation → ℕ → List ℕ
put_by table o x = cond (is_write o) (set table o.key x) table

-- the table after transaction t, which marks its writes by its number or stores their arguments
unfoldable pub stored_by : Bool → History → List ℕ → ℕ → List ℕ
stored_by marks h table t = fold (λ tb o. set tb o.key (cond marks t o.argument)) table (keep is_write (operations_of h t))
