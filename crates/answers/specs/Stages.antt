-- The stage that a case counts as, by what it says and holds, and the refusals that hang on it: document 01, 'The calls'. Assumes nothing.
use Rattle.std.specs.Prelude.{ℕ, Bool, true, false, cond, ◌&&◌, List, eqb, leb, ltb, length, take}
use Rattle.model.specs.History.{is_order}
use Rattle.model.specs.Log.{transactions_in}
use Rattle.model.specs.Times.{timed_number}
use Rattle.answers.specs.declared.Clock.{Clock}
use Rattle.answers.specs.Clocks.{times_in}
use Rattle.answers.specs.declared.Stage.{Stage}
use Rattle.answers.specs.declared.Stage.TheVariants.{Fresh, Loaded, Ordered, NoOrder}

-- Load would take the log and the times that a case holds; a length over the room of either is more than it holds
unfoldable pub holds_window : List ℕ → ℕ → Clock → Bool
holds_window bytes n k = leb n (length bytes) && (leb k.count 32 && eqb (timed_number (take n bytes) (times_in k)) 0)

-- the order that a case claims is every number below T once
unfoldable pub claims_order : List ℕ → ℕ → List ℕ → Bool
claims_order bytes n order = is_order (transactions_in (take n bytes)) (take (transactions_in (take n bytes)) order)

-- A case put together outside these calls counts as fresh where Load would refuse its contents, and as loaded where it claims an order that
-- isn't every number below T once: by what it says, whether Load would take its contents, and whether the order is one.
unfoldable pub counted : Stage → Bool → Bool → Stage
counted Fresh loads orders = Fresh
counted Loaded false orders = Fresh
counted Loaded true orders = Loaded
counted Ordered false orders = Fresh
counted Ordered true false = Loaded
counted Ordered true true = Ordered
counted NoOrder false orders = Fresh
counted NoOrder true orders = NoOrder

abbrev pub is_fresh : Stage → Bool
is_fresh Fresh = true
is_fresh Loaded = false
is_fresh Ordered = false
is_fresh NoOrder = false

-- Order, Table and Bills test 23, a case not decided; 24, the same after 'no order'; 25, a lent list of fewer places than are needed.
unfoldable pub refused_by : Stage → ℕ → ℕ → ℕ
refused_by Fresh needed places = 23
refused_by Loaded needed places = 23
refused_by NoOrder needed places = 24
refused_by Ordered needed places = cond (ltb places needed) 25 0

-- 13 a proposed order that isn't every number below T once
unfoldable pub order_refusal : ℕ → List ℕ → ℕ
order_refusal n o = cond (is_order n o) 0 13
