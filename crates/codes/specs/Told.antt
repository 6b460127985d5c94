-- What Decide and Bills for C write where they return 0, in the model's words. The theorems that end proofs/Demands.antt say it of what is left in the lists. Assumes nothing.
use Rattle.std.specs.Prelude.{ℕ, ◌+◌, ◌*◌, ◌<◌, ◌≤◌, ◌≡◌, List, ◌++◌, length, drop, get_or}
use Rattle.std.proofs.Math.Option.{some}
use Rattle.model.specs.History.{History, replay}
use Rattle.model.specs.Search.{first_legal}
use Rattle.wear.specs.Wear.{moves, mills, cents, travel}
use Rattle.codes.specs.Images.{word_at, signed_at, values_in}

-- Of a history of n transactions and a starting table: the lists order and table were lent, and order' and table' are left. The first legal order stands in the
-- first n bytes of the one, and in the first 64 bytes of the other the 32 values of the table which its replay leaves, from the starting table; all further bytes are
-- as they were, and there are as many.
pub record Ordered (h : History) (n : ℕ) (starting order table order' table' : List ℕ) : Type 0 where
  pub first : List ℕ
  pub is_first : first_legal h ≡ some first
  pub count : length first ≡ n
  pub fits : n ≤ length order
  pub order_is : order' ≡ first ++ drop n order
  pub wide : 64 ≤ length table
  pub values : values_in table' ≡ replay h starting first
  pub rest : drop 64 table' ≡ drop 64 table
  pub long : length table' ≡ length table

-- Of a history and a starting table: the list before was lent, and after is left. Each cabinet's twelve bytes hold its bill, of the moves in the replay of the first legal
-- order from the starting table: its mills, its cents, and its travel as two's complement, low byte first. From byte 192 on the list is as it was, and as long.
pub record Billed (h : History) (starting before after : List ℕ) : Type 0 where
  pub first : List ℕ
  pub is_first : first_legal h ≡ some first
  pub wide : 192 ≤ length before
  pub mills_at : (c : ℕ) → c < 16 → word_at after (12 * c) ≡ mills c (moves h starting first)
  pub cents_at : (c : ℕ) → c < 16 → word_at after (12 * c + 4) ≡ cents c (moves h starting first)
  pub travel_at : (c : ℕ) → c < 16 → signed_at after (12 * c + 8) ≡ travel c (moves h starting first)
  pub behind : (j : ℕ) → 192 ≤ j → get_or after j 0 ≡ get_or before j 0
  pub long : length after ≡ length before
