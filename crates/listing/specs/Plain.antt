-- The tables of encoding 0, body by body. Assumes nothing.
use Rattle.std.specs.Prelude.{ℕ, ◌+◌, ◌*◌, ◌%◌, ◌<◌, ◌≡◌, not, cond, ◌&&◌, List, eqb, ltb, length, get_or}
use Rattle.model.specs.Lists.{each, up_to, bit}
use Rattle.model.specs.History.{Operation}
use Rattle.model.specs.Log.{transactions_in, count_at, start_at, operation_at}
use Rattle.graph.specs.Masks.{without}
use Rattle.graph.specs.Members.{members}
use Rattle.listing.specs.Choosing.{in_row}

-- the v of a body of t: where it is a good read, the writers w of its key but the one that it names and t. Nothing is asked of its place: a read-back in a
-- loaded log names t (law `plain_all` of the model).
unfoldable pub plain_mask : ℕ → ℕ → ℕ → ℕ → ℕ
plain_mask w t kind a = cond (eqb kind 0 && (ltb a 32 && (not (eqb a t) && bit w a))) (without (without w a) t) 0

-- the same of an operation
abbrev pub mask_of : List ℕ → ℕ → Operation → ℕ
mask_of ws t o = plain_mask (get_or ws o.key 0) t o.kind o.argument

-- the word of a body of t
abbrev pub body_word : ℕ → Operation → ℕ
body_word t o = t + 32 * (o.argument % 32)

-- the numbers of body m of t, of t's first m bodies, and of the first t transactions
unfoldable pub body_numbers : List ℕ → List ℕ → ℕ → ℕ → List ℕ
body_numbers b ws t m = in_row (start_at b t + m) (members (mask_of ws t (operation_at b (start_at b t + m))))

unfoldable pub plain_numbers_of : List ℕ → List ℕ → ℕ → ℕ → List ℕ
plain_numbers_of b ws t m = each (body_numbers b ws t) (up_to m)

unfoldable pub plain_numbers : List ℕ → List ℕ → ℕ → List ℕ
plain_numbers b ws t = each (λ s. plain_numbers_of b ws s (count_at b s)) (up_to t)

-- the words of the bodies below a number
pub record PlainTable (b : List ℕ) (bound : ℕ) (w : List ℕ) : Type 0 where
  pub long : length w ≡ 1025
  pub done : (t m : ℕ) → t < transactions_in b → m < count_at b t → start_at b t + m < bound → get_or w (start_at b t + m) 0 ≡ body_word t (operation_at b (start_at b t + m))
