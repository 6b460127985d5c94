-- Sets of nodes as words. Assumes nothing.
use Rattle.std.specs.Prelude.{ℕ, zero, suc, ◌^◌, Bool, cond, bit_and, bit_or, bit_xor}

-- the mask with v, if so
unfoldable pub put_if : ℕ → ℕ → Bool → ℕ
put_if mask v put = cond put (bit_or mask (2 ^ v)) mask

-- the mask without v
unfoldable pub without : ℕ → ℕ → ℕ
without mask v = bit_xor mask (bit_and mask (2 ^ v))

-- the words f 0, f 1, ... f (n - 1) in one
unfoldable pub or_over : (ℕ → ℕ) → ℕ → ℕ
or_over f zero = 0
or_over f (suc n) = bit_or (or_over f n) (f n)
