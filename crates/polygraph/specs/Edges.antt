-- The known edges as the code computes them from the tables, read by read. Laws in proofs/ say that they are the model's. Assumes nothing.
use Rattle.std.specs.Prelude.{ℕ, ◌/◌, ◌%◌, ◌≤◌, ◌≡◌, Bool, not, cond, ◌&&◌, List, map, eqb, ltb, get_or}
use Rattle.std.specs.Int.Bits.{bit_and}
use Rattle.std.specs.Int.Count.{count_trailing_zeros}
use Rattle.model.specs.Lists.{up_to, bit, word_of}
use Rattle.model.specs.History.{History, size}
use Rattle.model.specs.Polygraph.{next_of_cabinet, successor}
use Rattle.model.specs.Log.{transactions_in, load_number, history_of}
use Rattle.graph.specs.Masks.{put_if}
use Rattle.polygraph.specs.Tables.{writers_of, read_marks_of, key_in, owner_in, slot_in, put_at}

-- ---- successors: word key * 32 + u has the successor of the write u on the key, or T

unfoldable pub successors_of : History → List ℕ
successors_of h = map (λ i. successor h (i / 32) (i % 32)) (up_to 1024)

unfoldable pub next_by : ℕ → ℕ → ℕ → ℕ
next_by readers writers n = cond (eqb (bit_and readers writers) 0) n (count_trailing_zeros 32 (bit_and readers writers))

unfoldable pub successors_by : ℕ → List ℕ → List ℕ → List ℕ
successors_by n writers marks = map (λ i. next_by (get_or marks i 0) (get_or writers (i / 32) 0) n) (up_to 1024)

-- ---- cabinets

-- the edge from u to the next of the same cabinet
unfoldable pub cabinet_word : History → ℕ → ℕ
cabinet_word h u = word_of 32 (λ v. ltb v (size h) && next_of_cabinet h u v)

-- 32 row words of these alone
unfoldable pub cabinet_rows : History → List ℕ
cabinet_rows h = map (cabinet_word h) (up_to 32)

-- ---- reads

-- The edge t → v by a read of t's own, whose word in the read table is `at`: w are the writers of its key, readers those of the write that it
-- names. A good read gives one where the edges are chained, to the write's successor; a bad read one to t; a read at start one to each other writer.
unfoldable pub own_edge : ℕ → ℕ → ℕ → ℕ → Bool → ℕ → Bool
own_edge at t w readers chained v =
    cond (ltb at 1024) (chained && ((bit (bit_and readers w) v && eqb v (count_trailing_zeros 32 (bit_and readers w))) && not (eqb v t)))
    (cond (eqb at 1056) (eqb v t) (bit w v && not (eqb v t)))

unfoldable pub own_edges : ℕ → ℕ → ℕ → ℕ → Bool → ℕ
own_edges at t w readers chained = word_of 32 (own_edge at t w readers chained)

-- The edges of a read: u → t for a good read from u, and those from t.
unfoldable pub read_step : Bool → List ℕ → List ℕ → List ℕ → ℕ → List ℕ
read_step chained writers marks w r =
    let at = slot_in writers r in
    let t = owner_in r in
    put_at (put_at w (at % 32) (put_if 0 t (ltb at 1024))) t (own_edges at t (get_or writers (key_in r) 0) (get_or marks at 0) chained)

-- ---- what the functions over the tables rely on

-- the tables are those of the log, which Load takes; n is T
pub record Tabled (b : List ℕ) (n : ℕ) (writers marks : List ℕ) : Type 0 where
  pub loads : load_number b ≡ 0
  pub count : n ≡ transactions_in b
  pub few : n ≤ 32
  pub writers_are : writers ≡ writers_of (history_of b)
  pub marks_are : marks ≡ read_marks_of (history_of b)
