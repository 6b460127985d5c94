-- Known edges, the three encodings, pruning and selections: document 01, 'Known edges' to 'Pruning', with card 1's read-backs left out and card 7's known
-- edges by the office clock. Assumes nothing.
use Rattle.std.specs.Prelude.{ℕ, zero, suc, ◌<◌, ◌≡◌, ◌⊎◌, Bool, true, false, not, cond, ◌&&◌, ◌||◌, List, [], ◌∷◌, map, T, eqb, ltb, length, get_or}
-- A constraint has a side A and a side B. A side is a set of sources, as a 32-bit mask, with one target; it means an edge from each source to the
-- target. Each constraint is a record of these four fields, the struct of src/lib.rt.
pub use Rattle.model.specs.declared.Constraint.{Constraint}
use Rattle.model.specs.Lists.{All, all, any, place, keep, first_or, fold, each, up_to, bit, word_of}
use Rattle.model.specs.History.{History, Operation, start, size, cabinet_of, outward_of, is_read, sent_before, ends_before, writes, reads}

-- a good read: a read by t that looks at earlier transactions and names u, where u writes the key and u is not t. It gives the known edge u → t.
unfoldable pub good_read : History → ℕ → ℕ → ℕ → Bool
good_read h k t u = reads h t k u && (writes h u k && not (eqb u t))

-- v is the next transaction of u's cabinet. There is a known edge from each transaction to the next of the same cabinet.
unfoldable pub next_of_cabinet : History → ℕ → ℕ → Bool
next_of_cabinet h u v =
    sent_before h u v
    && all (λ w. not (ltb u w && (ltb w v && eqb (cabinet_of h u) (cabinet_of h w)))) (up_to (size h))

-- A read by t of the starting value that looks at earlier transactions gives t → v for every other writer v of the key.
unfoldable pub start_read : History → ℕ → ℕ → Bool
start_read h t v = any (λ k. reads h t k start && (writes h v k && not (eqb v t))) (up_to 32)

-- A read that looks at earlier transactions and names its own, or one that doesn't write the key, gives t → t.
unfoldable pub bad_read : History → ℕ → Bool
bad_read h t = any (λ r. is_read r && (not (eqb r.argument start) && not (good_read h r.key t r.argument))) (outward_of h t)

-- the successor of a write u on key k: the lowest-numbered transaction other than u that writes the key and has a good read of it from u; T
-- where there is none
unfoldable pub successor : History → ℕ → ℕ → ℕ
successor h k u = first_or (size h) (λ v. not (eqb v u) && (writes h v k && good_read h k v u)) (up_to (size h))

-- Further known edges of encoding 2: a reader t of u, where u has a successor v other than t, gives t → v.
unfoldable pub chain_edge : History → ℕ → ℕ → Bool
chain_edge h t v = any (λ k. any (λ u. good_read h k t u && (eqb (successor h k u) v && not (eqb v t))) (up_to (size h))) (up_to 32)

-- the known edge u → v in encoding e, which means u before v: the five kinds of every encoding, of which the second is every pair by the office clock,
-- and the further ones of encoding 2
unfoldable pub edge : History → ℕ → ℕ → ℕ → Bool
edge h e u v =
    ltb u (size h) && (ltb v (size h)
    && ((next_of_cabinet h u v || ends_before h u v) || (any (λ k. good_read h k v u) (up_to 32) || (start_read h u v || ((eqb u v && bad_read h u)
    || (eqb e 2 && chain_edge h u v))))))

-- The known edges as 32 row words: bit v of word u stands for u → v, and unused bits are 0.
unfoldable pub rows : History → ℕ → List ℕ
rows h e = map (λ u. word_of 32 (edge h e u)) (up_to 32)

-- Ends(w, x): Readers(w), which are the transactions with a good read of the key from w, without x or, where that is empty, w alone
unfoldable pub in_ends : History → ℕ → ℕ → ℕ → ℕ → Bool
in_ends h k w x s =
    cond (any (λ r. good_read h k r w && not (eqb r x)) (up_to (size h))) (good_read h k s w && not (eqb s x)) (eqb s w)

abbrev pub ends : History → ℕ → ℕ → ℕ → ℕ
ends h k w x = word_of 32 (in_ends h k w x)

-- t alone
abbrev pub only : ℕ → ℕ
only t = word_of 32 (λ s. eqb s t)

-- Encoding 0, plain: for every good read by t from u, and every writer v of that key other than u and t: A is t → v, B is v → u. Listed by t, then
-- body order, then v; every listing is ascending.
unfoldable pub plain_of : History → ℕ → Operation → List Constraint
plain_of h t r =
    cond (is_read r && good_read h r.key t r.argument)
    (map (λ v. record { fromA = only t; toA = v; fromB = only v; toB = r.argument })
    (keep (λ v. writes h v r.key && (not (eqb v r.argument) && not (eqb v t))) (up_to (size h))))
    []

unfoldable pub plain : History → List Constraint
plain h = each (λ t. each (plain_of h t) (outward_of h t)) (up_to (size h))

-- for each two i < j of those that the test passes, each standing for a run of writes that ends in `last`:
-- A is Ends(last i, j) to j, B is Ends(last j, i) to i. Listed by i, then j.
unfoldable pub between : History → ℕ → (ℕ → Bool) → (ℕ → ℕ) → List Constraint
between h k first last =
    each
    (λ i. map (λ j. record { fromA = ends h k (last i) j; toA = j; fromB = ends h k (last j) i; toB = i })
    (keep (λ j. ltb i j && first j) (up_to (size h))))
    (keep first (up_to (size h)))

-- Encoding 1, joined: for each key and each two writers i < j of it: A is Ends(i, j) to j, B is Ends(j, i) to i. Listed by key, then i, then j.
abbrev pub joined_on : History → ℕ → List Constraint
joined_on h k = between h k (λ w. writes h w k) (λ w. w)

unfoldable pub joined : History → List Constraint
joined h = each (joined_on h) (up_to 32)

-- Links from u to its successor make chains, each from a head to a tail; links in a ring have no head and give no chain. This is one or more links
-- on key k, from u to v.
pub data Linked (h : History) (k : ℕ) : ℕ → ℕ → Type 0 where
  link : {u v : ℕ} → successor h k u ≡ v → v < size h → Linked h k u v
  more : {u v w : ℕ} → Linked h k u v → successor h k v ≡ w → w < size h → Linked h k u w

-- v is the successor of some write on key k
unfoldable pub is_successor : History → ℕ → ℕ → Bool
is_successor h k v = any (λ u. writes h u k && eqb (successor h k u) v) (up_to (size h))

-- the head of a chain: a write that is nobody's successor
unfoldable pub is_head : History → ℕ → ℕ → Bool
is_head h k g = writes h g k && not (is_successor h k g)

-- the tail of a chain: the write without successor that its links lead to, in at most T steps
unfoldable pub tail_within : History → ℕ → ℕ → ℕ → ℕ
tail_within h k zero u = u
tail_within h k (suc n) u = let r = tail_within h k n (successor h k u) in cond (ltb (successor h k u) (size h)) r u

abbrev pub tail : History → ℕ → ℕ → ℕ
tail h k u = tail_within h k (size h) u

-- Encoding 2, chained: for each key and two chains with heads g < h and tails p, q: A is Ends(p, h) to h, B is Ends(q, g) to g, also where nobody
-- read a tail. Listed by key, then g, then h.
abbrev pub chained_on : History → ℕ → List Constraint
chained_on h k = between h k (is_head h k) (tail h k)

unfoldable pub chained : History → List Constraint
chained h = each (chained_on h) (up_to 32)

unfoldable pub constraints : History → ℕ → List Constraint
constraints h e = cond (eqb e 0) (plain h) (cond (eqb e 1) (joined h) (chained h))

-- ---- pruning

-- the known edges and the constraints
pub record Polygraph : Type 0 where
  pub known : List ℕ
  pub choices : List Constraint

abbrev pub row : List ℕ → ℕ → ℕ
row g u = get_or g u 0

-- the edge u → v of the row words g
abbrev pub has : List ℕ → ℕ → ℕ → Bool
has g u v = bit (row g u) v

-- with an edge from each source in the mask to the target
unfoldable pub with_side : List ℕ → ℕ → ℕ → List ℕ
with_side g from to = map (λ u. word_of 32 (λ v. has g u v || (bit from u && eqb v to))) (up_to 32)

-- with u → v wherever u → m and m → v
unfoldable pub through : List ℕ → ℕ → List ℕ
through g m = map (λ u. word_of 32 (λ v. has g u v || (has g u m && has g m v))) (up_to 32)

-- reached by one or more edges: through 0, then 1, ... then 31
unfoldable pub reach : List ℕ → List ℕ
reach g = fold through g (up_to 32)

-- A side is closed off when, by the known edges so far, some source is its target or is reached from it.
unfoldable pub closed_off : List ℕ → ℕ → ℕ → Bool
closed_off g from to = any (λ s. bit from s && (eqb s to || has (reach g) to s)) (up_to 32)

-- One pass goes through the list in order: if A is closed off, B's edges are added and the constraint is dropped; otherwise, if B is, A's are.
unfoldable pub pass : List ℕ → List Constraint → Polygraph
pass g [] = record { known = g; choices = [] }
pass g (c ∷ cs) =
    let drop_a = pass (with_side g c.fromB c.toB) cs in
    let drop_b = pass (with_side g c.fromA c.toA) cs in
    let held = pass g cs in
    let stays : Polygraph = record { known = held.known; choices = c ∷ held.choices } in
    let notA = cond (closed_off g c.fromB c.toB) drop_b stays in
    cond (closed_off g c.fromA c.toA) drop_a notA

-- Passes are repeated until one drops none, at most n.
unfoldable pub passes : ℕ → Polygraph → Polygraph
passes zero p = p
passes (suc n) p =
    let q = pass p.known p.choices in
    let r = passes n q in
    cond (eqb (length q.choices) (length p.choices)) q r

abbrev pub unpruned : History → ℕ → Polygraph
unpruned h e = record { known = rows h e; choices = constraints h e }

-- The polygraph of a history in one of the six settings, encoding 0 to 2 and pruning 0 or 1: its known edges and its list of constraints in that
-- encoding; with pruning 1, both as pruning leaves them.
unfoldable pub polygraph : History → ℕ → ℕ → Polygraph
polygraph h e pruning =
    let q = passes (length (constraints h e)) (unpruned h e) in
    cond (eqb pruning 1) q (unpruned h e)

-- ---- selections

-- A selection takes exactly one side of each constraint and adds its edges to the known ones: side A where its choice is true, else side B.
unfoldable pub select : List ℕ → List Constraint → List Bool → List ℕ
select g [] bs = g
select g (c ∷ cs) [] = g
select g (c ∷ cs) (true ∷ bs) = select (with_side g c.fromA c.toA) cs bs
select g (c ∷ cs) (false ∷ bs) = select (with_side g c.fromB c.toB) cs bs

-- a path of one or more edges
pub data Way (g : List ℕ) : ℕ → ℕ → Type 0 where
  step : {u v : ℕ} → T (has g u v) → Way g u v
  more : {u v w : ℕ} → T (has g u v) → Way g v w → Way g u w

-- no path of one or more edges returns to its start
abbrev pub Acyclic : List ℕ → Type 0
Acyclic g = (u : ℕ) → Way g u u → ⊥

-- an acyclic selection of a polygraph: exactly one side of each constraint, and no path returns to its start
pub record AcyclicSelection (p : Polygraph) : Type 0 where
  pub sides : List Bool
  pub each_one : length sides ≡ length p.choices
  pub acyclic : Acyclic (select p.known p.choices sides)

-- ---- what an order respects

-- u → v: u stands before v
abbrev pub Before : List ℕ → ℕ → ℕ → Type 0
Before o u v = place u o < place v o

-- the edges of the row words
abbrev pub RespectsKnown : List ℕ → List ℕ → Type 0
RespectsKnown o g = (u v : ℕ) → u < 32 → v < 32 → T (has g u v) → Before o u v

-- the edges of a side
abbrev pub RespectsSide : List ℕ → ℕ → ℕ → Type 0
RespectsSide o from to = (s : ℕ) → s < 32 → T (bit from s) → Before o s to

-- all edges of one of the two sides
abbrev pub RespectsOne : List ℕ → Constraint → Type 0
RespectsOne o c = RespectsSide o c.fromA c.toA ⊎ RespectsSide o c.fromB c.toB

abbrev pub Respects : List ℕ → Polygraph → Type 0
Respects o p = RespectsKnown o p.known × All (RespectsOne o) p.choices
