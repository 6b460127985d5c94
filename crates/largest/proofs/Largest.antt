-- The largest counts that can occur: at most 15 plain constraints for each operation, and 31 joined or chained ones for each two operations; so 256
-- operations give at most 3,840 in encoding 0 and 3,968 in encodings 1 and 2. Histories that have as many, and a key for which 15 in place of 16 would be
-- too few. Assumes nothing.
use Prim.Native.Nat.{ℕ, ◌+◌, ◌*◌, ◌-◌, ◌%◌, ◌≤◌, ◌<◌}
use native.Mathlib.Omega.{arith}
use native.Mathlib.Nat.{mul-le-mul_left, mul-le-mul_right}
use mathlib.Core.Path.{◌≡◌, refl, sym, ap, ap₂, subst, ◌∙◌}
use mathlib.Core.Logic.{⊎_elim, ◌≢◌}
use mathlib.Core.Bool.{Bool, true, false, not, cond, ◌&&◌}
use mathlib.Core.List.{List, [], ◌∷◌, map}
use lib.Dec.{T, eqb, leb, eqb→eq, leb→le, nleb→lt}
use lib.ListN.{length, length-map}
use Rattle.model.specs.Lists.{All, keep, each, total, up_to}
use Rattle.model.specs.History.{History, Operation, untimed, size, outward_of, is_read, is_read_back, outward, read_backs, keys_once, good_operation, good_keys, good_transaction, well_formed, writes, reads}
use Rattle.model.specs.Log.{load_number, history_of}
use Rattle.model.specs.Times.{Bare}
use Rattle.model.specs.declared.Constraint.{Constraint}
use Rattle.model.specs.Polygraph.{good_read, plain_of, plain, between, only, joined, is_successor, successor, is_head, tail, chained, constraints}
use Rattle.model.specs.Keys.{of_key, count_on, plain_on, constraints_on}
use Rattle.model.proofs.Basics.{and_r, true_eq, eqb_comm, decide, All-every, All-map-in}
use Rattle.model.proofs.Words.{digit}
use Rattle.model.proofs.Closed.{fewer}
use Rattle.model.proofs.Legal.{writes_small, reads_small, good_reads_lem, good_writes, good_other}
use Rattle.model.proofs.Central.{head_writes}
use Rattle.model.proofs.Loaded.{operations_few}
use Rattle.model.proofs.Sums.{total_mono, total_below, total_same, total_add, total_times, total_at, length_total, length_keep, length_each}
use Rattle.model.proofs.Counting.{Countable, counted_log, is_good, reads_of, good_reads, is_writer, writers, chosen, reads_few, chosen_few, operations_many, of_each, between_pairs, keys_bound, length_below}

-- ---- a test without two of the numbers that pass it

module _ (p : ℕ → Bool) (u t : ℕ) (apart : u ≢ t) where
  abbrev rest : ℕ → Bool
  rest v = p v && (not (eqb v u) && not (eqb v t))

  -- v is one of the rest, or u, or t, or does not pass
  three : (v : ℕ) → digit (rest v) + (digit (eqb u v) * digit (p u) + digit (eqb t v) * digit (p t)) ≤ digit (p v)
  three v =
      omega (
        arith,
        go (p v) (eqb v u) (eqb v t) (p u) (p t) (λ x. ap p (sym (eqb→eq v u x))) (λ y. ap p (sym (eqb→eq v t y))) (λ x y. apart (sym (eqb→eq v u x) ∙ eqb→eq v t y)),
        ap (λ b. digit b * digit (p u)) (eqb_comm u v),
        ap (λ b. digit b * digit (p t)) (eqb_comm t v),
      )
    where
      go : (a x y b c : Bool) → (T x → b ≡ a) → (T y → c ≡ a) → (T x → T y → ⊥) → digit (a && (not x && not y)) + (digit x * digit b + digit y * digit c) ≤ digit a
      go a true true b c f g h = absurd (h tt tt)
      go true true false b c f g h = omega (arith, ap digit (f tt))
      go false true false b c f g h = omega (arith, ap digit (f tt))
      go true false true b c f g h = omega (arith, ap digit (g tt))
      go false false true b c f g h = omega (arith, ap digit (g tt))
      go true false false b c f g h = omega arith
      go false false false b c f g h = omega arith

  pub rest_fewer : (n : ℕ) → u < n → t < n → length (keep rest (up_to n)) + (digit (p u) + digit (p t)) ≤ length (keep p (up_to n))
  rest_fewer n hu ht =
      omega (
        arith,
        total_mono (λ v. digit (rest v) + (digit (eqb u v) * digit (p u) + digit (eqb t v) * digit (p t))) (λ v. digit (p v)) three (up_to n),
        total_add (λ v. digit (rest v)) (λ v. digit (eqb u v) * digit (p u) + digit (eqb t v) * digit (p t)) (up_to n),
        total_add (λ v. digit (eqb u v) * digit (p u)) (λ v. digit (eqb t v) * digit (p t)) (up_to n),
        total_at (digit (p u)) u n hu,
        total_at (digit (p t)) t n ht,
        length_keep rest (up_to n),
        length_keep p (up_to n),
      )

-- ---- the arithmetic

-- c pairs between r of at most 32 and w of at most 32, of which `both` are in both: each of the r goes with all of the w but one, and itself
fifteen : (c r w both : ℕ) → r ≤ 32 → w ≤ 32 → r + w ≤ 32 + both → c + (r + both) ≤ r * w → c ≤ 15 * (r + w)
fifteen c r w both hr hw meet few =
    ⊎_elim
    (λ (a : T (leb r 15)). omega (arith, mul-le-mul_right {m = r} {n = 15} w (leb→le r 15 a)))
    (λ (a : T (not (leb r 15))).
    ⊎_elim
    (λ (b : T (leb w 15)). omega (arith, mul-le-mul_left {m = w} {n = 15} r (leb→le w 15 b)))
    (λ (b : T (not (leb w 15))).
    let i = nleb→lt r 15 a in
    let j = nleb→lt w 15 b in
    let x : r ≡ 16 + (r - 16) = omega arith in
    let y : w ≡ 16 + (w - 16) = omega arith in
    let z : w - 16 ≤ 16 = omega arith in
    omega (arith, ap₂ {C = ℕ} (λ m n. m * n) x y, mul-le-mul_left (r - 16) z))
    (decide (leb w 15)))
    (decide (leb r 15))

-- ---- one key

module _ (h : History) (ok : Countable h) (k : ℕ) where
  abbrev rs : ℕ → ℕ
  rs t = reads_of h k t

  abbrev ws : ℕ → ℕ
  ws t = digit (is_writer h ok k t)

  -- a good read by t from u has a constraint for each writer but u, and but t
  plain_rest : (t : ℕ) (o : Operation) → o.key ≡ k → length (plain_of h t o) + digit (is_good h t o) * (1 + ws t) ≤ digit (is_good h t o) * writers h ok k
  unfolding plain_of
  plain_rest t o e = go (is_good h t o) (λ s. s)
    where
      u : ℕ
      u = o.argument

      others : List ℕ
      others = keep (λ v. writes h v o.key && (not (eqb v u) && not (eqb v t))) (up_to (size h))

      of : ℕ → Constraint
      of v = record { fromA = only t; toA = v; fromB = only v; toB = u }

      few : T (is_good h t o) → length others + (1 + ws t) ≤ writers h ok k
      few s =
          let g : T (good_read h o.key t u) = and_r (is_read o) (good_read h o.key t u) s in
          let w = good_writes h o.key t u g in
          subst (λ x. length others + (1 + digit (writes h t x)) ≤ length (keep (λ v. writes h v x) (up_to (size h)))) e
          (omega (
            arith,
            rest_fewer (λ v. writes h v o.key) u t (good_other h o.key t u g) (size h) (writes_small h u o.key w) (reads_small h t o.key u (good_reads_lem h o.key t u g)),
            ap digit (true_eq (writes h u o.key) w),
          ))

      go : (b : Bool) → (T b → T (is_good h t o)) → length (cond b (map of others) []) + digit b * (1 + ws t) ≤ digit b * writers h ok k
      go true f = omega (arith, length-map others of, few (f tt))
      go false f = omega arith

  plain_in : (t : ℕ) → length (each (plain_of h t) (of_key k (outward_of h t))) + rs t * (1 + ws t) ≤ rs t * writers h ok k
  plain_in t =
      let good : Operation → ℕ = λ o. digit (is_good h t o) in
      let w = writers h ok k in
      let os = of_key k (outward_of h t) in
      omega (
        arith,
        length_each (plain_of h t) os,
        of_each h ok k (λ o. length (plain_of h t o) + good o * (1 + ws t)) (λ o. good o * w) (plain_rest t) (outward_of h t),
        total_add (λ o. length (plain_of h t o)) (λ o. good o * (1 + ws t)) os,
        total_times good (1 + ws t) os,
        total_times good w os,
        ap (λ m. m * (1 + ws t)) (length_keep (is_good h t) os),
        ap (λ m. m * w) (length_keep (is_good h t) os),
      )

  -- the good reads by writers
  abbrev both : ℕ
  both = total (λ t. rs t * ws t) (up_to (size h))

  meet : good_reads h ok k + writers h ok k ≤ 32 + both
  meet =
      omega (
        arith,
        total_below (λ t. rs t + ws t) (λ t. 1 + rs t * ws t) (size h) (λ t l. one (rs t) (is_writer h ok k t) (ok.one t k l)),
        total_add rs ws (up_to (size h)),
        total_add (λ t. 1) (λ t. rs t * ws t) (up_to (size h)),
        length_total (up_to (size h)),
        length_below (size h),
        length_keep (is_writer h ok k) (up_to (size h)),
        ok.loads.few,
      )
    where
      one : (m : ℕ) (b : Bool) → m ≤ 1 → m + digit b ≤ 1 + m * digit b
      one m true l = omega arith
      one m false l = omega arith

  -- with r good reads and w writers: at most r × (w - 1), less the reads by writers
  plain_pairs : length (plain_on h k) + (good_reads h ok k + both) ≤ good_reads h ok k * writers h ok k
  plain_pairs =
      let of : ℕ → ℕ = λ t. length (each (plain_of h t) (of_key k (outward_of h t))) in
      omega (
        arith,
        length_each (λ t. each (plain_of h t) (of_key k (outward_of h t))) (up_to (size h)),
        total_mono (λ t. of t + rs t * (1 + ws t)) (λ t. rs t * writers h ok k) plain_in (up_to (size h)),
        total_add of (λ t. rs t * (1 + ws t)) (up_to (size h)),
        total_same (λ t. rs t * (1 + ws t)) (λ t. rs t + rs t * ws t) (λ t. omega arith) (up_to (size h)),
        total_add rs (λ t. rs t * ws t) (up_to (size h)),
        total_times rs (writers h ok k) (up_to (size h)),
      )

  plain_most : length (plain_on h k) ≤ 15 * count_on h k
  plain_most =
      omega (
        arith,
        fifteen (length (plain_on h k)) (good_reads h ok k) (writers h ok k) both (reads_few h ok k) (chosen_few h ok k (is_writer h ok k)) meet plain_pairs,
        operations_many h ok k,
      )

  between_most : (first : ℕ → Bool) (last : ℕ → ℕ) → ((g : ℕ) → T (first g) → T (is_writer h ok k g)) → 2 * length (between h k first last) ≤ 31 * count_on h k
  between_most first last f =
      let m = chosen h ok k first in
      omega (
        arith,
        between_pairs h ok k first last,
        mul-le-mul_left m (chosen_few h ok k first),
        fewer first (is_writer h ok k) f (up_to (size h)),
        operations_many h ok k,
      )

-- ---- all keys

module _ (b : List ℕ) (taken : load_number b ≡ 0) where
  abbrev h₀ : History
  h₀ = history_of b

  abbrev ok₀ : Countable h₀
  ok₀ = counted_log b taken

  pub plain_3840 : length (constraints h₀ 0) ≤ 3840
  unfolding constraints_on
  plain_3840 = omega (arith, operations_few b taken, keys_bound h₀ ok₀.loads 0 1 15 most)
    where
      most : (k : ℕ) → 1 * length (constraints_on h₀ 0 k) ≤ 15 * count_on h₀ k
      most k = omega (arith, plain_most h₀ ok₀ k)

  pub joined_3968 : length (constraints h₀ 1) ≤ 3968
  unfolding constraints_on
  joined_3968 = omega (arith, operations_few b taken, keys_bound h₀ ok₀.loads 1 2 31 (λ k. between_most h₀ ok₀ k (λ w. writes h₀ w k) (λ w. w) (λ g t. t)))

  pub chained_3968 : length (constraints h₀ 2) ≤ 3968
  unfolding constraints_on
  chained_3968 = omega (arith, operations_few b taken, keys_bound h₀ ok₀.loads 2 2 31 (λ k. between_most h₀ ok₀ k (is_head h₀ k) (tail h₀ k) (head_writes h₀ k)))

-- ---- histories that meet them

-- 32 transactions of one cabinet, each with these operations
abbrev alike : (ℕ → List Operation) → History
alike f = map (λ t. untimed 0 (f t)) (up_to 32)

alike_bare : (f : ℕ → List Operation) → All Bare (alike f)
alike_bare f = All-map-in Bare (λ t. untimed 0 (f t)) (up_to 32) (All-every (λ t. Bare (untimed 0 (f t))) (λ t. (refl, refl)) (up_to 32))

-- each reads keys 0 to 3 from the one before it, transaction 0 from 31, and writes them
abbrev round_of : ℕ → List Operation
round_of t = each (λ k. record { kind = 0; key = k; argument = (t + 31) % 32 } ∷ (record { kind = 1; key = k; argument = 0 } ∷ [])) (up_to 4)

abbrev pub round : History
round = alike round_of

-- each writes keys 0 to 7
abbrev blind_of : ℕ → List Operation
blind_of t = map (λ k. record { kind = 1; key = k; argument = 0 }) (up_to 8)

abbrev pub blind : History
blind = alike blind_of

pub round_3840 : T (well_formed round) × (length (constraints round 0) ≡ 3840)
unfolding well_formed good_transaction good_operation good_keys outward read_backs is_read_back keys_once constraints plain plain_of good_read reads writes
round_3840 = (tt, refl)

pub blind_3968 : T (well_formed blind) × (length (constraints blind 1) ≡ 3968) × (length (constraints blind 2) ≡ 3968)
unfolding well_formed good_transaction good_operation good_keys outward read_backs is_read_back keys_once constraints joined chained between is_head is_successor successor good_read reads writes
blind_3968 = (tt, refl, refl)

-- of which key 0 has 496 constraints of 32 operations: 16 for each are enough, 15 are not
pub blind_key_496 : (count_on blind 0 ≡ 32) × (length (constraints_on blind 1 0) ≡ 496) × (length (constraints_on blind 2 0) ≡ 496)
unfolding constraints_on between is_head is_successor successor good_read outward is_read_back reads writes
blind_key_496 = (refl, refl, refl)

-- neither has times
pub round_bare : All Bare round
round_bare = alike_bare round_of

pub blind_bare : All Bare blind
blind_bare = alike_bare blind_of
