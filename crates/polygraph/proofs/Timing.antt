-- The edges by the office clock: the loops that add them, and that the row words of a log with them are those of the log with its times. Assumes nothing.
use Prim.Native.Nat.{ℕ, zero, suc, ◌+◌, ◌-◌, ◌^◌, ◌≤◌, ◌<◌}
use native.Mathlib.Omega.{arith}
use native.Mathlib.Numerals.{add-one}
use mathlib.Core.Path.{◌≡◌, refl, sym, ap, ◌∙◌}
use mathlib.Core.Logic.{⊎_elim}
use mathlib.Core.Bool.{Bool, true, false, not, cond, ◌&&◌, ◌||◌}
use mathlib.Core.List.{List}
use lib.Dec.{T, eqb, ltb, eqb→eq, ltb→lt, lt→ltb, nltb→le}
use lib.Bits.{bit_or}
use lib.ListN.{length, get_or, get_or-eq_default}
use Rattle.model.specs.Lists.{All, any, fold, up_to, bit, word_of}
use Rattle.model.specs.History.{History, size}
use Rattle.model.specs.Log.{transactions_in, history_of}
use Rattle.model.specs.Polygraph.{edge, rows}
use Rattle.model.specs.Times.{Times, ended_before, timed_history, timed_number}
use Rattle.model.proofs.Basics.{decide, not_intro, false_eq, iff_eq, eq-T, eq-eqb, and_l, and_r, and_in, any_up_to_in, any_up_to_out, up_to_in}
use Rattle.model.proofs.Words.{bit_word, word_lt}
use Rattle.model.proofs.Masks.{word_or}
use Rattle.model.proofs.Loops.{fold_snoc}
use Rattle.model.proofs.Known.{edge_small}
use Rattle.model.proofs.Loaded.{loaded, history_size}
use Rattle.model.proofs.Times.{ended_is, ended_past, log_untimed, timed_edge, timed_log, timed_times, times_short}
use Rattle.graph.specs.Masks.{put_if}
use Rattle.polygraph.specs.Tables.{put_at}
use Rattle.polygraph.specs.Clock.{begun_after, after_end, clock_step, with_clock}
use Rattle.polygraph.proofs.Marks.{Sets, Puts, sets_put, sets_end, sets_of, sets_fold}

-- ---- the loops

-- a word with one bit more
pub word_next : (p : ℕ → Bool) (n mask : ℕ) → mask ≡ word_of n p → put_if mask n (p n) ≡ word_of (n + 1) p
unfolding put_if
word_next p n mask e = ap (λ m. put_if m n (p n)) e ∙ go (p n) refl ∙ ap (λ m. word_of m p) (sym (add-one n))
  where
    go : (b : Bool) → p n ≡ b → cond b (bit_or (word_of n p) (2 ^ n)) (word_of n p) ≡ word_of (suc n) p
    go true q = word_or n p ∙ sym (ap (λ b. cond b (word_of n p + 2 ^ n) (word_of n p)) q)
    go false q = sym (ap (λ b. cond b (word_of n p + 2 ^ n) (word_of n p)) q)

-- behind the last that the test passes there is none
word_past : (p : ℕ → Bool) (n m : ℕ) → ((i : ℕ) → n ≤ i → p i ≡ false) → word_of (n + m) p ≡ word_of n p
word_past p n zero none = let same : n + 0 ≡ n = omega arith in ap (λ k. word_of k p) same
word_past p n (suc m) none =
    let more : n + suc m ≡ suc (n + m) = omega arith in
    ap (λ k. word_of k p) more ∙ ap (λ b. cond b (word_of (n + m) p + 2 ^ (n + m)) (word_of (n + m) p)) (none (n + m) (omega arith)) ∙ word_past p n m none

pub word_all : (begins : List ℕ) (moment n mask : ℕ) → n ≡ length begins → n ≤ 32 → mask ≡ word_of n (λ v. ltb moment (get_or begins v 0))
    → mask ≡ begun_after begins moment
unfolding begun_after
word_all begins moment n mask e l is =
    let p : ℕ → Bool = λ v. ltb moment (get_or begins v 0) in
    let whole : n + (32 - n) ≡ 32 = omega arith in
    is
    ∙ sym (word_past p n (32 - n)
    (λ i k. false_eq (p i) (not_intro (p i) (λ t. absurd (omega (arith, ltb→lt moment (get_or begins i 0) t, get_or-eq_default begins 0 {n = i} (omega arith)))))))
    ∙ ap (λ k. word_of k p) whole

-- a row more
pub step_next : (ts : Times) (w out r : List ℕ) (u : ℕ) → out ≡ fold (clock_step ts) w (up_to u) → r ≡ put_at out u (after_end ts u) → r ≡ fold (clock_step ts) w (up_to (u + 1))
unfolding clock_step
step_next ts w out r u e p =
    p ∙ ap (λ x. clock_step ts x u) e ∙ sym (fold_snoc (clock_step ts) w (up_to u) u) ∙ ap (λ n. fold (clock_step ts) w (up_to n)) (sym (add-one u))

begun_small : (begins : List ℕ) (moment : ℕ) → begun_after begins moment < 2 ^ 32
unfolding begun_after
begun_small begins moment = word_lt 32 (λ v. ltb moment (get_or begins v 0))

begun_bit : (begins : List ℕ) (moment s : ℕ) → s < 32 → bit (begun_after begins moment) s ≡ ltb moment (get_or begins s 0)
unfolding begun_after
begun_bit begins moment s l = bit_word 32 (λ v. ltb moment (get_or begins v 0)) s l

clock_put : (ts : Times) (f : ℕ → ℕ → Bool) (w : List ℕ) (u : ℕ) → u < 32 → Sets 32 f w → Sets 32 (λ i s. f i s || (eqb i u && bit (after_end ts u) s)) (clock_step ts w u)
unfolding clock_step
clock_put ts f w u l x = sets_put 32 f w u (after_end ts u) l (begun_small ts.begins (get_or ts.ends u 0 + ts.drift)) x

-- ---- they are the model's

module _ (b : List ℕ) (ts : Times) (taken : timed_number b ts ≡ 0) (e : ℕ) where
  abbrev h : History
  h = history_of b

  few : size h ≤ 32
  few = omega (arith, history_size b, (loaded b (timed_log b ts taken)).few)

  abbrev puts : ℕ → ℕ → ℕ → Bool
  puts u i s = eqb i u && bit (after_end ts u) s

  -- those of the log alone
  start : Sets 32 (edge h e) (rows h e)
  unfolding rows
  start =
      sets_of 32 (edge h e)
      (λ i s l. false_eq (edge h e i s) (not_intro (edge h e i s) (λ t. absurd (omega (arith, l, few, (edge_small h e i s t).1)))))

  short : length ts.ends ≤ 32
  short = (times_short b ts taken).1

  -- what is added is what the clock orders
  added : (i s : ℕ) → s < 32 → any (λ u. puts u i s) (up_to (length ts.ends)) ≡ (ltb i (size h) && (ltb s (size h) && ended_before ts i s))
  added i s l =
      iff_eq (any (λ u. puts u i s) (up_to n)) (ltb i (size h) && (ltb s (size h) && ended_before ts i s))
      (λ t.
      let x = any_up_to_out (λ u. puts u i s) n t in
      let same : i ≡ x.0 = eqb→eq i x.0 (and_l (eqb i x.0) (bit (after_end ts x.0) s) x.1) in
      let low : i < n = omega (arith, same, x.2) in
      let ends : T (ended_before ts i s) =
      eq-T (ap (λ u. bit (after_end ts u) s) (sym same) ∙ bit_is i ∙ sym (ended_is ts i s low)) (and_r (eqb i x.0) (bit (after_end ts x.0) s) x.1) in
      ⊎_elim (λ (z : (length ts.begins ≡ 0) × (n ≡ 0)). absurd (omega (arith, z.1, low)))
      (λ (z : (length ts.begins ≡ transactions_in b) × (n ≡ transactions_in b)).
      let here : s < length ts.begins =
      ltb→lt s (length ts.begins) (inside s ends) in
      and_in (ltb i (size h)) (ltb s (size h) && ended_before ts i s) (lt→ltb i (size h) (omega (arith, low, z.1, history_size b)))
      (and_in (ltb s (size h)) (ended_before ts i s) (lt→ltb s (size h) (omega (arith, here, z.0, history_size b))) ends))
      (timed_times b ts taken).lengths)
      (λ t.
      let il = ltb→lt i (size h) (and_l (ltb i (size h)) (ltb s (size h) && ended_before ts i s) t) in
      let r = and_r (ltb i (size h)) (ltb s (size h) && ended_before ts i s) t in
      let ends = and_r (ltb s (size h)) (ended_before ts i s) r in
      ⊎_elim (λ (z : (length ts.begins ≡ 0) × (n ≡ 0)). absurd (eq-T (ended_past ts i s (omega (arith, z.0))) ends))
      (λ (z : (length ts.begins ≡ transactions_in b) × (n ≡ transactions_in b)).
      let low : i < n = omega (arith, il, z.1, history_size b) in
      any_up_to_in (λ u. puts u i s) n i low (and_in (eqb i i) (bit (after_end ts i) s) (eq-eqb {m = i} {n = i} refl) (eq-T (sym (bit_is i ∙ sym (ended_is ts i s low))) ends)))
      (timed_times b ts taken).lengths)
    where
      n : ℕ
      n = length ts.ends

      bit_is : (u : ℕ) → bit (after_end ts u) s ≡ ltb (get_or ts.ends u 0 + ts.drift) (get_or ts.begins s 0)
      bit_is u = begun_bit ts.begins (get_or ts.ends u 0 + ts.drift) s l

      inside : (s : ℕ) → T (ended_before ts i s) → T (ltb s (length ts.begins))
      inside s t =
          ⊎_elim (λ (x : T (ltb s (length ts.begins))). x)
          (λ (x : T (not (ltb s (length ts.begins)))). absurd (eq-T (ended_past ts i s (nltb→le s (length ts.begins) x)) t))
          (decide (ltb s (length ts.begins)))

  pub clock_rows : with_clock ts (rows h e) ≡ rows (timed_history b ts) e
  unfolding with_clock rows
  clock_rows =
      sets_end 32 (λ i s. edge h e i s || any (λ u. puts u i s) (up_to (length ts.ends))) (edge (timed_history b ts) e) (fold (clock_step ts) (rows h e) (up_to (length ts.ends)))
      (sets_fold 32 (clock_step ts) puts (edge h e) (rows h e) (up_to (length ts.ends)) each start)
      (λ i s l m. ap (λ x. edge h e i s || x) (added i s m) ∙ sym (timed_edge h (log_untimed b) ts e i s))
    where
      each : All (Puts 32 (clock_step ts) puts) (up_to (length ts.ends))
      each = up_to_in (Puts 32 (clock_step ts) puts) (length ts.ends) (λ u k f w x. clock_put ts f w u (omega (arith, k, short)) x)
