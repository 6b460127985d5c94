-- Load's number, test by test: what each test gives where those before it pass. And that 3, 35, 10 and 34 stand exactly where the length, or the first body
-- that is refused, is as specs/Refusals says. Assumes nothing.
use Prim.Native.Nat.{ℕ, zero, suc, ◌+◌, ◌≤◌, ◌<◌}
use native.Mathlib.Omega.{arith}
use mathlib.Core.Path.{◌≡◌, refl, sym, subst, ◌∙◌}
use mathlib.Core.Logic.{◌⊎◌, inl, inr, ⊎_elim, ◌≢◌, ◌↔◌}
use mathlib.Core.Bool.{Bool, true, false, not, cond, ◌&&◌, ◌||◌}
use mathlib.Core.List.{List}
use lib.Dec.{T, eqb, ltb, eqb→eq, ltb→lt, nltb→le, lt→ltb}
use lib.ListN.{length}
use Rattle.model.specs.History.{start}
use Rattle.model.specs.Log.{transactions_in, operations_in, cabinet_at, count_at, start_at, counts_before, kind_at, key_at, argument_at, or_else, first_number, entry_number, seen, back_at, seen_back, again, body_number, bodies_number, length_said, load_number}
use Rattle.model.specs.Refusals.{Counted, Shorter, Longer, FirstRefused, SecondRead, SecondWrite}
use Rattle.model.proofs.Basics.{decide, clash, not_intro, and_l, and_r, and_in, or_l, or_r, cond_out, cond_yes, cond_no, true_eq, false_eq, eq-T, eqb_ne, eq-eqb, same?, any_up_to_out, any_up_to_in}
use Rattle.model.proofs.Loaded.{or_else_none, or_else_some, first_none, first_suc, first_stop, first_out, none_found, neither, GoodEntry, good_entry}

-- ---- one test

-- a test that applies gives its number ..
given : (a : Bool) (n x : ℕ) → T a → cond a n x ≡ n
given true n x t = refl
given false n x t = absurd t

-- .. and one that doesn't gives what stands behind it
pub past : (a : Bool) (n x : ℕ) → T (not a) → cond a n x ≡ x
past true n x t = absurd t
past false n x t = refl

-- a number that a test doesn't give comes from behind it ..
behind : (a : Bool) (n x y : ℕ) → cond a n x ≡ y → n ≢ y → T (not a) × (x ≡ y)
behind true n x y e f = absurd (f e)
behind false n x y e f = (tt, e)

-- .. and one that doesn't come from behind it the test gives
here : (a : Bool) (n x y : ℕ) → cond a n x ≡ y → x ≢ y → T a × (n ≡ y)
here true n x y e f = (tt, e)
here false n x y e f = absurd (f e)

-- what holds of both holds of either
either : (P : ℕ → Type 0) (a : Bool) (x y : ℕ) → P x → P y → P (cond a x y)
either P true x y p q = p
either P false x y p q = q

pub not_lt : (m n : ℕ) → n ≤ m → T (not (ltb m n))
not_lt m n l = not_intro (ltb m n) (λ t. absurd (omega (arith, ltb→lt m n t)))

below? : (m n : ℕ) → (m < n) ⊎ (n ≤ m)
below? m n = ⊎_elim (λ t. inl (ltb→lt m n t)) (λ t. inr (nltb→le m n t)) (decide (ltb m n))

-- ---- all tests in turn

module _ (b : List ℕ) where
  -- what stands behind the test of a number
  abbrev behind5 : ℕ
  behind5 = cond (eqb (counts_before b (transactions_in b)) (operations_in b)) (first_number (bodies_number b) (transactions_in b)) 6

  abbrev behind35 : ℕ
  behind35 = or_else (first_number (entry_number b) (transactions_in b)) behind5

  abbrev behind3 : ℕ
  behind3 = cond (ltb (length_said b) (length b)) 35 behind35

  abbrev behind2 : ℕ
  behind2 = cond (ltb (length b) (length_said b)) 3 behind3

  abbrev too_many : Bool
  too_many = ltb 32 (transactions_in b) || ltb 256 (operations_in b)

  pub load_short : length b < 4 → 1 ≡ load_number b
  unfolding load_number
  load_short l = sym (given (ltb (length b) 4) 1 (cond too_many 2 behind2) (lt→ltb (length b) 4 l))

  module _ (header : 4 ≤ length b) where
    past1 : load_number b ≡ cond too_many 2 behind2
    unfolding load_number
    past1 = past (ltb (length b) 4) 1 (cond too_many 2 behind2) (not_lt (length b) 4 header)

    pub load_many_t : 32 < transactions_in b → 2 ≡ load_number b
    load_many_t l = sym (past1 ∙ given too_many 2 behind2 (or_l (ltb 32 (transactions_in b)) (ltb 256 (operations_in b)) (lt→ltb 32 (transactions_in b) l)))

    pub load_many_n : 256 < operations_in b → 2 ≡ load_number b
    load_many_n l = sym (past1 ∙ given too_many 2 behind2 (or_r (ltb 32 (transactions_in b)) (ltb 256 (operations_in b)) (lt→ltb 256 (operations_in b) l)))

    module _ (few : transactions_in b ≤ 32) (many : operations_in b ≤ 256) where
      past2 : load_number b ≡ behind2
      past2 =
          past1
          ∙ past too_many 2 behind2
          (neither (ltb 32 (transactions_in b)) (ltb 256 (operations_in b)) (not_lt 32 (transactions_in b) few) (not_lt 256 (operations_in b) many))

      pub load_shorter : length b < length_said b → 3 ≡ load_number b
      load_shorter l = sym (past2 ∙ given (ltb (length b) (length_said b)) 3 behind3 (lt→ltb (length b) (length_said b) l))

      past3 : length_said b ≤ length b → load_number b ≡ behind3
      past3 l = past2 ∙ past (ltb (length b) (length_said b)) 3 behind3 (not_lt (length b) (length_said b) l)

      pub load_longer : length_said b < length b → 35 ≡ load_number b
      load_longer l = sym (past3 (omega arith) ∙ given (ltb (length_said b) (length b)) 35 behind35 (lt→ltb (length_said b) (length b) l))

      module _ (whole : length b ≡ length_said b) where
        past35 : load_number b ≡ behind35
        past35 =
            past3 (omega (arith, whole))
            ∙ past (ltb (length_said b) (length b)) 35 behind35 (not_lt (length_said b) (length b) (omega (arith, whole)))

        pub load_entries : (x : ℕ) → x ≡ first_number (entry_number b) (transactions_in b) → x ≢ 0 → x ≡ load_number b
        load_entries x e f =
            e ∙ sym (or_else_some (first_number (entry_number b) (transactions_in b)) behind5 (λ z. f (e ∙ z))) ∙ sym past35

        module _ (none : first_number (entry_number b) (transactions_in b) ≡ 0) where
          past5 : load_number b ≡ behind5
          past5 = past35 ∙ or_else_none (first_number (entry_number b) (transactions_in b)) behind5 none

          pub load_sum : counts_before b (transactions_in b) ≢ operations_in b → 6 ≡ load_number b
          load_sum f =
              sym (past5 ∙ past (eqb (counts_before b (transactions_in b)) (operations_in b)) (first_number (bodies_number b) (transactions_in b)) 6
              (not_intro (eqb (counts_before b (transactions_in b)) (operations_in b)) (λ t. f (eqb→eq (counts_before b (transactions_in b)) (operations_in b) t))))

          pub load_bodies : counts_before b (transactions_in b) ≡ operations_in b → first_number (bodies_number b) (transactions_in b) ≡ load_number b
          load_bodies e =
              sym (past5 ∙ given (eqb (counts_before b (transactions_in b)) (operations_in b)) (first_number (bodies_number b) (transactions_in b)) 6 (eq-eqb e))

-- ---- which numbers entries and bodies have

-- 0, a number between two, or one that stands apart
abbrev Within : (low high apart x : ℕ) → Type 0
Within low high apart x = (x ≡ 0) ⊎ (((low ≤ x) × (x ≤ high)) ⊎ (x ≡ apart))

outside : (low high apart x y : ℕ) → Within low high apart x → x ≡ y → y ≢ 0 → (y < low) ⊎ (high < y) → y ≢ apart → ⊥
outside low high apart x y w e f o g =
    ⊎_elim (λ z. f (sym e ∙ z))
    (λ u. ⊎_elim (λ l. ⊎_elim (λ k. omega (arith, e, l.0, k)) (λ k. omega (arith, e, l.1, k)) o) (λ p. g (sym e ∙ p)) u) w

between : (low high apart x : ℕ) → low ≤ x → x ≤ high → Within low high apart x
between low high apart x l k = inr (inl (l, k))

first_within : (low high apart : ℕ) (f : ℕ → ℕ) → ((i : ℕ) → Within low high apart (f i)) → (n : ℕ) → Within low high apart (first_number f n)
unfolding first_number
first_within low high apart f g zero = inl refl
first_within low high apart f g (suc n) =
    either (Within low high apart) (eqb (first_number f n) 0) (f n) (first_number f n) (g n) (first_within low high apart f g n)

-- entries have 4, 5 or 0
entries_within : (b : List ℕ) (n : ℕ) → Within 4 5 5 (first_number (entry_number b) n)
unfolding entry_number
entries_within b n =
    first_within 4 5 5 (entry_number b)
    (λ t.
    either (Within 4 5 5) (ltb 15 (cabinet_at b t)) 4 (cond (eqb (start_at b t) (counts_before b t)) 0 5) (between 4 5 5 4 (omega arith) (omega arith))
    (either (Within 4 5 5) (eqb (start_at b t) (counts_before b t)) 0 5 (inl refl) (inr (inr refl))))
    n

pub entry_zero : (b : List ℕ) (t : ℕ) → cabinet_at b t ≤ 15 → start_at b t ≡ counts_before b t → entry_number b t ≡ 0
unfolding entry_number
entry_zero b t c s =
    past (ltb 15 (cabinet_at b t)) 4 (cond (eqb (start_at b t) (counts_before b t)) 0 5) (not_lt 15 (cabinet_at b t) c)
    ∙ given (eqb (start_at b t) (counts_before b t)) 0 5 (eq-eqb s)

-- ---- a body: 10 and 34

module _ (b : List ℕ) (first : ℕ) where
  abbrev kind : ℕ → ℕ
  kind j = kind_at b (first + j)

  abbrev key : ℕ → ℕ
  key j = key_at b (first + j)

  abbrev argument : ℕ → ℕ
  argument j = argument_at b (first + j)

  back_reads : (j : ℕ) → T (back_at b first j) → kind j ≡ 0
  unfolding back_at
  back_reads j u = eqb→eq (kind j) 0 (and_l (eqb (kind j) 0) (seen b first j 1 (key j)) u)

  -- behind a read-back a read of its key is a read-back too
  back_stays : (j m : ℕ) → j < m → kind m ≡ 0 → key j ≡ key m → T (back_at b first j) → T (back_at b first m)
  unfolding back_at seen
  back_stays j m l z e u =
      let w = any_up_to_out (λ i. eqb (kind i) 1 && eqb (key i) (key j)) j (and_r (eqb (kind j) 0) (seen b first j 1 (key j)) u) in
      let i = w.0 in
      let same = eqb→eq (key i) (key j) (and_r (eqb (kind i) 1) (eqb (key i) (key j)) w.1) in
      and_in (eqb (kind m) 0) (seen b first m 1 (key m)) (eq-eqb z)
      (any_up_to_in (λ i. eqb (kind i) 1 && eqb (key i) (key m)) m i (omega (arith, l, w.2))
      (and_in (eqb (kind i) 1) (eqb (key i) (key m)) (and_l (eqb (kind i) 1) (eqb (key i) (key j)) w.1) (eq-eqb (same ∙ e))))

  -- what stands a second time: an earlier body of its kind and key, on the same side of the write where it is a read
  module _ (m : ℕ) where
    pub again_out : T (again b first m) → (j : ℕ) × (j < m) × (kind j ≡ kind m) × (key j ≡ key m) × (kind m ≡ 0 → back_at b first j ≡ back_at b first m)
    unfolding again seen seen_back
    again_out t =
        ⊎_elim
        (λ u.
        let r = any_up_to_out (λ j. back_at b first j && eqb (key j) (key m)) m u.1 in
        let j = r.0 in
        let bj = and_l (back_at b first j) (eqb (key j) (key m)) r.1 in (
          j,
          r.2,
          back_reads j bj ∙ sym (back_reads m u.0),
          eqb→eq (key j) (key m) (and_r (back_at b first j) (eqb (key j) (key m)) r.1),
          (λ z. true_eq (back_at b first j) bj ∙ sym (true_eq (back_at b first m) u.0)),
        ))
        (λ u.
        let r = any_up_to_out (λ j. eqb (kind j) (kind m) && eqb (key j) (key m)) m u.1 in
        let j = r.0 in
        let same = eqb→eq (key j) (key m) (and_r (eqb (kind j) (kind m)) (eqb (key j) (key m)) r.1) in (
          j,
          r.2,
          eqb→eq (kind j) (kind m) (and_l (eqb (kind j) (kind m)) (eqb (key j) (key m)) r.1),
          same,
          (λ z. false_eq (back_at b first j) (not_intro (back_at b first j) (λ v. clash (back_at b first m) (back_stays j m r.2 z same v) u.0)) ∙ sym (false_eq (back_at b first m) u.0)),
        ))
        (cond_out (back_at b first m) (seen_back b first m (key m)) (seen b first m (kind m) (key m)) t)

    pub again_in : (j : ℕ) → j < m → kind j ≡ kind m → key j ≡ key m → (kind m ≡ 0 → back_at b first j ≡ back_at b first m) → T (again b first m)
    unfolding again seen seen_back
    again_in j l k e s =
        ⊎_elim
        (λ u.
        cond_yes (back_at b first m) (seen_back b first m (key m)) (seen b first m (kind m) (key m)) u
        (any_up_to_in (λ j. back_at b first j && eqb (key j) (key m)) m j l
        (and_in (back_at b first j) (eqb (key j) (key m)) (eq-T (sym (s (back_reads m u))) u) (eq-eqb e))))
        (λ u.
        cond_no (back_at b first m) (seen_back b first m (key m)) (seen b first m (kind m) (key m)) u
        (any_up_to_in (λ j. eqb (kind j) (kind m) && eqb (key j) (key m)) m j l
        (and_in (eqb (kind j) (kind m)) (eqb (key j) (key m)) (eq-eqb k) (eq-eqb e))))
        (decide (back_at b first m))

  module _ (t m : ℕ) where
    abbrev reads : Bool
    reads = eqb (kind m) 0

    abbrev unnamed : Bool
    unnamed = not (ltb (argument m) (transactions_in b)) && not (eqb (argument m) start)

    abbrev behind34 : ℕ
    behind34 = cond (back_at b first m && not (eqb (argument m) t)) 11 0

    abbrev behind9 : ℕ
    behind9 = cond (again b first m) (cond reads 10 34) behind34

    abbrev behind8 : ℕ
    behind8 = cond (reads && unnamed) 9 behind9

    abbrev behind7 : ℕ
    behind7 = cond (ltb 31 (key m)) 8 behind8

    body_within : Within 7 11 34 (body_number b t first m)
    unfolding body_number
    body_within =
        either P (ltb 1 (kind m)) 7 behind7 (between 7 11 34 7 (omega arith) (omega arith))
        (either P (ltb 31 (key m)) 8 behind8 (between 7 11 34 8 (omega arith) (omega arith))
        (either P (reads && unnamed) 9 behind9 (between 7 11 34 9 (omega arith) (omega arith))
        (either P (again b first m) (cond reads 10 34) behind34
        (either P reads 10 34 (between 7 11 34 10 (omega arith) (omega arith)) (inr (inr refl)))
        (either P (back_at b first m && not (eqb (argument m) t)) 11 0 (between 7 11 34 11 (omega arith) (omega arith)) (inl refl)))))
      where
        P : ℕ → Type 0
        P = Within 7 11 34

    -- a number that is neither below 10 nor 11
    second_out : (x : ℕ) → 10 ≤ x → x ≢ 11 → body_number b t first m ≡ x
        → (kind m ≤ 1) × (key m ≤ 31) × T (not (reads && unnamed)) × T (again b first m) × (cond reads 10 34 ≡ x)
    unfolding body_number
    second_out x l f e =
        let p7 = behind (ltb 1 (kind m)) 7 behind7 x e (λ z. omega (arith, z, l)) in
        let p8 = behind (ltb 31 (key m)) 8 behind8 x p7.1 (λ z. omega (arith, z, l)) in
        let p9 = behind (reads && unnamed) 9 behind9 x p8.1 (λ z. omega (arith, z, l)) in
        let p10 =
        here (again b first m) (cond reads 10 34) behind34 x p9.1
        (either (λ y. y ≢ x) (back_at b first m && not (eqb (argument m) t)) 11 0 (λ z. f (sym z)) (λ z. omega (arith, z, l))) in
        (nltb→le 1 (kind m) p7.0, nltb→le 31 (key m) p8.0, p9.0, p10.0, p10.1)

    second_in : kind m ≤ 1 → key m ≤ 31 → T (not (reads && unnamed)) → T (again b first m) → body_number b t first m ≡ cond reads 10 34
    unfolding body_number
    second_in k l u a =
        past (ltb 1 (kind m)) 7 behind7 (not_lt 1 (kind m) k) ∙ past (ltb 31 (key m)) 8 behind8 (not_lt 31 (key m) l) ∙ past (reads && unnamed) 9 behind9 u
        ∙ given (again b first m) (cond reads 10 34) behind34 a

    pub read_out : body_number b t first m ≡ 10 → SecondRead b first m
    read_out e =
        let s = second_out 10 (omega arith) (λ z. omega (arith, z)) e in
        let r = (here reads 10 34 10 s.4 (λ z. omega (arith, z))).0 in
        let zero_is = eqb→eq (kind m) 0 r in
        let a = again_out m s.3 in
        record {
          reads = zero_is;
          key = s.1;
          names = ⊎_elim (λ u. inl (ltb→lt (argument m) (transactions_in b) u)) (λ u. inr (eqb→eq (argument m) start u))
              (named reads (ltb (argument m) (transactions_in b)) (eqb (argument m) start) r s.2);
          one = a.0;
          earlier = a.1;
          reads_too = a.2 ∙ zero_is;
          same_key = a.3;
          same_side = a.4 zero_is;
        }
      where
        named : (r l s : Bool) → T r → T (not (r && (not l && not s))) → T l ⊎ T s
        named true true s t u = inl tt
        named true false true t u = inr tt
        named true false false t u = absurd u
        named false l s t u = absurd t

    pub read_in : SecondRead b first m → body_number b t first m ≡ 10
    read_in s =
        second_in (omega (arith, s.reads)) s.key
        (named reads (ltb (argument m) (transactions_in b)) (eqb (argument m) start)
        (⊎_elim (λ u. inl (lt→ltb (argument m) (transactions_in b) u)) (λ u. inr (eq-eqb u)) s.names))
        (again_in m s.one s.earlier (s.reads_too ∙ sym s.reads) s.same_key (λ z. s.same_side))
        ∙ given reads 10 34 (eq-eqb s.reads)
      where
        named : (r l s : Bool) → T l ⊎ T s → T (not (r && (not l && not s)))
        named true true s o = tt
        named true false true o = tt
        named true false false o = ⊎_elim (λ u. u) (λ u. u) o
        named false l s o = tt

    pub write_out : body_number b t first m ≡ 34 → SecondWrite b first m
    write_out e =
        let s = second_out 34 (omega arith) (λ z. omega (arith, z)) e in
        let f : kind m ≢ 0 = eqb_ne (behind reads 10 34 34 s.4 (λ z. omega (arith, z))).0 in
        let is : kind m ≡ 1 = one (kind m) s.0 f in
        let a = again_out m s.3 in
        record { writes = is; key = s.1; one = a.0; earlier = a.1; writes_too = a.2 ∙ is; same_key = a.3 }
      where
        one : (x : ℕ) → x ≤ 1 → x ≢ 0 → x ≡ 1
        one x l f = omega arith

    pub write_in : SecondWrite b first m → body_number b t first m ≡ 34
    write_in s =
        let no : T (not reads) = not_intro reads (λ u. omega (arith, s.writes, eqb→eq (kind m) 0 u)) in
        second_in (omega (arith, s.writes)) s.key (not_intro (reads && unnamed) (λ u. clash reads (and_l reads unnamed u) no))
        (again_in m s.one s.earlier (s.writes_too ∙ sym s.writes) s.same_key (λ z. absurd (omega (arith, z, s.writes))))
        ∙ past reads 10 34 no

-- bodies have 7, 8, 9, 10, 34, 11 or 0
bodies_within : (b : List ℕ) (n : ℕ) → Within 7 11 34 (first_number (bodies_number b) n)
unfolding bodies_number
bodies_within b n =
    first_within 7 11 34 (bodies_number b) (λ t. first_within 7 11 34 (body_number b t (start_at b t)) (λ m. body_within b (start_at b t) t m) (count_at b t)) n

-- ---- the whole log

-- which test gives the number
load_cases : (b : List ℕ) (P : ℕ → Type 0) → P 1 → P 2 → (Shorter b → P 3) → (Longer b → P 35) → P (first_number (entry_number b) (transactions_in b)) → P 6
    → (Counted b → length b ≡ length_said b → first_number (entry_number b) (transactions_in b) ≡ 0 → counts_before b (transactions_in b) ≡ operations_in b
    → P (first_number (bodies_number b) (transactions_in b)))
    → P (load_number b)
load_cases b P one two three longer entries six bodies =
    ⊎_elim (λ l. subst P (load_short b l) one)
    (λ header.
    ⊎_elim (λ l. subst P (load_many_t b header l) two)
    (λ few.
    ⊎_elim (λ l. subst P (load_many_n b header l) two)
    (λ many.
    let c : Counted b = record { header = header; few = few; many = many } in
    ⊎_elim (λ l. subst P (load_shorter b header few many l) (three (c, l)))
    (λ l.
    ⊎_elim (λ k. subst P (load_longer b header few many k) (longer (c, k)))
    (λ k.
    let whole : length b ≡ length_said b = omega (arith, l, k) in
    ⊎_elim
    (λ (none : first_number (entry_number b) (transactions_in b) ≡ 0).
    ⊎_elim (λ s. subst P (load_bodies b header few many whole none s) (bodies c whole none s)) (λ s. subst P (load_sum b header few many whole none s) six)
    (same? (counts_before b (transactions_in b)) (operations_in b)))
    (λ (some : first_number (entry_number b) (transactions_in b) ≢ 0).
    subst P (load_entries b header few many whole (first_number (entry_number b) (transactions_in b)) refl some) entries)
    (same? (first_number (entry_number b) (transactions_in b)) 0))
    (below? (length_said b) (length b)))
    (below? (length b) (length_said b)))
    (below? 256 (operations_in b)))
    (below? 32 (transactions_in b)))
    (below? (length b) 4)

pub shorter_iff : (b : List ℕ) → (load_number b ≡ 3) ↔ Shorter b
shorter_iff b = (
  load_cases b (λ x. x ≡ 3 → Shorter b) (λ e. absurd (omega (arith, e))) (λ e. absurd (omega (arith, e))) (λ s e. s) (λ l e. absurd (omega (arith, e)))
      (λ e. absurd (outside 4 5 5 (first_number (entry_number b) (transactions_in b)) 3 (entries_within b (transactions_in b)) e (λ z. omega (arith, z)) (inl (omega arith)) (λ z. omega (arith, z))))
      (λ e. absurd (omega (arith, e)))
      (λ c whole none s e. absurd (outside 7 11 34 (first_number (bodies_number b) (transactions_in b)) 3 (bodies_within b (transactions_in b)) e (λ z. omega (arith, z)) (inl (omega arith)) (λ z. omega (arith, z)))),
  λ s. sym (load_shorter b s.0.header s.0.few s.0.many s.1),
)

pub longer_iff : (b : List ℕ) → (load_number b ≡ 35) ↔ Longer b
longer_iff b = (
  load_cases b (λ x. x ≡ 35 → Longer b) (λ e. absurd (omega (arith, e))) (λ e. absurd (omega (arith, e))) (λ s e. absurd (omega (arith, e))) (λ l e. l)
      (λ e. absurd (outside 4 5 5 (first_number (entry_number b) (transactions_in b)) 35 (entries_within b (transactions_in b)) e (λ z. omega (arith, z)) (inr (omega arith)) (λ z. omega (arith, z))))
      (λ e. absurd (omega (arith, e)))
      (λ c whole none s e. absurd (outside 7 11 34 (first_number (bodies_number b) (transactions_in b)) 35 (bodies_within b (transactions_in b)) e (λ z. omega (arith, z)) (inr (omega arith)) (λ z. omega (arith, z)))),
  λ s. sym (load_longer b s.0.header s.0.few s.0.many s.1),
)

-- Load has no other numbers than 1 to 11, 34 and 35
pub numbers_listed : (b : List ℕ) → (load_number b ≤ 11) ⊎ ((load_number b ≡ 34) ⊎ (load_number b ≡ 35))
numbers_listed b =
    load_cases b P (inl (omega arith)) (inl (omega arith)) (λ s. inl (omega arith)) (λ l. inr (inr refl))
    (listed 4 5 5 (first_number (entry_number b) (transactions_in b)) (omega arith) (inl (omega arith)) (entries_within b (transactions_in b)))
    (inl (omega arith))
    (λ c whole none s. listed 7 11 34 (first_number (bodies_number b) (transactions_in b)) (omega arith) (inr refl) (bodies_within b (transactions_in b)))
  where
    P : ℕ → Type 0
    P x = (x ≤ 11) ⊎ ((x ≡ 34) ⊎ (x ≡ 35))

    listed : (low high apart x : ℕ) → high ≤ 11 → (apart ≤ 11) ⊎ (apart ≡ 34) → Within low high apart x → P x
    listed low high apart x l o w =
        ⊎_elim (λ z. inl (omega (arith, z)))
        (λ u. ⊎_elim (λ k. inl (omega (arith, k.1, l))) (λ e. ⊎_elim (λ k. inl (omega (arith, e, k))) (λ k. inr (inl (e ∙ k))) o) u) w

-- the first one that is not 0, and where it stands
first_where : (f : ℕ → ℕ) (n x : ℕ) → first_number f n ≡ x → x ≢ 0 → (i : ℕ) × (i < n) × (first_number f i ≡ 0) × (f i ≡ x)
first_where f zero x e g = absurd (g (sym e ∙ first_none f))
first_where f (suc n) x e g =
    ⊎_elim (λ (z : first_number f n ≡ 0). (n, omega arith, z, sym (or_else_none (first_number f n) (f n) z) ∙ sym (first_suc f n) ∙ e))
    (λ (z : first_number f n ≢ 0).
    let r = first_where f n x (sym (or_else_some (first_number f n) (f n) z) ∙ sym (first_suc f n) ∙ e) g in (r.0, omega (arith, r.1), r.2, r.3))
    (same? (first_number f n) 0)

-- a number of a body is that of the first body that is refused
pub body_iff : (b : List ℕ) (x : ℕ) → 7 ≤ x → x ≢ 35
    → (load_number b ≡ x) ↔ ((t : ℕ) × (m : ℕ) × FirstRefused b t m × (body_number b t (start_at b t) m ≡ x))
unfolding bodies_number
body_iff b x l f = (
  load_cases b (λ y. y ≡ x → At) (λ e. absurd (omega (arith, e, l))) (λ e. absurd (omega (arith, e, l))) (λ s e. absurd (omega (arith, e, l)))
      (λ s e. absurd (f (sym e)))
      (λ e. absurd (outside 4 5 5 (first_number (entry_number b) n) x (entries_within b n) e not0 (inr (omega (arith, l))) (λ z. omega (arith, z, l))))
      (λ e. absurd (omega (arith, e, l))) found,
  λ a. number a.0 a.1 a.2 a.3,
)
  where
    n : ℕ
    n = transactions_in b

    At : Type 0
    At = (t : ℕ) × (m : ℕ) × FirstRefused b t m × (body_number b t (start_at b t) m ≡ x)

    not0 : x ≢ 0
    not0 z = omega (arith, z, l)

    found : Counted b → length b ≡ length_said b → first_number (entry_number b) n ≡ 0 → counts_before b n ≡ operations_in b → first_number (bodies_number b) n ≡ x → At
    found c whole none s e =
        let r = first_where (bodies_number b) n x e not0 in
        let t = r.0 in
        let q = first_where (body_number b t (start_at b t)) (count_at b t) x r.3 not0 in
        let entry : (s : ℕ) → s < n → GoodEntry b s = λ s l. good_entry b s (first_out (entry_number b) n none s l) in (
          t,
          q.0,
          record {
            counted = c;
            laid = record { long = whole; starts = λ s l. (entry s l).start_is; sum = s };
            cabinets = λ s l. (entry s l).cabinet;
            transaction = r.1;
            body = q.1;
            earlier = λ s l k j. first_out (body_number b s (start_at b s)) (count_at b s) (first_out (bodies_number b) t r.2 s l) k j;
            before = λ k j. first_out (body_number b t (start_at b t)) q.0 q.2 k j;
            refused = λ z. not0 (sym q.3 ∙ z);
          },
          q.3,
        )

    number : (t m : ℕ) → FirstRefused b t m → body_number b t (start_at b t) m ≡ x → load_number b ≡ x
    number t m r e =
        let c = r.counted in
        let of-body =
        first_stop (body_number b t (start_at b t)) m (count_at b t) r.body (none_found (body_number b t (start_at b t)) m r.before) (λ z. not0 (sym e ∙ z)) in
        sym (load_bodies b c.header c.few c.many r.laid.long
        (none_found (entry_number b) n (λ s l. entry_zero b s (r.cabinets s l) (r.laid.starts s l))) r.laid.sum)
        ∙ first_stop (bodies_number b) t n r.transaction
        (none_found (bodies_number b) t (λ s l. none_found (body_number b s (start_at b s)) (count_at b s) (r.earlier s l)))
        (λ z. not0 (sym e ∙ sym of-body ∙ z))
        ∙ of-body ∙ e
