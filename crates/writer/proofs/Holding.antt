-- The log that notes hold, and what the calls' numbers say of notes. Assumes nothing.
use Prim.Native.Nat.{ℕ, zero, suc, ◌+◌, ◌-◌, ◌*◌, ◌≤◌, ◌<◌}
use native.Mathlib.Omega.{arith}
use mathlib.Core.Path.{◌≡◌, refl, sym, ap, ap₂, subst, ◌∙◌}
use mathlib.Core.Bool.{Bool, true, false, cond, ◌&&◌}
use mathlib.Core.Logic.{◌≢◌}
use mathlib.Core.List.{List, ◌++◌, append-nil, append_assoc}
use borrow.Author.Tests.{ltb-true, ltb-false, eq-eqb, ne_eqb}
use lib.Dec.{T, eqb, ltb, leb, leb→le, le→leb}
use lib.ListN.{length, take, drop, length-append, length-drop}
use lib.Seq.{take-append_seam, take_all, drop-length}
use borrow.Rule.Slice.PartMut.{mid_of, put_mid, Post-is}
use Rattle.model.specs.Log.{transactions_in, operations_in, count_at}
use Rattle.model.specs.Writing.{sum_of, head_bytes, log_of, is_log, has_log}
use Rattle.model.proofs.Basics.{and_l, and_r, and_in, false_eq, not_intro}
use Rattle.model.proofs.Loaded.{loaded}
use Rattle.model.proofs.Writing.{sum_suc, log_from, fields}
use Rattle.model.proofs.Logs.{has_log_out}
use Rattle.writer.specs.Rows.{over, at, entry_rows, contents_rows, operation_in, body_rows}
use Rattle.writer.specs.Held.{noted_in, held, held_log, is_open}
use Rattle.writer.specs.Room.{narrow, in_room, Fits}
use Rattle.writer.specs.Calls.{Noted, Written, open_refusal, note_refusal, write_refusal, writing, buffer_after, noting, noted_at, noted_notes}
use Rattle.writer.specs.declared.Notes.{Notes}
use Rattle.writer.proofs.Laying.{contents_length, bodies_length, over_more, over_length, laid_behind}
use Rattle.writer.proofs.Counting.{narrow_in}
use Rattle.writer.proofs.Answering.{taken}

module _ (n : Notes) where
  abbrev contents : ℕ → List ℕ
  contents m = contents_rows n.cabinets n.counts n.transactions m

  abbrev bodies : ℕ → List ℕ
  bodies m = body_rows n.kinds n.keys n.arguments m

  -- the contents, and then the bodies
  pub held_log_lem : held_log n ≡ contents (noted_in n) ++ bodies (noted_in n)
  unfolding held_log held noted_in contents_rows entry_rows body_rows
  held_log_lem =
      log_from n.transactions (at n.cabinets) (at n.counts) (operation_in n.kinds n.keys n.arguments)
      ∙ sym (append_assoc (head_bytes n.transactions (noted_in n)) (entry_rows n.cabinets n.counts n.transactions) (bodies (noted_in n)))

  pub held_length : length (held_log n) ≡ 4 + 4 * n.transactions + 4 * noted_in n
  held_length =
      ap length held_log_lem
      ∙ length-append (contents (noted_in n)) (bodies (noted_in n))
      ∙ omega (arith, contents_length n.cabinets n.counts n.transactions (noted_in n), bodies_length n.kinds n.keys n.arguments (noted_in n))

  -- ---- the room

  pub record Room : Type 0 where
    pub few : n.transactions ≤ 32
    pub many : noted_in n ≤ 256
    pub bytes : T (narrow n.counts n.transactions)

  pub room_out : T (in_room n) → Room
  unfolding in_room
  room_out t =
      let r = and_r (leb n.transactions 32) (leb (noted_in n) 256 && narrow n.counts n.transactions) t in
      record {
        few = leb→le n.transactions 32 (and_l (leb n.transactions 32) (leb (noted_in n) 256 && narrow n.counts n.transactions) t);
        many = leb→le (noted_in n) 256 (and_l (leb (noted_in n) 256) (narrow n.counts n.transactions) r);
        bytes = and_r (leb (noted_in n) 256) (narrow n.counts n.transactions) r;
      }

  pub fits : (room : ℕ) → 1156 ≤ room → in_room n ≡ true → Fits n room
  fits room l e =
      let t : T (in_room n) = subst T (sym e) tt in
      let r = room_out t in
      record { within = t; long = omega (arith, held_length, r.few, r.many) }

  -- ---- Load's answer

  -- notes whose history has a log are within the room
  pub room_of : T (has_log (held n)) → T (in_room n)
  unfolding in_room noted_in held
  room_of t =
      let log = has_log_out (held n) t in
      let ok = loaded (log_of (held n)) log.1 in
      let count = at n.counts in
      let operation = operation_in n.kinds n.keys n.arguments in
      let is = log_from n.transactions (at n.cabinets) count operation in
      let f = fields n.transactions (at n.cabinets) count operation in
      let few : n.transactions ≤ 32 = omega (arith, ok.few, ap transactions_in is, f.transactions) in
      let many : noted_in n ≤ 256 = omega (arith, ok.many, ap operations_in is, f.operations) in
      let bytes : T (narrow n.counts n.transactions) =
      subst T (narrow_in n.counts n.transactions (λ t l. omega (arith, f.counts t l, ap (λ b. count_at b t) is, log.0 (5 + 4 * t)))) tt in
      and_in (leb n.transactions 32) (leb (noted_in n) 256 && narrow n.counts n.transactions) (le→leb n.transactions 32 few)
      (and_in (leb (noted_in n) 256) (narrow n.counts n.transactions) (le→leb (noted_in n) 256 many) bytes)

  pub no_log : (r : Bool) → r ≡ in_room n → r ≡ false → false ≡ has_log (held n)
  no_log r e f = sym (false_eq (has_log (held n)) (not_intro (has_log (held n)) (λ t. subst T (sym e ∙ f) (room_of t))))

  -- notes that have a log are within the room
  pub room_by : (r : Bool) → r ≡ has_log (held n) → r ≡ true → Room
  room_by r e f = room_out (room_of (subst T (sym f ∙ e) tt))

  -- the log stands in the first places of what it was laid over
  pub log_is : (x y : List ℕ) (m : ℕ) (r : Bool) → y ≡ over x 0 (held_log n) → m ≡ length (held_log n) → r ≡ is_log (take m y) → r ≡ has_log (held n)
  unfolding has_log held_log over
  log_is x y m r f g h = h ∙ ap is_log (ap₂ take g f ∙ take-append_seam (held_log n) (drop (0 + length (held_log n)) x))

  -- the contents and the bodies, one after the other, are the log
  log_laid : (x z w : List ℕ) (m p : ℕ) → length (held_log n) ≤ length x → m ≡ noted_in n → z ≡ over x 0 (contents (noted_in n))
      → p ≡ 4 + 4 * n.transactions → w ≡ over (drop p z) 0 (bodies m) → take p z ++ w ≡ over x 0 (held_log n)
  log_laid x z w m p l m-is contents-are p-is bodies_are =
      let len : length (contents (noted_in n)) ≡ 4 + 4 * n.transactions = contents_length n.cabinets n.counts n.transactions (noted_in n) in
      let long : length z ≡ length x = ap length contents-are ∙ over_length x (contents (noted_in n)) 0 (omega (arith, held_length)) in
      ap (λ u. take p z ++ u) bodies_are
      ∙ laid_behind z (bodies m) p (omega (arith, held_length))
      ∙ ap (λ u. over z p (bodies u)) m-is
      ∙ ap₂ (λ u v. over u v (bodies (noted_in n))) contents-are (p-is ∙ omega (arith, len))
      ∙ over_more x (contents (noted_in n)) (bodies (noted_in n)) 0 (omega arith)
      ∙ ap (over x 0) (sym held_log_lem)

  -- ---- what a number 0 says

  pub record NoteRoom : Type 0 where
    pub some : 0 < n.transactions
    pub few : n.transactions ≤ 32
    pub many : noted_in n < 256
    pub count : at n.counts (n.transactions - 1) ≤ noted_in n

pick : (a : Bool) (x m : ℕ) → cond a (suc m) x ≡ 0 → (a ≡ false) × (x ≡ 0)
pick true x m e = absurd (omega arith)
pick false x m e = (refl, e)

want : (a : Bool) (x m : ℕ) → cond a x (suc m) ≡ 0 → (a ≡ true) × (x ≡ 0)
want true x m e = (refl, e)
want false x m e = absurd (omega arith)

module _ (n : Notes) where
  pub open_room : open_refusal n ≡ 0 → n.transactions < 32
  unfolding open_refusal
  open_room e =
      let p = pick (is_open n) (cond (ltb n.transactions 32) 0 33) 31 e in
      let q = want (ltb n.transactions 32) 0 32 p.1 in
      ltb-true n.transactions 32 q.0

  open_some : is_open n ≡ true → 0 < n.transactions
  unfolding is_open
  open_some e = go n.transactions e
    where
      go : (t : ℕ) → cond (eqb t 0) false n.opened ≡ true → 0 < t
      go zero e = absurd (subst T (sym e) tt)
      go (suc t) e = omega arith

  pub note_room : note_refusal n ≡ 0 → NoteRoom n
  unfolding note_refusal noted_in
  note_room e =
      let p = want (is_open n) (cond (ltb 32 n.transactions) 33 (cond (ltb (noted_in n) 256) 0 33)) 30 e in
      let q = pick (ltb 32 n.transactions) (cond (ltb (noted_in n) 256) 0 33) 32 p.1 in
      let r = want (ltb (noted_in n) 256) 0 32 q.1 in
      let some = open_some p.0 in
      let t = n.transactions - 1 in
      let last : suc t ≡ n.transactions = omega arith in
      record {
        some = some;
        few = ltb-false 32 n.transactions q.0;
        many = ltb-true (noted_in n) 256 r.0;
        count = omega (arith, sum_suc (at n.counts) t, ap (sum_of (at n.counts)) last);
      }

  -- ---- writing

  pub record WriteRoom (room : ℕ) : Type 0 where
    pub log : T (has_log (held n))
    pub long : length (held_log n) ≤ room

  pub write_room : (room : ℕ) → write_refusal n room ≡ 0 → WriteRoom room
  unfolding write_refusal
  write_room room e =
      let p = pick (is_open n) (cond (has_log (held n)) (cond (ltb room (length (held_log n))) 25 0) 33) 31 e in
      let q = want (has_log (held n)) (cond (ltb room (length (held_log n))) 25 0) 32 p.1 in
      let r = pick (ltb room (length (held_log n))) 0 24 q.1 in
      record { log = subst T (sym q.0) tt; long = ltb-false room (length (held_log n)) r.0 }

  module _ (x : List ℕ) (number : ℕ) (is : number ≡ write_refusal n (length x)) where
    pub write_refused : number ≢ 0 → (record { number = number; length = 0; notes = n } ≡ writing n (length x)) × (x ≡ buffer_after n x)
    unfolding writing buffer_after
    write_refused f =
        let e : eqb (write_refusal n (length x)) 0 ≡ false = ne_eqb (write_refusal n (length x)) 0 (λ z. f (is ∙ z)) in (
          ap₂ {C = Written} (λ u b. record { number = u; length = cond b (length (held_log n)) 0; notes = n }) is (sym e),
          ap (λ b. cond b (held_log n ++ drop (length (held_log n)) x) x) (sym e),
        )

    pub write_taken : (y : List ℕ) (m : ℕ) → number ≡ 0 → m ≡ length (held_log n) → y ≡ over x 0 (held_log n)
        → (record { number = 0; length = m; notes = n } ≡ writing n (length x)) × (y ≡ buffer_after n x)
    unfolding writing buffer_after over
    write_taken y m z e f =
        let none : write_refusal n (length x) ≡ 0 = sym is ∙ z in
        let b-is : eqb (write_refusal n (length x)) 0 ≡ true = eq-eqb (write_refusal n (length x)) 0 none in
        let e0 : 0 + length (held_log n) ≡ length (held_log n) = omega arith in (
          ap₂ {C = Written} (λ u v. record { number = u; length = v; notes = n }) (sym none) e
              ∙ ap (λ b. record { number = write_refusal n (length x); length = cond b (length (held_log n)) 0; notes = n }) (sym b-is),
          f ∙ ap (λ k. held_log n ++ drop k x) e0 ∙ ap (λ b. cond b (held_log n ++ drop (length (held_log n)) x) x) (sym b-is),
        )

-- ---- the part after the contents, lent to the body writer and given back

mid_all : (p : ℕ) (z : List ℕ) → mid_of p (length z - p) z ≡ drop p z
mid_all p z = take_all (length z - p) (drop p z) (omega (arith, length-drop p z))

given_back : (p : ℕ) (z w : List ℕ) → p ≤ length z → put_mid p (length z - p) z w ≡ take p z ++ w
given_back p z w l = ap (λ r. take p z ++ (w ++ r)) (Post-is p (length z) z l ∙ drop-length z) ∙ ap (λ r. take p z ++ r) (append-nil w)

module _ (n : Notes) (x z : List ℕ) (l : length (held_log n) ≤ length x) (contents-are : z ≡ over x 0 (contents n (noted_in n))) where
  -- the contents leave the buffer's length
  contents_long : length z ≡ length x
  contents_long =
      ap length contents-are
      ∙ over_length x (contents n (noted_in n)) 0 (omega (arith, held_length n, contents_length n.cabinets n.counts n.transactions (noted_in n)))

  module _ (p : ℕ) (p-is : p ≡ 4 + 4 * n.transactions) where
    pub part_fits : p ≤ length z
    part_fits = omega (arith, contents_long, held_length n)

    module _ (m : ℕ) (m-is : m ≡ noted_in n) where
      pub part_long : 4 * m ≤ length (mid_of p (length z - p) z)
      part_long = omega (arith, ap length (mid_all p z), length-drop p z, contents_long, held_length n)

      pub parts_laid : (w : List ℕ) → w ≡ over (mid_of p (length z - p) z) 0 (bodies n m) → put_mid p (length z - p) z w ≡ over x 0 (held_log n)
      parts_laid w bodies_are =
          given_back p z w part_fits
          ∙ log_laid n x z w m p l m-is contents-are p-is (bodies_are ∙ ap (λ u. over u 0 (bodies n m)) (mid_all p z))

-- ---- a note that is taken

pub note_taken : (n r : Notes) (kind key argument i number : ℕ) → number ≡ note_refusal n → number ≡ 0 → i ≡ noted_in n
    → r ≡ noted_at n i kind key argument → record { number = 0; notes = r } ≡ noting n kind key argument
unfolding noting noted_notes
note_taken n r kind key argument i number is none e f =
    ap {B = Noted} (λ x. record { number = 0; notes = x }) (f ∙ ap (λ j. noted_at n j kind key argument) e)
    ∙ taken (note_refusal n) number n (noted_notes n kind key argument) is none
