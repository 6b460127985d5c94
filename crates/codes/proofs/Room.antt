-- What Decide and Encode for C give of a window that Load takes, with any times. Both go by a list of 4,096 places, and no log has more constraints: so the calls
-- can be refused for their setting alone, and 25 speaks of the caller's buffers alone. Assumes nothing.
--     coded, left_by, stage_here       in a setting that is taken: codes and lists that go by the case, of the one with the first legal order
--     decided_code, encoded_code, checked_code     in a setting that is taken; decided_refused, encoded_refused in another.        decided_never_25, encoded_never_25       with room, in any setting
--     decided_told, encoded_told, checked_told     which numbers there are
use Prim.Native.Nat.{ℕ, ◌+◌, ◌*◌, ◌≤◌}
use native.Mathlib.Omega.{arith}
use mathlib.Core.Path.{◌≡◌, refl, sym, ap, ap₂, subst, ◌∙◌}
use mathlib.Core.Logic.{inl, inr, ⊎_elim, ◌≢◌}
use mathlib.Core.Bool.{Bool, true, false, cond, ◌&&◌}
use mathlib.Core.List.{List, ◌++◌, append-nil}
use mathlib.Core.Option.{Option, none, some}
use lib.Dec.{T, eqb, ltb}
use lib.ListN.{length, drop, replicate, length-replicate}
use borrow.Author.Tests.{eq-eqb, ne_eqb, le-ltb}
use Rattle.model.specs.History.{History, is_order, legal, size}
use Rattle.model.specs.Window.{Window, window_number, window_history}
use Rattle.model.specs.Log.{transactions_in}
use Rattle.model.specs.Search.{first_legal}
use Rattle.model.specs.Lent.{no_constraint, encoded_list, encoded_rows, encoded_count}
use Rattle.model.specs.Polygraph.{polygraph}
use Rattle.model.specs.declared.Constraint.{Constraint}
use Rattle.model.proofs.Basics.{same?}
use Rattle.model.proofs.Counting.{constraints_timed}
use Rattle.model.proofs.First.{first_some}
use Rattle.model.proofs.Loaded.{loaded}
use Rattle.model.proofs.Pruning.{polygraph_length}
use Rattle.model.proofs.Times.{timed_log_size}
use Rattle.model.proofs.Windows.{taken_log, window_numbers}
use Rattle.decision.specs.Answer.{is_some}
use Rattle.answers.specs.declared.Stage.TheVariants.{Ordered}
use Rattle.refusals.specs.Numbers.{code, number_of, refusal_of, answer_of}
use Rattle.answers.specs.Numbers.{judgement_of}
use Rattle.answers.specs.Settings.{setting_refusal}
use Rattle.answers.specs.Stages.{is_fresh, order_refusal}
use Rattle.answers.proofs.Answering.{setting_either}
use Rattle.checker.specs.declared.Case.{Case}
use Rattle.checker.specs.declared.Decision.{Decision}
use Rattle.checker.specs.Cases.{history_in, stage_of, loaded_case}
use Rattle.checker.specs.Calls.{check_refusal, check_yes, checking}
use Rattle.checker.specs.Encodings.{encode_refusal, encode_answer, encode_list, encode_rows}
use Rattle.checker.specs.Decisions.{decide_refusal, decided, decided_case, refused_decision, deciding}
use Rattle.checker.proofs.Chain.{refused, load_holds, load_window, load_stage, decided_contents, ordered_number, some_stage}
use Rattle.checker.proofs.Encodes.{encode_known}
use Rattle.checker.proofs.Demands.{four_thousand_ninety_six_places_are_enough}
use Rattle.checker.proofs.Whole.{decision_is}
use Rattle.codes.specs.Codes.{judgement_code, verdict_code, where_ordered, where_loaded, room_code, decide_places, decision_of, said_code, window_code, polygraph_code, polygraph_after, sent_code, sent_after, encode_window}
use Rattle.codes.specs.Images.{polygraph_in}
use Rattle.codes.proofs.Timing.{Told}

module _ (w : Window) (taken : window_number w ≡ 0) (e pruning : ℕ) where
  abbrev c : Case
  c = loaded_case w

  held : is_fresh (stage_of c) ≡ false
  held = ap is_fresh (load_stage w taken)

  here : history_in c ≡ window_history w
  here = ap window_history (load_window w taken)

  -- ---- Decide

  -- the setting alone can be refused
  decide_number : decide_refusal c e pruning decide_places ≡ setting_refusal e pruning
  decide_number = (four_thousand_ninety_six_places_are_enough c e pruning decide_places 32 held (omega arith) (omega arith)).1

  -- in a setting that is taken the case is decided with the first legal order, or without one
  decision_by : setting_refusal e pruning ≡ 0 → decision_of w e pruning ≡ decided c (first_legal (window_history w)) (encoded_count (history_in c) e pruning)
  decision_by setting =
      decision_is c e pruning decide_places (decide_number ∙ setting) ∙ ap (λ (h : History). decided c (first_legal h) (encoded_count (history_in c) e pruning)) here

  -- what is given of the decision where the window is taken
  by_decision : {X : Type 0} (f : Decision → X) (y : X) → where_loaded w (f (decision_of w e pruning)) y ≡ f (decision_of w e pruning)
  by_decision f y = ap (λ b. cond b (f (decision_of w e pruning)) y) (eq-eqb (window_number w) 0 taken)

  -- a code that goes by the case: 255 without an order, and else what is given of the case with the first legal one
  pub coded : setting_refusal e pruning ≡ 0 → (code : Case → ℕ) (n : ℕ) → ((o : List ℕ) → first_legal (window_history w) ≡ some o → code (decided_case c (some o)) ≡ n)
      → where_loaded w (verdict_code (decision_of w e pruning).verdict (code (decision_of w e pruning).case)) (window_number w) ≡ cond (is_some (first_legal (window_history w))) n 255
  unfolding decided is_some
  coded setting code n is =
      by_decision said (window_number w) ∙ ap said (decision_by setting) ∙ go (first_legal (window_history w)) refl
    where
      said : Decision → ℕ
      said d = verdict_code d.verdict (code d.case)

      go : (x : Option (List ℕ)) → first_legal (window_history w) ≡ x → said (decided c x (encoded_count (history_in c) e pruning)) ≡ cond (is_some x) n 255
      go none e = refl
      go (some o) e = is o e

  module _ (o : List ℕ) (is : first_legal (window_history w) ≡ some o) where
    pub legal_here : T (legal (history_in c) o)
    legal_here = (first_some (history_in c) o (ap first_legal here ∙ is)).0

    pub stage_here : stage_of (decided_case c (some o)) ≡ Ordered
    stage_here = some_stage c o held legal_here

    -- and a list that goes by the case is left as of the case with it
    pub left_by : setting_refusal e pruning ≡ 0 → {X : Type 0} (image : Case → X) (y : X)
        → where_loaded w (where_ordered (decision_of w e pruning).verdict (image (decision_of w e pruning).case) y) y ≡ image (decided_case c (some o))
    unfolding decided
    left_by setting image y =
        by_decision (λ d. where_ordered d.verdict (image d.case) y) y
        ∙ ap (λ (d : Decision). where_ordered d.verdict (image d.case) y) (decision_by setting ∙ ap (λ x. decided c x (encoded_count (history_in c) e pruning)) is)

  module _ (order table : ℕ) where
    abbrev room : ℕ
    room = cond (ltb table 64) 25 (cond (ltb order (transactions_in w.bytes)) 25 0)

    window_code_lem : window_code w e pruning order table ≡ said_code (decision_of w e pruning) order table
    unfolding window_code
    window_code_lem = by_decision (λ d. said_code d order table) (window_number w)

    pub room_of : (o : List ℕ) → first_legal (window_history w) ≡ some o → room_code (decided_case c (some o)) order table ≡ room
    unfolding room_code
    room_of o is =
        let k = decided_case c (some o) in
        ap (λ n. cond (ltb table 64) 25 n)
        (ordered_number k (stage_here o is) order ∙ ap {B = ℕ} (λ b. cond (ltb order (transactions_in b)) 25 0) (decided_contents c (some o) ∙ load_holds w))

    pub decided_code : setting_refusal e pruning ≡ 0 → window_code w e pruning order table ≡ cond (is_some (first_legal (window_history w))) room 255
    unfolding window_code
    decided_code setting = coded setting (λ k. room_code k order table) room room_of

    pub decided_refused : setting_refusal e pruning ≡ 12 → window_code w e pruning order table ≡ 12
    unfolding deciding refused_decision refusal_of
    decided_refused setting =
        window_code_lem
        ∙ ap (λ (d : Decision). said_code d order table) (refused (decide_refusal c e pruning decide_places) _ (refused_decision c (decide_refusal c e pruning decide_places)) (λ z. omega (arith, z, decide_number)))
        ∙ ap (λ n. code (refusal_of n)) (decide_number ∙ setting)

    never_25 : transactions_in w.bytes ≤ order → 64 ≤ table → window_code w e pruning order table ≢ 25
    never_25 long wide z =
        ⊎_elim
        (λ (s : setting_refusal e pruning ≡ 0).
        go (is_some (first_legal (window_history w)))
        (sym (ap₂ {C = ℕ} (λ a b. cond a 25 (cond b 25 0)) (le-ltb table 64 wide) (le-ltb order (transactions_in w.bytes) long)))
        (sym (decided_code s) ∙ z))
        (λ (s : setting_refusal e pruning ≡ 12). omega (arith, decided_refused s))
        (setting_either e pruning)
      where
        go : (b : Bool) → 0 ≡ room → cond b room 255 ≡ 25 → ⊥
        go true r q = omega arith
        go false r q = omega arith

    room_told : Told room
    room_told = go (ltb table 64) (ltb order (transactions_in w.bytes))
      where
        go : (a b : Bool) → Told (cond a 25 (cond b 25 0))
        go true b = inl (omega arith)
        go false true = inl (omega arith)
        go false false = inl (omega arith)

    pub decided_told : Told (said_code (decision_of w e pruning) order table)
    decided_told =
        subst Told window_code_lem
        (⊎_elim (λ (s : setting_refusal e pruning ≡ 0). subst Told (sym (decided_code s)) (go (is_some (first_legal (window_history w)))))
        (λ (s : setting_refusal e pruning ≡ 12). subst Told (sym (decided_refused s)) (inl (omega arith))) (setting_either e pruning))
      where
        go : (b : Bool) → Told (cond b room 255)
        go true = room_told
        go false = inr refl

  -- ---- Encode

  encode_number : encode_refusal c e pruning 4096 32 ≡ setting_refusal e pruning
  encode_number = (four_thousand_ninety_six_places_are_enough c e pruning 4096 32 held (omega arith) (omega arith)).0

  pub encoded_code : setting_refusal e pruning ≡ 0 → (room : ℕ) → polygraph_code (encode_answer c e pruning 4096 32) room ≡ cond (ltb room (130 + 10 * encoded_count (window_history w) e pruning)) 25 0
  unfolding polygraph_code encode_answer
  encoded_code setting room =
      let a = encode_answer c e pruning 4096 32 in
      let runs = encode_number ∙ setting in
      ap (λ b. cond b (cond (ltb room (130 + 10 * a.left)) 25 0) (number_of a.reply)) (eq-eqb (number_of a.reply) 0 (encode_known c e pruning 4096 32 ∙ runs))
      ∙ ap {B = ℕ} (λ b. cond (ltb room (130 + 10 * cond b (encoded_count (history_in c) e pruning) 0)) 25 0) (eq-eqb (encode_refusal c e pruning 4096 32) 0 runs)
      ∙ ap {B = ℕ} (λ (h : History). cond (ltb room (130 + 10 * encoded_count h e pruning)) 25 0) here

  pub encoded_refused : setting_refusal e pruning ≡ 12 → (room : ℕ) → polygraph_code (encode_answer c e pruning 4096 32) room ≡ 12
  unfolding polygraph_code encode_answer
  encoded_refused setting room =
      let a = encode_answer c e pruning 4096 32 in
      let is = encode_known c e pruning 4096 32 ∙ encode_number ∙ setting in
      ap (λ b. cond b (cond (ltb room (130 + 10 * a.left)) 25 0) (number_of a.reply)) (ne_eqb (number_of a.reply) 0 (λ z. omega (arith, z, is))) ∙ is

  pub encoded_kept : setting_refusal e pruning ≡ 12 → (out : List ℕ) → polygraph_after c e pruning out ≡ out
  unfolding polygraph_after
  encoded_kept setting out =
      ap (λ n. cond (eqb n 0) (polygraph_in (encode_answer c e pruning 4096 32).left (encode_rows c e pruning 4096 (replicate 32 0)) (encode_list c e pruning (replicate 4096 no_constraint) 32) out) out)
      (encoded_refused setting (length out))

  -- what Encode leaves as bytes is what is sent of the window's history, on a list that is long enough for any
  pub encoded_list_lem : setting_refusal e pruning ≡ 0 → (out : List ℕ) → polygraph_after c e pruning out ≡ sent_after (window_history w) e pruning out
  unfolding polygraph_after sent_after sent_code encode_answer encode_rows encode_list encoded_rows
  encoded_list_lem setting out =
      let runs = encode_number ∙ setting in
      let list-runs : encode_refusal c e pruning (length ys) 32 ≡ 0 = ap (λ n. encode_refusal c e pruning n 32) (length-replicate 4096 no_constraint) ∙ runs in
      ap (λ n. cond (eqb n 0) (image (eqb (encode_refusal c e pruning 4096 32) 0) (eqb (encode_refusal c e pruning (length ys) 32) 0) (history_in c) out) out) (encoded_code setting (length out))
      ∙ ap₂ (λ a b. sent (image a b (history_in c) out) out) (eq-eqb (encode_refusal c e pruning 4096 32) 0 runs) (eq-eqb (encode_refusal c e pruning (length ys) 32) 0 list-runs)
      ∙ ap (λ h. sent (image true true h out) out) here
      ∙ ap (λ rs. sent (polygraph_in (encoded_count (window_history w) e pruning) rs (encoded_list (window_history w) e pruning ys) out) out) (append-nil (polygraph (window_history w) e pruning).known)
    where
      ys : List Constraint
      ys = replicate 4096 no_constraint

      image : Bool → Bool → History → List ℕ → List ℕ
      image a b h out' =
          polygraph_in (cond a (encoded_count h e pruning) 0) (cond a ((polygraph h e pruning).known ++ drop 32 (replicate 32 0)) (replicate 32 0)) (cond b (encoded_list h e pruning ys) ys) out'

      sent : List ℕ → List ℕ → List ℕ
      sent x y = cond (eqb (cond (ltb (length out) (130 + 10 * encoded_count (window_history w) e pruning)) 25 0) 0) x y

  -- 130 bytes and 10 for each of at most 4,096 constraints
  encoded_room : (room : ℕ) → 41090 ≤ room → ◌≡◌ {A = ℕ} (cond (ltb room (130 + 10 * encoded_count (window_history w) e pruning)) 25 0) 0
  unfolding encoded_count
  encoded_room room l =
      ap {B = ℕ} (λ b. cond b 25 0)
      (le-ltb room (130 + 10 * encoded_count (window_history w) e pruning)
      (omega (arith, polygraph_length (window_history w) e pruning, constraints_timed w.bytes (taken_log w taken) e w.clock)))

  never_25_encoded : (room : ℕ) → 41090 ≤ room → polygraph_code (encode_answer c e pruning 4096 32) room ≢ 25
  never_25_encoded room l z =
      ⊎_elim
      (λ (s : setting_refusal e pruning ≡ 0). omega (arith, encoded_code s room, encoded_room room l))
      (λ (s : setting_refusal e pruning ≡ 12). omega (arith, encoded_refused s room))
      (setting_either e pruning)

  pub encoded_told : (room : ℕ) → Told (polygraph_code (encode_answer c e pruning 4096 32) room)
  encoded_told room =
      ⊎_elim
      (λ (s : setting_refusal e pruning ≡ 0). subst Told (sym (encoded_code s room)) (go (ltb room (130 + 10 * encoded_count (window_history w) e pruning))))
      (λ (s : setting_refusal e pruning ≡ 12). subst Told (sym (encoded_refused s room)) (inl (omega arith)))
      (setting_either e pruning)
    where
      go : (b : Bool) → Told (cond b 25 0)
      go true = inl (omega arith)
      go false = inl (omega arith)

-- ---- Check

pub checked_code : (w : Window) → window_number w ≡ 0 → (o : List ℕ)
    → judgement_code (checking (loaded_case w) o).judgement ≡ cond (is_order (transactions_in w.bytes) o) (cond (legal (window_history w) o) 0 255) 13
unfolding checking check_refusal check_yes order_refusal judgement_of answer_of refusal_of
checked_code w taken o =
    let c = loaded_case w in
    ap (λ f. code f (is_order (size (history_in c)) o) (legal (history_in c) o)) (ap is_fresh (load_stage w taken))
    ∙ ap (λ (h : History). code false (is_order (size h) o) (legal h o)) (ap window_history (load_window w taken))
    ∙ ap (λ n. code false (is_order n o) (legal (window_history w) o)) (timed_log_size w.bytes w.clock)
    ∙ go (is_order (transactions_in w.bytes) o) (legal (window_history w) o)
  where
    number : Bool → Bool → ℕ
    number f i = cond f 22 (cond i 0 13)

    code : Bool → Bool → Bool → ℕ
    code f i l = judgement_code (judgement_of (number f i) (eqb (number f i) 0 && l))

    go : (i l : Bool) → code false i l ≡ cond i (cond l 0 255) 13
    go true true = refl
    go true false = refl
    go false l = refl

-- what is judged over a log's bytes, as a number
pub judged_code : (n : ℕ) (h : History) (o : List ℕ) → judgement_code (judgement_of (order_refusal n o) (legal h o)) ≡ cond (is_order n o) (cond (legal h o) 0 255) 13
unfolding order_refusal judgement_of answer_of refusal_of
judged_code n h o = go (is_order n o) (legal h o)
  where
    go : (i l : Bool) → judgement_code (judgement_of (cond i 0 13) l) ≡ cond i (cond l 0 255) 13
    go true true = refl
    go true false = refl
    go false l = refl

pub checked_told : (c : Case) (o : List ℕ) → Told (judgement_code (checking c o).judgement)
unfolding checking check_refusal check_yes order_refusal judgement_of answer_of refusal_of
checked_told c o = go (is_fresh (stage_of c)) (is_order (size (history_in c)) o) (legal (history_in c) o)
  where
    number : Bool → Bool → ℕ
    number f i = cond f 22 (cond i 0 13)

    go : (f i l : Bool) → Told (judgement_code (judgement_of (number f i) (eqb (number f i) 0 && l)))
    go true i l = inl (omega arith)
    go false true true = inl (omega arith)
    go false true false = inr refl
    go false false l = inl (omega arith)

-- ---- of any window, taken or not

-- no number of a window is 25
not_25 : (w : Window) → window_number w ≢ 25
not_25 w z = ⊎_elim (λ l. omega (arith, l, z)) (λ l. omega (arith, l.0, z)) (window_numbers w)

module _ (w : Window) (e pruning : ℕ) where
  pub decided_never_25 : (order table : ℕ) → 32 ≤ order → 64 ≤ table → window_code w e pruning order table ≢ 25
  unfolding window_code
  decided_never_25 order table long wide z =
      ⊎_elim
      (λ (t : window_number w ≡ 0). never_25 w t e pruning order table (omega (arith, (loaded w.bytes (taken_log w t)).few)) wide z)
      (λ (f : window_number w ≢ 0). not_25 w (sym (ap (λ b. cond b (said_code (decision_of w e pruning) order table) (window_number w)) (ne_eqb (window_number w) 0 f)) ∙ z))
      (same? (window_number w) 0)

  pub encoded_never_25 : (room : ℕ) → 41090 ≤ room → encode_window w e pruning room ≢ 25
  unfolding encode_window
  encoded_never_25 room l z =
      let code : Bool → ℕ = λ b. cond b (polygraph_code (encode_answer (loaded_case w) e pruning 4096 32) room) (window_number w) in
      ⊎_elim
      (λ (t : window_number w ≡ 0). never_25_encoded w t e pruning room l (sym (ap code (eq-eqb (window_number w) 0 t)) ∙ z))
      (λ (f : window_number w ≢ 0). not_25 w (sym (ap code (ne_eqb (window_number w) 0 f)) ∙ z))
      (same? (window_number w) 0)
