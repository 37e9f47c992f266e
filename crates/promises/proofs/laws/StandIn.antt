-- Readings in the place of a recording for a text answer it as the recording does. A stand-in is in its place for every plain text, and answers the pair, the order and the entry
-- call as it does; every selection that includes the kept readings is one.
use Prim.Native.Nat.{ℕ, ◌<◌}
use Rattle.std.proofs.Common.{arith, ◌∙◌, subst, eq-eqb, eqb-true}
use Rattle.std.proofs.Math.Decide.{dec_lt}
use Rattle.std.specs.Prelude.{◌≡◌, Bool, ◌↔◌, eqb, ltb, ℤ, length}
use Rattle.std.proofs.Math.Path.{refl, sym, ap, ap₂, fun_ext}
use Rattle.std.proofs.Math.Bool.{true, false, cond, So}
use Rattle.std.proofs.lemmas.Bool.{false≢true}
use mathlib.Core.List.{List, [], ◌∷◌, ◌++◌}
use Rattle.std.proofs.lemmas.List.{length-map}
use Rattle.targets.specs.Target.{bad_target}
use Rattle.number.specs.Axis.{whole}
use Rattle.refusal.specs.Outcome.{refused, Line, line, judged, NoneMeets}
use Rattle.recording.specs.Condition.{pick}
use Rattle.recording.specs.Reading.{Reading, top, curve_of, a_top}
use Rattle.recording.specs.Recording.{records, reading, readings, recording_lines, no_record, Accepted}
use Rattle.recording.specs.Output.{output_line}
use Rattle.recording.proofs.laws.Outcome.{judged_pass}
use Rattle.runs.specs.Runs.{set_bytes}
use Rattle.runs.proofs.laws.Runs.{set_bytes_ext}
use Rattle.tops.specs.Tops.{recorded_time, event_times, most_tops}
use Rattle.grammar.specs.Syntax.{Text}
use Rattle.text.specs.Told.{text_lines}
use Rattle.meaning.specs.inner.Coded.{coded, index}
use Rattle.meaning.specs.inner.Truth.{val}
use Rattle.meaning.specs.Alike.{Plain, Alike, Same}
use Rattle.meaning.proofs.laws.Alike.{alike_same}
use Rattle.number.proofs.laws.Boolean.{same, clash}
use Rattle.meaning.proofs.laws.Truth.{val_holds}
use Rattle.meaning.proofs.laws.Overfull.{eight_overfull, nine_tops}
use Rattle.meaning.specs.inner.Recorded.{InRange}
use Rattle.meaning.proofs.laws.Recorded.{accepted_recorded}
use Rattle.question.specs.Question.{read, answer, asking_lines, set_lines, question_of}
use Rattle.question.proofs.laws.Lines.{read_reads, reads_read}
use Rattle.degree.specs.Degree.{Reach, reach_in, valued, target_line, reach_of, nearness_of}
use Rattle.degree.specs.inner.Reach.{mapped}
use Rattle.degree.proofs.laws.Reach.{nearness_valued}
use Rattle.band.specs.Call.{width_of, the_question, width_line, extreme_line, band_of}
use Rattle.band.specs.Means.{Bands}
use Rattle.band.specs.inner.Ends.{bands_of}
use Rattle.band.proofs.laws.Same.{text_same}
use Rattle.leaves.proofs.laws.Coding.{length-coded}
use Rattle.recording.proofs.laws.Record.{length-records}
use Rattle.pair.specs.Pair.{Given, pairs_of, first_apart, first_pair, accepted_lines, pair_of}
use Rattle.sheet.specs.Sheet.{sheet_of, bad_sheet}
use Rattle.sheet.specs.Finding.{Finding}
use Rattle.sheet.specs.Call.{sheet_lines, order_of}
use Rattle.sheet.proofs.laws.Same.{same_finding}
use Rattle.entry.specs.inner.Reckoned.{reckoned}
use Rattle.entry.specs.Call.{entry_lines, entry_of}
use Rattle.entry.proofs.laws.Selected.{selected_entry}
use Rattle.kept.specs.Kept.{kept_for}
use Rattle.kept.specs.Selection.{flags_from, flags, select, Includes}
use Rattle.marks.specs.Marks.{marks_of}
use Rattle.thin.specs.Selection.{Selection}
use Rattle.thin.proofs.laws.Selection.{selection_readings}
use Rattle.promises.specs.inner.SameAnswers.{PlainlyRead, SameAnswers}
use Rattle.promises.proofs.laws.Rows.{InPlace}
use Rattle.promises.proofs.laws.Observation.{selection_alike}
use Rattle.promises.specs.inner.StandIn.{StandIn}

-- ---- lines judged

module _ {R : Type 0} where
  -- the same lines in front: only where none of them meets does it matter what follows
  pub judged_behind : (ls ms ns : List Line) (r s : R) → (NoneMeets ls → judged ms r ≡ judged ns s) → judged (ls ++ ms) r ≡ judged (ls ++ ns) s
  unfolding judged
  judged_behind [] ms ns r s h = h tt
  judged_behind (l ∷ ls) ms ns r s h = go l.meets refl (λ e. judged_behind ls ms ns r s (λ n. h (e, n)))
    where
      go : (b : Bool) → l.meets ≡ b → (l.meets ≡ false → judged (ls ++ ms) r ≡ judged (ls ++ ns) s)
          → cond b (refused l.number l.place) (judged (ls ++ ms) r) ≡ cond b (refused l.number l.place) (judged (ls ++ ns) s)
      go true e rest = refl
      go false e rest = rest e

-- two tests with the same meaning
pub same_test : (e f : Bool) {P Q : Type 0} → So e ↔ P → P ↔ Q → So f ↔ Q → e ≡ f
same_test e f p h q = same e f (λ t. q.1 (h.0 (p.0 t))) (λ t. p.1 (h.1 (q.0 t)))

pub some_readings : (bytes : List ℕ) → (no_record bytes).meets ≡ false → 0 < length (readings bytes)
some_readings bytes h = by (dec_lt 0 (length (records bytes)))
  where
    by : Dec (0 < length (records bytes)) → 0 < length (readings bytes)
    by (yes k) = omega (arith, length-map (records bytes) reading)
    by (no k) = absurd (clash (eq-eqb (length (records bytes)) 0 (omega arith)) h)

-- readings as empty as a recording
alike_no_record : (full held : List ℕ) → (length (records held) ≡ 0) ↔ (length (records full) ≡ 0) → no_record held ≡ no_record full
alike_no_record full held empty = ap (line 4) (same (eqb (length (records held)) 0) (eqb (length (records full)) 0)
    (λ e. eq-eqb (length (records full)) 0 (empty.0 (eqb-true (length (records held)) 0 e)))
    (λ e. eq-eqb (length (records held)) 0 (empty.1 (eqb-true (length (records full)) 0 e))))

-- ---- a stand-in, for a recording of any length

module _ (ks full held : List ℕ) (s : StandIn ks full held) where
  pub same_no_record : no_record held ≡ no_record full
  same_no_record = alike_no_record full held s.empty

  -- THE SAME TRUTH of a plain text, for every number, and the same refusals 8 and 9
  pub stand_same : (no_record held).meets ≡ false → (p : Text) → Plain ks p → Same (readings held) (readings full) p
  stand_same some p plain =
      alike_same s.alike (some_readings held some) (some_readings full (sym (ap (λ (l : Line). l.meets) same_no_record) ∙ some)) p plain

-- ---- two accepted recordings of which a text means the same

module _ (full held : List ℕ) (accepted : Accepted full) (accepted' : Accepted held) (some : (no_record full).meets ≡ false) (some' : (no_record held).meets ≡ false) (p : Text) (both : Same (readings held) (readings full) p) where
  range_full : InRange (readings full)
  range_full = (accepted_recorded full accepted).in-range

  range_held : InRange (readings held)
  range_held = (accepted_recorded held accepted').in-range

  -- THE ANSWERED SET
  pub meant_val : (n : ℕ) → val (coded held) n p 0 ≡ val (coded full) n p 0
  meant_val n = same_test _ _ (val_holds (readings held) range_held n p 0 (omega arith)) (both.truth (whole n)) (val_holds (readings full) range_full n p 0 (omega arith))

  -- REFUSALS 9 AND 8
  pub meant_lines : set_lines held p ≡ set_lines full p
  meant_lines = ap₂ (λ (e f : Bool). line 9 e ∷ line 8 f ∷ [])
      (same_test _ _ (nine_tops (readings held) range_held p) both.nine (nine_tops (readings full) range_full p))
      (same_test _ _ (eight_overfull (readings held) range_held (some_readings held some') p) both.eight (eight_overfull (readings full) range_full (some_readings full some) p))

-- ---- readings in the place of an accepted recording, for a text

module _ (full held text : List ℕ) (place : InPlace full held text) (accepted : Accepted full) where
  some_held : (no_record full).meets ≡ false → (no_record held).meets ≡ false
  some_held some = ap (λ (l : Line). l.meets) (alike_no_record full held place.empty) ∙ some

  -- REFUSALS 1 TO 7: what follows them matters only where there is a record and the text was read, and then it means the same
  place_asking : {R : Type 0} (ms ns : List Line) (x y : R)
      → ((no_record full).meets ≡ false → Same (readings held) (readings full) (read text) → judged ms x ≡ judged ns y)
      → judged (asking_lines held text ++ ms) x ≡ judged (asking_lines full text ++ ns) y
  place_asking ms ns x y h =
      judged_pass (recording_lines held) ((no_record held ∷ text_lines text) ++ ms) x place.accepted
      ∙ ap (λ (l : Line). judged (l ∷ (text_lines text ++ ms)) x) (alike_no_record full held place.empty)
      ∙ judged_behind (no_record full ∷ text_lines text) ms ns x y (λ n. h n.0 (place.same (some_held n.0) n.1 (read text) (read_reads text n.1.1.0)))
      ∙ sym (judged_pass (recording_lines full) ((no_record full ∷ text_lines text) ++ ns) y accepted)

  -- THE QUESTION CALL: the same set in the same bytes, or the same refusal
  pub place_question : (room : ℕ) → question_of held text room ≡ question_of full text room
  unfolding question_of
  place_question room =
      place_asking (set_lines held (read text) ++ (output_line room (set_bytes (answer held text)) ∷ []))
      (set_lines full (read text) ++ (output_line room (set_bytes (answer full text)) ∷ [])) (set_bytes (answer held text)) (set_bytes (answer full text))
      (λ some m. ap₂ (λ (ls : List Line) (set : List ℕ). judged (ls ++ (output_line room set ∷ [])) set)
      (meant_lines full held accepted place.accepted some (some_held some) (read text) m)
      (set_bytes_ext (answer held text) (answer full text) (λ n h. meant_val full held accepted place.accepted some (some_held some) (read text) m n)))

  -- the same whole distance, or the same refusal
  pub place_reach : (target : ℤ) → reach_of held text target ≡ reach_of full text target
  unfolding reach_of
  place_reach target =
      place_asking (target_line target ∷ set_lines held (read text)) (target_line target ∷ set_lines full (read text))
      (reach_in (answer held text) (index target)) (reach_in (answer full text) (index target))
      (λ some m. ap₂ (λ (ls : List Line) (x : Reach). judged (target_line target ∷ ls) x)
      (meant_lines full held accepted place.accepted some (some_held some) (read text) m)
      (ap (λ (f : ℕ → Bool). reach_in f (index target)) (fun_ext (meant_val full held accepted place.accepted some (some_held some) (read text) m))))

  -- THE DEGREE CALL: the same value, or the same refusal
  pub place_degree : (target : ℤ) → nearness_of held text target ≡ nearness_of full text target
  place_degree target = nearness_valued held text target ∙ ap (mapped valued) (place_reach target) ∙ sym (nearness_valued full text target)

  -- THE BAND CALL: the same two sets, or the same refusal, if the one is a single record where the other is
  module _ (single : (length (records held) ≡ 1) ↔ (length (records full) ≡ 1)) where
    -- by the count of coded readings
    coded-single : (length (coded held) ≡ 1) ↔ (length (coded full) ≡ 1)
    coded-single = (
      λ z. length-coded full ∙ sym (length-records full) ∙ single.0 (length-records held ∙ sym (length-coded held) ∙ z),
      λ z. length-coded held ∙ sym (length-records held) ∙ single.1 (length-records full ∙ sym (length-coded full) ∙ z),
    )

    pub place_band : (e : ℤ) → band_of held text e ≡ band_of full text e
    unfolding band_of
    place_band e =
        place_asking (width_line e ∷ extreme_line (read text) ∷ []) (width_line e ∷ extreme_line (read text) ∷ [])
        (bands_of (the_question (read text)) (width_of e) (coded held)) (bands_of (the_question (read text)) (width_of e) (coded full))
        (λ some m. ap (λ (b : Bands). judged (width_line e ∷ extreme_line (read text) ∷ []) b)
        (text_same full held accepted place.accepted coded-single (width_of e) (read text)
        (meant_val full held accepted place.accepted some (some_held some) (read text) m)))

-- ---- a stand-in for an accepted recording

module _ (marks full held : List ℕ) (s : StandIn (marks_of marks) full held) (accepted : Accepted full) where
  module _ (text : List ℕ) (askable : PlainlyRead marks text) where
    stand_place : InPlace full held text
    stand_place = record {
      accepted = s.accepted;
      empty = s.empty;
      same = λ some n t r. subst (Same (readings held) (readings full)) (reads_read text t r) (stand_same (marks_of marks) full held s some (read text) (askable n));
    }

    pub stand_question : (room : ℕ) → question_of held text room ≡ question_of full text room
    stand_question = place_question full held text stand_place accepted

    pub stand_reach : (target : ℤ) → reach_of held text target ≡ reach_of full text target
    stand_reach = place_reach full held text stand_place accepted

    pub stand_degree : (target : ℤ) → nearness_of held text target ≡ nearness_of full text target
    stand_degree = place_degree full held text stand_place accepted

    pub stand_band : (e : ℤ) → band_of held text e ≡ band_of full text e
    stand_band = place_band full held text stand_place accepted s.single

  module _ (curve : ℕ) (target : ℤ) where
    same_count : length (pick (top (curve_of curve)) (readings held)) ≡ length (pick (top (curve_of curve)) (readings full))
    same_count =
        sym (length-map (pick (top (curve_of curve)) (readings held)) recorded_time) ∙ ap length (s.alike.events (a_top (curve_of curve)))
        ∙ length-map (pick (top (curve_of curve)) (readings full)) recorded_time

    same_lines : accepted_lines held curve target ≡ accepted_lines full curve target
    same_lines = ap₂ (λ (l : Line) (n : ℕ). l ∷ bad_target curve target ∷ line 9 (ltb most_tops n) ∷ []) (same_no_record (marks_of marks) full held s) same_count

    same_pair : first_pair (readings held) (curve_of curve) target ≡ first_pair (readings full) (curve_of curve) target
    unfolding first_pair event_times
    same_pair = ap (λ (ts : List ℕ). first_apart target (pairs_of ts)) (s.alike.events (a_top (curve_of curve)))

    -- THE PAIR CALL: the same two times, none, or the same refusal
    pub stand_pair : pair_of held curve target ≡ pair_of full curve target
    unfolding pair_of
    stand_pair =
        judged_pass (recording_lines held) (accepted_lines held curve target) _ s.accepted
        ∙ ap₂ (λ (ls : List Line) (o : Given). judged ls o) same_lines same_pair
        ∙ sym (judged_pass (recording_lines full) (accepted_lines full curve target) _ accepted)

  -- THE ORDER CALL: met, the same time and line, or the same refusal, for the additions have the same times
  pub stand_order : (sheet : List ℕ) → order_of held sheet ≡ order_of full sheet
  unfolding order_of
  stand_order sheet =
      judged_pass (recording_lines held) (sheet_lines held sheet) _ s.accepted
      ∙ ap₂ (λ (l : Line) (f : Finding). judged (l ∷ bad_sheet sheet ∷ []) f) (same_no_record (marks_of marks) full held s)
      (same_finding (sheet_of sheet) full held accepted s.accepted s.alike.additions)
      ∙ sym (judged_pass (recording_lines full) (sheet_lines full sheet) _ accepted)

  -- THE ENTRY CALL: the same entry, or the same refusal
  pub stand_entry : (room : ℕ) → entry_of held room ≡ entry_of full room
  unfolding entry_of
  stand_entry room =
      judged_pass (recording_lines held) (entry_lines held room) _ s.accepted
      ∙ ap₂ (λ (l : Line) (e : List ℕ). judged (l ∷ output_line room e ∷ []) e) (same_no_record (marks_of marks) full held s) s.same_entry
      ∙ sym (judged_pass (recording_lines full) (entry_lines full room) _ accepted)

  -- A STAND-IN GIVES THE SAME ANSWERS
  pub stand_answers : SameAnswers marks held full
  stand_answers = record { question = stand_question; reach = stand_reach; degree = stand_degree; pair = stand_pair; band = stand_band; ordering = stand_order; entry = stand_entry }

-- ---- selections

-- a selection that includes the last record has one
selected_last : (ks : List ℕ) (b : List Reading) (x : Reading) (r : List Reading) (mask : List Bool) → Includes mask (flags_from (kept_for ks) b (x ∷ r)) → 0 < length (select mask (x ∷ r))
selected_last ks b x r [] w = absurd w
selected_last ks b x r (true ∷ mask) w = omega arith
selected_last ks [] x [] (false ∷ mask) w = absurd (false≢true (w.0 refl))
selected_last ks (y ∷ b) x [] (false ∷ mask) w = absurd (false≢true (w.0 refl))
selected_last ks b x (y ∷ r) (false ∷ mask) w = selected_last ks (x ∷ b) y r mask w.1

selected_single : (ks : List ℕ) (r : List Reading) (mask : List Bool) → Includes mask (flags (kept_for ks) r) → (length (select mask r) ≡ 1) ↔ (length r ≡ 1)
selected_single ks [] mask w = (λ z. z, λ z. z)
selected_single ks (x ∷ r) [] w = absurd w
selected_single ks (x ∷ r) (false ∷ mask) w = absurd (false≢true (w.0 refl))
selected_single ks (x ∷ []) (true ∷ mask) w = (λ z. refl, λ z. refl)
selected_single ks (x ∷ (y ∷ r)) (true ∷ mask) w =
    let h = selected_last ks (x ∷ []) y r mask w.1 in
    (λ z. absurd (omega arith), λ z. absurd (omega arith))

selected_empty : (ks : List ℕ) (r : List Reading) (mask : List Bool) → Includes mask (flags (kept_for ks) r) → (length (select mask r) ≡ 0) ↔ (length r ≡ 0)
selected_empty ks [] mask w = (λ z. refl, λ z. refl)
selected_empty ks (x ∷ r) mask w =
    let h = selected_last ks [] x r mask w in
    (λ z. absurd (omega arith), λ z. absurd (omega arith))

-- EVERY SELECTION IN ORDER THAT INCLUDES THE KEPT READINGS, of a recording of any length, is a stand-in where it is accepted
pub selection_stands : (ks full held : List ℕ) → Accepted held → Selection ks full held → StandIn ks full held
selection_stands ks full held a h =
    let e : readings held ≡ select h.mask (readings full) = selection_readings ks full held h in
    let l = length-map (records held) reading in
    let m = length-map (records full) reading in
    let n = ap length e in
    let none = selected_empty ks (readings full) h.mask h.includes in
    let one = selected_single ks (readings full) h.mask h.includes in
    record {
      accepted = a;
      empty = (λ z. sym m ∙ none.0 (sym n ∙ l ∙ z), λ z. sym l ∙ n ∙ none.1 (m ∙ z));
      single = (λ z. sym m ∙ one.0 (sym n ∙ l ∙ z), λ z. sym l ∙ n ∙ one.1 (m ∙ z));
      alike = subst (λ (r : List Reading). Alike ks r (readings full)) (sym e) (selection_alike ks (readings full) h.mask h.includes);
      same_entry = ap reckoned e ∙ selected_entry ks (readings full) h.mask h.includes;
    }
