-- The lines that each call computes agree with its row of the page. For the question call this is said of readings that stand in for a recording, of
-- which the recording itself is one case and its kept readings another.
use Rattle.std.specs.Prelude.{ℕ, ◌/◌, ◌%◌, ◌≤◌, ◌<◌, ◌≡◌, refl, Bool, true, false, ◌||◌, ◌⊎◌, ◌↔◌, eqb, ltb, ℤ, pos, negsuc, length, drop, ◌≤ℤ◌}
use Rattle.std.proofs.Common.{arith, sym, ap, subst, ◌∙◌, true≢false, ⊎_elim, leb→le, le→leb, ltb-true, ltb-false, lt-ltb, ne_eqb, le-ltb}
use Rattle.std.proofs.Math.Bool.{So}
use Rattle.std.proofs.lemmas.Bool.{false≢true, eqb-false}
use mathlib.Core.List.Memᴰ
use mathlib.Core.List.{List, [], ◌∷◌, ◌++◌, Memᴰ}
use Rattle.std.specs.Int.Signed.{le_z_yes}
use Rattle.number.specs.Axis.{whole, OfAxis}
use Rattle.number.specs.Least.{least}
use Rattle.number.proofs.laws.Boolean.{clash, by_test, same, or_left, or_right, or_none, none_left, none_right, then, either, so_or}
use Rattle.number.proofs.laws.Least.{least_holds, least_first}
use Rattle.number.proofs.laws.Order.{less_or_not}
use Rattle.refusal.specs.Outcome.{Line, NoneMeets}
use Rattle.recording.specs.Condition.{pick, some_of}
use Rattle.recording.specs.Reading.{Reading, top, curve_of}
use Rattle.recording.specs.Recording.{records, readings, recording_lines, no_record, most_pigments, Accepted}
use Rattle.recording.specs.Output.{output_line}
use Rattle.runs.specs.Runs.{most_runs, run_count, set_bytes}
use Rattle.runs.proofs.laws.Runs.{run_count_ext, set_bytes-length}
use Rattle.targets.specs.Target.{off_axis, bad_target}
use Rattle.tops.specs.Tops.{most_tops}
use Rattle.grammar.specs.Syntax.{Text}
use Rattle.grammar.specs.Grammar.{ReadsWhole}
use Rattle.grammar.specs.Size.{open_at, too_deep, most_bytes, most_open}
use Rattle.text.specs.Told.{text_lines, too_large}
use Rattle.meaning.specs.Alike.{Same}
use Rattle.meaning.specs.inner.Coded.{coded}
use Rattle.meaning.specs.Meaning.{Holds}
use Rattle.meaning.specs.Overfull.{IsSet, Overfull}
use Rattle.meaning.proofs.laws.Recorded.{accepted_recorded}
use Rattle.meaning.specs.inner.Truth.{refused8, refused9}
use Rattle.meaning.proofs.laws.Truth.{val_holds}
use Rattle.question.specs.Question.{read, answer, asking_lines, set_lines}
use Rattle.question.specs.inner.Lines.{LinesMean}
use Rattle.question.proofs.laws.Lines.{read_reads, reads_read, lines_mean, six_means, seven_means}
use Rattle.degree.specs.Degree.{degree_lines, target_line}
use Rattle.band.specs.Band.{widest}
use Rattle.band.specs.Call.{bad_band, one_extreme, width_line, extreme_line}
use Rattle.band.proofs.laws.Meant.{test_extreme, one_alone}
use Rattle.pair.specs.Pair.{too_many_tops, pair_lines}
use Rattle.thin.specs.Thin.{kept_bytes}
use Rattle.marks.specs.Marks.{marks_of, most_marks, latest_mark, marks_line}
use Rattle.sheet.specs.Sheet.{most_lines, no_pigment, bad_sheet}
use Rattle.sheet.specs.Call.{order_lines}
use Rattle.lab.specs.Lab.{curve_line, asker_lines, lab_asking_lines}
use Rattle.lab.proofs.laws.Laboratory.{fourteen_text}
use Rattle.assured.specs.Call.{assured_lines}
use Rattle.entry.specs.Entry.{entry_bytes}
use Rattle.entry.specs.Call.{entry_lines}
use Rattle.entry.proofs.laws.Reckoned.{length-reckoned}
use Rattle.listing.specs.Listing.{most_entries, entry_count, listing}
use Rattle.listing.specs.Call.{bad_summary, level_lines}
use Rattle.promises.proofs.laws.MaximalRuns.{runs, runs_maximal, runs_many, in_runs, test_of, test_many}
use Rattle.promises.specs.Conditions.{WithoutRecord, TopsOfCurveOver, recording_table, ReadWith, OpenTooDeep, TextOver, TooManyRuns, RunsOver, TopsOver, SetLonger, MarksOff, TargetBad, SheetBad, NotLaboratory, LaboratoryText, BandBad, OneExtreme, TableLine, ◌upon◌, text_table, asking_table}
use Rattle.report.specs.Report.{Naming, most_batches, report_bytes, naming_lines}
use Rattle.promises.specs.Reports.{naming_refusals}
use Rattle.promises.specs.Page.{question, degree, pair, thin, band, order, entry, find, lab_question, lab_degree, lab_pair, assured, refusals}
use Rattle.promises.proofs.laws.Nodes.{laboratory_text}
use Rattle.promises.proofs.laws.Found.{found_longer}
use Rattle.promises.proofs.laws.Conditions.{agrees, Agree, done, next, ◌⊳◌, so_eq, so_lt, so_none, agree_recording}

-- ---- tests by what they decide

so_either : {a b : Bool} {P Q : Type 0} → So a ↔ P → So b ↔ Q → So (a || b) ↔ (P ⊎ Q)
so_either {a} {b} c d = then (so_or a b) (either c d)

so_some : {f : ℕ → Bool} {P : ℕ → Type 0} → ((k : ℕ) → So (f k) ↔ P k) → (ks : List ℕ) → So (some_of f ks) ↔ ((k : ℕ) × Memᴰ k ks × P k)
so_some {f} {P} d ks = (to ks, λ m. from ks m.0 m.1 ((d m.0).1 m.2))
  where
    to : (ks : List ℕ) → So (some_of f ks) → (k : ℕ) × Memᴰ k ks × P k
    to [] e = absurd (false≢true e)
    to (k ∷ ks) e = ⊎_elim (λ h. (k, Memᴰ.head refl, (d k).0 h)) (λ h. let r = to ks h in (r.0, Memᴰ.tail r.1, r.2)) ((so_or (f k) (some_of f ks)).0 e)

    from : (ks : List ℕ) (k : ℕ) → Memᴰ k ks → So (f k) → So (some_of f ks)
    from [] k m h = absurd (Memᴰ.not-nil m)
    from (j ∷ ks) k m h = ⊎_elim
        (λ (e : k ≡ j). or_left (f j) (some_of f ks) (ap f (sym e) ∙ h))
        (λ i. or_right (f j) (some_of f ks) (from ks k i h)) (Memᴰ.cases_cons m)

-- of a text with a reading: a test that decides P of every reading decides whether it has one with P
so_read : (text : List ℕ) → ReadsWhole text (read text) → {b : Bool} {P : Text → Type 0} → ((t : Text) → ReadsWhole text t → So b ↔ P t) → So b ↔ ReadWith text P
so_read text r d = (λ e. (read text, r, (d (read text) r).0 e), λ m. (d m.0 m.1).1 m.2)

-- a test of what was read is one of every reading
of_each : (text : List ℕ) (P : Text → Type 0) {b : Bool} → So b ↔ P (read text) → (t : Text) → ReadsWhole text t → So b ↔ P t
of_each text P {b} d t r = subst (λ (p : Text). So b ↔ P p) (reads_read text t r) d

-- ---- 5, 6 and 7: the text

deep_open : (text : List ℕ) → So (too_deep text) ↔ OpenTooDeep text
unfolding too_deep
deep_open text = (to, from)
  where
    to : So (too_deep text) → OpenTooDeep text
    to h =
        let l = ltb-true _ (length text) h in
        (_, l, ltb-true most_open _ (least_holds (λ i. ltb most_open (open_at text i)) (length text) l))

    from : OpenTooDeep text → So (too_deep text)
    from o =
        let here = o.1 in
        ⊎_elim (λ l. lt-ltb _ (length text) l)
        (λ l. absurd (clash (lt-ltb most_open (open_at text o.0) o.2) (least_first (λ i. ltb most_open (open_at text i)) (length text) o.0 (omega arith))))
        (less_or_not (least (λ i. ltb most_open (open_at text i)) (length text)) (length text))

module _ (text : List ℕ) where
  seven_told : ReadsWhole text (read text) → So (too_large text) ↔ TextOver text
  seven_told r = so_read text r (λ t w. then (seven_means text t w) (either (λ h. h, λ h. h) (deep_open text)))

  pub agree_text : {ls : List Line} {ws : List TableLine} → (NoneMeets (text_lines text) → Agree ls ws) → Agree (text_lines text ++ ls) (text_table text ++ ws)
  agree_text rest =
      next (agrees 5 refl (so_either (so_eq (length text) 0) (so_lt most_bytes (length text))))
      (λ five. next (agrees 6 refl (six_means text))
      (λ six. next (agrees 7 refl (seven_told (read_reads text six))) (λ seven. rest (five, (six, (seven, tt))))))

-- ---- 8 and 10: a set by its maximal runs

too_many_runs : (r : List Reading) (p : Text) → Overfull r p ↔ TooManyRuns r p
too_many_runs r p = (
  λ o. record {
    node = o.node;
    of_text = o.of_text;
    at = o.at;
    inside = o.inside;
    first = o.first;
    runs = runs o.set;
    maximal = runs_maximal o.set (λ z. Holds r z o.node o.at) o.is-set;
    many = subst (λ (n : ℕ). most_runs < n) (sym (runs_many o.set)) o.many;
  },
  λ o. record {
    node = o.node;
    of_text = o.of_text;
    at = o.at;
    inside = o.inside;
    first = o.first;
    set = in_runs o.runs;
    is-set = test_of o.maximal;
    many = subst (λ (n : ℕ). most_runs < n) (sym (test_many o.maximal)) o.many;
  },
)

-- ---- readings that stand in for a recording

-- `held` is accepted, as empty as `full`, and no reading of the text tells them apart
pub record InPlace (full held text : List ℕ) : Type 0 where
  pub accepted : Accepted held
  pub empty : (length (records held) ≡ 0) ↔ (length (records full) ≡ 0)
  pub same : (no_record held).meets ≡ false → NoneMeets (text_lines text) → (t : Text) → ReadsWhole text t → Same (readings held) (readings full) t

-- a recording in its own place
pub in_its_place : (bytes text : List ℕ) → Accepted bytes → InPlace bytes bytes text
in_its_place bytes text a = record {
  accepted = a;
  empty = (λ e. e, λ e. e);
  same = λ some n t r. record { truth = λ z. (λ h. h, λ h. h); eight = (λ h. h, λ h. h); nine = (λ h. h, λ h. h) };
}

module _ (full held text : List ℕ) (place : InPlace full held text) where
  -- 4
  agree_four : {ls : List Line} {ws : List TableLine} → ((no_record held).meets ≡ false → Agree ls ws) → Agree (no_record held ∷ ls) (4 upon WithoutRecord full ∷ ws)
  agree_four rest = next (agrees 4 refl (then (so_eq (length (records held)) 0) place.empty)) rest

  module _ (some : (no_record held).meets ≡ false) (sized : NoneMeets (text_lines text)) where
    mean : LinesMean held text
    mean = lines_mean held text place.accepted some

    reads : ReadsWhole text (read text)
    reads = read_reads text sized.1.0

    as_full : (t : Text) → ReadsWhole text t → Same (readings held) (readings full) t
    as_full = place.same some sized

    nine : So (refused9 (coded held) (read text)) ↔ TopsOver full text
    nine = so_read text reads (λ t r. then (mean.nine t r) (as_full t r).nine)

    eight : So (refused8 (coded held) (read text)) ↔ RunsOver full text
    eight = so_read text reads (λ t r. then (then (mean.eight t r) (as_full t r).eight) (too_many_runs (readings full) t))

    -- the answered set is the set that the text means of the full recording
    pub answer_is : IsSet (answer held text) (readings full) (read text) 0
    answer_is n l =
        let h = val_holds (readings held) (accepted_recorded held place.accepted).in-range n (read text) 0 (omega arith) in
        let s = (as_full (read text) reads).truth (whole n) in
        (λ e. s.0 (h.0 e), λ e. h.1 (s.1 e))

    same_count : (t : Text) → ReadsWhole text t → (f : ℕ → Bool) → IsSet f (readings full) t 0 → run_count f ≡ run_count (answer held text)
    same_count t r f s =
        run_count_ext f (answer held text) (λ n l.
        same (f n) (answer held text n)
        (λ e. (answer_is n l).1 (subst (λ (p : Text). Holds (readings full) (whole n) p 0) (sym (reads_read text t r)) ((s n l).0 e)))
        (λ e. (s n l).1 (subst (λ (p : Text). Holds (readings full) (whole n) p 0) (reads_read text t r) ((answer_is n l).0 e))))

    ten : (room : ℕ) → So (ltb room (length (set_bytes (answer held text)))) ↔ SetLonger full text room
    ten room = so_read text reads (λ t r. (
      λ e.
          let f : ℕ → Bool = answer held text in
          let h = ltb-true room (length (set_bytes f)) e in (
            runs f,
            runs_maximal f (λ z. Holds (readings full) z t 0) (subst (λ (p : Text). IsSet f (readings full) p 0) (reads_read text t r) answer_is),
            omega (arith, set_bytes-length f, runs_many f),
          ),
      λ m.
          let c = same_count t r (in_runs m.0) (test_of m.1) in
          let l = m.2 in
          lt-ltb room (length (set_bytes (answer held text))) (omega (arith, set_bytes-length (answer held text), test_many m.1)),
    ))

    agree_sets : (room : ℕ) → Agree (set_lines held (read text) ++ (output_line room (set_bytes (answer held text)) ∷ [])) (9 upon TopsOver full text ∷ 8 upon RunsOver full text ∷ 10 upon SetLonger full text room ∷ [])
    agree_sets room = agrees 9 refl nine ⊳ agrees 8 refl eight ⊳ agrees 10 refl (ten room) ⊳ done

    agree_near : Agree (set_lines held (read text)) (9 upon TopsOver full text ∷ 8 upon RunsOver full text ∷ [])
    agree_near = agrees 9 refl nine ⊳ agrees 8 refl eight ⊳ done

  -- THE QUESTION CALL, of what stands in for the recording: 4 to 10
  pub agree_asked : (room : ℕ)
      → Agree (no_record held ∷ text_lines text ++ (set_lines held (read text) ++ (output_line room (set_bytes (answer held text)) ∷ []))) (drop 3 (refusals (question text) full room))
  agree_asked room = agree_four (λ some. agree_text text (λ sized. agree_sets some sized room))

-- 1 to 7, then the lines that follow, of which the recording is in its own place
pub agree_asking : (bytes text : List ℕ) {ls : List Line} {ws : List TableLine}
    → (InPlace bytes bytes text → (no_record bytes).meets ≡ false → NoneMeets (text_lines text) → Agree ls ws) → Agree (asking_lines bytes text ++ ls) (asking_table bytes text ++ ws)
agree_asking bytes text rest = agree_recording bytes (λ a.
    let place = in_its_place bytes text a in agree_four bytes bytes text place (λ some. agree_text text (λ sized. rest place some sized)))

-- 1 to 4, then the lines that follow
agree_records : (bytes : List ℕ) {ls : List Line} {ws : List TableLine} → Agree ls ws → Agree (recording_lines bytes ++ no_record bytes ∷ ls) (recording_table bytes ++ 4 upon WithoutRecord bytes ∷ ws)
agree_records bytes rest = agree_recording bytes (λ a. agrees 4 refl (so_eq (length (records bytes)) 0) ⊳ rest)

-- ---- the question call

pub agree_question : (bytes text : List ℕ) (room : ℕ)
    → Agree (asking_lines bytes text ++ (set_lines bytes (read text) ++ (output_line room (set_bytes (answer bytes text)) ∷ []))) (refusals (question text) bytes room)
agree_question bytes text room = agree_asking bytes text (λ place some sized. agree_sets bytes bytes text place some sized room)

-- ---- 12: the axis

pub on-axis : (z : ℤ) → (off_axis z ≡ false) ↔ OfAxis z
on-axis (pos n) = (
  λ e. (le_z_yes tt, le_z_yes (le→leb n 2000000000 (ltb-false 2000000000 n e))),
  λ h. le-ltb 2000000000 n (leb→le n 2000000000 h.1.le),
)
on-axis (negsuc n) = (
  λ e. (le_z_yes (le→leb n 1999999999 (ltb-false 1999999999 n (none_left (ltb 1999999999 n) false e))), le_z_yes tt),
  λ h. or_none (le-ltb 1999999999 n (leb→le n 1999999999 h.0.le)) refl,
)

off-axis : (z : ℤ) → So (off_axis z) ↔ (¬ OfAxis z)
off-axis z = (λ e h. clash e ((on-axis z).1 h), λ h. by_test (off_axis z) (λ e. h ((on-axis z).0 e)))

-- ---- the degree call

pub agree_degree : (bytes text : List ℕ) (target : ℤ) (room : ℕ) → Agree (degree_lines bytes text target) (refusals (degree text target) bytes room)
agree_degree bytes text target room = agree_asking bytes text (λ place some sized. agrees 12 refl (off-axis target) ⊳ agree_near bytes bytes text place some sized)

-- ---- the pair call

-- 12: a bad curve number, or a target off the axis
off_target : (curve : ℕ) (target : ℤ) → So (ltb 1 curve || off_axis target) ↔ TargetBad curve target
off_target curve target = so_either (so_lt 1 curve) (off-axis target)

-- 9
many-tops : (bytes : List ℕ) (curve : ℕ) → So (too_many_tops bytes curve).meets ↔ TopsOfCurveOver bytes curve
many-tops bytes curve = so_lt most_tops (length (pick (top (curve_of curve)) (readings bytes)))

pub agree_pair : (bytes : List ℕ) (curve : ℕ) (target : ℤ) (room : ℕ) → Agree (pair_lines bytes curve target) (refusals (pair curve target) bytes room)
agree_pair bytes curve target room = agree_records bytes (agrees 12 refl (off_target curve target) ⊳ agrees 9 refl (many-tops bytes curve) ⊳ done)

-- ---- the thinning call

-- 11
pub off_marks : (marks : List ℕ) → So (marks_line marks).meets ↔ MarksOff marks
off_marks marks = so_either (so_none (so_eq (length marks % 4) 0)) (so_either (so_lt most_marks (length marks / 4)) (so_some (so_lt latest_mark) (marks_of marks)))

pub agree_thin : (bytes marks : List ℕ) (room : ℕ)
    → Agree (recording_lines bytes ++ marks_line marks ∷ output_line room (kept_bytes (marks_of marks) bytes) ∷ []) (refusals (thin marks) bytes room)
agree_thin bytes marks room = agree_recording bytes (λ a. agrees 11 refl (off_marks marks) ⊳ agrees 10 refl (so_lt room (length (kept_bytes (marks_of marks) bytes))) ⊳ done)

-- ---- the band call

-- 16
in_band : (e : ℤ) → (bad_band e ≡ false) ↔ ((pos 0 ≤ℤ e) × (e ≤ℤ pos widest))
in_band (pos n) = (λ h. (le_z_yes (le→leb 0 n (omega arith)), le_z_yes (le→leb n widest (ltb-false widest n h))), λ h. le-ltb widest n (leb→le n widest h.1.le))
in_band (negsuc n) = (λ h. absurd (true≢false h), λ h. absurd h.0.le)

off_band : (e : ℤ) → So (bad_band e) ↔ BandBad e
off_band e = (λ h k. clash h ((in_band e).1 k), λ h. by_test (bad_band e) (λ k. h ((in_band e).0 k)))

-- 17
one-extreme : (p : Text) → (one_extreme p ≡ true) ↔ OneExtreme p
one-extreme p = (
  λ h. let o = one_alone p h in (_, o.is, o.extreme),
  λ o. ap one_extreme o.1 ∙ test_extreme o.0 o.2,
)

pub agree_band : (bytes text : List ℕ) (e : ℤ) (room : ℕ) → Agree (asking_lines bytes text ++ (width_line e ∷ extreme_line (read text) ∷ [])) (refusals (band text e) bytes room)
agree_band bytes text e room = agree_asking bytes text (λ place some sized.
    agrees 16 refl (off_band e)
    ⊳ agrees 17 refl (so_read text (read_reads text sized.1.0) (of_each text (λ t. ¬ OneExtreme t) (so_none (one-extreme (read text)))))
    ⊳ done)

-- ---- the order call

-- 13: a number that is that of a pigment
is-pigment : (k : ℕ) → (no_pigment k ≡ false) ↔ ((1 ≤ k) × (k ≤ most_pigments))
is-pigment k = (
  λ e. (some k (eqb-false k 0 (none_left (eqb k 0) (ltb most_pigments k) e)), ltb-false most_pigments k (none_right (eqb k 0) (ltb most_pigments k) e)),
  λ h. or_none (ne_eqb k 0 (λ z. let l = h.0 in omega arith)) (le-ltb most_pigments k h.1),
)
  where
    some : (k : ℕ) → ¬ (k ≡ 0) → 1 ≤ k
    some k n = ⊎_elim (λ h. absurd (n (omega arith))) (λ h. h) (less_or_not k 1)

no-pigment : (k : ℕ) → So (no_pigment k) ↔ (¬ ((1 ≤ k) × (k ≤ most_pigments)))
no-pigment k = (λ e h. clash e ((is-pigment k).1 h), λ h. by_test (no_pigment k) (λ e. h ((is-pigment k).0 e)))

off_sheet : (sheet : List ℕ) → So (bad_sheet sheet).meets ↔ SheetBad sheet
off_sheet sheet = so_either (so_none (so_eq (length sheet % 2) 0)) (so_either (so_lt most_lines (length sheet / 2)) (so_some no-pigment sheet))

pub agree_order : (bytes sheet : List ℕ) (room : ℕ) → Agree (order_lines bytes sheet) (refusals (order sheet) bytes room)
agree_order bytes sheet room = agree_records bytes (agrees 13 refl (off_sheet sheet) ⊳ done)

-- ---- the laboratory's calls

none_too : {P Q : Type 0} → P ↔ Q → (¬ P) ↔ (¬ Q)
none_too e = (λ h q. h (e.1 q), λ h p. h (e.0 p))

-- 11 and 14 of a text that was read, then the lines that follow
agree_asker : (marks text : List ℕ) → NoneMeets (text_lines text) → {ls : List Line} {ws : List TableLine} → Agree ls ws
    → Agree (asker_lines marks (read text) ++ ls) (11 upon MarksOff marks ∷ 14 upon NotLaboratory marks text ∷ ws)
agree_asker marks text sized rest =
    agrees 11 refl (off_marks marks)
    ⊳ agrees 14 refl (so_read text (read_reads text sized.1.0) (of_each text (λ t. ¬ LaboratoryText (marks_of marks) t) (then (fourteen_text (marks_of marks) (read text)) (none_too (laboratory_text (marks_of marks) (read text))))))
    ⊳ rest

pub agree_lab_question : (bytes marks text : List ℕ) (room : ℕ)
    → Agree (lab_asking_lines bytes marks text ++ (set_lines bytes (read text) ++ (output_line room (set_bytes (answer bytes text)) ∷ []))) (refusals (lab_question marks text) bytes room)
agree_lab_question bytes marks text room =
    agree_asking bytes text (λ place some sized. agree_asker marks text sized (agree_sets bytes bytes text place some sized room))

pub agree_lab_degree : (bytes marks text : List ℕ) (target : ℤ) (room : ℕ)
    → Agree (lab_asking_lines bytes marks text ++ (target_line target ∷ set_lines bytes (read text))) (refusals (lab_degree marks text target) bytes room)
agree_lab_degree bytes marks text target room =
    agree_asking bytes text (λ place some sized. agree_asker marks text sized (agrees 12 refl (off-axis target) ⊳ agree_near bytes bytes text place some sized))

pub agree_lab_pair : (bytes : List ℕ) (curve : ℕ) (target : ℤ) (room : ℕ)
    → Agree (recording_lines bytes ++ (no_record bytes ∷ bad_target curve target ∷ curve_line curve ∷ too_many_tops bytes curve ∷ [])) (refusals (lab_pair curve target) bytes room)
agree_lab_pair bytes curve target room = agree_records bytes (agrees 12 refl (off_target curve target) ⊳ agrees 14 refl (so_eq curve 1) ⊳ agrees 9 refl (many-tops bytes curve) ⊳ done)

-- ---- the calls of a summary

pub agree_entry : (bytes : List ℕ) (room : ℕ) → Agree (recording_lines bytes ++ entry_lines bytes room) (refusals entry bytes room)
agree_entry bytes room = agree_records bytes
    (agrees 10 refl (subst (λ (n : ℕ). So (ltb room n) ↔ (room < entry_bytes)) (sym (length-reckoned (readings bytes))) (so_lt room entry_bytes)) ⊳ done)

pub agree_find : (summary : List ℕ) (curve : ℕ) (level : ℤ) (room : ℕ)
    → Agree (bad_summary summary ∷ level_lines summary curve level room) (refusals (find curve level) summary room)
agree_find summary curve level room =
    agrees 20 refl (so_either (so_none (so_eq (length summary % entry_bytes) 0)) (so_lt most_entries (entry_count summary)))
    ⊳ agrees 12 refl (off_target curve level)
    ⊳ agrees 10 refl (then (so_lt room (length (listing (curve_of curve) level summary))) (found_longer summary curve level room))
    ⊳ done

-- ---- the naming of a report

pub agree_naming : (n : Naming) (size : ℕ) → Agree (naming_lines n size) (naming_refusals n size)
agree_naming n size =
    agrees 15 refl (so_either (so_eq n.count 0) (so_lt most_batches n.count))
    ⊳ agree_text n.text (λ sized. agrees 12 refl (off-axis n.target) ⊳ agrees 10 refl (so_lt size report_bytes) ⊳ done)

-- ---- the assured call

pub agree_assured : (text marks : List ℕ) (room : ℕ) → Agree (assured_lines text marks) (refusals (assured marks) text room)
agree_assured text marks room = agree_text text (λ sized. agrees 11 refl (off_marks marks) ⊳ done)
