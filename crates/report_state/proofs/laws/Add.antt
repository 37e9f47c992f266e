-- What a recording leads to can be written and told.
use Rattle.std.specs.Prelude.{ℕ, ◌+◌, ◌-◌, ◌≤◌, ◌<◌, ◌≡◌, Bool, cond, eqb, leb, length}
use Rattle.std.proofs.Common.{arith, sym, ap, ◌∙◌, subst, leb-false}
use Rattle.std.proofs.Math.Path.{refl}
use Rattle.std.proofs.Math.Bool.{true, false}
use mathlib.Core.List.{List, [], ◌∷◌, ◌++◌}
use Rattle.std.specs.Float.Ieee.{is_nan}
use Rattle.number.specs.Axis.{axis}
use Rattle.number.proofs.laws.Boolean.{none_left, none_right, T_not}
use Rattle.refusal.specs.Outcome.{Outcome, result, refused, Line, line, judged, NoneMeets}
use Rattle.recording.proofs.laws.Outcome.{no_result, same_number, judged_skip}
use Rattle.recording.specs.Recording.{recording_lines, no_record}
use Rattle.grammar.specs.inner.Parse.{parsed}
use Rattle.text.specs.Told.{bad_length, no_reading, too_large, text_lines}
use Rattle.question.specs.Question.{read, answer, asking_lines, set_lines}
use Rattle.degree.specs.Degree.{Reach, away, nowhere, reach_in}
use Rattle.degree.specs.inner.Reach.{reach_at}
use Rattle.degree.proofs.laws.Reach.{at_small}
use Rattle.reply.specs.Reply.{half}
use Rattle.reply.proofs.laws.Place.{place-below}
use Rattle.mean.specs.inner.Running.{Numbers}
use Rattle.mean.proofs.laws.Number.{next-numbers}
use Rattle.report.specs.Report.{report_bytes, Answer}
use Rattle.report.specs.inner.Running.{with_batch, faulty, Sound, Addition, none, stopped, further, last, counted, added_to, answer_in, unread, unsound}
use Rattle.report.proofs.laws.Running.{sound_of, none_some}
use Rattle.report.specs.declared.Report.{Report}
use Rattle.report_state.specs.State.{report_in, index_in, report_text, no_report, addition_in}
use Rattle.report_state.specs.Call.{handed_lines}
use Rattle.report_state.specs.inner.Kept.{Writable, Tellable}
use Rattle.report_state.proofs.laws.Read.{held_of, held_none, some_state}

-- the place of a refusal is a record of a recording, or 0
at_place : (bytes text : List ℕ) (v n p : ℕ) → reach_at bytes text v ≡ refused n p → p < half
unfolding reach_at
at_place bytes text v n p e =
    place-below bytes (no_record bytes ∷ text_lines text ++ set_lines bytes (read text)) (reach_in (answer bytes text) v) n p (refl, (refl, (refl, (refl, (refl, (refl, tt)))))) e

-- lines whose numbers are those of a recording and its text
abbrev Low : List Line → Type 0
Low [] = Unit {0}
Low (l ∷ ls) = ((0 < l.number) × (l.number < 15)) × Low ls

low-judged : {R : Type 0} (ls : List Line) (r : R) (n p : ℕ) → Low ls → judged ls r ≡ refused n p → (0 < n) × (n < 15)
unfolding judged
low-judged [] r n p k e = no_result n p r (sym e)
low-judged {R} (l ∷ ls) r n p k e = go l.meets e (low-judged ls r n p k.1)
  where
    go : (b : Bool) → cond b (refused l.number l.place) (judged ls r) ≡ refused n p → (judged ls r ≡ refused n p → (0 < n) × (n < 15)) → (0 < n) × (n < 15)
    go true e rest = subst (λ (m : ℕ). (0 < m) × (m < 15)) (same_number l.number l.place n p e) k.0
    go false e rest = rest e

-- so that no recording is refused by 15
at_number : (bytes text : List ℕ) (v n p : ℕ) → reach_at bytes text v ≡ refused n p → (0 < n) × (n < 15)
unfolding reach_at
at_number bytes text v n p e =
    low-judged (asking_lines bytes text ++ set_lines bytes (read text)) (reach_in (answer bytes text) v) n p
    ((omega arith, omega arith), ((omega arith, omega arith), ((omega arith, omega arith), ((omega arith, omega arith), ((omega arith, omega arith), ((omega arith, omega arith), ((omega arith, omega arith), ((omega arith, omega arith), ((omega arith, omega arith), tt))))))))) e

-- ---- one batch more of a sound report

batch_numbers : (r : Report) (x : Reach) → Sound r → ((d : ℕ) → x ≡ away d → d < axis) → Numbers (with_batch r x).mean
batch_numbers r (away d) s h =
    let l : d < axis = h d refl in
    let a = s.more in
    let b = s.few in
    let c = s.parts in
    next-numbers r.mean (r.taken + 1 - r.empty) d (omega arith) (omega arith) (omega arith) (T_not (is_nan r.mean.sum) s.sum_number)
batch_numbers r nowhere s h = record { sum = T_not (is_nan r.mean.sum) s.sum_number; mean = T_not (is_nan r.mean.mean) s.mean_number }

-- a report is stopped by a number below 15, which is not 0
abbrev pub Stopping : Addition → Type 0
Stopping none = Unit {0}
Stopping (stopped n p) = (0 < n) × (n < 15)
Stopping (further r) = Unit {0}
Stopping (last r) = Unit {0}

-- what it can be: written to bytes b, and told
pub record Fine (a : Addition) (b : List ℕ) : Type 0 where
  pub writable : Writable a b
  pub tellable : Tellable a
  pub stopping : Stopping a

counted_fine : (r : Report) (b : List ℕ) → report_bytes ≤ length b → Numbers r.mean → Fine (counted r) b
counted_fine r b l n = by (eqb r.taken r.count)
  where
    by : (t : Bool) → Fine (cond t (last r) (further r)) b
    by true = record { writable = omega arith; tellable = n; stopping = tt }
    by false = record { writable = (omega arith, n); tellable = tt; stopping = tt }

module _ (r : Report) (b recording text : List ℕ) (v : ℕ) (l : report_bytes ≤ length b) where
  sound_fine : Sound r → Fine (added_to r (reach_at recording text v)) b
  sound_fine s = by (reach_at recording text v) refl
    where
      by : (o : Outcome Reach) → reach_at recording text v ≡ o → Fine (added_to r o) b
      by (refused n p) e = record { writable = omega arith; tellable = at_place recording text v n p e; stopping = at_number recording text v n p e }
      by (result x) e = counted_fine (with_batch r x) b l (batch_numbers r x s (λ d q. at_small recording text v d (e ∙ ap result q)))

-- bytes that hold a report: what stands there is sound, and its text was read
pub record HoldsReport (b : List ℕ) : Type 0 where
  pub long_enough : report_bytes ≤ length b
  pub on-axis : index_in b < axis
  pub sound : Sound (report_in b)
  pub read : NoneMeets (text_lines (report_text b))

pub holds_report : (b : List ℕ) → no_report b ≡ false → HoldsReport b
unfolding unread
holds_report b h =
    let s = some_state b h in
    let a = sym (held_none b s) ∙ h in
    let u = none_left (unsound (report_in b) (index_in b)) (unread (report_text b)) a in
    record {
      long_enough = (held_of b s).long_enough;
      on-axis = leb-false axis (index_in b) (none_left (leb axis (index_in b)) (faulty (report_in b)) u);
      sound = sound_of (report_in b) (none_right (leb axis (index_in b)) (faulty (report_in b)) u);
      read = none_some (text_lines (report_text b)) (none_right (unsound (report_in b) (index_in b)) (unread (report_text b)) a);
    }

pub in_fine : (b recording : List ℕ) → Fine (addition_in b recording) b
in_fine b recording = by (no_report b) refl
  where
    by : (t : Bool) → no_report b ≡ t → Fine (cond t none (added_to (report_in b) (reach_at recording (report_text b) (index_in b)))) b
    by true e = record { writable = tt; tellable = tt; stopping = tt }
    by false e = let k = holds_report b e in sound_fine (report_in b) b recording (report_text b) (index_in b) k.long_enough k.sound

pub fine_of : (b recording : List ℕ) (a : Addition) → a ≡ addition_in b recording → Fine a b
fine_of b recording a e = subst (λ (x : Addition). Fine x b) (sym e) (in_fine b recording)

-- ---- by which numbers it is refused

-- what is told of a recording that is judged by its lines
abbrev pub handed : Outcome Addition → Outcome Answer
handed (result a) = answer_in a
handed (refused n p) = refused n p

module _ (b recording : List ℕ) where
  abbrev text : List ℕ
  text = report_text b

  abbrev reached : Reach
  reached = reach_in (answer recording text) (index_in b)

  -- a text that was read is refused by none of 5, 6 and 7
  read-lines : NoneMeets (text_lines text) → {R : Type 0} (r : R) → judged (asking_lines recording text ++ set_lines recording (read text)) r ≡ judged (recording_lines recording ++ (no_record recording ∷ set_lines recording (read text))) r
  read-lines h r =
      let front : List Line = recording_lines recording ++ (no_record recording ∷ []) in
      let five : Line = line 5 (bad_length text) in
      let six : Line = line 6 (no_reading (parsed text)) in
      let seven : Line = line 7 (too_large text) in
      judged_skip front five (six ∷ (seven ∷ set_lines recording (read text))) r h.0 ∙ judged_skip front six (seven ∷ set_lines recording (read text)) r h.1.0
      ∙ judged_skip front seven (set_lines recording (read text)) r h.1.1.0

  -- THE ANSWER TO A RECORDING, whatever the bytes
  pub handed-judged : answer_in (addition_in b recording) ≡ handed (judged (handed_lines b recording) (counted (with_batch (report_in b) reached)))
  unfolding judged reach_at
  handed-judged = by (no_report b) refl
    where
      after : (ls : List Line) → answer_in (added_to (report_in b) (judged ls reached)) ≡ handed (judged ls (counted (with_batch (report_in b) reached)))
      after [] = refl
      after (l ∷ ls) = at l.meets (after ls)
        where
          at : (t : Bool) → answer_in (added_to (report_in b) (judged ls reached)) ≡ handed (judged ls (counted (with_batch (report_in b) reached)))
              → answer_in (added_to (report_in b) (cond t (refused l.number l.place) (judged ls reached))) ≡ handed (cond t (refused l.number l.place) (judged ls (counted (with_batch (report_in b) reached))))
          at true h = refl
          at false h = h

      batch : List Line
      batch = recording_lines recording ++ (no_record recording ∷ set_lines recording (read text))

      by : (t : Bool) → no_report b ≡ t
          → answer_in (cond t none (added_to (report_in b) (judged (asking_lines recording text ++ set_lines recording (read text)) reached)))
          ≡ handed (cond t (refused 15 0) (judged batch (counted (with_batch (report_in b) reached))))
      by true e = refl
      by false e = ap (λ (o : Outcome Reach). answer_in (added_to (report_in b) o)) (read-lines (holds_report b e).read reached) ∙ after batch
