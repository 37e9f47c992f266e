-- ASSURED TEXTS: every selection that includes the kept readings is in the recording's place for such a text, of an accepted recording and of a join of any length.
use Rattle.std.specs.Prelude.{ℕ, ◌≤◌, ◌<◌, ◌≡◌, refl, Bool, false, List, [], ℤ, length}
use Rattle.std.proofs.Common.{arith, sym, ap, subst, ◌∙◌, inl, ⊎_elim}
use Rattle.std.proofs.Math.Decide.{dec_lt}
use Rattle.number.proofs.laws.Boolean.{clash}
use Rattle.refusal.specs.Outcome.{Line, NoneMeets}
use Rattle.recording.specs.Reading.{Reading}
use Rattle.recording.specs.Recording.{readings, no_record, Accepted}
use Rattle.grammar.specs.Size.{nodes, most_nodes}
use Rattle.grammar.specs.Syntax.{Text}
use Rattle.grammar.specs.Grammar.{ReadsWhole}
use Rattle.text.specs.Told.{text_lines}
use Rattle.meaning.specs.Alike.{Same}
use Rattle.meaning.specs.inner.Recorded.{InRange, Recorded}
use Rattle.meaning.proofs.laws.Alike.{alike_same}
use Rattle.meaning.proofs.laws.Recorded.{accepted_recorded}
use Rattle.question.specs.Question.{question_of}
use Rattle.question.proofs.laws.Lines.{seven_means}
use Rattle.degree.specs.Degree.{reach_of, nearness_of}
use Rattle.band.specs.Call.{band_of}
use Rattle.kept.specs.Kept.{kept_for}
use Rattle.kept.specs.Selection.{flags, select, Includes}
use Rattle.marks.specs.Marks.{marks_of}
use Rattle.thin.specs.Thin.{kept_bytes}
use Rattle.thin.specs.Model.{Call, join_after}
use Rattle.thin.specs.Selection.{Selection}
use Rattle.thin.proofs.laws.Selection.{kept_selection, selection_readings, selection_accepted}
use Rattle.assured.specs.Assured.{Assured}
use Rattle.assured.proofs.laws.Same.{lasts_same}
use Rattle.promises.specs.inner.StandIn.{StandIn}
use Rattle.promises.proofs.laws.Rows.{InPlace}
use Rattle.promises.proofs.laws.Observation.{selection_alike}
use Rattle.promises.proofs.laws.StandIn.{some_readings, same_no_record, place_question, place_reach, place_degree, place_band, selection_stands}

-- every reading of the text is assured, where it is read
abbrev pub AssuredText : (marks text : List ℕ) → Type 0
AssuredText marks text = NoneMeets (text_lines text) → (t : Text) → ReadsWhole text t → Assured (marks_of marks) t

-- AN ASSURED TEXT MEANS THE SAME, at the first record, with every number put in, of every selection that includes the kept readings; and 8 and 9 refuse it of the one if of the other
pub assured_same : (marks : List ℕ) (r : List Reading) (mask : List Bool) → Includes mask (flags (kept_for marks) r) → Recorded r → InRange (select mask r) → 0 < length r
    → 0 < length (select mask r) → (p : Text) → nodes p ≤ most_nodes → Assured marks p → Same (select mask r) r p
assured_same marks r mask w known range long some p sized h =
    ⊎_elim (λ k. alike_same (selection_alike marks r mask w) some long p k) (λ k. lasts_same marks r mask w known range long p sized k) h

-- a text that 7 does not refuse
few_nodes : (text : List ℕ) → NoneMeets (text_lines text) → (t : Text) → ReadsWhole text t → nodes t ≤ most_nodes
few_nodes text n t r = by (dec_lt most_nodes (nodes t))
  where
    by : Dec (most_nodes < nodes t) → nodes t ≤ most_nodes
    by (yes k) = absurd (clash ((seven_means text t r).1 (inl k)) n.1.1.0)
    by (no k) = omega arith

-- ---- IN THE PLACE of readings of any length that are in range and whose times increase

module _ (marks full held : List ℕ) (known : Recorded (readings full)) (a : Accepted held) (s : Selection (marks_of marks) full held) (text : List ℕ) (h : AssuredText marks text) where
  stands : StandIn (marks_of marks) full held
  stands = selection_stands (marks_of marks) full held a s

  pub assured_place : InPlace full held text
  assured_place = record { accepted = a; empty = stands.empty; same = same }
    where
      e : readings held ≡ select s.mask (readings full)
      e = selection_readings (marks_of marks) full held s

      same : (no_record held).meets ≡ false → NoneMeets (text_lines text) → (t : Text) → ReadsWhole text t → Same (readings held) (readings full) t
      same some n t r =
          let full-some : (no_record full).meets ≡ false = sym (ap (λ (l : Line). l.meets) (same_no_record (marks_of marks) full held stands)) ∙ some in
          subst (λ (q : List Reading). Same q (readings full) t) (sym e)
          (assured_same (marks_of marks) (readings full) s.mask s.includes known (subst InRange e (accepted_recorded held a).in-range) (some_readings full full-some)
          (subst (λ (q : List Reading). 0 < length q) e (some_readings held some)) t (few_nodes text n t r) (h n t r))

-- ---- OF AN ACCEPTED RECORDING: as `stand_question` and so on of a plain text

module _ (marks full held : List ℕ) (a : Accepted full) (s : Selection (marks_of marks) full held) (text : List ℕ) (h : AssuredText marks text) where
  accepted_held : Accepted held
  accepted_held = selection_accepted (marks_of marks) full held s a

  pub selected_assured : InPlace full held text
  selected_assured = assured_place marks full held (accepted_recorded full a) accepted_held s text h

  pub assured_question : (room : ℕ) → question_of held text room ≡ question_of full text room
  assured_question = place_question full held text selected_assured a

  pub assured_reach : (target : ℤ) → reach_of held text target ≡ reach_of full text target
  assured_reach = place_reach full held text selected_assured a

  pub assured_degree : (target : ℤ) → nearness_of held text target ≡ nearness_of full text target
  assured_degree = place_degree full held text selected_assured a

  pub assured_band : (e : ℤ) → band_of held text e ≡ band_of full text e
  assured_band = place_band full held text selected_assured a (selection_stands (marks_of marks) full held accepted_held s).single
