-- DEMAND 3, its last sentence, and document 02, Paper 10: what is right of kept readings is right of the recording, and nothing else (Page
-- `nothing_else`): "the same set, the one that 2 fixes, in the same bytes, or the same refusal, the one that the table of 01 fixes, from kept as
-- from full, given outputs of one length". That it holds is `kept_as_full` (laws/KeptAsFull).
use Rattle.std.specs.Prelude.{ℕ, ◌*◌, ◌≤◌, ◌≡◌, ◌↔◌, length}
use mathlib.Core.List.{List, [], Memᴰ}
use Rattle.refusal.specs.Outcome.{Outcome, result}
use Rattle.recording.specs.Recording.{readings}
use Rattle.grammar.specs.Bytes.{bytes}
use Rattle.grammar.specs.Syntax.{Text}
use Rattle.grammar.specs.Grammar.{ReadsWhole}
use Rattle.assured.specs.Assured.{Assured}
use Rattle.kept.specs.Kept.{most_kept}
use Rattle.marks.specs.Marks.{marks_of}
use Rattle.thin.specs.Thin.{kept_bytes}
use Rattle.thin.specs.Selection.{Selection}
use Rattle.promises.specs.Conditions.{recording_table, text_table, ReadWith, Marked, LaboratoryText, NoneMet}
use Rattle.promises.specs.Page.{Call, question, degree, pair, thin, band, order, entry, find, lab_question, lab_degree, lab_pair, assured, version, Effect, effect, refusals, Right}

-- "A recording is accepted if none of 1 to 3 meets it"
abbrev pub AcceptedRecording : List ℕ → Type 0
AcceptedRecording g = NoneMet (recording_table g)

-- "every question whose text writes none of F, G, X, U and W, and whose after-times are among the marks"
pub record AskedOfKept (marks text : List ℕ) : Type 0 where
  pub none_written : (b : ℕ) → Memᴰ b (bytes "FGXUW") → ¬ Memᴰ b text
  pub marked : (t : Text) → ReadsWhole text t → Marked (marks_of marks) t

-- a text that may be asked of kept readings: its reading is assured, which the assured call tells. One that 5, 6 or 7 refuses is refused alike
abbrev pub Askable : (marks text : List ℕ) → Type 0
Askable marks text = NoneMet (text_table text) → (t : Text) → ReadsWhole text t → Assured (marks_of marks) t

-- what may be asked of kept readings: of a text, where it is asked, that condition; thinning again and a laboratory's text, under the same marks
abbrev pub OfKept : (marks : List ℕ) → Call → Type 0
OfKept marks (question text) = Askable marks text
OfKept marks (degree text target) = Askable marks text
OfKept marks (pair curve target) = Unit {0}
OfKept marks (thin ks) = ks ≡ marks
OfKept marks (band text e) = Askable marks text
OfKept marks (order sheet) = Unit {0}
OfKept marks entry = Unit {0}
OfKept marks (find curve level) = ⊥
OfKept marks (lab_question ks text) = ks ≡ marks
OfKept marks (lab_degree ks text target) = ks ≡ marks
OfKept marks (lab_pair curve target) = Unit {0}
OfKept marks (assured ks) = ⊥
OfKept marks version = Unit {0}

pub record KeptAsFull : Type 0 where
  -- Paper 10: "every selection in order from an accepted recording that includes its kept readings" is in the recording's place
  pub in_place : (marks : List ℕ) {recording held : List ℕ} → AcceptedRecording recording → Selection (marks_of marks) recording held
      → (c : Call) → OfKept marks c → {room : ℕ} {o : Outcome Effect} → Right c held room o → Right c recording room o
  -- such are the kept readings, and the whole recording
  pub kept_selects : (marks recording : List ℕ) → Selection (marks_of marks) recording (kept_bytes (marks_of marks) recording)
  pub whole_selects : (marks recording : List ℕ) → AcceptedRecording recording → Selection (marks_of marks) recording recording
  -- and it is accepted; with room it "thins back to exactly the kept readings" (`in_place` of thinning)
  pub selection_accepted : (marks : List ℕ) {recording held : List ℕ} → AcceptedRecording recording → Selection (marks_of marks) recording held
      → AcceptedRecording held
  -- the texts of demand 3, and those that a laboratory may ask, are assured
  pub demand_3 : (marks text : List ℕ) → AskedOfKept marks text → Askable marks text
  pub laboratory : (marks text : List ℕ) → ReadWith text (LaboratoryText (marks_of marks)) → Askable marks text
  -- THE ASSURED CALL tells it: where it says 1, and nowhere else, the text may be asked of kept readings
  pub said_assured : (marks text : List ℕ) {room : ℕ} → Right (assured marks) text room (result (effect 1 [])) → Askable marks text
  pub says_assured : (marks text : List ℕ) {room : ℕ} → NoneMet (refusals (assured marks) text room) → Askable marks text
      → Right (assured marks) text room (result (effect 1 []))
  -- the limit on kept readings (01, Papers 1, 3 and 5), of the bytes that thinning writes; "repeats are harmless", and so is the order of marks
  pub limit : (marks recording : List ℕ) → length (kept_bytes (marks_of marks) recording) ≤ 16 * most_kept (marks_of marks) (readings recording)
  pub repeats : (marks marks' recording : List ℕ) → ((k : ℕ) → Memᴰ k (marks_of marks) ↔ Memᴰ k (marks_of marks'))
      → kept_bytes (marks_of marks) recording ≡ kept_bytes (marks_of marks') recording
