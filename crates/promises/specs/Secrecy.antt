-- Document 02, Paper 7: "A buyer's laboratory shall question the same kept readings without learning the master's curve." That it holds is
-- `secrecy` (laws/Secrecy); that it is not empty, and that each part of it is needed, `two_recordings` (laws/TwoMasters).
use Rattle.std.specs.Prelude.{ℕ, ◌≡◌, List, ℤ}
use Rattle.refusal.specs.Outcome.{Outcome, refused}
use Rattle.recording.specs.Reading.{A}
use Rattle.recording.specs.Recording.{readings}
use Rattle.meaning.specs.Named.{Channel, curve, additions, Agreeing}
use Rattle.marks.specs.Marks.{marks_of}
use Rattle.thin.specs.Selection.{Selection}
use Rattle.promises.specs.Page.{Call, question, degree, pair, lab_question, lab_degree, lab_pair, Effect, Right}
use Rattle.promises.specs.KeptAsFull.{AcceptedRecording}

-- what is no secret, beside the times: A with its slopes, and the pigments
pub data Public : Channel → Type 0 where
  the_batch : Public (curve A)
  the_additions : Public additions

-- "two accepted recordings that agree in times, A, slopes of A and pigments", whatever their B and its slopes
pub record AllButB (recording other : List ℕ) : Type 0 where
  pub accepted : AcceptedRecording recording
  pub other_accepted : AcceptedRecording other
  pub agree : Agreeing Public (readings recording) (readings other)

-- a laboratory's call with these marks, and the plain call
pub data OfLaboratory (marks : List ℕ) : Call → (plain : Call) → Type 0 where
  a_question : {text : List ℕ} → OfLaboratory marks (lab_question marks text) (question text)
  a_degree : {text : List ℕ} {target : ℤ} → OfLaboratory marks (lab_degree marks text target) (degree text target)
  a_pair : {number : ℕ} {target : ℤ} → OfLaboratory marks (lab_pair number target) (pair number target)

pub record Secrecy : Type 0 where
  -- "thinned under equal marks. Every laboratory text comes with these same marks. Laboratory calls alike in all else, with outputs of equal length,
  -- give equal results, refusals and bytes": what is right of the one is right of the other, of whichever selections that include the kept readings
  pub secret : (marks : List ℕ) {recording other held held' : List ℕ} → AllButB recording other
      → Selection (marks_of marks) recording held → Selection (marks_of marks) other held'
      → {c d : Call} → OfLaboratory marks c d → {room : ℕ} {o : Outcome Effect} → Right c held room o → Right c held' room o
  -- "One that neither 11 nor 14 refuses answers as the plain call does", whatever it is handed
  pub plainly : {marks g : List ℕ} {c d : Call} → OfLaboratory marks c d → {room : ℕ} {o : Outcome Effect}
      → ¬ (o ≡ refused 11 0) → ¬ (o ≡ refused 14 0) → Right c g room o → Right d g room o
