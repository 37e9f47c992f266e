-- Document 02, Paper 12: "From the entries alone, list all recordings in which one chosen curve is somewhere at least a given level". That it holds
-- is `summaries` (laws/Summary).
use Rattle.std.specs.Prelude.{ℕ, ◌≡◌, List, [], ◌∷◌, ◌++◌, ℤ, length}
use Rattle.refusal.specs.Outcome.{result}
use Rattle.number.specs.Words.{words_bytes}
use Rattle.recording.specs.Reading.{curve_of}
use Rattle.thin.specs.Selection.{Selection}
use Rattle.listing.specs.Opened.{Exactly, Reaches}
use Rattle.promises.specs.Page.{entry, find, Effect, writing, Right}
use Rattle.promises.specs.KeptAsFull.{AcceptedRecording}

-- a summary: one entry for each recording, in order, made from it or from a selection in order that includes its kept readings, whatever the marks
pub data Summary : (recordings : List (List ℕ)) (summary : List ℕ) → Type 0 where
  no_entry : Summary [] []
  entry_then : {recording : List ℕ} {recordings : List (List ℕ)} {rest : List ℕ} (ks held b : List ℕ) (room : ℕ) → AcceptedRecording recording
      → Selection ks recording held → Right entry held room (result (writing b)) → Summary recordings rest → Summary (recording ∷ recordings) (b ++ rest)

pub record Summaries : Type 0 where
  -- "the same list as opening each recording that the entries were made from"
  pub opened : {recordings : List (List ℕ)} {summary : List ℕ} → Summary recordings summary
      → {curve : ℕ} {level : ℤ} {room : ℕ} {x : Effect} → Right (find curve level) summary room (result x)
      → (ns : List ℕ) × Exactly (Reaches (curve_of curve) level recordings) (length recordings) ns × (x ≡ writing (words_bytes ns))
