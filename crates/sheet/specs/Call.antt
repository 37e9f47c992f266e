-- Document 02, Paper 6: the order call.
use Rattle.refusal.specs.declared.Refusal.{Refusal}
use Rattle.std.specs.Prelude.{ℕ, List, [], ◌∷◌, ◌++◌, Result, Ok, Err, Option, Some, None}
use Rattle.refusal.specs.Outcome.{Outcome, result, refused, Line, judged}
use Rattle.refusal.specs.Numbers.{number_of, place_of}
use Rattle.recording.specs.Recording.{readings, recording_lines, no_record}
use Rattle.sheet.specs.Sheet.{sheet_of, bad_sheet}
use Rattle.sheet.specs.Finding.{Finding, all_met, broken_at}
use Rattle.sheet.specs.inner.Found.{finding}
use Rattle.sheet.specs.declared.Breach.{Breach}

-- 4 and 13, in order: the lines for an accepted recording
abbrev pub sheet_lines : List ℕ → List ℕ → List Line
sheet_lines bytes sheet = no_record bytes ∷ bad_sheet sheet ∷ []

-- REFUSALS 1 to 4 and 13, in order
abbrev pub order_lines : List ℕ → List ℕ → List Line
order_lines bytes sheet = recording_lines bytes ++ sheet_lines bytes sheet

-- what an answer of the code finds
abbrev pub finding_in : Option Breach → Finding
finding_in None = all_met
finding_in (Some b) = broken_at b.time b.line

-- the finding, or the refusal's number and place
abbrev pub outcome_of : Result (Option Breach) Refusal → Outcome Finding
outcome_of (Ok f) = result (finding_in f)
outcome_of (Err x) = refused (number_of x) (place_of x)

-- THE ORDER CALL: its refusals in the order 1 to 4, 13; else what the check finds
unfoldable pub order_of : List ℕ → List ℕ → Outcome Finding
order_of bytes sheet = judged (order_lines bytes sheet) (finding (sheet_of sheet) (readings bytes))
