-- Document 02, Paper 3, beyond Lines `old`: of a recording in which byte 14 is zero throughout, 1, 2 and 3 with its place, the kept readings and the limit are
-- those of the rules without pigments, which are kept as definitions to say so. That it holds is `as_before` (laws/OldRecordings).
use Rattle.std.specs.Prelude.{ℕ, ◌+◌, ◌/◌, ◌%◌, ◌≡◌, ◌&&◌, not, List, [], ◌∷◌, ◌++◌, ltb, eqb, length, get_or}
use Rattle.number.specs.Least.{least}
use Rattle.refusal.specs.Outcome.{Outcome, Line, line, judged}
use Rattle.recording.specs.Condition.{pick, on}
use Rattle.recording.specs.Recording.{Raw, records, concat, reading, readings, later, most_records, recording_lines}
use Rattle.recording.specs.Unpigmented.{fields_without}
use Rattle.recording.specs.Output.{output_line}
use Rattle.kept.specs.Kept.{most_kept}
use Rattle.kept.specs.Unpigmented.{kept_for_without, most_kept_without}
use Rattle.marks.specs.Marks.{marks_of, marks_line}
use Rattle.thin.specs.Thin.{thin_of}

-- ---- the rules without pigments

-- the index of the first record out of its rules
abbrev pub first_bad_before : List Raw → ℕ
first_bad_before xs = least (λ i. not (fields_without (get_or xs i []) && later xs i)) (length xs)

-- refusals 1, 2 and 3, in order
abbrev pub lines_before : List ℕ → List Line
lines_before bytes =
    line 1 (not (eqb (length bytes % 16) 0))
    ∷ line 2 (ltb most_records (length bytes / 16))
    ∷ record { number = 3; place = first_bad_before (records bytes); meets = ltb (first_bad_before (records bytes)) (length (records bytes)) }
    ∷ []

-- the bytes of the kept records
abbrev pub kept_before : List ℕ → List ℕ → List ℕ
kept_before marks bytes = concat (pick (on reading (kept_for_without marks)) (records bytes))

-- the thinning call
abbrev pub thin_before : List ℕ → List ℕ → ℕ → Outcome (List ℕ)
thin_before bytes marks room =
    judged (lines_before bytes ++ marks_line marks ∷ output_line room (kept_before (marks_of marks) bytes) ∷ []) (kept_before (marks_of marks) bytes)

-- ---- AN OLD RECORDING IS TAKEN AS BEFORE
pub record AsBefore (recording : List ℕ) : Type 0 where
  pub lines : recording_lines recording ≡ lines_before recording
  pub thinned : (marks : List ℕ) (room : ℕ) → thin_of recording marks room ≡ thin_before recording marks room
  pub limit : (marks : List ℕ) → most_kept marks (readings recording) ≡ most_kept_without marks (readings recording)
