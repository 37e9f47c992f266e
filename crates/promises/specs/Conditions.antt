-- Document 01, "When no result is given": the table of refusals, to which document 02 adds. Each condition by its meaning; which of them a call has,
-- and in which order, stands on its page (Page `refusals`, Reports, LiveRuns).
use Rattle.std.specs.Prelude.{ℕ, ◌*◌, ◌/◌, ◌%◌, ◌≤◌, ◌<◌, ◌≡◌, true, false, ◌⊎◌, ℤ, pos, length, ◌≤ℤ◌}
use mathlib.Core.List.{List, [], ◌∷◌, ◌++◌, map, Memᴰ}
use Rattle.number.specs.Axis.{OfAxis}
use Rattle.recording.specs.Condition.{pick}
use Rattle.recording.specs.Reading.{Reading, Curve, B, top, curve_of}
use Rattle.recording.specs.Recording.{Raw, records, readings, lawful, most_records, most_pigments}
use Rattle.runs.specs.Runs.{most_runs}
use Rattle.tops.specs.Tops.{most_tops}
use Rattle.grammar.specs.Syntax.{Atom, Text, atom, Listed, listed, lowafter, capafter}
use Rattle.grammar.specs.Grammar.{ReadsWhole}
use Rattle.grammar.specs.Size.{temporal, nodes, open_at, most_bytes, most_nodes, most_open}
use Rattle.meaning.specs.Meaning.{Holds}
use Rattle.meaning.specs.Overfull.{Node, TooManyTops}
use Rattle.meaning.specs.Alike.{mark_index}
use Rattle.meaning.specs.Named as named
use Rattle.meaning.specs.Named.{atom_names, listed_names}
use Rattle.band.specs.Band.{widest, OfExtremes}
use Rattle.marks.specs.Marks.{marks_of, most_marks, latest_mark}
use Rattle.sheet.specs.Sheet.{most_lines}
use Rattle.report.specs.Report.{most_batches}
use Rattle.entry.specs.Entry.{entry_bytes}
use Rattle.listing.specs.Listing.{most_entries, entry_count}
use Rattle.listing.specs.Opened.{Exactly, SaidToReach}
use Rattle.promises.specs.MaximalRuns.{Interval, MaximalRuns}

-- ---- THE CONDITIONS

-- 1: the recording is not in records of 16 bytes
abbrev pub NotWholeRecords : List ℕ → Type 0
NotWholeRecords recording = ¬ (length recording % 16 ≡ 0)

-- 2: it has over 4,096 of them
abbrev pub RecordsOver : List ℕ → Type 0
RecordsOver recording = most_records < length recording / 16

-- 3: record i is the first out of its rules
pub record FirstBroken (xs : List Raw) (i : ℕ) : Type 0 where
  pub inside : i < length xs
  pub broken : lawful xs i ≡ false
  pub first : (j : ℕ) → j < i → lawful xs j ≡ true

-- 4: it has no record
abbrev pub WithoutRecord : List ℕ → Type 0
WithoutRecord recording = length (records recording) ≡ 0

-- 5: the text is empty, or over 256 bytes long
abbrev pub LengthBad : List ℕ → Type 0
LengthBad text = (length text ≡ 0) ⊎ (most_bytes < length text)

-- 6: it has no reading
abbrev pub WithoutReading : List ℕ → Type 0
WithoutReading text = (t : Text) → ¬ ReadsWhole text t

-- the text has a reading of which P holds
abbrev pub ReadWith : List ℕ → (Text → Type 0) → Type 0
ReadWith text P = (t : Text) × ReadsWhole text t × P t

-- at some byte, over 16 brackets are still open
abbrev pub OpenTooDeep : List ℕ → Type 0
OpenTooDeep text = (i : ℕ) × (i < length text) × (most_open < open_at text i)

-- 7: its reading has over 32 nodes, or it has too many brackets open
abbrev pub TextOver : List ℕ → Type 0
TextOver text = ReadWith text (λ t. (most_nodes < nodes t) ⊎ OpenTooDeep text)

-- 8: some node's set at some record (without F, G, X, U, W: the first) has over 256 runs
pub record TooManyRuns (r : List Reading) (p : Text) : Type 0 where
  pub node : Text
  pub of_text : Node node p
  pub at : ℕ
  pub inside : at < length r
  pub first : temporal p ≡ false → at ≡ 0
  pub runs : List Interval
  pub maximal : MaximalRuns (λ z. Holds r z node at) runs
  pub many : most_runs < length runs

abbrev pub RunsOver : (recording text : List ℕ) → Type 0
RunsOver recording text = ReadWith text (TooManyRuns (readings recording))

-- 9: over 256 tops of a curve between whose tops the text, or the pair call, takes differences
abbrev pub TopsOver : (recording text : List ℕ) → Type 0
TopsOver recording text = ReadWith text (TooManyTops (readings recording))

abbrev pub TopsOfCurveOver : (recording : List ℕ) (curve : ℕ) → Type 0
TopsOfCurveOver recording curve = most_tops < length (pick (top (curve_of curve)) (readings recording))

-- 10: the output is shorter than the result. Of the question call: it has less than 8 bytes for each run of the text's set at the first record
abbrev pub SetLonger : (recording text : List ℕ) (room : ℕ) → Type 0
SetLonger recording text room =
    ReadWith text (λ t. (rs : List Interval) × MaximalRuns (λ z. Holds (readings recording) z t 0) rs × (room < 8 * length rs))

-- of the find call: less than 4 bytes for each number
abbrev pub FoundLonger : (curve : ℕ) (level : ℤ) (summary : List ℕ) (room : ℕ) → Type 0
FoundLonger curve level summary room =
    (ns : List ℕ) × Exactly (SaidToReach (curve_of curve) level summary) (entry_count summary) ns × (room < 4 * length ns)

-- 11: the marks are not 4 bytes each, over 8, or too large
abbrev pub MarksOff : List ℕ → Type 0
MarksOff marks = ¬ (length marks % 4 ≡ 0) ⊎ ((most_marks < length marks / 4) ⊎ ((k : ℕ) × Memᴰ k (marks_of marks) × (latest_mark < k)))

-- 12: the target, or the level, is off the axis, or the curve number is not 0 or 1
abbrev pub TargetOff : ℤ → Type 0
TargetOff target = ¬ OfAxis target

abbrev pub TargetBad : ℕ → ℤ → Type 0
TargetBad curve target = (1 < curve) ⊎ TargetOff target

-- 13: the sheet has an odd length, over 32 lines, or a number that is not 1 to 16
abbrev pub SheetBad : List ℕ → Type 0
SheetBad sheet = ¬ (length sheet % 2 ≡ 0) ⊎ ((most_lines < length sheet / 2) ⊎ ((k : ℕ) × Memᴰ k sheet × ¬ ((1 ≤ k) × (k ≤ most_pigments))))

-- an after-time: "the k of `lowafter` and `capafter`"
pub data AfterTime : Listed → ℕ → Type 0 where
  of_lowafter : {c : Curve} {k : ℕ} → AfterTime (lowafter c k) k
  of_capafter : {c : Curve} {k : ℕ} → AfterTime (capafter c k) k

-- those of the text are among the marks
abbrev pub Marked : (marks : List ℕ) → Text → Type 0
Marked marks t = (q : Listed) (k : ℕ) → Node (listed q) t → AfterTime q k → Memᴰ k (map mark_index marks)

-- a node that names B, `cross`, `crossup` or `lag`
pub data TellsOfB : Text → Type 0 where
  b_atom : {a : Atom} → Memᴰ (named.curve B) (atom_names a) → TellsOfB (atom a)
  b_question : {q : Listed} → Memᴰ (named.curve B) (listed_names q) → TellsOfB (listed q)

-- a laboratory text: none of F, G, X, U and W, its after-times among the marks, and nothing of B
pub record LaboratoryText (marks : List ℕ) (t : Text) : Type 0 where
  pub plain : temporal t ≡ false
  pub marked : Marked marks t
  pub no_B : (n : Text) → Node n t → ¬ TellsOfB n

-- 14: what a laboratory asks is no such text under these marks; or a pair of tops of B, whose number is 1
abbrev pub NotLaboratory : (marks text : List ℕ) → Type 0
NotLaboratory marks text = ReadWith text (λ t. ¬ LaboratoryText (marks_of marks) t)

-- 15: a named count of 0 or over 1,000; of a recording that is handed in: Reports
abbrev pub CountBad : ℕ → Type 0
CountBad count = (count ≡ 0) ⊎ (most_batches < count)

-- 16: the band is not 0 to 1,000,000 units
abbrev pub BandBad : ℤ → Type 0
BandBad e = ¬ ((pos 0 ≤ℤ e) × (e ≤ℤ pos widest))

-- the text is one question on extremes alone; brackets are no node of it
abbrev pub OneExtreme : Text → Type 0
OneExtreme t = (q : Listed) × (t ≡ listed q) × OfExtremes q

-- 17: the text is not one such question alone
abbrev pub NotOneExtreme : List ℕ → Type 0
NotOneExtreme text = ReadWith text (λ t. ¬ OneExtreme t)

-- 18 and 19 are of the steps of a live run: LiveRuns

-- 20: the summary is not in entries of 32 bytes, or has over 2,048 of them
abbrev pub SummaryBad : List ℕ → Type 0
SummaryBad summary = ¬ (length summary % entry_bytes ≡ 0) ⊎ (most_entries < entry_count summary)

-- ---- THE TABLE

-- a line of it: the number of a refusal, and its condition, of the place that is told with it
pub record TableLine : Type 1 where
  pub number : ℕ
  pub Met : (place : ℕ) → Type 0

infix 70 ◌upon◌
-- every line but that of 3 tells the place 0
abbrev pub ◌upon◌ : ℕ → Type 0 → TableLine
n upon P = record { number = n; Met = λ place. (place ≡ 0) × P }

-- 1 to 3 of a recording
abbrev pub recording_table : List ℕ → List TableLine
recording_table recording =
    1 upon NotWholeRecords recording ∷ 2 upon RecordsOver recording ∷ record { number = 3; Met = FirstBroken (records recording) } ∷ []

-- 5 to 7 of a text
abbrev pub text_table : List ℕ → List TableLine
text_table text = 5 upon LengthBad text ∷ 6 upon WithoutReading text ∷ 7 upon TextOver text ∷ []

-- 1 to 7 of a recording that is asked a text
abbrev pub asking_table : (recording text : List ℕ) → List TableLine
asking_table recording text = recording_table recording ++ 4 upon WithoutRecord recording ∷ text_table text

-- ---- WHAT IT SAYS

-- the condition of a line is not met, whatever the place
abbrev pub Unmet : TableLine → Type 0
Unmet w = (place : ℕ) → ¬ w.Met place

-- no line is met
abbrev pub NoneMet : List TableLine → Type 0
NoneMet [] = Unit {0}
NoneMet (w ∷ ws) = Unmet w × NoneMet ws

-- the first line that is met has this number, and is met with this place
abbrev pub FirstMet : List TableLine → (number place : ℕ) → Type 0
FirstMet [] n p = ⊥
FirstMet (w ∷ ws) n p = ((n ≡ w.number) × w.Met p) ⊎ (Unmet w × FirstMet ws n p)
