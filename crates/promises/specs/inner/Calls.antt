-- The C boundary, by "Four lines on promises" of document 01: THE CONTRACT OF EACH CALL of the library, what it is handed, what it returns (r), and the
-- caller's memory after it.
use Rattle.std.specs.Prelude.{ℕ, ◌≡◌, List, ℤ, length}
use Rattle.band.specs.Call.{band_of}
use Rattle.pair.specs.Pair.{pair_of}
use Rattle.degree.specs.Degree.{nearness_of}
use Rattle.question.specs.Question.{question_of}
use Rattle.thin.specs.Thin.{thin_of}
use Rattle.sheet.specs.Call.{order_of}
use Rattle.lab.specs.Lab.{lab_question_of, lab_degree_of, lab_pair_of}
use Rattle.report.specs.inner.Naming.{naming}
use Rattle.report_state.specs.Call.{Starts, Adds}
use Rattle.entry.specs.Call.{entry_of}
use Rattle.listing.specs.Call.{find_of}
use Rattle.live.specs.Call.{add_of, save_of, restore_of, held_of, StepTold, StartTold}
use Rattle.live_entry.specs.Call.{held_entry_of}
use Rattle.assured.specs.Call.{assured_of}
use Rattle.reply.specs.Reply.{packed}
use Rattle.boundary.specs.Boundary.{Writes, Degrees, Pairs, InBands, Orders}

abbrev pub QuestionCall : (recording text out : List ℕ) (r : ℕ) (after : List ℕ) → Type 0
QuestionCall recording text out r after = Writes (question_of recording text (length out)) out r after

abbrev pub DegreeCall : (recording text : List ℕ) (target : ℤ) (distance degree r first second : ℕ) → Type 0
DegreeCall recording text target distance degree r first second = Degrees (nearness_of recording text target) distance degree r first second

abbrev pub PairCall : (recording : List ℕ) (curve : ℕ) (target : ℤ) (earlier later r first second : ℕ) → Type 0
PairCall recording curve target earlier later r first second = Pairs (pair_of recording curve target) earlier later r first second

abbrev pub ThinCall : (recording marks out : List ℕ) (r : ℕ) (after : List ℕ) → Type 0
ThinCall recording marks out r after = Writes (thin_of recording marks (length out)) out r after

abbrev pub BandCall : (recording text : List ℕ) (e : ℤ) (certain-low certain-high possible-low possible-high r first second third fourth : ℕ) → Type 0
BandCall recording text e certain-low certain-high possible-low possible-high r first second third fourth =
    InBands (band_of recording text e) certain-low certain-high possible-low possible-high r first second third fourth

abbrev pub OrderCall : (recording sheet : List ℕ) (time line r first second : ℕ) → Type 0
OrderCall recording sheet time line r first second = Orders (order_of recording sheet) time line r first second

-- the calls of a buyer's laboratory (document 02, Paper 7)
abbrev pub LabQuestionCall : (recording marks text out : List ℕ) (r : ℕ) (after : List ℕ) → Type 0
LabQuestionCall recording marks text out r after = Writes (lab_question_of recording marks text (length out)) out r after

abbrev pub LabDegreeCall : (recording marks text : List ℕ) (target : ℤ) (distance degree r first second : ℕ) → Type 0
LabDegreeCall recording marks text target distance degree r first second = Degrees (lab_degree_of recording marks text target) distance degree r first second

abbrev pub LabPairCall : (recording : List ℕ) (curve : ℕ) (target : ℤ) (earlier later r first second : ℕ) → Type 0
LabPairCall recording curve target earlier later r first second = Pairs (lab_pair_of recording curve target) earlier later r first second

-- the calls of a report (document 02, Paper 8); `report` is the report under way before the call, `after` what the call hands on
abbrev pub ReportStartCall : (count : ℕ) (text : List ℕ) (target : ℤ) (report : List ℕ) (r : ℕ) (after : List ℕ) → Type 0
ReportStartCall count text target report r after = Starts (naming count text target) report r after

abbrev pub ReportAddCall : (report recording : List ℕ) (met empty distances mean r : ℕ) (after : List ℕ) (first second third fourth : ℕ) → Type 0
ReportAddCall report recording met empty distances mean r after first second third fourth = Adds report recording met empty distances mean r after first second third fourth

-- the calls of a live run (document 02, Paper 11); of the bytes of a state, `live` before and `after` after
abbrev pub LiveStartCall : (marks live : List ℕ) (r : ℕ) (after : List ℕ) → Type 0
LiveStartCall marks live r after = StartTold marks live r after

abbrev pub LiveAddCall : (live reading : List ℕ) (r : ℕ) (after : List ℕ) → Type 0
LiveAddCall live reading r after = StepTold (add_of live reading) live r after

abbrev pub LiveSaveCall : (live : List ℕ) (name r : ℕ) (after : List ℕ) → Type 0
LiveSaveCall live name r after = StepTold (save_of live name) live r after

abbrev pub LiveRestoreCall : (live : List ℕ) (name r : ℕ) (after : List ℕ) → Type 0
LiveRestoreCall live name r after = StepTold (restore_of live name) live r after

-- of the output, `out` before and `after` after
abbrev pub LiveKeptCall : (live out : List ℕ) (r : ℕ) (after : List ℕ) → Type 0
LiveKeptCall live out r after = Writes (held_of live (length out)) out r after

-- the entry of the run (document 02, Paper 12)
abbrev pub LiveEntryCall : (live out : List ℕ) (r : ℕ) (after : List ℕ) → Type 0
LiveEntryCall live out r after = Writes (held_entry_of live (length out)) out r after

-- the calls of a summary (document 02, Paper 12)
abbrev pub EntryCall : (recording out : List ℕ) (r : ℕ) (after : List ℕ) → Type 0
EntryCall recording out r after = Writes (entry_of recording (length out)) out r after

abbrev pub FindCall : (summary : List ℕ) (curve : ℕ) (level : ℤ) (out : List ℕ) (r : ℕ) (after : List ℕ) → Type 0
FindCall summary curve level out r after = Writes (find_of summary curve level (length out)) out r after

-- whether kept readings answer a text as the recording did; no output
abbrev pub AssuredCall : (text marks : List ℕ) (r : ℕ) → Type 0
AssuredCall text marks r = r ≡ packed (assured_of text marks)
