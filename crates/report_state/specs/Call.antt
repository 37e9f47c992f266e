-- The report calls at the C boundary: what each returns, and what it leaves in the caller's memory.
use Rattle.std.specs.Prelude.{ℕ, ◌≡◌, List, ◌∷◌, ◌++◌, length, drop}
use Rattle.std.specs.Float.{binary64}
use Rattle.std.specs.Float.Ieee.{to_bits}
use Rattle.refusal.specs.Outcome.{Outcome, result, refused, Line, line, judged}
use Rattle.recording.specs.Recording.{recording_lines, no_record}
use Rattle.meaning.specs.inner.Coded.{index}
use Rattle.question.specs.Question.{read, set_lines}
use Rattle.reply.specs.Reply.{packed}
use Rattle.report.specs.Report.{MeanDegree, no_mean, mean_degree, Naming, report_bytes, naming_lines, named, Answer, taken, given}
use Rattle.report.specs.inner.Running.{answer_in}
use Rattle.report_state.specs.State.{report_text, no_report, naming_after, addition_in, add_after}

-- 1 where there is a mean, else 2
abbrev pub mean_told : MeanDegree → ℕ
mean_told no_mean = 2
mean_told (mean_degree x) = 1

-- 0 taken, 1 the report, 2 the report without a mean
abbrev pub answer_told : Outcome Answer → Outcome ℕ
answer_told (result taken) = result 0
answer_told (result (given f)) = result (mean_told f.mean)
answer_told (refused n p) = refused n p

-- a report is written to its places, the mean by its bits in binary64; else, and where there is no mean, a place stays
abbrev pub met_after : Outcome Answer → ℕ → ℕ
met_after (result taken) old = old
met_after (result (given f)) old = f.met
met_after (refused n p) old = old

abbrev pub empty_after : Outcome Answer → ℕ → ℕ
empty_after (result taken) old = old
empty_after (result (given f)) old = f.empty
empty_after (refused n p) old = old

abbrev pub distances_after : Outcome Answer → ℕ → ℕ
distances_after (result taken) old = old
distances_after (result (given f)) old = f.distances
distances_after (refused n p) old = old

abbrev pub bits_after : MeanDegree → ℕ → ℕ
bits_after no_mean old = old
bits_after (mean_degree x) old = to_bits binary64 x

abbrev pub mean_after : Outcome Answer → ℕ → ℕ
mean_after (result taken) old = old
mean_after (result (given f)) old = bits_after f.mean old
mean_after (refused n p) old = old

-- what a call with this outcome returns, and the four places, `met`, `empty`, `distances` and `mean` before, `first` to `fourth` after
pub record ReportTold (o : Outcome Answer) (met empty distances mean r first second third fourth : ℕ) : Type 0 where
  pub returned : r ≡ packed (answer_told o)
  pub first-place : first ≡ met_after o met
  pub second-place : second ≡ empty_after o empty
  pub third_place : third ≡ distances_after o distances
  pub fourth_place : fourth ≡ mean_after o mean

-- the index of the target that was named
abbrev pub named_index : Naming → ℕ → Outcome ℕ
named_index n room = judged (naming_lines n room) (index n.target)

-- THE START CALL: what it returns, and the bytes of the report, `old` before and `new` after
pub record Starts (n : Naming) (old : List ℕ) (r : ℕ) (new : List ℕ) : Type 0 where
  pub returned : r ≡ packed (answer_told (named (length old) n))
  pub state : new ≡ naming_after n (named_index n (length old)) old

-- REFUSALS of a recording that is handed in with any bytes: 15 where they hold no report, then 1 to 4, 9 and 8
abbrev pub handed_lines : (report recording : List ℕ) → List Line
handed_lines report recording = line 15 (no_report report) ∷ (recording_lines recording ++ (no_record recording ∷ set_lines recording (read (report_text report))))

-- THE ADD CALL, of any bytes that are handed in as the report
pub record Adds (report recording : List ℕ) (met empty distances mean r : ℕ) (after : List ℕ) (first second third fourth : ℕ) : Type 0 where
  pub told : ReportTold (answer_in (addition_in report recording)) met empty distances mean r first second third fourth
  pub state : after ≡ add_after (addition_in report recording) report

-- as long as before, and the same behind the bytes of a report
pub record Behind (old new : List ℕ) : Type 0 where
  pub same_length : length new ≡ length old
  pub same : drop report_bytes new ≡ drop report_bytes old
