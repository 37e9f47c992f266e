-- Document 02, Paper 8: one text and one target are put to a named number of recordings, handed in one after another. What each call answers, over plain lists.
use Rattle.std.specs.Prelude.{ℕ, suc, ◌+◌, ◌≤◌, ◌≡◌, Bool, cond, ◌||◌, List, [], ◌∷◌, ◌++◌, eqb, ltb, ℤ, length, Float}
use Rattle.refusal.specs.Outcome.{Outcome, result, refused, Line, line, judged}
use Rattle.text.specs.Told.{text_lines}
use Rattle.degree.specs.Degree.{Reach, away, nowhere, target_line, reach_of}
use Rattle.mean.specs.Mean.{mean_of, exact_mean, WithinBillionth}

-- ---- THE FIGURES of a list of batches, each by how far its set is from the target

-- how many met the target
abbrev pub met_in : List Reach → ℕ
met_in [] = 0
met_in (away d ∷ xs) = cond (eqb d 0) 1 0 + met_in xs
met_in (nowhere ∷ xs) = met_in xs

-- how many had an empty set
abbrev pub empty_in : List Reach → ℕ
empty_in [] = 0
empty_in (away d ∷ xs) = empty_in xs
empty_in (nowhere ∷ xs) = suc (empty_in xs)

-- the distances in the order handed in; empty ones are left out, and a met one has distance 0
abbrev pub distances_in : List Reach → List ℕ
distances_in [] = []
distances_in (away d ∷ xs) = d ∷ distances_in xs
distances_in (nowhere ∷ xs) = distances_in xs

-- their exact sum
abbrev pub sum_in : List ℕ → ℕ
sum_in [] = 0
sum_in (d ∷ ds) = d + sum_in ds

-- the mean degree in binary64; "with none left there is no mean"
pub data MeanDegree : Type 0 where
  no_mean : MeanDegree
  mean_degree : Float → MeanDegree

abbrev pub mean_in : List ℕ → MeanDegree
mean_in [] = no_mean
mean_in (d ∷ ds) = mean_degree (mean_of (d ∷ ds))

-- how many met, how many had an empty set, the exact sum of the other distances, and the mean degree
pub record Figures : Type 0 where
  pub met : ℕ
  pub empty : ℕ
  pub distances : ℕ
  pub mean : MeanDegree

abbrev pub figures_of : List Reach → Figures
figures_of xs = record { met = met_in xs; empty = empty_in xs; distances = sum_in (distances_in xs); mean = mean_in (distances_in xs) }

-- ---- THE NAMING

-- the count of the recordings, with the text and the target
pub record Naming : Type 0 where
  pub count : ℕ
  pub text : List ℕ
  pub target : ℤ

-- the most recordings of a report
abbrev pub most_batches : ℕ
most_batches = 1000

-- the bytes that a report under way takes
abbrev pub report_bytes : ℕ
report_bytes = 320

-- 15: a named count of 0 or over 1,000
abbrev pub bad_count : ℕ → Bool
bad_count n = eqb n 0 || ltb most_batches n

-- REFUSALS of a naming: 15, then 5, 6, 7 and 12; and 10, ours, where there is no room for the report under way
abbrev pub naming_lines : Naming → ℕ → List Line
naming_lines n room = line 15 (bad_count n.count) ∷ (text_lines n.text ++ (target_line n.target ∷ line 10 (ltb room report_bytes) ∷ []))

-- ---- THE CALLS

-- a recording that is not refused is taken; the last of the named count gives the report
pub data Answer : Type 0 where
  taken : Answer
  given : Figures → Answer

-- the report under way: none, for none was named, or it was given, or a call was refused; or a naming, with what each recording taken so far gave
pub data Stage : Type 0 where
  closed : Stage
  under_way : Naming → List Reach → Stage

-- a call names a report, or hands in a recording of any bytes
pub data ReportCall : Type 0 where
  start_report : Naming → ReportCall
  add_batch : (recording : List ℕ) → ReportCall

-- what a naming answers
abbrev pub named : ℕ → Naming → Outcome Answer
named room n = judged (naming_lines n room) taken

-- a naming that is refused leaves no report
abbrev pub opened_by : Naming → Outcome Answer → Stage
opened_by n (result x) = under_way n []
opened_by n (refused k p) = closed

-- what a recording answers whose degree call gives o: "a recording that the degree call would refuse stops the report with that refusal"
abbrev pub batch_answer : Naming → List Reach → Outcome Reach → Outcome Answer
batch_answer n xs (result x) = cond (eqb (suc (length xs)) n.count) (result (given (figures_of (xs ++ x ∷ [])))) (result taken)
batch_answer n xs (refused k p) = refused k p

abbrev pub onward : Naming → List Reach → Outcome Reach → Stage
onward n xs (result x) = cond (eqb (suc (length xs)) n.count) closed (under_way n (xs ++ x ∷ []))
onward n xs (refused k p) = closed

-- WHAT A CALL ANSWERS: 15 comes before all others, after the named count and after a refusal
abbrev pub answered : ℕ → Stage → ReportCall → Outcome Answer
answered room s (start_report n) = named room n
answered room closed (add_batch recording) = refused 15 0
answered room (under_way n xs) (add_batch recording) = batch_answer n xs (reach_of recording n.text n.target)

abbrev pub stage_after : ℕ → Stage → ReportCall → Stage
stage_after room s (start_report n) = opened_by n (named room n)
stage_after room closed (add_batch recording) = closed
stage_after room (under_way n xs) (add_batch recording) = onward n xs (reach_of recording n.text n.target)

-- what each call of a list answers
abbrev pub report_answers : ℕ → Stage → List ReportCall → List (Outcome Answer)
report_answers room s [] = []
report_answers room s (c ∷ cs) = answered room s c ∷ report_answers room (stage_after room s c) cs

-- ---- THE BOUND

-- "The mean lies within one part in 1,000,000,000 of the exact fraction" of these distances; with none left there is no mean
abbrev pub MeanNear : List ℕ → MeanDegree → Type 0
MeanNear ds no_mean = ds ≡ []
MeanNear ds (mean_degree x) = WithinBillionth x (exact_mean ds)

-- figures that some list of up to 1,000 batches has, with the mean near
pub record Reported (f : Figures) : Type 0 where
  pub batches : List Reach
  pub few : length batches ≤ most_batches
  pub figures : f ≡ figures_of batches
  pub near : MeanNear (distances_in batches) f.mean
