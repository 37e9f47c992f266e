-- The report under way by its figures, from batch to batch.
use Rattle.std.specs.Prelude.{ℕ, ◌+◌, ◌-◌, ◌*◌, ◌≤◌, ◌<◌, ◌≡◌, Bool, false, cond, ◌||◌, List, [], ◌∷◌, eqb, ltb, leb, length}
use Rattle.std.specs.Float.Ieee.{is_nan}
use Rattle.number.specs.Axis.{axis}
use Rattle.refusal.specs.Outcome.{Outcome, result, refused, Line}
use Rattle.refusal.specs.Numbers.{number_of, place_of}
use Rattle.text.specs.Told.{text_lines}
use Rattle.binary64.specs.Degree.{degree_of}
use Rattle.degree.specs.Degree.{Reach, away, nowhere}
use Rattle.degree.specs.inner.Reach.{reach_at}
use Rattle.mean.specs.inner.Running.{next, running}
use Rattle.report.specs.Report.{no_mean, mean_degree, Figures, Answer, taken, given, met_in, empty_in, distances_in, sum_in, most_batches}
use Rattle.report.specs.declared.Report.{Report}
use Rattle.report.specs.declared.Added.{Added}
use Rattle.report.specs.declared.Added.TheVariants as variant

-- after the batches of a list
abbrev pub running_of : ℕ → List Reach → Report
running_of n xs =
    record { count = n; taken = length xs; met = met_in xs; empty = empty_in xs; distances = sum_in (distances_in xs); mean = running (distances_in xs) }

-- one batch more
abbrev pub with_batch : Report → Reach → Report
with_batch r (away d) =
    record { count = r.count; taken = r.taken + 1; met = r.met + cond (eqb d 0) 1 0; empty = r.empty; distances = r.distances + d; mean = next r.mean (r.taken + 1 - r.empty) (degree_of d) }
with_batch r nowhere =
    record { count = r.count; taken = r.taken + 1; met = r.met; empty = r.empty + 1; distances = r.distances; mean = r.mean }

-- the figures of a report whose batches are all taken
abbrev pub figures_in : Report → Figures
figures_in r =
    record { met = r.met; empty = r.empty; distances = r.distances; mean = cond (eqb r.empty r.taken) no_mean (mean_degree r.mean.mean) }

-- no batches lead to the report, or it is whole: it has taken as many as were named, and over 1,000 are none; those met and those empty are among the
-- taken; no distance is longer than the axis; and the sum and the mean are numbers
abbrev pub faulty : Report → Bool
faulty r =
    leb r.count r.taken || (ltb most_batches r.count || (ltb r.taken (r.met + r.empty)
    || (ltb (4000000000 * r.taken) r.distances || (is_nan r.mean.sum || is_nan r.mean.mean))))

-- else this is known of it
pub record Sound (r : Report) : Type 0 where
  pub more : r.taken < r.count
  pub few : r.count ≤ most_batches
  pub parts : r.met + r.empty ≤ r.taken
  pub small : r.distances ≤ 4000000000 * r.taken
  pub sum_number : is_nan r.mean.sum ≡ false
  pub mean_number : is_nan r.mean.mean ≡ false

-- a recording handed in: no report is under way; it stops the report; it is taken; or it is the last
pub data Addition : Type 0 where
  none : Addition
  stopped : (number place : ℕ) → Addition
  further : Report → Addition
  last : Report → Addition

abbrev pub addition_of : Added → Addition
addition_of variant.Nothing = none
addition_of (variant.Stopped x) = stopped (number_of x) (place_of x)
addition_of (variant.Taken r) = further r
addition_of (variant.Last r) = last r

-- what the caller is told
abbrev pub answer_in : Addition → Outcome Answer
answer_in none = refused 15 0
answer_in (stopped n p) = refused n p
answer_in (further r) = result taken
answer_in (last r) = result (given (figures_in r))

-- a report with one batch more, which may be the last
abbrev pub counted : Report → Addition
counted r = cond (eqb r.taken r.count) (last r) (further r)

-- a recording whose degree call gives o
abbrev pub added_to : Report → Outcome Reach → Addition
added_to r (result x) = counted (with_batch r x)
added_to r (refused n p) = stopped n p

-- each distance is one of the axis
abbrev pub Small : Outcome Reach → Type 0
Small (result (away d)) = d < axis
Small (result nowhere) = Unit {0}
Small (refused n p) = Unit {0}

-- ---- a report that is under way

-- some line meets
abbrev pub some_meets : List Line → Bool
some_meets [] = false
some_meets (l ∷ ls) = l.meets || some_meets ls

-- 5, 6 or 7 refuses the text, so that no naming took it
unfoldable pub unread : List ℕ → Bool
unread text = some_meets (text_lines text)

-- the target is off the axis, or no batches lead to the report, or it is whole
abbrev pub unsound : Report → ℕ → Bool
unsound r v = leb axis v || faulty r

-- NONE IS UNDER WAY with this report, text, and target at index v, for no call leaves them so
abbrev pub absent : Report → List ℕ → ℕ → Bool
absent r text v = unsound r v || unread text

-- THE NEXT RECORDING, with the text put to it and the target at index v
unfoldable pub addition_to : Report → List ℕ → List ℕ → ℕ → Addition
addition_to r recording text v = cond (absent r text v) none (added_to r (reach_at recording text v))

-- the same of a sound report, where the text is judged by itself only once a recording is refused
abbrev pub added_with : Report → List ℕ → Outcome Reach → Addition
added_with r text (result x) = counted (with_batch r x)
added_with r text (refused n p) = cond (unread text) none (stopped n p)
