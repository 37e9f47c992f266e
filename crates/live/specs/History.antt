-- Document 02, Paper 11, "Named moments of a growing run": a history written as plain lists of readings, the run's and each set moment's, says with the marks
-- what each step answers.
use Rattle.std.specs.Prelude.{ℕ, Bool, ◌||◌, not, true, false, cond, List, [], ◌∷◌, ◌++◌, ltb, eqb, length}
use Rattle.refusal.specs.Outcome.{Outcome, result, refused, Line, line, judged}
use Rattle.recording.specs.Condition.{pick, on}
use Rattle.recording.specs.Recording.{Raw, reading, concat, lawful, most_records}
use Rattle.recording.specs.Output.{output_line}
use Rattle.kept.specs.Kept.{kept_for}
use Rattle.marks.specs.Marks.{marks_of, marks_line}
use Rattle.thin.specs.Thin.{kept_bytes}
use Rattle.live_state.specs.Limits.{most_held, most_moments}

-- a moment that was set: its name, and the run's readings as they were then
pub record SetMoment : Type 0 where
  pub name : ℕ
  pub readings : List Raw

-- THE HISTORY: the marks, the readings of the run, each of 16 bytes, and the moments that were set, the last first
pub record History : Type 0 where
  pub marks : List ℕ
  pub run : List Raw
  pub moments : List SetMoment

-- "A run starts empty with its marks"
abbrev pub begun : List ℕ → History
begun marks = record { marks = marks; run = []; moments = [] }

-- the moment of a name: not set, or the run's readings as they were when it was set last
pub data Moment : Type 0 where
  unset : Moment
  set : List Raw → Moment

abbrev pub last_set : ℕ → List SetMoment → Moment
last_set name [] = unset
last_set name (m ∷ ms) = cond (eqb name m.name) (set m.readings) (last_set name ms)

-- the kept readings, under these marks
abbrev pub kept_of : List ℕ → List Raw → List Raw
kept_of marks run = pick (on reading (kept_for marks)) run

-- a step: a reading of any bytes arrives, a moment is set, or the run goes back to one
pub data Step : Type 0 where
  add : (bytes : List ℕ) → Step
  save : (name : ℕ) → Step
  restore : (name : ℕ) → Step

-- ---- what each step answers

-- the name is not 1 to 8
abbrev pub bad_name : ℕ → Bool
bad_name name = eqb name 0 || ltb most_moments name

abbrev pub is_set : Moment → Bool
is_set unset = false
is_set (set readings) = true

-- a reading: 11; 1, not just 16 bytes; 2, the run's 4,097th reading; 3, with its index in the run, where it is out of its rules behind the readings of the run;
-- 19, the run with it would hold over 128 kept readings
abbrev pub reading_lines : History → List ℕ → List Line
reading_lines h x =
    marks_line h.marks
    ∷ line 1 (not (eqb (length x) 16))
    ∷ line 2 (ltb most_records (length (h.run ++ x ∷ [])))
    ∷ record { number = 3; place = length h.run; meets = not (lawful (h.run ++ x ∷ []) (length h.run)) }
    ∷ line 19 (ltb most_held (length (kept_of (marks_of h.marks) (h.run ++ x ∷ []))))
    ∷ []

-- THE LINES OF A STEP: a run whose marks 11 refused answers 11 to every step; 18 for a name not 1 to 8, or not set when going back
abbrev pub step_lines : History → Step → List Line
step_lines h (add x) = reading_lines h x
step_lines h (save name) = marks_line h.marks ∷ line 18 (bad_name name) ∷ []
step_lines h (restore name) = marks_line h.marks ∷ line 18 (bad_name name || not (is_set (last_set name h.moments))) ∷ []

-- ---- the history after a step that is not refused

-- the run as it was at a moment
abbrev pub back_to : Moment → List Raw → List Raw
back_to unset run = run
back_to (set readings) run = readings

-- the reading goes behind the run's; a moment that is set, or set again, is the run as it is; going back makes the run that of the moment, and all moments stay
abbrev pub with_step : History → Step → History
with_step h (add x) = record { marks = h.marks; run = h.run ++ x ∷ []; moments = h.moments }
with_step h (save name) = record { marks = h.marks; run = h.run; moments = record { name = name; readings = h.run } ∷ h.moments }
with_step h (restore name) = record { marks = h.marks; run = back_to (last_set name h.moments) h.run; moments = h.moments }

-- WHAT A STEP DOES: it is refused by the first line that meets, or it takes the history on
unfoldable pub outcome : History → Step → Outcome History
outcome h s = judged (step_lines h s) (with_step h s)

-- "A refused step changes nothing."
abbrev pub goes_on : History → Outcome History → History
goes_on h (result g) = g
goes_on h (refused n p) = h

abbrev pub after : History → Step → History
after h s = goes_on h (outcome h s)

-- WHAT A STEP ANSWERS: 0, or its refusal
abbrev pub told : {R : Type 0} → Outcome R → Outcome ℕ
told (result r) = result 0
told (refused n p) = refused n p

abbrev pub step_answer : History → Step → Outcome ℕ
step_answer h s = told (outcome h s)

-- of a list of steps: what each answers, and the history after them
abbrev pub step_answers : History → List Step → List (Outcome ℕ)
step_answers h [] = []
step_answers h (s ∷ ss) = step_answer h s ∷ step_answers (after h s) ss

abbrev pub after_all : History → List Step → History
after_all h [] = h
after_all h (s ∷ ss) = after_all (after h s) ss

-- ---- the readings held

-- THE KEPT READINGS OF THE RUN, under its marks, as bytes
abbrev pub kept_run : History → List ℕ
kept_run h = kept_bytes (marks_of h.marks) (concat h.run)

-- THE READ-OUT, which is no step: 11; 10 where the output is shorter; else the kept readings of the run
unfoldable pub read_out : History → ℕ → Outcome (List ℕ)
read_out h room = judged (marks_line h.marks ∷ output_line room (kept_run h) ∷ []) (kept_run h)
