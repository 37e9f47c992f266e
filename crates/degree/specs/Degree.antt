-- Document 01, "Degree and pair": the degree call, from bytes to its outcome.
use Rattle.refusal.specs.declared.Refusal.{Refusal}
use Rattle.std.specs.Prelude.{ℕ, Bool, cond, List, ◌∷◌, ◌++◌, eqb, ltb, ℤ, Float, Result, Ok, Err, Option, Some, None}
use Rattle.number.specs.Axis.{axis}
use Rattle.refusal.specs.Outcome.{Outcome, result, refused, Line, line, judged}
use Rattle.refusal.specs.Numbers.{number_of, place_of}
use Rattle.runs.specs.Distance.{distance}
use Rattle.meaning.specs.inner.Coded.{index}
use Rattle.question.specs.Question.{read, answer, asking_lines, set_lines}
use Rattle.binary64.specs.Degree.{distance_of, degree_of}
use Rattle.targets.specs.Target.{off_axis}
use Rattle.degree.specs.declared.Nearness.{Nearness}
use Rattle.degree.specs.declared.Nearness.TheVariants as nearness

-- how far a target is from a set: the distance of the nearest member, as a whole number; or that there is no member
pub data Reach : Type 0 where
  away : (distance : ℕ) → Reach
  nowhere : Reach

-- how far the number at index v is from the members of f; the distance is less than the size of the axis exactly where there is a member
abbrev pub reach_in : (ℕ → Bool) → ℕ → Reach
reach_in f v = cond (ltb (distance f v) axis) (away (distance f v)) nowhere

-- met; short, with the distance and the degree, both in binary64; or no value at all
pub data Value : Type 0 where
  met : Value
  short : (distance degree : Float) → Value
  no_value : Value

-- a target at distance d: met means that d is 0
abbrev pub graded : ℕ → Value
graded d = cond (eqb d 0) met (short (distance_of d) (degree_of d))

abbrev pub valued : Reach → Value
valued (away d) = graded d
valued nowhere = no_value

-- how near the members of f come to the number at index v
abbrev pub value_of : (ℕ → Bool) → ℕ → Value
value_of f v = valued (reach_in f v)

-- REFUSAL 12: the target is off the axis
abbrev pub target_line : ℤ → Line
target_line g = line 12 (off_axis g)

-- REFUSALS of the degree call, in the order 1 to 7, 12, 9, 8
abbrev pub degree_lines : List ℕ → List ℕ → ℤ → List Line
degree_lines bytes text g = asking_lines bytes text ++ (target_line g ∷ set_lines bytes (read text))

-- THE DEGREE CALL: its refusals; else how near the answered set comes to the target
unfoldable pub nearness_of : List ℕ → List ℕ → ℤ → Outcome Value
nearness_of bytes text g = judged (degree_lines bytes text g) (value_of (answer bytes text) (index g))

-- the same with the whole distance, before it is graded: `nearness_of` is this, valued (laws/Reach, `nearness_valued`)
unfoldable pub reach_of : List ℕ → List ℕ → ℤ → Outcome Reach
reach_of bytes text g = judged (degree_lines bytes text g) (reach_in (answer bytes text) (index g))

-- the value that an answer of the code stands for
abbrev pub value_in : Nearness → Value
value_in nearness.Met = met
value_in (nearness.Short x k) = short x k
value_in nearness.NoValue = no_value

-- the value, or the refusal's number and place
abbrev pub outcome_of : Result Nearness Refusal → Outcome Value
outcome_of (Ok n) = result (value_in n)
outcome_of (Err x) = refused (number_of x) (place_of x)

-- the distance of the nearest member, if there is one
abbrev pub reach_to : Option ℕ → Reach
reach_to (Some d) = away d
reach_to None = nowhere

-- the distance, or the refusal's number and place
abbrev pub reached_of : Result (Option ℕ) Refusal → Outcome Reach
reached_of (Ok r) = result (reach_to r)
reached_of (Err x) = refused (number_of x) (place_of x)
