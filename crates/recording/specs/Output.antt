-- Document 01, "When no result is given": what a call answers, and what it leaves in its output.
use Rattle.std.specs.Prelude.{ℕ, ◌≡◌, List, ◌++◌, ltb, length, drop, Result}
use Rattle.refusal.specs.declared.Refusal.{Refusal}
use Rattle.refusal.specs.Outcome.{Outcome, result, refused, reported, Line, line}

-- the length of the result
abbrev pub counted : Outcome (List ℕ) → Outcome ℕ
counted (result bytes) = result (length bytes)
counted (refused n p) = refused n p

-- the output after the call: on success the bytes behind the result are untouched, after a refusal all
abbrev pub output_after : Outcome (List ℕ) → List ℕ → List ℕ
output_after (result bytes) old = bytes ++ drop (length bytes) old
output_after (refused n p) old = old

-- THE COMPLETE OUTCOME of a call that writes: its answer r, and its output, `old` before and `new` after
pub record Answers (outcome : Outcome (List ℕ)) (old : List ℕ) (r : Result ℕ Refusal) (new : List ℕ) : Type 0 where
  pub answer : reported r ≡ counted outcome
  pub output : new ≡ output_after outcome old

-- REFUSAL 10: the output is shorter than the result
abbrev pub output_line : ℕ → List ℕ → Line
output_line room bytes = line 10 (ltb room (length bytes))
