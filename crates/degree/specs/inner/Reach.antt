-- The distance of a target that is given by its index on the axis.
use Rattle.std.specs.Prelude.{ℕ, List, ◌++◌}
use Rattle.refusal.specs.Outcome.{Outcome, result, refused, judged}
use Rattle.question.specs.Question.{read, answer, asking_lines, set_lines}
use Rattle.degree.specs.Degree.{Reach, reach_in}

-- refused in the order 1 to 7, 9, 8; else how far the number at index v is from the answered set
unfoldable pub reach_at : List ℕ → List ℕ → ℕ → Outcome Reach
reach_at bytes text v = judged (asking_lines bytes text ++ set_lines bytes (read text)) (reach_in (answer bytes text) v)

-- a result under f; a refusal stays
abbrev pub mapped : {R S : Type 0} → (R → S) → Outcome R → Outcome S
mapped f (result r) = result (f r)
mapped f (refused n p) = refused n p
