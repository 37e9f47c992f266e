-- THE CALL THAT TELLS whether kept readings answer a text as the recording did: from the bytes of a text and of marks to its outcome.
use Rattle.std.specs.Prelude.{ℕ, Bool, cond, List, [], ◌∷◌, ◌++◌}
use Rattle.refusal.specs.Outcome.{Outcome, Line, judged}
use Rattle.text.specs.Told.{text_lines}
use Rattle.question.specs.Question.{read}
use Rattle.marks.specs.Marks.{marks_of, marks_line}
use Rattle.assured.specs.inner.Test.{is_assured}

-- REFUSALS 5, 6, 7 and 11, in that order
abbrev pub assured_lines : (text marks : List ℕ) → List Line
assured_lines text marks = text_lines text ++ marks_line marks ∷ []

-- 1, or 0
abbrev pub told : Bool → ℕ
told b = cond b 1 0

-- THE CALL: its refusals; else 1 for an assured text, and 0 for every other. Computed; that `is_assured` is true exactly of `Assured` texts is `assured_test` (laws/Test)
unfoldable pub assured_of : (text marks : List ℕ) → Outcome ℕ
assured_of text marks = judged (assured_lines text marks) (told (is_assured (marks_of marks) (read text)))
