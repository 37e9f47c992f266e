-- Document 02, Paper 7: what a buyer's laboratory may ask, refusal 14, and the laboratory's three calls, from bytes to their outcomes.
use Rattle.std.specs.Prelude.{ℕ, List, [], ◌∷◌, ◌++◌, eqb, ℤ}
use Rattle.targets.specs.Target.{bad_target}
use Rattle.refusal.specs.Outcome.{Outcome, Line, line, judged}
use Rattle.recording.specs.Reading.{B, curve_of}
use Rattle.recording.specs.Recording.{readings, recording_lines, no_record}
use Rattle.recording.specs.Output.{output_line}
use Rattle.runs.specs.Runs.{set_bytes}
use Rattle.grammar.specs.Syntax.{Text}
use Rattle.meaning.specs.Alike.{Plain}
use Rattle.meaning.specs.Named.{curve, Names}
use Rattle.meaning.specs.inner.Coded.{index}
use Rattle.question.specs.Question.{read, answer, asking_lines, set_lines}
use Rattle.degree.specs.Degree.{Value, value_of, target_line}
use Rattle.pair.specs.Pair.{Given, first_pair, too_many_tops}
use Rattle.marks.specs.Marks.{marks_of, marks_line}
use Rattle.lab.specs.inner.Barred.{not_for_laboratory}

-- A LABORATORY TEXT under these marks: it holds none of F, G, X, U and W, its after-times are among the marks, and it does not name B. `A>B`, `cross`, `crossup` and `lag`
-- name B too (meaning/specs/Named)
pub record LaboratoryText (marks : List ℕ) (p : Text) : Type 0 where
  pub plain : Plain marks p
  pub no_B : ¬ Names p (curve B)

-- REFUSAL 14 of a text that was read: it is no laboratory text. Computed; that it meets exactly there is `fourteen_text` (laws/Laboratory)
abbrev pub text_line : List ℕ → Text → Line
text_line marks p = line 14 (not_for_laboratory (marks_of marks) p)

-- REFUSAL 14 of a pair of tops: the curve is B, whose number is 1
abbrev pub curve_line : ℕ → Line
curve_line c = line 14 (eqb c 1)

-- REFUSALS 11 and 14 of a text that was read, in that order
abbrev pub asker_lines : List ℕ → Text → List Line
asker_lines marks p = marks_line marks ∷ text_line marks p ∷ []

-- REFUSALS 1 to 7, 11 and 14, in order
abbrev pub lab_asking_lines : List ℕ → List ℕ → List ℕ → List Line
lab_asking_lines bytes marks text = asking_lines bytes text ++ asker_lines marks (read text)

-- THE LABORATORY'S QUESTION CALL: its refusals in the order 1 to 7, 11, 14, 9, 8, 10; else the bytes of the answered set
unfoldable pub lab_question_of : (bytes marks text : List ℕ) → ℕ → Outcome (List ℕ)
lab_question_of bytes marks text room =
    judged (lab_asking_lines bytes marks text ++ (set_lines bytes (read text) ++ (output_line room (set_bytes (answer bytes text)) ∷ []))) (set_bytes (answer bytes text))

-- THE LABORATORY'S DEGREE CALL: its refusals in the order 1 to 7, 11, 14, 12, 9, 8; else how near the answered set comes to the target
unfoldable pub lab_degree_of : (bytes marks text : List ℕ) → ℤ → Outcome Value
lab_degree_of bytes marks text g =
    judged (lab_asking_lines bytes marks text ++ (target_line g ∷ set_lines bytes (read text))) (value_of (answer bytes text) (index g))

-- THE LABORATORY'S PAIR CALL: its refusals in the order 1 to 4, 12, 14, 9; else the first pair
unfoldable pub lab_pair_of : List ℕ → ℕ → ℤ → Outcome Given
lab_pair_of bytes c g =
    judged (recording_lines bytes ++ (no_record bytes ∷ bad_target c g ∷ curve_line c ∷ too_many_tops bytes c ∷ [])) (first_pair (readings bytes) (curve_of c) g)
