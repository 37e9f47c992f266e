-- Document 01: the question call, from bytes to its outcome.
use Rattle.std.specs.Prelude.{ℕ, Bool, List, [], ◌∷◌, ◌++◌}
use Rattle.refusal.specs.Outcome.{Outcome, Line, line, judged}
use Rattle.recording.specs.Recording.{recording_lines, no_record}
use Rattle.recording.specs.Output.{output_line}
use Rattle.runs.specs.Runs.{set_bytes}
use Rattle.grammar.specs.Syntax.{Text, listed, lag}
use Rattle.grammar.specs.inner.Parse.{Parsed, one, none, parsed}
use Rattle.text.specs.Told.{text_lines}
use Rattle.meaning.specs.inner.Truth.{val, refused8, refused9}
use Rattle.meaning.specs.inner.Coded.{coded}

-- the text that was read; what stands for a text without a reading is never asked
abbrev pub the_text : Parsed → Text
the_text (one t) = t
the_text none = listed lag

-- the one reading of a text
abbrev pub read : List ℕ → Text
read text = the_text (parsed text)

-- THE ANSWERED SET: the numbers, by their indices, with which the text is true at the first record
abbrev pub answer : List ℕ → List ℕ → ℕ → Bool
answer bytes text n = val (coded bytes) n (read text) 0

-- REFUSALS 1 to 7, in order
abbrev pub asking_lines : List ℕ → List ℕ → List Line
asking_lines bytes text = recording_lines bytes ++ (no_record bytes ∷ text_lines text)

-- REFUSALS 9 and 8 of a text that was read, in that order
abbrev pub set_lines : List ℕ → Text → List Line
set_lines bytes p = line 9 (refused9 (coded bytes) p) ∷ line 8 (refused8 (coded bytes) p) ∷ []

-- REFUSAL 10; else the bytes of the set with the members f
abbrev pub written_of : (ℕ → Bool) → ℕ → Outcome (List ℕ)
written_of f room = judged (output_line room (set_bytes f) ∷ []) (set_bytes f)

-- 9, 8 and 10 of a text p that was read; else the bytes of its set at the first record
abbrev pub answer_of : List ℕ → Text → ℕ → Outcome (List ℕ)
answer_of bytes p room =
    judged (set_lines bytes p ++ (output_line room (set_bytes (λ n. val (coded bytes) n p 0)) ∷ [])) (set_bytes (λ n. val (coded bytes) n p 0))

-- THE QUESTION CALL: its refusals in the order 1 to 7, 9, 8, 10; else the bytes of the answered set
unfoldable pub question_of : List ℕ → List ℕ → ℕ → Outcome (List ℕ)
question_of bytes text room =
    judged (asking_lines bytes text ++ (set_lines bytes (read text) ++ (output_line room (set_bytes (answer bytes text)) ∷ []))) (set_bytes (answer bytes text))
