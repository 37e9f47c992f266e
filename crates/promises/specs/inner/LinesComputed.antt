-- The marked lines and the formulas, of what each call computes.
use Rattle.std.specs.Prelude.{ℕ, ◌<◌, ◌≡◌, ◌↔◌, List, [], ◌∷◌, map, ℤ}
use Rattle.std.proofs.Math.Bool.{So}
use Rattle.number.specs.Axis.{axis, whole}
use Rattle.number.specs.Words.{words_bytes}
use Rattle.refusal.specs.Outcome.{Outcome, judged, NoneMeets}
use Rattle.recording.specs.Output.{output_line}
use Rattle.recording.specs.Reading.{Reading}
use Rattle.recording.specs.Recording.{readings}
use Rattle.grammar.specs.Bytes.{bytes}
use Rattle.grammar.specs.Grammar.{ReadsWhole}
use Rattle.meaning.specs.Meaning.{Holds}
use Rattle.meaning.specs.Ranges.{Run, InRuns, Maximal}
use Rattle.question.specs.Question.{read, answer, question_of}
use Rattle.thin.specs.Thin.{kept_bytes, thin_of}
use Prim.Native.String.{String}
use Rattle.grammar.specs.Syntax.{Listed, Text, listed}
use Rattle.text.specs.Told.{text_lines}
use Rattle.meaning.specs.Formulas.{Formula}
use Rattle.degree.specs.Degree.{nearness_of}
use Rattle.promises.specs.Lines.{MarkedLine, asks, keeps, bytes_of_runs}

-- the bytes are written, or refusal 10 where the output is shorter
abbrev pub written_in : ℕ → List ℕ → Outcome (List ℕ)
written_in room written = judged (output_line room written ∷ []) written

-- what a line says of a text, asked of the recording
pub record Asked (recording text : List ℕ) (runs : List Run) : Type 0 where
  -- the text has a reading, and it is the one that the call takes
  pub reads : ReadsWhole text (read text)
  -- by the meaning: the text holds at the first record with exactly the numbers of the runs
  pub holds : (n : ℕ) → n < axis → Holds (readings recording) (whole n) (read text) 0 ↔ InRuns runs (whole n)
  -- so these numbers are the answered set
  pub set : (n : ℕ) → n < axis → So (answer recording text n) ↔ InRuns runs (whole n)
  -- the runs are ascending and maximal
  pub maximal : Maximal runs
  -- the question call writes their bytes, whatever the length of the output; 10 is its only refusal
  pub call : (room : ℕ) → question_of recording text room ≡ written_in room (bytes_of_runs runs)

-- what a line says of marks, the recording being thinned with them
pub record Thinned (recording marks times : List ℕ) : Type 0 where
  -- the times of the kept readings
  pub kept : map (λ (x : Reading). x.time) (readings (kept_bytes marks recording)) ≡ times
  -- the thinning call writes the kept readings, whatever the length of the output; 10 is its only refusal
  pub call : (room : ℕ) → thin_of recording (words_bytes marks) room ≡ written_in room (kept_bytes marks recording)

-- WHAT A LINE SAYS OF THE BYTES OF A RECORDING
abbrev pub LineHolds : List ℕ → MarkedLine → Type 0
LineHolds recording (asks text runs) = Asked recording text runs
LineHolds recording (keeps marks times) = Thinned recording marks times

-- ---- formulas

-- THE SAME OUTCOME of the two texts, from any bytes as the recording
pub record SameOutcome (s t : List ℕ) : Type 0 where
  -- the same set in the same bytes, or the same refusal, given outputs of one length
  pub question : (recording : List ℕ) (room : ℕ) → question_of recording s room ≡ question_of recording t room
  -- met, the same distance and degree, no value, or the same refusal
  pub degree : (recording : List ℕ) (target : ℤ) → nearness_of recording s target ≡ nearness_of recording t target

-- the text reads as p, and none of 5, 6 and 7 refuses it
pub record ReadsAs (text : List ℕ) (p : Text) : Type 0 where
  pub reads : ReadsWhole text p
  pub sized : NoneMeets (text_lines text)

-- EACH QUESTION AS ITS FORMULA: s is a text of the question alone, t one of its formula alone
abbrev pub AsItsFormula : Listed → Text → Type 0
AsItsFormula q p = (s t : List ℕ) → ReadsAs s (listed q) → ReadsAs t p → SameOutcome s t

abbrev pub FormulasAsked : Type 0
FormulasAsked = (q : Listed) (p : Text) → Formula q p → AsItsFormula q p

-- a listed question and its formula, as they are written
pub record NamedFormula : Type 0 where
  pub name : String
  pub formula : String

infix 70 ◌equals◌
abbrev pub ◌equals◌ : String → String → NamedFormula
n equals f = record { name = n; formula = f }

-- THE NINE AS THE DOCUMENTS WRITE THEM, c being A, an after-time 40 and a pigment 3
abbrev pub written_formulas : List NamedFormula
written_formulas =
    "high(A)" equals "F(A>=v)"
    ∷ "low(A)" equals "F(A<=v)"
    ∷ "lowafter(A,40)" equals "F(T>40&A<=v)"
    ∷ "capafter(A,40)" equals "G(!(T>40)|A<=v)"
    ∷ "peaks(A)" equals "F(rise(A)&X(U(!rise(A)&!fall(A),fall(A)&T=v)))"
    ∷ "cross" equals "F(A>B&X(A<=B&T=v))"
    ∷ "dips(A)" equals "F(fall(A)&X(U(!fall(A)&!rise(A),rise(A)&T=v)))"
    ∷ "crossup" equals "F(A<=B&X(A>B&T=v))"
    ∷ "dose(3)" equals "F(P=3&T=v)"
    ∷ []

-- the two texts read as a question and as its formula, and none of 5, 6 and 7 refuses either
pub record BothRead (w : NamedFormula) : Type 0 where
  pub question : Listed
  pub tree : Text
  pub its_formula : Formula question tree
  pub name_reads : ReadsAs (bytes w.name) (listed question)
  pub formula_reads : ReadsAs (bytes w.formula) tree
