-- Document 01, "Listed questions" and "Recording R1", with Papers 1, 3 and 5, of what is right by the page: a question and its formula, each asked alone;
-- "The marked lines of R1 form a list", and lines of R2 and R3 beside them, for R1 keeps all its readings and has no additions; and the band of width 0.
-- That they hold is `lines` (laws/Lines).
use Rattle.std.specs.Prelude.{ℕ, ◌+◌, ◌*◌, ◌/◌, ◌≤◌, ◌<◌, ◌≡◌, cond, ltb, ℤ, pos, length, get_or}
use mathlib.Core.List.{List, [], ◌∷◌, ◌++◌, map, Memᴰ}
use Rattle.number.specs.Words.{bits, word_bytes, words_bytes}
use Rattle.refusal.specs.Outcome.{Outcome, result, refused}
use Rattle.recording.specs.Reading.{Reading}
use Rattle.recording.specs.Recording.{readings, pigment_byte}
use Rattle.recording.specs.R1.{R1}
use Rattle.recording.specs.R2.{R2}
use Rattle.recording.specs.R3.{R3}
use Rattle.grammar.specs.Bytes.{bytes}
use Rattle.grammar.specs.Syntax.{Listed, Text, listed}
use Rattle.grammar.specs.Grammar.{ReadsWhole}
use Rattle.meaning.specs.Formulas.{Formula}
use Rattle.meaning.specs.Ranges.{Run, ◌to◌, just, Lo, Hi}
use Rattle.thin.specs.Thin.{kept_bytes}
use Rattle.promises.specs.MaximalRuns.{Interval, runs_bytes}
use Rattle.promises.specs.Conditions.{text_table, NoneMet}
use Rattle.promises.specs.Page.{question, degree, thin, band, Effect, effect, writing, ends, Right}

-- a marked line: a text with the runs of its set; or marks with the times of the records that are kept
pub data MarkedLine : Type 0 where
  asks : (text : List ℕ) (runs : List Run) → MarkedLine
  keeps : (marks times : List ℕ) → MarkedLine

-- THE MARKED LINES OF R1, in the order of the document, and then those of the names of Paper 1
abbrev pub marked_lines : List MarkedLine
marked_lines =
    asks (bytes "high(A)") ((Lo to pos 90) ∷ []) ∷ asks (bytes "low(A)") ((pos 30 to Hi) ∷ [])
    ∷ asks (bytes "ampl(A)") ((Lo to pos 60) ∷ []) ∷ asks (bytes "peaks(A)") (just 30 ∷ just 70 ∷ [])
    ∷ asks (bytes "gaps(A)") (just 40 ∷ []) ∷ asks (bytes "cross") (just 40 ∷ just 70 ∷ []) ∷ asks (bytes "lag") []
    ∷ asks (bytes "lowafter(A,40)") ((pos 45 to Hi) ∷ []) ∷ asks (bytes "lowafter(A,70)") []
    ∷ asks (bytes "capafter(A,70)") ((Lo to Hi) ∷ [])
    ∷ asks (bytes "U(A>=40,A=v)") (just 30 ∷ just 40 ∷ just 60 ∷ just 70 ∷ just 80 ∷ [])
    ∷ keeps [] (0 ∷ 10 ∷ 20 ∷ 30 ∷ 40 ∷ 50 ∷ 60 ∷ 70 ∷ []) ∷ keeps (40 ∷ []) (0 ∷ 10 ∷ 20 ∷ 30 ∷ 40 ∷ 50 ∷ 60 ∷ 70 ∷ [])
    ∷ asks (bytes "dips(A)") (just 50 ∷ []) ∷ asks (bytes "crossup") (just 10 ∷ just 50 ∷ []) ∷ []

-- LINES OF R2, which keeps some of its readings, and more of them with a mark
abbrev pub R2Lines : List MarkedLine
R2Lines =
    asks (bytes "peaks(A)") (just 40 ∷ []) ∷ asks (bytes "dips(A)") [] ∷ keeps [] (0 ∷ 10 ∷ 30 ∷ 40 ∷ 60 ∷ 80 ∷ [])
    ∷ keeps (40 ∷ []) (0 ∷ 10 ∷ 30 ∷ 40 ∷ 50 ∷ 60 ∷ 80 ∷ []) ∷ keeps (10 ∷ []) (0 ∷ 10 ∷ 20 ∷ 30 ∷ 40 ∷ 60 ∷ 80 ∷ []) ∷ []

-- LINES OF R3, which has additions: of pigment 7 at T 20, which is kept for it alone, and of pigment 16 at T 40
abbrev pub R3Lines : List MarkedLine
R3Lines =
    asks (bytes "dose(7)") (just 20 ∷ []) ∷ asks (bytes "dose(16)") (just 40 ∷ []) ∷ asks (bytes "dose(3)") []
    ∷ asks (bytes "P=7") [] ∷ asks (bytes "X(X(P=7))") ((Lo to Hi) ∷ []) ∷ asks (bytes "F(P=7&T=v)") (just 20 ∷ [])
    ∷ keeps [] (0 ∷ 10 ∷ 20 ∷ 30 ∷ 40 ∷ 60 ∷ 80 ∷ []) ∷ []

-- the bytes of runs: low and high of each, as signed numbers of 32 bits
abbrev pub bytes_of_runs : List Run → List ℕ
bytes_of_runs [] = []
bytes_of_runs (x ∷ l) = (word_bytes (bits x.low) ++ word_bytes (bits x.high)) ++ bytes_of_runs l

-- the bytes are written, or 10 where the output is shorter
abbrev pub written_in : (room : ℕ) → List ℕ → Outcome Effect
written_in room b = cond (ltb room (length b)) (refused 10 0) (result (writing b))

-- WHAT A LINE SAYS of a recording, whatever the length of the output
abbrev pub Line : (g : List ℕ) → MarkedLine → Type 0
Line g (asks text runs) = (room : ℕ) → Right (question text) g room (written_in room (bytes_of_runs runs))
Line g (keeps marks times) =
    (map (λ (x : Reading). x.time) (readings (kept_bytes marks g)) ≡ times)
    × ((room : ℕ) → Right (thin (words_bytes marks)) g room (written_in room (kept_bytes marks g)))

-- byte 14 of every record is zero
abbrev pub Old : List ℕ → Type 0
Old g = (i : ℕ) → i < length g / 16 → get_or g (i * 16 + pigment_byte) 0 ≡ 0

pub record Lines : Type 0 where
  -- "Asked alone, each of the first six equals its formula, asked alone, in set and in refusal 8": `s` is a text of the question alone, `t` of its formula
  pub as_formula : (q : Listed) (p : Text) → Formula q p → (s t : List ℕ) → ReadsWhole s (listed q) → ReadsWhole t p → NoneMet (text_table s)
      → NoneMet (text_table t) → {g : List ℕ} {room : ℕ} {o : Outcome Effect} → Right (question s) g room o → Right (question t) g room o
  pub degree_as_formula : (q : Listed) (p : Text) → Formula q p → (s t : List ℕ) → ReadsWhole s (listed q) → ReadsWhole t p → NoneMet (text_table s)
      → NoneMet (text_table t) → {target : ℤ} {g : List ℕ} {room : ℕ} {o : Outcome Effect} → Right (degree s target) g room o → Right (degree t target) g room o
  pub marked : (l : MarkedLine) → Memᴰ l marked_lines → Line R1 l
  pub marked_R2 : (l : MarkedLine) → Memᴰ l R2Lines → Line R2 l
  pub marked_R3 : (l : MarkedLine) → Memᴰ l R3Lines → Line R3 l
  -- Paper 9: "At e = 0 both sets are today's set"
  pub today : {text g : List ℕ} {x : Effect} → Right (band text (pos 0)) g 4 (result x)
      → (rs : List Interval) × (length rs ≤ 1) × (x ≡ effect (length rs + 2 * length rs) (ends rs ++ ends rs))
      × ((room : ℕ) → 8 ≤ room → Right (question text) g room (result (writing (runs_bytes rs))))
  -- Paper 3: "Old recordings read as having no additions"
  pub old : (g : List ℕ) → Old g → (x : Reading) → Memᴰ x (readings g) → x.pigment ≡ 0
