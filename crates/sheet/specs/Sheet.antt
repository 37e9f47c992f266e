-- Document 02, Paper 6: the order sheet, up to 32 lines of two bytes, a then b, and refusal 13.
use Rattle.std.specs.Prelude.{ℕ, zero, suc, ◌/◌, ◌%◌, Bool, ◌||◌, not, List, [], ◌∷◌, length, get_or, drop, ltb, eqb}
use Rattle.refusal.specs.Outcome.{Line, line, NoneMeets}
use Rattle.recording.specs.Condition.{some_of}
use Rattle.recording.specs.Recording.{most_pigments}

-- a line of the sheet, 'a then b': pigment a must be in before pigment b
pub record Precedence : Type 0 where
  pub a : ℕ
  pub b : ℕ

-- the first n lines of two bytes
abbrev pub precedences : ℕ → List ℕ → List Precedence
precedences zero bytes = []
precedences (suc n) bytes = record { a = get_or bytes 0 0; b = get_or bytes 1 0 } ∷ precedences n (drop 2 bytes)

-- the lines that the bytes hold
unfoldable pub sheet_of : List ℕ → List Precedence
sheet_of bytes = precedences (length bytes / 2) bytes

abbrev pub most_lines : ℕ
most_lines = 32

-- the number is not 1 to 16
abbrev pub no_pigment : ℕ → Bool
no_pigment k = eqb k 0 || ltb most_pigments k

-- REFUSAL 13: a sheet of odd length, over 32 lines, or a number not 1 to 16
abbrev pub bad_sheet : List ℕ → Line
bad_sheet sheet = line 13 (not (eqb (length sheet % 2) 0) || (ltb most_lines (length sheet / 2) || some_of no_pigment sheet))

-- 13 does not meet the sheet
abbrev pub AcceptedSheet : List ℕ → Type 0
AcceptedSheet sheet = NoneMeets (bad_sheet sheet ∷ [])
