-- Demand 3, its last sentence: what a question gets from the kept readings is what it gets from the full recording.
use Rattle.std.specs.Prelude.{ℕ, ◌≡◌, List, ℤ}
use Rattle.refusal.specs.Outcome.{NoneMeets}
use Rattle.text.specs.Told.{text_lines}
use Rattle.meaning.specs.Alike.{Plain}
use Rattle.question.specs.Question.{read, question_of}
use Rattle.degree.specs.Degree.{reach_of, nearness_of}
use Rattle.band.specs.Call.{band_of}
use Rattle.marks.specs.Marks.{marks_of}
use Rattle.pair.specs.Pair.{pair_of}
use Rattle.sheet.specs.Call.{order_of}
use Rattle.entry.specs.Call.{entry_of}

-- A text that may be asked of kept readings: where none of 5, 6 and 7 refuses it, it writes none of F, G, X, U and W, and its after-times
-- are among the marks. The marks are given by their bytes, as a thinning call takes them.
abbrev pub PlainlyRead : List ℕ → List ℕ → Type 0
PlainlyRead marks text = NoneMeets (text_lines text) → Plain (marks_of marks) (read text)

-- THE SAME ANSWERS from the recording `held` as from the recording `full`
pub record SameAnswers (marks held full : List ℕ) : Type 0 where
  -- the same set in the same bytes, or the same refusal, given outputs of one length
  pub question : (text : List ℕ) → PlainlyRead marks text → (room : ℕ) → question_of held text room ≡ question_of full text room
  -- the same whole distance, no member, or the same refusal
  pub reach : (text : List ℕ) → PlainlyRead marks text → (target : ℤ) → reach_of held text target ≡ reach_of full text target
  -- met, the same distance and degree, no value, or the same refusal
  pub degree : (text : List ℕ) → PlainlyRead marks text → (target : ℤ) → nearness_of held text target ≡ nearness_of full text target
  -- the same two times, none, or the same refusal
  pub pair : (curve : ℕ) (target : ℤ) → pair_of held curve target ≡ pair_of full curve target
  -- the same two sets, or the same refusal
  pub band : (text : List ℕ) → PlainlyRead marks text → (e : ℤ) → band_of held text e ≡ band_of full text e
  -- met, the same time and line, or the same refusal
  pub ordering : (sheet : List ℕ) → order_of held sheet ≡ order_of full sheet
  -- the same entry, or the same refusal
  pub entry : (room : ℕ) → entry_of held room ≡ entry_of full room
