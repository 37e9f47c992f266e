-- Document 02, Paper 9: the band call, from bytes to its outcome.
use Rattle.refusal.specs.declared.Refusal.{Refusal}
use Rattle.std.specs.Prelude.{ℕ, Bool, true, false, not, List, [], ◌∷◌, ◌++◌, ltb, ℤ, pos, negsuc, Result, Ok, Err, Option, Some, None}
use Rattle.refusal.specs.Outcome.{Outcome, result, refused, Line, line, judged}
use Rattle.refusal.specs.Numbers.{number_of, place_of}
use Rattle.grammar.specs.Syntax.{Listed, high, low, lowafter, capafter, peaks, dips, cross, crossup, dose, ampl, gaps, steps, lag, Text, atom, listed, or, and, neg, finally, globally, next, until, weak_until}
use Rattle.meaning.specs.inner.Coded.{coded}
use Rattle.meaning.specs.inner.Truth.{of_listed}
use Rattle.question.specs.Question.{read, asking_lines}
use Rattle.band.specs.Band.{widest}
use Rattle.band.specs.Means.{Part, empty, run, Bands}
use Rattle.band.specs.inner.Ends.{bands_of}
use Rattle.band.specs.declared.Run.{Run}
use Rattle.band.specs.declared.Bands.{Bands as CodeBands}

-- REFUSAL 16: e is not 0 to 1,000,000
abbrev pub bad_band : ℤ → Bool
bad_band (pos n) = ltb widest n
bad_band (negsuc n) = true

-- e of a band that is not refused
abbrev pub width_of : ℤ → ℕ
width_of (pos n) = n
width_of (negsuc n) = 0

-- the question is answered within a band (`OfExtremes`)
abbrev pub of_extremes : Listed → Bool
of_extremes (high c) = true
of_extremes (low c) = true
of_extremes (lowafter c k) = true
of_extremes (capafter c k) = true
of_extremes (ampl c) = true
of_extremes (peaks c) = false
of_extremes (dips c) = false
of_extremes cross = false
of_extremes crossup = false
of_extremes (dose k) = false
of_extremes (gaps c) = false
of_extremes (steps c) = false
of_extremes lag = false

-- the text is one such question alone; brackets are no node of it
abbrev pub one_extreme : Text → Bool
one_extreme p = of_listed of_extremes p

-- the listed question that a text is; what stands for another text is never asked
abbrev pub the_question : Text → Listed
the_question (listed q) = q
the_question (atom k) = lag
the_question (or p q) = lag
the_question (and p q) = lag
the_question (neg p) = lag
the_question (finally p) = lag
the_question (globally p) = lag
the_question (next p) = lag
the_question (until p q) = lag
the_question (weak_until p q) = lag

-- REFUSALS 16 and 17, in order
abbrev pub width_line : ℤ → Line
width_line e = line 16 (bad_band e)

abbrev pub extreme_line : Text → Line
extreme_line p = line 17 (not (one_extreme p))

-- THE BAND CALL: its refusals in the order 1 to 7, 16, 17; else the two sets
unfoldable pub band_of : List ℕ → List ℕ → ℤ → Outcome Bands
band_of bytes text e =
    judged (asking_lines bytes text ++ (width_line e ∷ extreme_line (read text) ∷ [])) (bands_of (the_question (read text)) (width_of e) (coded bytes))

-- the set that an answer of the code stands for
abbrev pub part_of : Option Run → Part
part_of None = empty
part_of (Some r) = run r.low r.high

abbrev pub sets_of : CodeBands → Bands
sets_of b = record { certain = part_of b.certain; possible = part_of b.possible }

-- the two sets, or the refusal's number and place
abbrev pub outcome_of : Result CodeBands Refusal → Outcome Bands
outcome_of (Ok b) = result (sets_of b)
outcome_of (Err x) = refused (number_of x) (place_of x)
