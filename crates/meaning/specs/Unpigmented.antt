-- Document 02, Paper 3: a text that writes neither `P` nor `dose` means what it meant before there were pigments.
use Rattle.recording.specs.Reading.{Reading}
use Rattle.grammar.specs.Syntax.{Text}
use Rattle.meaning.specs.Named.{additions, Names}

-- the reading without its pigment
abbrev pub bare : Reading → Reading
bare x = record { time = x.time; a = x.a; b = x.b; slope_a = x.slope_a; slope_b = x.slope_b; pigment = 0 }

-- the text writes neither `P` nor `dose`
abbrev pub Unpigmented : Text → Type 0
Unpigmented p = ¬ Names p additions
