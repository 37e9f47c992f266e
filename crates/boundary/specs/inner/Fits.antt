-- What an answer must be for its places: floats that are numbers, ends that are on the axis.
use Rattle.std.specs.Prelude.{not, T}
use Rattle.std.specs.Float.Ieee.{is_nan}
use Rattle.refusal.specs.Outcome.{Outcome, result, refused}
use Rattle.degree.specs.Degree.{Value, met, short, no_value}
use Rattle.band.specs.Means.{Bands}
use Rattle.band.specs.inner.OnAxis.{BothOnAxis}

-- a distance and a degree that are given are numbers
abbrev pub NumbersIn : Outcome Value → Type 0
NumbersIn (result met) = Unit {0}
NumbersIn (result (short d k)) = T (not (is_nan d)) × T (not (is_nan k))
NumbersIn (result no_value) = Unit {0}
NumbersIn (refused n p) = Unit {0}

-- the ends of sets that are given are on the axis
abbrev pub EndsIn : Outcome Bands → Type 0
EndsIn (result b) = BothOnAxis b
EndsIn (refused n p) = Unit {0}
