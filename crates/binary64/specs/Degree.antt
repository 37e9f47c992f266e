-- Document 01, "Degree and pair": a distance d and its degree as floats, the satisfaction degree of a missed target.
use Rattle.std.specs.Prelude.{ℕ, ◌+◌, false, pos, Float}
use Rattle.std.specs.Float.{fin, binary64}
use Rattle.std.specs.Float.Ieee.{div, of_int}

-- 1, as a float
abbrev pub one : Float
one = fin false 1 (pos 0)

-- the distance d in binary64
abbrev pub distance_of : ℕ → Float
distance_of d = of_int binary64 (pos d)

-- one binary64 division of 1 by the sum of 1 and d
unfoldable pub degree_of : ℕ → Float
degree_of d = div binary64 one (of_int binary64 (pos (1 + d)))
