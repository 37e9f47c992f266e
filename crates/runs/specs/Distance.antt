-- Document 01, "Degree and pair": the distance from a number of the axis to a set of numbers.
use Rattle.std.specs.Prelude.{ℕ, ◌+◌, ◌-◌, Bool, ◌&&◌, ◌||◌, leb, ltb}
use Rattle.number.specs.Axis.{axis}
use Rattle.number.specs.Least.{least}

-- a member lies d above or d below v, on the axis
abbrev pub member_at : (ℕ → Bool) → ℕ → ℕ → Bool
member_at f v d = (ltb (v + d) axis && f (v + d)) || (leb d v && f (v - d))

-- the least |v − w| over the members w of f; where there is none, the size of the axis, which no distance reaches
unfoldable pub distance : (ℕ → Bool) → ℕ → ℕ
distance f v = least (member_at f v) axis
