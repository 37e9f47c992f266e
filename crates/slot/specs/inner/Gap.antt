-- What the functions of the distance promise: the distance to one run, and the lesser of two.
use Rattle.std.specs.Prelude.{ℕ, ◌+◌, ◌-◌, min, Option, Some, None}

-- from v to the run that begins at `low` and stops before `end`
abbrev pub gap_to : ℕ → ℕ → ℕ → ℕ
gap_to low end v = (low - v) + ((v + 1) - end)

abbrev pub nearer_of : Option ℕ → ℕ → ℕ
nearer_of (Some d) g = min d g
nearer_of None g = g
