-- Document 01, refusal 12: a target on the axis and one off it.
use Rattle.std.specs.Prelude.{ℕ, ◌<◌, ◌≡◌, Bool, true, false, ◌||◌, ltb, ℤ, Option, Some, None}
use Rattle.std.specs.Int.Signed.{lt_z}
use Rattle.number.specs.Axis.{axis, whole, lowest, highest}
use Rattle.refusal.specs.Outcome.{Line, line}

-- a whole number is off the axis
abbrev pub off_axis : ℤ → Bool
off_axis z = lt_z z lowest || lt_z highest z

-- REFUSAL 12 of a call that names a curve too: a target off the axis, or a curve number that is not 0 or 1
abbrev pub bad_target : ℕ → ℤ → Line
bad_target curve z = line 12 (ltb 1 curve || off_axis z)

-- the number at the index is z; none exactly where z is off the axis
abbrev pub Placed : ℤ → Option ℕ → Type 0
Placed z (Some n) = (off_axis z ≡ false) × (n < axis) × (whole n ≡ z)
Placed z None = off_axis z ≡ true
