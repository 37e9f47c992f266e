-- Document 01, "The set": the axis of whole numbers, −2,000,000,000 to 2,000,000,000.
-- A number of the axis is carried as its index, 0 to 4,000,000,000, from the low end up.
use Rattle.std.specs.Prelude.{ℕ, ◌-◌, ℤ, ◌≤ℤ◌}
use Rattle.std.proofs.Math.IntN.{sub_ℕ}

-- the index of the whole number 0
abbrev pub origin : ℕ
origin = 2000000000

-- how many numbers the axis has
abbrev pub axis : ℕ
axis = 4000000001

-- the whole number at an index
abbrev pub whole : ℕ → ℤ
whole n = sub_ℕ n origin

-- the ends of the axis
abbrev pub lowest : ℤ
lowest = whole 0

abbrev pub highest : ℤ
highest = whole (axis - 1)

-- a whole number from minus to plus two thousand million
abbrev pub OfAxis : ℤ → Type 0
OfAxis z = (lowest ≤ℤ z) × (z ≤ℤ highest)
