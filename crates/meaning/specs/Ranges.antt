-- Sets of whole numbers as the documents write them: by their runs.
use Rattle.std.specs.Prelude.{ℕ, ◌⊎◌, List, [], ◌∷◌, ℤ, pos, negsuc, ◌+ℤ◌, ◌≤ℤ◌, ◌<ℤ◌}

-- a run, both ends included
pub record Run : Type 0 where
  pub low : ℤ
  pub high : ℤ

infix 80 ◌to◌
abbrev pub ◌to◌ : ℤ → ℤ → Run
l to h = record { low = l; high = h }

-- the run of one number
abbrev pub just : ℕ → Run
just n = pos n to pos n

-- the ends of the axis
abbrev pub Lo : ℤ
Lo = negsuc 1999999999

abbrev pub Hi : ℤ
Hi = pos 2000000000

-- z lies in one of the runs
abbrev pub InRuns : List Run → ℤ → Type 0
InRuns [] z = ⊥
InRuns (x ∷ l) z = ((x.low ≤ℤ z) × (z ≤ℤ x.high)) ⊎ InRuns l z

-- runs as they go out: ascending, not empty, a number missing between any two
abbrev pub Maximal : List Run → Type 0
Maximal [] = Unit {0}
Maximal (x ∷ []) = x.low ≤ℤ x.high
Maximal (x ∷ (y ∷ l)) = (x.low ≤ℤ x.high) × ((x.high +ℤ pos 1) <ℤ y.low) × Maximal (y ∷ l)
